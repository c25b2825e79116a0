-- RULES, Ask 3.2 to 3.4, on the score call: when it answers what, that flipping by hand changes nothing, that a marked sheet's reversed
-- items do not matter, and how large a score can be.
use Prim.Native.Nat.{Ordering}
use Prim.Native.Nat.{ℕ, ◌+◌, ◌*◌, ◌^◌, ◌≤◌, ◌<◌, compare}
use Rattle.std.specs.Prelude.{Bool, true, false, cond, ◌&&◌, List, ◌⊎◌, ◌≡◌, refl, take, T, eqb, ltb, leb}
use Rattle.std.proofs.Common.{inl, inr, sym, ◌∙◌, ap₂, lt-ltb, ltb-true, ltb-false, leb-true, eqb-true, arith}
use Rattle.std.proofs.Math.Path.{ap}
use Rattle.refusal.specs.Numbers.{number_of}
use Rattle.refusal.specs.declared.Which.TheVariants.{First}
use Rattle.refusal.specs.declared.Refusal.TheVariants.{BadTable}
use Rattle.utf8.specs.Rows.{both}
use Rattle.value.specs.Value.{Label, Forest, Value, one, half, kind, count, text, table, I64L, nil, node}
use Rattle.value.specs.Shape.{fitting, shaped, and_l, and_r}
use Rattle.value.specs.Tabled.{table_one}
use Rattle.value.specs.Order.{lex, labels, forests, order}
use Rattle.value.specs.Told.{compare_more}
use Rattle.value.specs.Walk.{compare_same, eq_then, then_end}
use Rattle.value.specs.WellFormed.{WellFormed, less, ascending, ascending-rest, keys}
use Rattle.table.specs.Compare.{decided}
use Rattle.scorer.specs.Sheet.{bits, between, holds_int, answers_key, answers, highest_answer, in_range, is_sheet, Sheet, answers_sum, marked, score_of, items_of, reverse}
use Rattle.scorer.specs.Call.{sheet_shape, unscored, scored_of, tally_of, Scores}
use Rattle.scorer.specs.Walk.{less_lt, int_label_lem, int_leaf}
use Rattle.scorer.specs.Steps.{counted_most}
use Rattle.scorer.specs.Root.{dict_ascends, own_order, inner-order, inner_shape, under-settled, under-shaped}
use Rattle.scorer.specs.Flip.{sheet_holds, is_true, flip, flip-sheet, flip-marked, flip-items, flip_score, flip_formed, flip-value}
use Rattle.scorer.specs.declared.Scored.{Scored}
use Rattle.std.specs.declared.option.Option.{Option}
use Rattle.std.specs.declared.option.Option.TheVariants.{None, Some}

-- ---- what the call answers of a well-formed table

abbrev pub scored : ℕ → ℕ → Scored
scored s n = record { number = 0; detail = 0; score = s; items = n }

tally_sheet : (v : Value) → Sheet v → tally_of v ≡ Some (score_of v, items_of v)
unfolding tally_of
tally_sheet v h = rw (is_true (is_sheet v) h)

tally_none : (v : Value) → (Sheet v → ⊥) → tally_of v ≡ None
unfolding tally_of
tally_none v h = go (is_sheet v) h
  where
    go : (b : Bool) → (T b → ⊥) → cond {A = Option (ℕ × ℕ)} b (Some (score_of v, items_of v)) None ≡ None
    go true h = absurd (h tt)
    go false h = refl

module _ {w : List ℕ} {n : ℕ} {t : List ℕ} {r : Scored} (c : Scores w n t r) (f : WellFormed w n t) where
  -- a sheet gets its score
  pub sheet-scored : Sheet f.value → r ≡ scored (score_of f.value) (items_of f.value)
  unfolding scored_of
  sheet-scored h = c.good f ∙ ap scored_of (tally_sheet f.value h)

  -- anything else 24
  pub no_sheet : (Sheet f.value → ⊥) → r ≡ unscored sheet_shape
  unfolding scored_of
  no_sheet h = c.good f ∙ ap scored_of (tally_none f.value h)

-- ---- flipping

-- where the mark is false, the value with the reversed answers flipped and the mark set is a sheet, its mark is set, its table is well
-- formed and that value's, and the call answers the same of it, by this table and by every other
pub record Flipped {w : List ℕ} {n : ℕ} {t : List ℕ} (f : WellFormed w n t) (r : Scored) : Type 0 where
  pub sheet : Sheet (flip f.value)
  pub mark : marked (flip f.value) ≡ true
  pub formed : WellFormed (table (one (flip f.value)) 0) n (text (one (flip f.value)))
  pub value : formed.value ≡ flip f.value
  pub same : {u : List ℕ} {m : ℕ} {s : List ℕ} {q : Scored} (g : WellFormed u m s) → g.value ≡ flip f.value → Scores u m s q → r ≡ q

pub flipped_by_hand : {w : List ℕ} {n : ℕ} {t : List ℕ} {r : Scored} (f : WellFormed w n t) → Scores w n t r → Sheet f.value → marked f.value ≡ false → Flipped f r
flipped_by_hand f c h e =
    let v = f.value in
    let s : Sheet (flip v) = rw (flip-sheet v h) tt in
    record {
      sheet = s;
      mark = flip-marked v h;
      formed = flip_formed v h f refl;
      value = flip-value v h f refl;
      same = λ g k d. sheet-scored c f h ∙ sym (ap₂ scored (flip_score v h e) (flip-items v h)) ∙ sym (sheet-scored d g (rw k s) ∙ ap (λ (x : Value). scored (score_of x) (items_of x)) k);
    }

-- ---- a marked sheet

sum-marked : (m n : ℕ) (g h f : Forest) → answers_sum m true g f ≡ answers_sum n true h f
unfolding answers_sum
sum-marked m n g h nil = refl
sum-marked m n g h (node l c nil) = refl
sum-marked m n g h (node l c (node a d r)) = ap (λ (x : ℕ). bits a + x) (sum-marked m n g h r)

-- the same answers, whatever is reversed: the same answer of the call
pub marked-reverse : {w : List ℕ} {n : ℕ} {t : List ℕ} {r : Scored} {u : List ℕ} {m : ℕ} {s : List ℕ} {q : Scored} (f : WellFormed w n t) (g : WellFormed u m s) → Scores w n t r → Scores u m s q → Sheet f.value → Sheet g.value → marked f.value ≡ true → marked g.value ≡ true → answers f.value ≡ answers g.value → r ≡ q
unfolding score_of items_of
marked-reverse f g c d h k x y e =
    let v = f.value in
    let z = g.value in
    let s : score_of v ≡ score_of z = rw (x, y, e) (sum-marked (bits (highest_answer v).label) (bits (highest_answer z).label) (reverse v).contents (reverse z).contents (answers z).contents) in
    let n : items_of v ≡ items_of z = rw e in
    sheet-scored c f h ∙ ap₂ scored s n ∙ sym (sheet-scored d g k)

-- ---- how large

-- small integers stand in the order of their numbers
ints_order : (a b : ℕ) → a < 2 ^ 63 → b < 2 ^ 63 → order (record { label = I64L a; contents = nil }) (record { label = I64L b; contents = nil }) ≡ compare a b
unfolding order labels forests lex
ints_order a b x y = rw (lt-ltb a (2 ^ 63) x, lt-ltb b (2 ^ 63) y) (simp (compare_same, eq_then, then_end))

ints_ascend : (a b : ℕ) → a < 2 ^ 63 → b < 2 ^ 63 → order (record { label = I64L a; contents = nil }) (record { label = I64L b; contents = nil }) ≡ Ordering.lt → a < b
ints_ascend a b x y e = go (ltb a b) refl (sym (ints_order a b x y) ∙ e)
  where
    go : (p : Bool) → ltb a b ≡ p → compare a b ≡ Ordering.lt → a < b
    go true i q = ltb-true a b i
    go false i q = other (ltb b a) refl q
      where
        other : (p : Bool) → ltb b a ≡ p → compare a b ≡ Ordering.lt → a < b
        other true j q = let z = compare_more a b (ltb-true b a j) in let o : ◌≡◌ {A = ℕ} 0 1 = cc in absurd (omega arith)
        other false j q = let k = ltb-false a b i in let l = ltb-false b a j in let s : a ≡ b = omega arith in let z : compare a b ≡ Ordering.eq = rw s (compare_same b) in let o : ◌≡◌ {A = ℕ} 0 1 = cc in absurd (omega arith)

-- the first item number, above all of them where there is none
first_item : Forest → ℕ
first_item nil = 201
first_item (node l c r) = bits l

in_range_lem : (a b : ℕ) (l : Label) → between a b l ≡ true → (kind l ≡ 2) × (bits l ≤ b)
unfolding between
in_range_lem a b l e =
    let p = both {a = eqb (kind l) 2} e in
    let q = both {a = leb a (bits l)} p.1 in
    (eqb-true (kind l) 2 p.0, leb-true (bits l) b q.1)

items_ascend : (l k : Label) (c d : Forest) → kind l ≡ 2 → kind k ≡ 2 → bits l ≤ 200 → bits k ≤ 200 → T (fitting l (count c)) → T (fitting k (count d)) → T (less (order (record { label = l; contents = c }) (record { label = k; contents = d }))) → bits l < bits k
items_ascend l k c d x y p q f g h =
    let value : Label → Forest → Value = λ l c. record { label = l; contents = c } in
    let a : value l c ≡ value (I64L (bits l)) nil = ap₂ value (int_label_lem l x) (int_leaf l c x f) in
    let b : value k d ≡ value (I64L (bits k)) nil = ap₂ value (int_label_lem k y) (int_leaf k d y g) in
    ints_ascend (bits l) (bits k) (omega arith) (omega arith) (sym (ap₂ order a b) ∙ less_lt (order (value l c) (value k d)) h)

next_item : (m : ℕ) (l : Label) (c g : Forest) → kind l ≡ 2 → bits l ≤ 200 → T (fitting l (count c)) → T (shaped g) → T (ascending (node l c (keys g))) → in_range m g ≡ true → bits l < first_item g
unfolding first_item in_range keys ascending shaped
next_item m l c nil x p f s h e = omega arith
next_item m l c (node k d nil) x p f s h e = let z : ◌≡◌ {A = ℕ} 0 1 = cc in absurd (omega arith)
next_item m l c (node k d (node a b r)) x p f s h e =
    let q = in_range_lem 1 200 k (both {a = between 1 200 k} e).0 in
    items_ascend l k c d x q.0 p q.1 f (and_l (fitting k (count d)) (shaped d && shaped (node a b r)) s) (and_l (less (order (record { label = l; contents = c }) (record { label = k; contents = d }))) (ascending (node k d (keys r))) h)

few_items : (m : ℕ) (f : Forest) → T (shaped f) → T (ascending (keys f)) → in_range m f ≡ true → half (count f) + first_item f ≤ 201
unfolding first_item in_range keys count shaped
few_items m nil s h e = omega arith
few_items m (node l c nil) s h e = let z : ◌≡◌ {A = ℕ} 0 1 = cc in absurd (omega arith)
few_items m (node l c (node a d g)) s h e =
    let p = both {a = between 1 200 l} e in
    let q = both {a = between 0 m a} p.1 in
    let i = in_range_lem 1 200 l p.0 in
    let fits = and_l (fitting l (count c)) (shaped c && (fitting a (count d) && (shaped d && shaped g))) s in
    let after = and_r (shaped c) (fitting a (count d) && (shaped d && shaped g)) (and_r (fitting l (count c)) (shaped c && (fitting a (count d) && (shaped d && shaped g))) s) in
    let rest = and_r (shaped d) (shaped g) (and_r (fitting a (count d)) (shaped d && shaped g) after) in
    let n = few_items m g rest (ascending-rest l c (keys g) h) q.1 in
    let next = next_item m l c g i.0 i.1 fits rest h q.1 in
    omega arith

-- item numbers start at 1
first_one : (m : ℕ) (f : Forest) → in_range m f ≡ true → 1 ≤ first_item f
unfolding first_item in_range between
first_one m nil e = omega arith
first_one m (node l c nil) e = let z : ◌≡◌ {A = ℕ} 0 1 = cc in absurd (omega arith)
first_one m (node l c (node a d r)) e =
    let p = (both {a = eqb (kind l) 2 && (leb 1 (bits l) && leb (bits l) 200)} e).0 in
    leb-true 1 (bits l) (both {a = leb 1 (bits l)} (both {a = eqb (kind l) 2} p).1).0

small-sum : (m : ℕ) (mark : Bool) (g f : Forest) → m ≤ 100 → in_range m f ≡ true → answers_sum m mark g f ≤ 100 * half (count f)
unfolding answers_sum in_range count
small-sum m mark g nil h e = omega arith
small-sum m mark g (node l c nil) h e = omega arith
small-sum m mark g (node l c (node a d r)) h e =
    let p = both {a = between 1 200 l} e in
    let q = both {a = between 0 m a} p.1 in
    let i = in_range_lem 0 m a q.0 in
    let most = counted_most m mark (holds_int l g) (bits a) i.1 in
    let rest = small-sum m mark g r h q.1 in
    omega arith

sheet-small : {w : List ℕ} {n : ℕ} {t : List ℕ} (f : WellFormed w n t) → Sheet f.value → (score_of f.value ≤ 20000) × (items_of f.value ≤ 200)
unfolding score_of items_of
sheet-small f h =
    let v = f.value in
    let s = sheet_holds v h in
    let up = dict_ascends (answers v).label (answers v).contents s.answers-dict (own_order (answers v) (under-settled answers_key v.contents (inner-order v f.settle))) in
    let n : half (count (answers v).contents) + first_item (answers v).contents ≤ 201 = few_items (bits (highest_answer v).label) (answers v).contents (under-shaped answers_key v.contents (inner_shape v f.shape)) up s.range in
    let one_more = first_one (bits (highest_answer v).label) (answers v).contents s.range in
    let total = small-sum (bits (highest_answer v).label) (marked v) (reverse v).contents (answers v).contents (in_range_lem 1 100 (highest_answer v).label s.max_range).1 s.range in
    (omega arith, omega arith)

-- at most 20,000, of at most 200 items: also of a refusal, and so no sum wraps
pub bounded : {w : List ℕ} {n : ℕ} {t : List ℕ} {r : Scored} → Scores w n t r → (r.score ≤ 20000) × (r.items ≤ 200)
bounded {w} {n} {t} {r} c = go (decided w n t)
  where
    none : (why : ℕ × ℕ) → r ≡ unscored why → (r.score ≤ 20000) × (r.items ≤ 200)
    none why e = let s : r.score ≡ 0 = ap (λ (x : Scored). x.score) e in let i : r.items ≡ 0 = ap (λ (x : Scored). x.items) e in (omega arith, omega arith)

    of : (f : WellFormed w n t) (b : Bool) → is_sheet f.value ≡ b → (r.score ≤ 20000) × (r.items ≤ 200)
    of f true e =
        let h : Sheet f.value = rw e tt in
        let q = sheet-scored c f h in
        let l = sheet-small f h in
        let s : r.score ≡ score_of f.value = ap (λ (x : Scored). x.score) q in
        let i : r.items ≡ items_of f.value = ap (λ (x : Scored). x.items) q in
        (omega arith, omega arith)
    of f false e = none sheet_shape (no_sheet c f (λ h. rw e at h))

    go : WellFormed w n t ⊎ (WellFormed w n t → ⊥) → (r.score ≤ 20000) × (r.items ≤ 200)
    go (inl f) = of f (is_sheet f.value) refl
    go (inr h) = none (number_of (BadTable First)) (c.bad h)

-- ---- what stands behind the records

-- a value is its label and its contents
pub one_value : (v w : Value) → one v ≡ one w → v ≡ w
one_value v w e =
    let l : v.label ≡ w.label = cc in
    let c : v.contents ≡ w.contents = cc in
    ap₂ (λ (x : Label) (y : Forest). let z : Value = record { label = x; contents = y } in z) l c

-- tables of the same records and text: the same answer, whatever stands behind the records
pub words-behind : {w u : List ℕ} {n m : ℕ} {t s : List ℕ} {r q : Scored} → WellFormed w n t → WellFormed u m s → take (4 * n) w ≡ take (4 * m) u → t ≡ s → Scores w n t r → Scores u m s q → r ≡ q
unfolding count
words-behind f g e k c d =
    let v = table_one (one f.value) (one g.value) f.shape g.shape refl (sym f.records ∙ e ∙ g.records) (sym f.texts ∙ k ∙ g.texts) in
    c.good f ∙ ap (λ (x : Value). scored_of (tally_of x)) (one_value f.value g.value v) ∙ sym (d.good g)
