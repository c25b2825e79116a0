-- What is found at a record stands there in the form of RULES A2: its records and its text are those of the value.
use Prim.Native.Nat.{ℕ, suc, zero, ◌+◌, ◌-◌, ◌*◌, ◌^◌, ◌/◌, ◌%◌, ◌≤◌, ◌<◌}
use Rattle.std.specs.Prelude.{Bool, ◌&&◌, ◌≡◌, get_or, take, T}
use Rattle.std.proofs.Math.Bool.{true, false, cond}
use mathlib.Core.List.{List, [], ◌∷◌, ◌++◌, append_assoc, append-nil}
use Rattle.std.proofs.Math.Path.{refl, sym, ap, subst}
use Rattle.std.proofs.Common.{◌∙◌, length-drop, take-append-drop, drop-drop, drop-cons, take-add, length-take-le, ltb-true, ltb-false, eqb-true}
use Rattle.std.proofs.Math.ListN.{length, length-append, drop}
use Rattle.std.proofs.Math.Dec.{ltb}
use native.Mathlib.Omega.{arith}
use Rattle.utf8.specs.Rows.{both}
use Rattle.value.specs.Value.{Label, Forest, text_of, text, count, size, depth, words, record_of, table, NoneL, BoolL, I64L, F64L, BytesL, StringL, ListL, TupleL, SetL, FrozenSetL, DictL, GlobalL, ObjectL, nil, node}
use Rattle.value.specs.Shape.{kind_in, fresh_in, label_of, fitting, shaped, and_l, and_r}
use Rattle.value.specs.Stands.{◌⊕◌, word_at, label_at, arity_at, Stands}
use Rattle.value.specs.Tabled.{table_stands}
use Rattle.value.specs.WellFormed.{proper, settled}
use Rattle.table.specs.Find.{Found, bad, good, has_record, close, join, find_many, find}
use Rattle.table.specs.Record.{right1, span_of, size_of, EachBelow, each_below, label_by, back0, back1, back2, back3, back_fits, back_size, misfit, right_known}

-- the code reads word 0 at 4 * i
pub first_word : (w : List ℕ) (i : ℕ) → get_or w (4 * i) 0 ≡ word_at w i 0
first_word w i = let e : 4 * i + 0 ≡ 4 * i = omega arith in rw e

-- the size that record i says
abbrev pub size_at : List ℕ → ℕ → ℕ
size_at w i = size_of (kind_in (word_at w i 0)) (word_at w i 2) (word_at w i 3)

-- each of the values side by side says its size
unfoldable pub Sized : List ℕ → ℕ → Forest → Type 0
Sized w i nil = Unit {0}
Sized w i (node l c r) = (size_at w i ≡ suc (size c)) × Sized w (i + 1 + size c) r

-- m values from record i of n on, their text from p on, k levels deep at most: up to record j, and e in the text
pub record ValuesPlaced (w : List ℕ) (n : ℕ) (t : List ℕ) (m k i p : ℕ) (f : Forest) (j e : ℕ) : Type 0 where
  pub counted : count f ≡ m
  pub shape : T (shaped f)
  pub settle : T (settled f)
  pub shallow : depth f ≤ k
  pub next : j ≡ i + size f
  pub within : i ≤ n → j ≤ n
  pub records : drop (4 * i) w ≡ table f p ++ drop (4 * j) w
  pub ended : e ≡ p + length (text f)
  pub inside : e ≤ length t
  pub texts : drop p t ≡ text f ++ drop e t
  pub sized : Sized w i f

not_lt : {a b : ℕ} → (a < b → ⊥) → b ≤ a
not_lt {a} {b} h = go (ltb a b) refl
  where
    go : (q : Bool) → ltb a b ≡ q → b ≤ a
    go true e = absurd (h (ltb-true a b e))
    go false e = ltb-false a b e

T_and : (a b : Bool) → T a → T b → T (a && b)
T_and true b h k = k
T_and false b h k = absurd h

regroup : (a b c d : List ℕ) → a ++ b ++ (c ++ d) ≡ a ++ (b ++ c) ++ d
regroup a b c d = simp append_assoc

-- ---- taking `has_record`, `close` and `find_many` apart

never : {A : Type 0} {f : Forest} {j e : ℕ} → bad ≡ good f j e → A
never h = let z : ◌≡◌ {A = ℕ} 0 1 = cc in absurd (omega arith)

-- the four words of record i
pub record RecordWords (w : List ℕ) (i : ℕ) (r : List ℕ) : Type 0 where
  pub w0 : word_at w i 0 ≡ get_or r 0 0
  pub w1 : word_at w i 1 ≡ get_or r 1 0
  pub w2 : word_at w i 2 ≡ get_or r 2 0
  pub w3 : word_at w i 3 ≡ get_or r 3 0

pub same-words : (w : List ℕ) (i : ℕ) (r : List ℕ) → has_record w i r ≡ true → RecordWords w i r
unfolding has_record
same-words w i r h =
    let a = both h in
    let b = both a.0 in
    let c = both a.1 in
    record {
      w0 = eqb-true (word_at w i 0) (get_or r 0 0) b.0;
      w1 = eqb-true (word_at w i 1) (get_or r 1 0) b.1;
      w2 = eqb-true (word_at w i 2) (get_or r 2 0) c.0;
      w3 = eqb-true (word_at w i 3) (get_or r 3 0) c.1;
    }

-- a label was closed: its contents, its record, what it asks of them
record Closed (w : List ℕ) (i p : ℕ) (l : Label) (m : ℕ) (s : Found) (f : Forest) (j e : ℕ) : Type 0 where
  contents : Forest
  found : s ≡ good contents j e
  right : RecordWords w i (record_of l p m (suc (size contents)))
  suits : T (proper l contents)
  is : f ≡ node l contents nil

closed : (w : List ℕ) (i p : ℕ) (l : Label) (m : ℕ) (s : Found) {f : Forest} {j e : ℕ} → close w i p l m s ≡ good f j e → Closed w i p l m s f j e
unfolding close
closed w i p l m bad h = never h
closed w i p l m (good c j₁ e₁) {f} {j} {e} h = go (has_record w i (record_of l p m (suc (size c)))) (proper l c) refl refl h
  where
    go : (a b : Bool) → has_record w i (record_of l p m (suc (size c))) ≡ a → proper l c ≡ b → cond (a && b) (good (node l c nil) j₁ e₁) bad ≡ good f j e → Closed w i p l m (good c j₁ e₁) f j e
    go true true x y q = record { contents = c; found = cc; right = same-words w i _ x; suits = rw y tt; is = cc }
    go true false x y q = never q
    go false b x y q = never q

-- a row of some: its first value, and the others
record Joined (g : ℕ → ℕ → Found) (m i p : ℕ) (f : Forest) (j e : ℕ) : Type 0 where
  first : Forest
  rest : Forest
  behind : ℕ
  end : ℕ
  found : g i p ≡ good first behind end
  others : find_many g m behind end ≡ good rest j e
  is : f ≡ first ⊕ rest

joined : (g : ℕ → ℕ → Found) (m i p : ℕ) {f : Forest} {j e : ℕ} → find_many g (suc m) i p ≡ good f j e → Joined g m i p f j e
unfolding find_many join
joined g m i p {f} {j} {e} h = go (g i p) refl h
  where
    last : (a : Forest) (b d : ℕ) (r : Found) → g i p ≡ good a b d → find_many g m b d ≡ r → join a r ≡ good f j e → Joined g m i p f j e
    last a b d bad x y q = never q
    last a b d (good r b₁ d₁) x y q = record { first = a; rest = r; behind = b; end = d; found = x; others = y ∙ (cc); is = cc }

    go : (r : Found) → g i p ≡ r → elim r [ bad ↦ bad | good a b d ↦ join a (find_many g m b d) ] ≡ good f j e → Joined g m i p f j e
    go bad x q = never q
    go (good a b d) x q = last a b d (find_many g m b d) x refl q

-- ---- a record's text and words, from where they are

-- a beginning of what is left of the text
front : (p q : ℕ) (t : List ℕ) → q ≤ length (drop p t) → drop p t ≡ take q (drop p t) ++ drop (p + length (take q (drop p t))) t
front p q t h = sym (take-append-drop q (drop p t)) ∙ ap (λ (v : List ℕ). take q (drop p t) ++ v) (drop-drop q p t ∙ ap (λ (m : ℕ). drop (p + m) t) (sym (length-take-le q (drop p t) h)))

module _ (b c p : ℕ) (t : List ℕ) where
  none : drop p t ≡ drop (p + 0) t
  none = let a : p + 0 ≡ p = omega arith in rw a

  some : b ≡ p → c ≤ length (drop b t) → drop p t ≡ take c (drop b t) ++ drop (p + length (take c (drop b t))) t
  some e h = rw e (front p c t (rw e at h))

  names : b ≡ p → c / 2 ^ 32 + c % 2 ^ 32 ≤ length (drop b t) → let u = take (c / 2 ^ 32) (drop b t) ++ take (c % 2 ^ 32) (drop (c / 2 ^ 32) (drop b t)) in drop p t ≡ u ++ drop (p + length u) t
  names e h = rw (e, ← take-add (c / 2 ^ 32) (c % 2 ^ 32) (drop p t)) (front p (c / 2 ^ 32 + c % 2 ^ 32) t (rw e at h))

  pub text_at : (a : ℕ) → kind_in a < 13 → b ≡ right1 (kind_in a) b p → span_of (kind_in a) c ≤ length (drop b t) → drop p t ≡ text_of (label_of a b c (drop b t)) ++ drop (p + length (text_of (label_of a b c (drop b t)))) t
  unfolding right1 span_of label_of EachBelow label_by
  text_at a known =
      each_below 13 (λ k. b ≡ right1 k b p → span_of k c ≤ length (drop b t) → drop p t ≡ text_of (label_by (fresh_in a) b c (drop b t) k) ++ drop (p + length (text_of (label_by (fresh_in a) b c (drop b t) k))) t)
      ((λ e h. none), ((λ e h. none), ((λ e h. none), ((λ e h. none), (some, (some, ((λ e h. none), ((λ e h. none), ((λ e h. none), ((λ e h. none), ((λ e h. none), (names, (names, tt))))))))))))) (kind_in a) known

words-three : (l : Label) (p n z : ℕ) → words l p n z ≡ get_or (words l p n z) 0 0 ∷ get_or (words l p n z) 1 0 ∷ get_or (words l p n z) 2 0 ∷ []
words-three NoneL p n z = refl
words-three (BoolL b) p n z = refl
words-three (I64L i) p n z = refl
words-three (F64L i) p n z = refl
words-three (BytesL t) p n z = refl
words-three (StringL t) p n z = refl
words-three ListL p n z = refl
words-three TupleL p n z = refl
words-three SetL p n z = refl
words-three FrozenSetL p n z = refl
words-three DictL p n z = refl
words-three (GlobalL m k) p n z = refl
words-three (ObjectL m k b) p n z = refl

four : (w : List ℕ) (i : ℕ) → 4 * i + 4 ≤ length w → drop (4 * i) w ≡ (word_at w i 0 ∷ word_at w i 1 ∷ word_at w i 2 ∷ word_at w i 3 ∷ drop (4 * (i + 1)) w)
four w i h =
    let k = 4 * i in
    let a0 : k ≡ k + 0 = omega arith in
    let a1 : suc k ≡ k + 1 = omega arith in
    let a2 : suc (k + 1) ≡ k + 2 = omega arith in
    let a3 : suc (k + 2) ≡ k + 3 = omega arith in
    let a4 : suc (k + 3) ≡ 4 * (i + 1) = omega arith in
    let b0 : drop k w ≡ get_or w (k + 0) 0 ∷ drop (k + 1) w = drop-cons w k 0 (omega arith) ∙ ap (λ (m : ℕ). get_or w k 0 ∷ drop m w) a1 ∙ ap (λ (m : ℕ). get_or w m 0 ∷ drop (k + 1) w) a0 in
    let b1 : drop (k + 1) w ≡ get_or w (k + 1) 0 ∷ drop (k + 2) w = drop-cons w (k + 1) 0 (omega arith) ∙ ap (λ (m : ℕ). get_or w (k + 1) 0 ∷ drop m w) a2 in
    let b2 : drop (k + 2) w ≡ get_or w (k + 2) 0 ∷ drop (k + 3) w = drop-cons w (k + 2) 0 (omega arith) ∙ ap (λ (m : ℕ). get_or w (k + 2) 0 ∷ drop m w) a3 in
    let b3 : drop (k + 3) w ≡ get_or w (k + 3) 0 ∷ drop (4 * (i + 1)) w = drop-cons w (k + 3) 0 (omega arith) ∙ ap (λ (m : ℕ). get_or w (k + 3) 0 ∷ drop m w) a4 in
    b0 ∙ ap (λ (v : List ℕ). get_or w (k + 0) 0 ∷ v) (b1 ∙ ap (λ (v : List ℕ). get_or w (k + 1) 0 ∷ v) (b2 ∙ ap (λ (v : List ℕ). get_or w (k + 2) 0 ∷ v) b3))

record_at : (w : List ℕ) (i : ℕ) (l : Label) (p n z : ℕ) → 4 * i + 4 ≤ length w → RecordWords w i (record_of l p n z) → drop (4 * i) w ≡ record_of l p n z ++ drop (4 * (i + 1)) w
record_at w i l p n z h r = four w i h ∙ rw (words-three l p n z, r.w0, r.w1, r.w2, r.w3)

module _ (w t : List ℕ) (i p z : ℕ) where
  -- what a right record gives: a known kind, a text that fits, and where it is
  pub record RightRecord : Type 0 where
    pub known : kind_in (word_at w i 0) < 13
    pub fit : span_of (kind_in (word_at w i 0)) (word_at w i 2) ≤ length (drop (word_at w i 1) t)
    pub fits : T (fitting (label_at w t i) (arity_at w i))
    pub texts : drop p t ≡ text_of (label_at w t i) ++ drop (p + length (text_of (label_at w t i))) t
    pub inside : p ≤ length t → p + length (text_of (label_at w t i)) ≤ length t
    pub size : (arity_at w i ≡ 0 → z ≡ 1) → size_at w i ≡ z

  pub own : RecordWords w i (record_of (label_at w t i) p (arity_at w i) z) → RightRecord
  unfolding label_at arity_at
  own r =
      let a = word_at w i 0 in
      let b = word_at w i 1 in
      let c = word_at w i 2 in
      let d = word_at w i 3 in
      let x = drop b t in
      let known : kind_in a < 13 = right_known a (r.w0 ∙ back0 a b c x) in
      let fit : span_of (kind_in a) c ≤ length x = not_lt (λ h. misfit a b c p z x known h (sym r.w2)) in
      let placed : b ≡ right1 (kind_in a) b p = r.w1 ∙ back1 a b c p z x known in
      let texts = text_at b c p t a known placed fit in
      let left : length t - p ≡ length (text_of (label_of a b c x)) + length (drop (p + length (text_of (label_of a b c x))) t) = sym (length-drop p t) ∙ ap length texts ∙ length-append (text_of (label_of a b c x)) _ in
      record {
        known = known;
        fit = fit;
        fits = back_fits a b c p z x known;
        texts = texts;
        inside = λ h. omega arith;
        size = back_size a b c p z x known (r.w2 ∙ back2 a b c p z x known fit) d (r.w3 ∙ back3 a b c p z x known);
      }

pub leaf-size : (c : Forest) (m : ℕ) → count c ≡ m → m ≡ 0 → suc (size c) ≡ 1
unfolding count size
leaf-size nil m e h = refl
leaf-size (node l c r) m e h = absurd (omega arith)

module _ (w : List ℕ) (n : ℕ) (t : List ℕ) (room : 4 * n ≤ length w) where
  -- a label with its contents
  node_placed : (k i p : ℕ) (c : Forest) (j e : ℕ) → i < n → p ≤ length t → RecordWords w i (record_of (label_at w t i) p (arity_at w i) (suc (size c))) → T (proper (label_at w t i) c)
      → ValuesPlaced w n t (arity_at w i) k (i + 1) (p + length (text_of (label_at w t i))) c j e → ValuesPlaced w n t 1 (suc k) i p (node (label_at w t i) c nil) j e
  unfolding count shaped settled depth size table text Sized
  node_placed k i p c j e lt b r suits q =
      let l = label_at w t i in
      let o = own w t i p (suc (size c)) r in
      let u = p + length (text_of l) in
      record {
        counted = refl;
        shape = rw q.counted (T_and (fitting l (arity_at w i)) (shaped c && true) o.fits (T_and (shaped c) true q.shape tt));
        settle = T_and (proper l c) (settled c && true) suits (T_and (settled c) true q.settle tt);
        shallow = let h = q.shallow in omega arith;
        next = let h = q.next in omega arith;
        within = λ h. q.within (omega arith);
        records = record_at w i l p (arity_at w i) (suc (size c)) (omega arith) r ∙ rw (q.counted, append-nil (table c u), append_assoc (words l p (arity_at w i) (suc (size c)))) (ap (λ (v : List ℕ). record_of l p (arity_at w i) (suc (size c)) ++ v) q.records);
        ended = let h = q.ended in rw (length-append, append-nil) (omega arith);
        inside = q.inside;
        texts = o.texts ∙ ap (λ (v : List ℕ). text_of l ++ v) q.texts ∙ rw (append-nil (text c)) (sym (append_assoc (text_of l) (text c) _));
        sized = (o.size (leaf-size c (arity_at w i) q.counted), tt);
      }

  -- a value, and then the rest
  rest-placed : (m k i p : ℕ) (l : Label) (c r : Forest) (j e h u : ℕ) → ValuesPlaced w n t 1 k i p (node l c nil) j e → ValuesPlaced w n t m k j e r h u → ValuesPlaced w n t (suc m) k i p (node l c r) h u
  unfolding count shaped settled depth size table text Sized
  rest-placed m k i p l c r j e h u a b =
      let q = p + length (text_of l) in
      let aj : j ≡ i + 1 + size c = a.next ∙ omega arith in
      let ae : e ≡ q + length (text c) = a.ended ∙ rw (append-nil (text c), length-append (text_of l) (text c)) (omega arith) in
      let fits = and_l (fitting l (count c)) _ a.shape in
      let inner = and_l (shaped c) _ (and_r (fitting l (count c)) _ a.shape) in
      let suits = and_l (proper l c) _ a.settle in
      let held = and_l (settled c) _ (and_r (proper l c) _ a.settle) in
      record {
        counted = ap suc b.counted;
        shape = T_and (fitting l (count c)) (shaped c && shaped r) fits (T_and (shaped c) (shaped r) inner b.shape);
        settle = T_and (proper l c) (settled c && settled r) suits (T_and (settled c) (settled r) held b.settle);
        shallow = let x = a.shallow in let y = b.shallow in omega arith;
        next = b.next ∙ rw aj (omega arith);
        within = λ x. b.within (a.within x);
        records = a.records ∙ rw (append-nil (table c q)) (ap (λ (v : List ℕ). record_of l p (count c) (suc (size c)) ++ table c q ++ v) b.records ∙ rw ae (regroup (record_of l p (count c) (suc (size c))) (table c q) (table r (q + length (text c))) (drop (4 * h) w)));
        ended = b.ended ∙ rw (ae, length-append (text_of l) _, length-append (text c) (text r)) (omega arith);
        inside = b.inside;
        texts = a.texts ∙ rw (append-nil (text c)) (ap (λ (v : List ℕ). text_of l ++ text c ++ v) b.texts ∙ regroup (text_of l) (text c) (text r) (drop u t));
        sized = (a.sized.0, subst (λ (x : ℕ). Sized w x r) aj b.sized);
      }

  -- what is found k levels deep is placed
  abbrev Finds : ℕ → Type 0
  Finds k = (i p : ℕ) (f : Forest) (j e : ℕ) → p ≤ length t → find w n t k i p ≡ good f j e → ValuesPlaced w n t 1 k i p f j e

  nothing_placed : (k i p : ℕ) → p ≤ length t → ValuesPlaced w n t 0 k i p nil i p
  unfolding count shaped settled depth size table text Sized
  nothing_placed k i p b = record { counted = refl; shape = tt; settle = tt; shallow = omega arith; next = omega arith; within = λ h. h; records = refl; ended = omega arith; inside = b; texts = refl; sized = tt }

  -- a single value at the front of others
  more_placed : (m k i p : ℕ) (f r : Forest) {j e h u : ℕ} → ValuesPlaced w n t 1 k i p f j e → ValuesPlaced w n t m k j e r h u → ValuesPlaced w n t (suc m) k i p (f ⊕ r) h u
  unfolding ◌⊕◌ count
  more_placed m k i p nil r a b = let h = a.counted in absurd (omega arith)
  more_placed m k i p (node l c nil) r a b = rest-placed m k i p l c r _ _ _ _ a b
  more_placed m k i p (node l c (node l₁ c₁ r₁)) r a b = let h = a.counted in absurd (omega arith)

  row_placed : (k : ℕ) → Finds k → (m i p : ℕ) {f : Forest} {j e : ℕ} → p ≤ length t → find_many (find w n t k) m i p ≡ good f j e → ValuesPlaced w n t m k i p f j e
  unfolding find_many
  row_placed k g zero i p {f} {j} {e} b h =
      let a = nothing_placed k i p b in
      let x : f ≡ nil = cc in
      let y : j ≡ i = cc in
      let z : e ≡ p = cc in
      rw (x, y, z) a
  row_placed k g (suc m) i p b h =
      let q = joined (find w n t k) m i p h in
      let a = g i p q.first q.behind q.end b q.found in
      let r = row_placed k g m q.behind q.end a.inside q.others in
      rw q.is (more_placed m k i p q.first q.rest a r)

  -- where the contents are placed, so is the value
  find_level : (k i p : ℕ) (f : Forest) (j e : ℕ) → Finds k → p ≤ length t → find w n t (suc k) i p ≡ good f j e → ValuesPlaced w n t 1 (suc k) i p f j e
  unfolding find
  find_level k i p f j e g b h = go (ltb i n) refl h
    where
      go : (q : Bool) → ltb i n ≡ q → cond q (close w i p (label_at w t i) (arity_at w i) (find_many (find w n t k) (arity_at w i) (i + 1) (p + length (text_of (label_at w t i))))) bad ≡ good f j e → ValuesPlaced w n t 1 (suc k) i p f j e
      go false x y = never y
      go true x y =
          let q = closed w i p (label_at w t i) (arity_at w i) _ y in
          let o = own w t i p (suc (size q.contents)) q.right in
          let c = row_placed k g (arity_at w i) (i + 1) (p + length (text_of (label_at w t i))) (o.inside b) q.found in
          rw q.is (node_placed k i p q.contents j e (ltb-true i n x) b q.right q.suits c)

  pub find-placed : (k : ℕ) → Finds k
  unfolding find
  find-placed zero i p f j e b h = never h
  find-placed (suc k) i p f j e b h = find_level k i p f j e (find-placed k) b h

  pub contents-placed : (k m i p : ℕ) {f : Forest} {j e : ℕ} → p ≤ length t → find_many (find w n t k) m i p ≡ good f j e → ValuesPlaced w n t m k i p f j e
  contents-placed k m i p b h = row_placed k (find-placed k) m i p b h

-- a forest that is placed stands there
pub placed_stands : (w : List ℕ) (n : ℕ) (t : List ℕ) (m k i p : ℕ) (f : Forest) (j e : ℕ) → p ≤ length t → ValuesPlaced w n t m k i p f j e → Stands w t i f
placed_stands w n t m k i p f j e b q = table_stands w t f p i _ _ q.shape q.records q.texts b
