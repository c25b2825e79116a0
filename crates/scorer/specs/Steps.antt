-- What the code reads of a record, and the steps of its two loops: from key to key of a Dict, and from answer to answer.
use Rattle.std.specs.Prelude.{ℕ, ◌+◌, ◌-◌, ◌*◌, ◌≤◌, ◌<◌, Bool, ◌&&◌, List, ◌≡◌, refl, length, get_or, take, drop, ltb, leb}
use Rattle.std.proofs.Math.Bool.{true, false}
use Rattle.std.proofs.Math.Path.{sym, ap, subst}
use Rattle.std.proofs.Common.{◌∙◌, add-zero}
use Rattle.std.proofs.Math.Dec.{eqb, compare_is_eq}
use borrow.Author.Tests.{eqb-true, eq-eqb, ne_eqb, lt-ltb, leb-true, ltb-true}
use native.Mathlib.Omega.{arith}
use Rattle.utf8.specs.Rows.{both}
use Rattle.value.specs.Value.{Label, Forest, Value, one, bit, kind, count, size, nil, node}
use Rattle.value.specs.Shape.{kind_in, head_of, label_of}
use Rattle.value.specs.Stands.{word_at, label_at, Reads, Says}
use Rattle.value.specs.Left.{kind_at}
use Rattle.value.specs.Labels.{text_inside}
use Rattle.value.specs.declared.Head.{Head}
use Rattle.value.specs.Order.{lex, ◌then◌}
use Prim.Native.Nat.{compare, Ordering}
use lib.Pointwise.{pointwise}
use mathlib.Core.List.{[], ◌∷◌}
use Rattle.value.specs.WellFormed.{WellFormed}
use Rattle.table.specs.Sound.{size_at}
use Rattle.scorer.specs.Sheet.{bits, between, same_int, is_key, under, counted}
use Rattle.scorer.specs.Walk.{same_parts, is_first, past_if, tally_walk, int_leaf}
use Rattle.scorer.specs.Place.{Lies, FirstAndRest, parts}
use Rattle.std.specs.declared.option.Option.{Option}
use Rattle.std.specs.declared.option.Option.TheVariants.{None, Some}
use Rattle.std.specs.Bool.{then_some}

-- ---- a record's words and its label

module _ {w t : List ℕ} {i : ℕ} {l : Label} {n : ℕ} (q : Says w t i l n) where
  pub kind-says : kind_in (word_at w i 0) ≡ kind l
  kind-says = sym (kind_at w t i q.reads) ∙ ap kind q.label

  pub bits-says : kind l ≡ 2 → word_at w i 1 ≡ bits l
  unfolding label_at label_of
  bits-says k =
      let e : kind_in (word_at w i 0) ≡ 2 = kind-says ∙ k in
      let b : bits (label_at w t i) ≡ word_at w i 1 = rw e in
      sym b ∙ ap bits q.label

  pub mark-says : kind l ≡ 1 → eqb (word_at w i 1) 1 ≡ eqb (bits l) 1
  unfolding label_at label_of
  mark-says k =
      let e : kind_in (word_at w i 0) ≡ 1 = kind-says ∙ k in
      let b : bits (label_at w t i) ≡ bit (eqb (word_at w i 1) 1) = rw e in
      go (eqb (word_at w i 1) 1) (sym b ∙ ap bits q.label)
    where
      go : (b : Bool) → bit b ≡ bits l → b ≡ eqb (bits l) 1
      go true e = rw (← e)
      go false e = rw (← e)

-- record i is an I64 from a to b
unfoldable pub between_at : List ℕ → ℕ → ℕ → ℕ → Bool
between_at w i a b = eqb (kind_in (word_at w i 0)) 2 && (leb a (word_at w i 1) && leb (word_at w i 1) b)

pub between-says : {w t : List ℕ} {i : ℕ} {l : Label} {n : ℕ} (a b : ℕ) → Says w t i l n → between_at w i a b ≡ between a b l
unfolding between_at between
between-says {w} {t} {i} {l} {n} a b q = rw (kind-says q) (go (eqb (kind l) 2) refl)
  where
    go : (x : Bool) → eqb (kind l) 2 ≡ x → (x && (leb a (word_at w i 1) && leb (word_at w i 1) b)) ≡ (x && (leb a (bits l) && leb (bits l) b))
    go true e = rw (bits-says q (eqb-true (kind l) 2 e))
    go false e = refl

-- some items are left, and the next one, at record j, is this one
unfoldable pub hit_at : List ℕ → ℕ → ℕ → ℕ → Bool
hit_at w j left item = ltb 0 left && (eqb (kind_in (word_at w j 0)) 2 && eqb item (word_at w j 1))

-- ---- from key to key

-- a well-formed table, of whatever count
pub record Tabled (w t : List ℕ) : Type 0 where
  pub count : ℕ
  pub formed : WellFormed w count t

-- m values lie from record i on
pub record Lain (w t : List ℕ) (i m : ℕ) : Type 0 where
  pub values : Forest
  pub lies : Lies w t i values
  pub counted : count values ≡ m

-- what was sought, a value of kind k, is at record r
pub record Found (w t : List ℕ) (v : Value) (k r : ℕ) : Type 0 where
  pub there : Lies w t r (one v)
  pub right : kind v.label ≡ k

-- whether it was found
abbrev pub Sought : List ℕ → List ℕ → Value → ℕ → Option ℕ → Type 0
Sought w t v k None = eqb (kind v.label) k ≡ false
Sought w t v k (Some r) = Found w t v k r

-- whatever n values lie from record 1 on: what is under the key in them is sought, of kind d
abbrev pub Seeks : List ℕ → List ℕ → ℕ → List ℕ → ℕ → Option ℕ → Type 0
Seeks w t n k d r = (f : Forest) → Lies w t 1 f → count f ≡ n → Sought w t (under k f) d r

-- so many entries are left from record i on, and what is sought, v, is under the key in them
pub record Seeking (w t : List ℕ) (k : List ℕ) (i left : ℕ) (v : Value) : Type 0 where
  pub rest : Forest
  pub lies : Lies w t i rest
  pub counted : count rest ≡ left + left
  pub same : v ≡ under k rest

-- the next of them
pub record KeyStep (w t : List ℕ) (k : List ℕ) (i left : ℕ) (v : Value) : Type 0 where
  pub key : Label
  pub found : Value
  pub reads : Reads w t i
  pub label : label_at w t i ≡ key
  pub further : 0 < size_at w i
  pub ends : i + size_at w i ≤ length w
  pub inside : 4 * (i + size_at w i) + 4 ≤ length w
  pub value_ends : i + size_at w i + size_at w (i + size_at w i) ≤ length w
  pub value_lies : Lies w t (i + size_at w i) (one found)
  pub value-kind : kind_in (word_at w (i + size_at w i) 0) ≡ kind found.label
  pub yes : is_key k key ≡ true → v ≡ found
  pub no : is_key k key ≡ false → Seeking w t k (i + size_at w i + size_at w (i + size_at w i)) (left - 1) v

module _ {w t : List ℕ} {k : List ℕ} {i left : ℕ} {v : Value} where
  entry_of : (l m : Label) (c d r : Forest) → Lies w t i (node l c (node m d r)) → count r ≡ left - 1 + (left - 1) → v ≡ under k (node l c (node m d r)) → KeyStep w t k i left v
  unfolding under
  entry_of l m c d r h n e =
      let p = parts h in
      let z = p.sized in
      let here : i + 1 + size c ≡ i + size_at w i = omega arith in
      let p₂ : FirstAndRest w t (i + size_at w i) m d r = parts (subst (λ (x : ℕ). Lies w t x (node m d r)) here p.rest) in
      let z₂ = p₂.sized in
      let behind : i + size_at w i + 1 + size d ≡ i + size_at w i + size_at w (i + size_at w i) = omega arith in
      let in₂ = p₂.says.reads.inside in
      let end₂ = p₂.ends in
      record {
        key = l;
        found = record { label = m; contents = d };
        reads = p.says.reads;
        label = p.says.label;
        further = omega arith;
        ends = omega arith;
        inside = in₂;
        value_ends = omega arith;
        value_lies = p₂.alone;
        value-kind = kind-says p₂.says;
        yes = λ q. e ∙ rw q;
        no = λ q. record { rest = r; lies = subst (λ (x : ℕ). Lies w t x r) behind p₂.rest; counted = n; same = e ∙ rw q };
      }

  pub entry : Seeking w t k i left v → 0 < left → KeyStep w t k i left v
  unfolding count
  entry s h = go s.rest s.lies s.counted s.same
    where
      go : (f : Forest) → Lies w t i f → count f ≡ left + left → v ≡ under k f → KeyStep w t k i left v
      go nil a b e = absurd (omega arith)
      go (node l c nil) a b e = absurd (omega arith)
      go (node l c (node m d r)) a b e = entry_of l m c d r a (omega arith) e

  -- no entry is left
  pub seek_none : Seeking w t k i left v → left ≡ 0 → kind v.label ≡ 0
  unfolding count under
  seek_none s h = go s.rest s.counted s.same
    where
      go : (f : Forest) → count f ≡ left + left → v ≡ under k f → kind v.label ≡ 0
      go nil b e = rw e
      go (node l c r) b e = absurd (omega arith)

-- ---- from answer to answer

-- so many answers are left from record i on, and so many reversed items from record j on; with the score so far they decide
pub record TallySoFar (w t : List ℕ) (m : ℕ) (mark : Bool) (n i left j rest s : ℕ) (all : Option (ℕ × ℕ)) : Type 0 where
  pub answers : Forest
  pub reversed : Forest
  pub answers_lie : Lies w t i answers
  pub reversed_lie : Lies w t j reversed
  pub answers-count : count answers ≡ left + left
  pub reversed_count : count reversed ≡ rest
  pub same : all ≡ tally_walk m mark n s answers reversed

-- where they may lie at first
pub record Both (w : List ℕ) (i left j rest : ℕ) : Type 0 where
  pub text : List ℕ
  pub answers : Lain w text i (left + left)
  pub reversed : Lain w text j rest
  pub inside : j ≤ length w

-- whatever answers and reversed items lie there: what the walk through them comes to
abbrev pub AddsUp : List ℕ → ℕ → ℕ → ℕ → ℕ → ℕ → Bool → Option (ℕ × ℕ) → Type 0
AddsUp w i left j rest m mark r =
    (t : List ℕ) (f g : Forest) → Lies w t i f → count f ≡ left + left → Lies w t j g → count g ≡ rest → r ≡ tally_walk m mark left 0 f g

-- the next answer
pub record AnswerStep (w t : List ℕ) (m : ℕ) (mark : Bool) (n i left j rest s : ℕ) (all : Option (ℕ × ℕ)) : Type 0 where
  pub inside : 4 * i + 8 ≤ length w
  pub reversed_inside : 0 < rest → 4 * j + 4 ≤ length w
  pub bad_item : between_at w i 1 200 ≡ false → all ≡ None
  pub bad_answer : between_at w i 1 200 ≡ true → between_at w (i + 1) 0 m ≡ false → all ≡ None
  pub on : between_at w i 1 200 ≡ true → between_at w (i + 1) 0 m ≡ true → (b : Bool) → b ≡ hit_at w j rest (word_at w i 1) → TallySoFar w t m mark n (i + 2) (left - 1) (j + bit b) (rest - bit b) (s + counted m mark b (word_at w (i + 1) 1)) all

-- the next reversed item is the one at hand
first_hit : {w t : List ℕ} {j rest : ℕ} (l : Label) (f : Forest) → kind l ≡ 2 → Lies w t j f → count f ≡ rest → hit_at w j rest (bits l) ≡ is_first l f
unfolding hit_at is_first same_int count
first_hit l nil k h e = rw (← e)
first_hit {w} {t} {j} {rest} l (node r c f) k h e =
    let q = (parts h).says in
    let some : ltb 0 rest ≡ true = lt-ltb 0 rest (omega arith) in
    rw (some, kind-says q, eq-eqb (kind l) 2 k) (go (eqb (kind r) 2) refl)
  where
    go : (x : Bool) → eqb (kind r) 2 ≡ x → (x && eqb (bits l) (word_at w j 1)) ≡ (x && eqb (bits l) (bits r))
    go true u = rw (bits-says (parts h).says (eqb-true (kind r) 2 u))
    go false u = refl

past_lies : {w t : List ℕ} {j rest : ℕ} (b : Bool) (l : Label) (f : Forest) → Lies w t j f → count f ≡ rest → b ≡ is_first l f → (Lies w t (j + bit b) (past_if b f)) × (count (past_if b f) ≡ rest - bit b)
unfolding past_if is_first count size
past_lies {w} {t} {j} false l f h e q = (let z : j ≡ j + 0 = omega arith in subst (λ (x : ℕ). Lies w t x f) z h, omega arith)
past_lies true l nil h e q = let z : ◌≡◌ {A = ℕ} 0 1 = cc in absurd (omega arith)
past_lies {w} {t} {j} true l (node r c f) h e q =
    let p = parts h in
    let two : kind r ≡ 2 = (same_parts l r (sym q)).1 in
    let none : c ≡ nil = int_leaf r c two p.fits in
    let z : j + 1 + size c ≡ j + 1 = rw none (omega arith) in
    (subst (λ (x : ℕ). Lies w t x f) z p.rest, omega arith)

between-kind : (a b : ℕ) (l : Label) → between a b l ≡ true → kind l ≡ 2
unfolding between
between-kind a b l e = eqb-true (kind l) 2 (both {a = eqb (kind l) 2} e).0

lies_inside : {w t : List ℕ} {j : ℕ} (f : Forest) → Lies w t j f → 0 < count f → 4 * j + 4 ≤ length w
unfolding count
lies_inside nil y o = absurd (omega arith)
lies_inside (node r c f) y o = (parts y).says.reads.inside

module _ {w t : List ℕ} {m : ℕ} {mark : Bool} {n i left j rest s : ℕ} {all : Option (ℕ × ℕ)} where
  answer_of : (l a : Label) (c d g f : Forest) → Lies w t i (node l c (node a d g)) → Lies w t j f → count g ≡ left - 1 + (left - 1) → count f ≡ rest → all ≡ tally_walk m mark n s (node l c (node a d g)) f → AnswerStep w t m mark n i left j rest s all
  unfolding tally_walk size
  answer_of l a c d g f h y x z e =
      let p = parts h in
      let p₂ = parts p.rest in
      let in₂ = p₂.says.reads.inside in
      let item : between_at w i 1 200 ≡ between 1 200 l = between-says 1 200 p.says in
      let leaf : kind l ≡ 2 → i + 1 + size c ≡ i + 1 = λ k. let none = int_leaf l c k p.fits in rw none (omega arith) in
      let said : kind l ≡ 2 → Says w t (i + 1) a (count d) = λ k. subst (λ (q : ℕ). Says w t q a (count d)) (leaf k) p₂.says in
      record {
        inside = omega arith;
        reversed_inside = λ q. lies_inside f y (omega arith);
        bad_item = λ q. e ∙ rw (sym item ∙ q);
        bad_answer = λ q v.
            let k = between-kind 1 200 l (sym item ∙ q) in
            e ∙ rw (sym item ∙ q, sym (between-says 0 m (said k)) ∙ v);
        on = λ q v b u.
            let k = between-kind 1 200 l (sym item ∙ q) in
            let fine : between 0 m a ≡ true = sym (between-says 0 m (said k)) ∙ v in
            let k₂ = between-kind 0 m a fine in
            let number : word_at w (i + 1) 1 ≡ bits a = bits-says (said k) k₂ in
            let hits : b ≡ is_first l f = u ∙ ap (hit_at w j rest) (bits-says p.says k) ∙ first_hit l f k y z in
            let behind : i + 1 + size c + 1 + size d ≡ i + 2 = let none = int_leaf a d k₂ p₂.fits in let o = leaf k in rw none (omega arith) in
            let step : all ≡ tally_walk m mark n (s + counted m mark (is_first l f) (bits a)) g (past_if (is_first l f) f) = e ∙ rw (sym item ∙ q, fine) in
            let after = past_lies b l f y z hits in
            record {
              answers = g;
              reversed = past_if b f;
              answers_lie = subst (λ (o : ℕ). Lies w t o g) behind p₂.rest;
              reversed_lie = after.0;
              answers-count = x;
              reversed_count = after.1;
              same = rw (hits, number) step;
            };
      }

  pub answer : TallySoFar w t m mark n i left j rest s all → 0 < left → AnswerStep w t m mark n i left j rest s all
  unfolding count
  answer q h = go q.answers q.answers_lie q.answers-count q.same
    where
      go : (f : Forest) → Lies w t i f → count f ≡ left + left → all ≡ tally_walk m mark n s f q.reversed → AnswerStep w t m mark n i left j rest s all
      go nil a b e = absurd (omega arith)
      go (node l c nil) a b e = absurd (omega arith)
      go (node l c (node v d r)) a b e = answer_of l v c d r q.reversed a q.reversed_lie (omega arith) q.reversed_count e

  -- no answer is left
  module _ (q : TallySoFar w t m mark n i left j rest s all) (h : left ≡ 0) where
    ended : (rest ≡ 0 → all ≡ Some (s, n)) × (0 < rest → all ≡ None)
    unfolding count tally_walk
    ended = go q.answers q.reversed q.answers-count q.reversed_count q.same
      where
        go : (f g : Forest) → count f ≡ left + left → count g ≡ rest → all ≡ tally_walk m mark n s f g → (rest ≡ 0 → all ≡ Some (s, n)) × (0 < rest → all ≡ None)
        go nil nil a b e = (λ o. e, λ o. absurd (omega arith))
        go nil (node l c r) a b e = (λ o. absurd (omega arith), λ o. e)
        go (node l c r) g a b e = absurd (omega arith)

    pub all-answered : rest ≡ 0 → all ≡ Some (s, n)
    all-answered = ended.0

    pub one_left : 0 < rest → all ≡ None
    one_left = ended.1

-- ---- numbers of a turn

pub hit_some : (w : List ℕ) (j rest item : ℕ) → bit (hit_at w j rest item) ≤ rest
unfolding hit_at
hit_some w j rest item = go (ltb 0 rest) refl _
  where
    go : (x : Bool) → ltb 0 rest ≡ x → (y : Bool) → bit (x && y) ≤ rest
    go false e y = omega arith
    go true e false = omega arith
    go true e true = let h = ltb-true 0 rest e in omega arith

pub counted_most : (m : ℕ) (mark b : Bool) (a : ℕ) → a ≤ m → counted m mark b a ≤ m
counted_most m true b a h = h
counted_most m false true a h = omega arith
counted_most m false false a h = h

pub answer_most : (w : List ℕ) (i a b : ℕ) → between_at w i a b ≡ true → word_at w i 1 ≤ b
unfolding between_at
answer_most w i a b e = leb-true (word_at w i 1) b (both {a = leb a (word_at w i 1)} (both {a = eqb (kind_in (word_at w i 0)) 2} e).1).1

-- ---- what the code's tests say, with the head h that it read

module _ (w : List ℕ) (i : ℕ) (h : Head) (q : h ≡ head_of (get_or w (4 * i) 0)) where
  pub kind-read : kind_in (word_at w i 0) ≡ h.kind
  kind-read = rw (add-zero, q)

  -- the value under the key is at record i: of kind d, or not
  module _ {t : List ℕ} {k : List ℕ} {from left : ℕ} {v : Value} (e : KeyStep w t k from left v) (at : i ≡ from + size_at w from) (y : is_key k (label_at w t from) ≡ true) (d : ℕ) where
    found_kind : kind v.label ≡ h.kind
    found_kind =
        let f : v ≡ e.found = e.yes (ap (is_key k) (sym e.label) ∙ y) in
        ap (λ (x : Value). kind x.label) f ∙ sym e.value-kind ∙ rw (← at) kind-read

    pub sought_here : Sought w t v d (then_some (eqb h.kind d) i)
    sought_here = go (eqb h.kind d) refl
      where
        go : (b : Bool) → eqb h.kind d ≡ b → Sought w t v d (then_some b i)
        go true g = let f : v ≡ e.found = e.yes (ap (is_key k) (sym e.label) ∙ y) in record { there = rw (f, at) e.value_lies; right = found_kind ∙ eqb-true h.kind d g }
        go false g = rw found_kind g

  pub between-read : (a b : ℕ) → between_at w i a b ≡ (eqb h.kind 2 && (leb a (word_at w i 1) && leb (word_at w i 1) b))
  unfolding between_at
  between-read a b = rw kind-read

  pub hit_read : (left item : ℕ) → 0 < left → hit_at w i left item ≡ (eqb h.kind 2 && eqb item (word_at w i 1))
  unfolding hit_at
  hit_read left item some = rw (lt-ltb 0 left some, kind-read)

  module _ (t : List ℕ) (r : Reads w t i) (k : List ℕ) where
    pub not_key : (h.kind ≡ 4 → ⊥) → false ≡ is_key k (label_at w t i)
    unfolding is_key
    not_key n = rw (kind_at w t i r, kind-read, ne_eqb h.kind 4 n)

    pub key_inside : h.kind ≡ 4 → word_at w i 1 + word_at w i 2 ≤ length t
    key_inside e = text_inside w t i h.kind r (ap (λ (x : Head). x.kind) q) (omega arith) (omega arith)

    pub key_by_lem : h.kind ≡ 4 → compare_is_eq (lex k (take (word_at w i 2) (drop (word_at w i 1) t))) ≡ is_key k (label_at w t i)
    unfolding is_key label_at label_of
    key_by_lem e = let u : kind_in (word_at w i 0) ≡ 4 = kind-read ∙ e in rw u

-- no entry is left
pub seek_end : {w t : List ℕ} {k : List ℕ} {i left : ℕ} {v : Value} (d : ℕ) → Seeking w t k i left v → left ≡ 0 → 0 < d → Sought w t v d None
seek_end {v = v} d s h p = let z = seek_none s h in ne_eqb (kind v.label) d (λ q. omega arith)

-- the next place among the reversed items
pub hit_room : (w : List ℕ) (j rest item r : ℕ) → r ≡ bit (hit_at w j rest item) → (0 < rest → 4 * j + 4 ≤ length w) → j ≤ length w → j + r ≤ length w
hit_room w j rest item r e h l = go (hit_at w j rest item) refl
  where
    go : (b : Bool) → hit_at w j rest item ≡ b → j + r ≤ length w
    go true q = let u : r ≡ 1 = e ∙ ap bit q in let m = hit_some w j rest item in let o : 0 < rest = omega arith in let i = h o in omega arith
    go false q = let u : r ≡ 0 = e ∙ ap bit q in omega arith

-- no item is left
pub hit_none : (w : List ℕ) (i left item : ℕ) → left ≤ 0 → hit_at w i left item ≡ false
unfolding hit_at
hit_none w i left item h = let e : left ≡ 0 = omega arith in rw e

-- what lies there at first, and what is left of it: the next answer and the next reversed item are inside
pub next_inside : {w : List ℕ} {from entries first items m i left j rest s : ℕ} {mark : Bool} → Both w from entries first items
    → ((t : List ℕ) (f g : Forest) → Lies w t from f → count f ≡ entries + entries → Lies w t first g → count g ≡ items → TallySoFar w t m mark entries i left j rest s (tally_walk m mark entries 0 f g))
    → 0 < left → (4 * i + 8 ≤ length w) × (0 < rest → 4 * j + 4 ≤ length w)
next_inside b h some = let a = answer (h b.text _ _ b.answers.lies b.answers.counted b.reversed.lies b.reversed.counted) some in (a.inside, a.reversed_inside)

-- ---- two texts are the same where neither is before the other

pub same_texts : (a b : List ℕ) → pointwise eqb a b ≡ compare_is_eq (lex a b)
unfolding lex ◌then◌
same_texts [] [] = refl
same_texts [] (y ∷ b) = refl
same_texts (x ∷ a) [] = refl
same_texts (x ∷ a) (y ∷ b) = go (compare x y) refl (same_texts a b)
  where
    go : (o : Ordering) → compare x y ≡ o → pointwise eqb a b ≡ compare_is_eq (lex a b) → (compare_is_eq (compare x y) && pointwise eqb a b) ≡ compare_is_eq (compare x y then lex a b)
    go Ordering.lt e h = rw e
    go Ordering.eq e h = rw e h
    go Ordering.gt e h = rw e
