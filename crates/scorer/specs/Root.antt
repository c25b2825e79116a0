-- The value of a well-formed table as the code goes through it: a Dict at record 0, what is under its four keys, and the walk.
use Rattle.std.specs.Prelude.{ℕ, suc, ◌+◌, ◌*◌, ◌≤◌, Bool, false, cond, ◌&&◌, List, ◌≡◌, refl, length, get_or, T}
use Rattle.std.proofs.Math.Bool.{true, and-false}
use Rattle.std.proofs.Math.Path.{sym, ap}
use Rattle.std.proofs.Common.{◌∙◌}
use Rattle.std.proofs.Math.Dec.{eqb}
use borrow.Author.Tests.{eq-eqb, ne_eqb}
use native.Mathlib.Omega.{arith}
use Rattle.value.specs.declared.Head.{Head}
use Rattle.value.specs.Value.{Label, Forest, Value, one, half, kind, count, size, count-size, NoneL, BoolL, I64L, F64L, BytesL, StringL, ListL, TupleL, SetL, FrozenSetL, DictL, GlobalL, ObjectL, nil, node}
use Rattle.value.specs.Shape.{kind_in, head_of, arity_of, fitting, shaped, and_l, and_r}
use Rattle.value.specs.Stands.{word_at, arity_at, Says}
use Rattle.value.specs.WellFormed.{WellFormed, ascending, keys, proper, settled}
use Rattle.table.specs.Record.{half_twice}
use Rattle.scorer.specs.Sheet.{bits, between, is_key, under, answers_key, reverse_key, answers, reverse, highest_answer, flipped, is_sheet, answers_sum, marked, score_of, items_of}
use Rattle.scorer.specs.Call.{tally_of}
use Rattle.scorer.specs.Walk.{tally_walk, walk_is}
use Rattle.scorer.specs.Place.{Lies, FirstAndRest, parts, formed_lies}
use Rattle.scorer.specs.Steps.{kind-says, bits-says, mark-says, between_at, between-says, kind-read, Lain, Found, Both}
use Rattle.std.specs.declared.option.Option.{Option}
use Rattle.std.specs.declared.option.Option.TheVariants.{None}

-- ---- how many values a record says

pub dict-count : {w t : List ℕ} {i : ℕ} {l : Label} {n : ℕ} → Says w t i l n → kind l ≡ 10 → n ≡ word_at w i 1 + word_at w i 1
unfolding arity_at arity_of
dict-count {w} {t} {i} q k = let e : kind_in (word_at w i 0) ≡ 10 = kind-says q ∙ k in sym q.arity ∙ rw e

pub set-count : {w t : List ℕ} {i : ℕ} {l : Label} {n : ℕ} → Says w t i l n → kind l ≡ 8 → n ≡ word_at w i 1
unfolding arity_at arity_of
set-count {w} {t} {i} q k = let e : kind_in (word_at w i 0) ≡ 8 = kind-says q ∙ k in sym q.arity ∙ rw e

under-size : (k : List ℕ) (f : Forest) → size (under k f).contents ≤ size f
unfolding under size
under-size k nil = omega arith
under-size k (node l c nil) = omega arith
under-size k (node l c (node m d r)) = let h = under-size k r in go (is_key k l) h
  where
    go : (b : Bool) → size (under k r).contents ≤ size r → size (cond b (record { label = m; contents = d }) (under k r)).contents ≤ suc (size c + suc (size d + size r))
    go true h = omega arith
    go false h = omega arith

-- ---- what is in order in a value is in order in what is under a key

pub under-settled : (k : List ℕ) (f : Forest) → T (settled f) → T (settled (one (under k f)))
unfolding under settled
under-settled k nil h = tt
under-settled k (node l c nil) h = tt
under-settled k (node l c (node m d r)) h =
    let rest = and_r (settled c) (proper m d && (settled d && settled r)) (and_r (proper l c) (settled c && (proper m d && (settled d && settled r))) h) in
    go (is_key k l) (proper m d) (settled d) (settled r) rest refl refl (under-settled k r)
  where
    go : (b x y z : Bool) → T (x && (y && z)) → proper m d ≡ x → settled d ≡ y → (T z → T (settled (one (under k r)))) → T (settled (one (cond b (record { label = m; contents = d }) (under k r))))
    go false true true true h p q g = g tt
    go true true true true h p q g = rw (p, q) tt
    go b true true false h p q g = absurd h
    go b true false z h p q g = absurd h
    go b false y z h p q g = absurd h

pub dict_ascends : (l : Label) (c : Forest) → kind l ≡ 10 → T (proper l c) → T (ascending (keys c))
dict_ascends NoneL c k h = absurd (omega arith)
dict_ascends (BoolL b) c k h = absurd (omega arith)
dict_ascends (I64L n) c k h = absurd (omega arith)
dict_ascends (F64L n) c k h = absurd (omega arith)
dict_ascends (BytesL t) c k h = absurd (omega arith)
dict_ascends (StringL t) c k h = absurd (omega arith)
dict_ascends ListL c k h = absurd (omega arith)
dict_ascends TupleL c k h = absurd (omega arith)
dict_ascends SetL c k h = absurd (omega arith)
dict_ascends FrozenSetL c k h = absurd (omega arith)
dict_ascends DictL c k h = h
dict_ascends (GlobalL m n) c k h = absurd (omega arith)
dict_ascends (ObjectL m n b) c k h = absurd (omega arith)

set-items : (l : Label) (c : Forest) → kind l ≡ 8 → T (proper l c) → T (ascending c)
set-items NoneL c k h = absurd (omega arith)
set-items (BoolL b) c k h = absurd (omega arith)
set-items (I64L n) c k h = absurd (omega arith)
set-items (F64L n) c k h = absurd (omega arith)
set-items (BytesL t) c k h = absurd (omega arith)
set-items (StringL t) c k h = absurd (omega arith)
set-items ListL c k h = absurd (omega arith)
set-items TupleL c k h = absurd (omega arith)
set-items SetL c k h = h
set-items FrozenSetL c k h = absurd (omega arith)
set-items DictL c k h = absurd (omega arith)
set-items (GlobalL m n) c k h = absurd (omega arith)
set-items (ObjectL m n b) c k h = absurd (omega arith)

pub own_order : (v : Value) → T (settled (one v)) → T (proper v.label v.contents)
unfolding settled
own_order v h = and_l (proper v.label v.contents) (settled v.contents && true) h

pub inner-order : (v : Value) → T (settled (one v)) → T (settled v.contents)
unfolding settled
inner-order v h = and_l (settled v.contents) true (and_r (proper v.label v.contents) (settled v.contents && true) h)

-- ---- so is the form

pub inner_shape : (v : Value) → T (shaped (one v)) → T (shaped v.contents)
unfolding shaped
inner_shape v h = and_l (shaped v.contents) true (and_r (fitting v.label (count v.contents)) (shaped v.contents && true) h)

pub under-shaped : (k : List ℕ) (f : Forest) → T (shaped f) → T (shaped (under k f).contents)
unfolding under shaped
under-shaped k nil h = tt
under-shaped k (node l c nil) h = tt
under-shaped k (node l c (node m d r)) h =
    let rest = and_r (shaped c) (fitting m (count d) && (shaped d && shaped r)) (and_r (fitting l (count c)) (shaped c && (fitting m (count d) && (shaped d && shaped r))) h) in
    let both = and_r (fitting m (count d)) (shaped d && shaped r) rest in
    go (is_key k l) (and_l (shaped d) (shaped r) both) (under-shaped k r (and_r (shaped d) (shaped r) both))
  where
    go : (b : Bool) → T (shaped d) → T (shaped (under k r).contents) → T (shaped (cond b (record { label = m; contents = d }) (under k r)).contents)
    go true x y = x
    go false x y = y

-- ---- no sheet

off : (v : Value) → is_sheet v ≡ false → None ≡ tally_of v
unfolding tally_of
off v e = rw e

module _ (v : Value) where
  off_dict : eqb (kind v.label) 10 ≡ false → None ≡ tally_of v
  unfolding is_sheet
  off_dict e = off v (rw e)

  pub off_answers : eqb (kind (answers v).label) 10 ≡ false → None ≡ tally_of v
  unfolding is_sheet
  off_answers e = off v (rw e (simp and-false))

  pub off_reverse : eqb (kind (reverse v).label) 8 ≡ false → None ≡ tally_of v
  unfolding is_sheet
  off_reverse e = off v (rw e (simp and-false))

  pub off_flipped : eqb (kind (flipped v).label) 1 ≡ false → None ≡ tally_of v
  unfolding is_sheet
  off_flipped e = off v (rw e (simp and-false))

  pub off_range : between 1 100 (highest_answer v).label ≡ false → None ≡ tally_of v
  unfolding is_sheet
  off_range e = off v (rw e (simp and-false))

  no_int : eqb (kind (highest_answer v).label) 2 ≡ false → between 1 100 (highest_answer v).label ≡ false
  unfolding between
  no_int e = rw e

  pub off_highest : eqb (kind (highest_answer v).label) 2 ≡ false → None ≡ tally_of v
  off_highest e = off_range (no_int e)

-- ---- what was sought

module _ {w t : List ℕ} {v : Value} {k r : ℕ} (s : Found w t v k r) where
  sought_parts : FirstAndRest w t r v.label v.contents nil
  sought_parts = parts s.there

  pub sought_inside : 4 * r + 4 ≤ length w
  sought_inside = sought_parts.says.reads.inside

  pub sought_says : Says w t r v.label (count v.contents)
  sought_says = sought_parts.says

  sought_lie : Lies w t (r + 1) v.contents
  sought_lie = sought_parts.contents

  sought_shape : T (shaped v.contents)
  sought_shape = sought_lie.shape

-- ---- the whole

module _ {w : List ℕ} {n : ℕ} {t : List ℕ} (a : WellFormed w n t) where
  root : FirstAndRest w t 0 a.value.label a.value.contents nil
  root = parts (formed_lies a)

  pub root_inside : 4 ≤ length w
  root_inside = root.says.reads.inside

  module _ (h : Head) (q : h ≡ head_of (get_or w 0 0)) where
    root_kind : kind a.value.label ≡ h.kind
    root_kind = sym (kind-says root.says) ∙ kind-read w 0 h q

    pub root_off : (h.kind ≡ 10 → ⊥) → None ≡ tally_of a.value
    root_off e = off_dict a.value (ne_eqb (kind a.value.label) 10 (λ k. e (sym root_kind ∙ k)))

    pub root_dict : h.kind ≡ 10 → kind a.value.label ≡ 10
    root_dict e = root_kind ∙ e

  module _ (dict : kind a.value.label ≡ 10) where
    pub entries_lie : Lies w t 1 a.value.contents
    entries_lie = root.contents

    pub entries-count : count a.value.contents ≡ get_or w 1 0 + get_or w 1 0
    entries-count = dict-count root.says dict

    pub entries_lain : Lain w t 1 (get_or w 1 0 + get_or w 1 0)
    entries_lain = record { values = a.value.contents; lies = entries_lie; counted = entries-count }

    -- what is under a key, by what was sought in the Dict
    module _ (key : List ℕ) (d : ℕ) where
      pub under_found : {r : ℕ} → ((f : Forest) → Lies w t 1 f → count f ≡ get_or w 1 0 + get_or w 1 0 → Found w t (under key f) d r) → Found w t (under key a.value.contents) d r
      under_found s = s a.value.contents entries_lie entries-count

      pub under_missing : ((f : Forest) → Lies w t 1 f → count f ≡ get_or w 1 0 + get_or w 1 0 → eqb (kind (under key f).label) d ≡ false) → eqb (kind (under key a.value.contents).label) d ≡ false
      under_missing s = s a.value.contents entries_lie entries-count

    -- the four values
    module _ {i j : ℕ} (x : Found w t (answers a.value) 10 i) (y : Found w t (reverse a.value) 8 j) where
      answers-count : count (answers a.value).contents ≡ word_at w i 1 + word_at w i 1
      answers-count = dict-count (sought_says x) (x.right)

      reverse-count : count (reverse a.value).contents ≡ word_at w j 1
      reverse-count = set-count (sought_says y) (y.right)

      pub both_lie : Both w (i + 1) (word_at w i 1) (j + 1) (word_at w j 1)
      both_lie =
          let in-y = sought_inside y in
          record {
            text = t;
            answers = record { values = (answers a.value).contents; lies = sought_lie x; counted = answers-count };
            reversed = record { values = (reverse a.value).contents; lies = sought_lie y; counted = reverse-count };
            inside = omega arith;
          }

      pub few_answers : word_at w i 1 ≤ 4096
      unfolding size
      few_answers =
          let c = answers-count in
          let s = count-size (answers a.value).contents in
          let u = under-size answers_key a.value.contents in
          let n₁ = a.counted in
          let n₂ = a.few in
          omega arith

      pub assessed : {f m : ℕ} → Found w t (flipped a.value) 1 f → Found w t (highest_answer a.value) 2 m → between_at w m 1 100 ≡ true
          → (r : Option (ℕ × ℕ)) → ((s : List ℕ) (g h : Forest) → Lies w s (i + 1) g → count g ≡ word_at w i 1 + word_at w i 1 → Lies w s (j + 1) h → count h ≡ word_at w j 1 → r ≡ tally_walk (word_at w m 1) (eqb (word_at w f 1) 1) (word_at w i 1) 0 g h)
          → r ≡ tally_of a.value
      unfolding tally_of is_sheet score_of items_of marked
      assessed {f} {m} z o range r ens =
          let v = a.value in
          let g = (answers v).contents in
          let h = (reverse v).contents in
          let k₀ : eqb (kind v.label) 10 ≡ true = eq-eqb (kind v.label) 10 dict in
          let k₁ : eqb (kind (answers v).label) 10 ≡ true = eq-eqb (kind (answers v).label) 10 (x.right) in
          let k₂ : eqb (kind (reverse v).label) 8 ≡ true = eq-eqb (kind (reverse v).label) 8 (y.right) in
          let k₃ : eqb (kind (flipped v).label) 1 ≡ true = eq-eqb (kind (flipped v).label) 1 (z.right) in
          let k₄ : between 1 100 (highest_answer v).label ≡ true = sym (between-says 1 100 (sought_says o)) ∙ range in
          let e₁ : word_at w m 1 ≡ bits (highest_answer v).label = bits-says (sought_says o) (o.right) in
          let e₂ : eqb (word_at w f 1) 1 ≡ eqb (bits (flipped v).label) 1 = mark-says (sought_says z) (z.right) in
          let e₃ : half (count g) ≡ word_at w i 1 = ap half answers-count ∙ half_twice (word_at w i 1) in
          let inner = inner-order v a.settle in
          let up = dict_ascends (answers v).label g (x.right) (own_order (answers v) (under-settled answers_key v.contents inner)) in
          let up₂ = set-items (reverse v).label h (y.right) (own_order (reverse v) (under-settled reverse_key v.contents inner)) in
          let start : r ≡ tally_walk (bits (highest_answer v).label) (eqb (bits (flipped v).label) 1) (word_at w i 1) 0 g h = rw (e₁, e₂) at (ens t g h (sought_lie x) answers-count (sought_lie y) reverse-count) in
          let law = walk_is (bits (highest_answer v).label) (eqb (bits (flipped v).label) 1) (word_at w i 1) 0 g h (sought_shape x) (sought_shape y) up up₂ in
          let zero : 0 + answers_sum (bits (highest_answer v).label) (eqb (bits (flipped v).label) 1) h g ≡ answers_sum (bits (highest_answer v).label) (eqb (bits (flipped v).label) 1) h g = omega arith in
          rw (k₀, k₁, k₂, k₃, k₄, e₃) (start ∙ law ∙ rw zero)
