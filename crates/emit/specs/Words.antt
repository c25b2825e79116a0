-- A place to write at, and the words that the code packs: the measure of what is written, a record by its node's words.
use Rattle.std.specs.Prelude.{ℕ, suc, zero, ◌+◌, ◌*◌, ◌^◌, ◌/◌, ◌%◌, ◌<◌, ◌≤◌, Bool, true, false, cond, List, [], ◌∷◌, ◌++◌, map, ◌≡◌, ◌≢◌, length, eqb, ltb}
use Rattle.std.proofs.Math.Path.{refl, sym}
use Rattle.std.proofs.Common.{◌∙◌, ap₂, length-append}
use Rattle.std.proofs.Math.ListN.{get_or-map}
use borrow.Author.Tests.{lt-ltb, le-ltb, ne_eqb}
use native.Mathlib.Omega.{arith}
use Rattle.value.specs.Value.{Label, bit, half, kind, text_of, record_of, NoneL, BoolL, I64L, F64L, BytesL, StringL, ListL, TupleL, SetL, FrozenSetL, DictL, GlobalL, ObjectL}
use Rattle.value.specs.Shape.{kind_in, fresh_in}
use Rattle.steps.specs.NodeWords.{first, second}
use Rattle.emit.specs.declared.Place.{Place}
use Rattle.resolve.specs.Shown.{node_labels, node_label, label_has_text, leading, trailing}

-- ---- a place to write at

-- behind a records and p bytes of text
abbrev pub place_of : ℕ → ℕ → Place
place_of a p = record { records = a; bytes = p }

pub same_place : {a b p q : ℕ} → a ≡ b → p ≡ q → place_of a p ≡ place_of b q
same_place e f = ap₂ place_of e f

-- ---- the measure of a container that is written: its record, how many there are in it, where its text begins, how long that is

abbrev pub written_w : ℕ → ℕ → ℕ → ℕ → ℕ
written_w a z p n = 2 ^ 63 + a + 2 ^ 12 * z + 2 ^ 24 * p + 2 ^ 41 * n

module _ (a z p n : ℕ) (ha : a < 2 ^ 12) (hz : z < 2 ^ 12) (hp : p < 2 ^ 17) (hn : n < 2 ^ 17) where
  pub written_record : written_w a z p n % 2 ^ 12 ≡ a
  written_record = omega arith

  pub written-size : written_w a z p n / 2 ^ 12 % 2 ^ 12 ≡ z
  written-size = omega arith

  pub written-text : written_w a z p n / 2 ^ 24 % 2 ^ 17 ≡ p
  written-text = omega arith

  pub written-long : written_w a z p n / 2 ^ 41 % 2 ^ 17 ≡ n
  written-long = omega arith

-- ---- a record by the kind of its label

-- the lengths of a label's text in one word: a name's below its module's
abbrev pub lengths_of : Label → ℕ
lengths_of NoneL = 0
lengths_of (BoolL b) = 0
lengths_of (I64L n) = 0
lengths_of (F64L n) = 0
lengths_of (BytesL t) = length t
lengths_of (StringL t) = length t
lengths_of ListL = 0
lengths_of TupleL = 0
lengths_of SetL = 0
lengths_of FrozenSetL = 0
lengths_of DictL = 0
lengths_of (GlobalL m k) = length m * 2 ^ 32 + length k
lengths_of (ObjectL m k b) = length m * 2 ^ 32 + length k

-- the record of a label by its kind k: `new`, the node's second word b, the lengths w, the place p, n values in it, z records
unfoldable pub record_from : ℕ → Bool → ℕ → ℕ → ℕ → ℕ → ℕ → List ℕ
record_from k new b w p n z =
    cond (eqb k 0) (0 ∷ 0 ∷ 0 ∷ 0 ∷ [])
    (cond (eqb k 1) (1 ∷ bit (eqb b 1) ∷ 0 ∷ 0 ∷ [])
    (cond (ltb k 4) (k ∷ b ∷ 0 ∷ 0 ∷ [])
    (cond (ltb k 6) (k ∷ p ∷ w ∷ 0 ∷ [])
    (cond (ltb k 10) (k ∷ n ∷ z ∷ 0 ∷ [])
    (cond (eqb k 10) (k ∷ half n ∷ z ∷ 0 ∷ [])
    (cond (eqb k 11) (k ∷ p ∷ w ∷ 0 ∷ [])
    ((12 + 16 * bit new + 32 * half n) ∷ p ∷ w ∷ z ∷ [])))))))

half_div : (n : ℕ) → n / 2 ≡ half n
half_div zero = refl
half_div (suc zero) = refl
half_div (suc (suc n)) = let h = half_div n in omega arith

-- two are an Object's arguments and its state
half_two : (n : ℕ) → n ≤ 2 → bit (eqb n 2) ≡ half n
half_two zero h = refl
half_two (suc zero) h = refl
half_two (suc (suc zero)) h = refl
half_two (suc (suc (suc n))) h = absurd (omega arith)

-- each return of the code: x is word 0
module _ (k : ℕ) (new : Bool) (b w p n z x : ℕ) where
  pub from-object : x ≡ k + 16 * bit new + 32 * bit (eqb n 2) → k ≡ 12 → n ≤ 2 → (x ∷ p ∷ w ∷ z ∷ []) ≡ record_from k new b w p n z
  unfolding record_from
  from-object q e h = rw (q, e, half_two n h)

  module _ (q : x ≡ k) where
    pub from-none : k ≡ 0 → (x ∷ 0 ∷ 0 ∷ 0 ∷ []) ≡ record_from k new b w p n z
    unfolding record_from
    from-none e = rw (q, e)

    pub from_bool : k ≡ 1 → (x ∷ bit (eqb b 1) ∷ 0 ∷ 0 ∷ []) ≡ record_from k new b w p n z
    unfolding record_from
    from_bool e = rw (q, e)

    pub from-dict : k ≡ 10 → (x ∷ n / 2 ∷ z ∷ 0 ∷ []) ≡ record_from k new b w p n z
    unfolding record_from
    from-dict e = rw (q, e, half_div n)

    pub from-names : k < 13 → k ≢ 12 → 10 ≤ k → k ≢ 10 → (x ∷ p ∷ w ∷ 0 ∷ []) ≡ record_from k new b w p n z
    unfolding record_from
    from-names h h₁₂ h₁₀ h₁ = let e : k ≡ 11 = omega arith in rw (q, e)

    module _ (h₀ : k ≢ 0) (h₁ : k ≢ 1) where
      pub from_number : k < 4 → (x ∷ b ∷ 0 ∷ 0 ∷ []) ≡ record_from k new b w p n z
      unfolding record_from
      from_number h = rw (q, ne_eqb k 0 h₀, ne_eqb k 1 h₁, lt-ltb k 4 h)

      pub from-text : 4 ≤ k → k < 6 → (x ∷ p ∷ w ∷ 0 ∷ []) ≡ record_from k new b w p n z
      unfolding record_from
      from-text h₄ h = rw (q, ne_eqb k 0 h₀, ne_eqb k 1 h₁, le-ltb k 4 h₄, lt-ltb k 6 h)

      pub from-items : 6 ≤ k → k < 10 → (x ∷ n ∷ z ∷ 0 ∷ []) ≡ record_from k new b w p n z
      unfolding record_from
      from-items h₆ h = rw (q, ne_eqb k 0 h₀, ne_eqb k 1 h₁, le-ltb k 4 (omega arith), le-ltb k 6 h₆, lt-ltb k 10 h)

-- ---- a label's text by its kind: what leads, and what trails

unfoldable pub text_by : ℕ → List ℕ → List ℕ → List ℕ
text_by k m n = cond (ltb k 4) [] (cond (ltb k 6) m (cond (ltb k 11) [] (m ++ n)))

unfoldable pub lengths_by : ℕ → ℕ → ℕ → ℕ
lengths_by k m n = cond (ltb k 4) 0 (cond (ltb k 6) m (cond (ltb k 11) 0 (m * 2 ^ 32 + n)))

unfoldable pub spoken : ℕ → Bool
spoken k = cond (ltb k 4) false (cond (ltb k 6) true (cond (ltb k 11) false true))

pub text_by_lem : (l : Label) → text_of l ≡ text_by (kind l) (leading l) (trailing l)
unfolding text_by
text_by_lem NoneL = refl
text_by_lem (BoolL b) = refl
text_by_lem (I64L n) = refl
text_by_lem (F64L n) = refl
text_by_lem (BytesL t) = refl
text_by_lem (StringL t) = refl
text_by_lem ListL = refl
text_by_lem TupleL = refl
text_by_lem SetL = refl
text_by_lem FrozenSetL = refl
text_by_lem DictL = refl
text_by_lem (GlobalL m n) = refl
text_by_lem (ObjectL m n b) = refl

pub lengths_by_lem : (l : Label) → lengths_of l ≡ lengths_by (kind l) (length (leading l)) (length (trailing l))
unfolding lengths_by
lengths_by_lem NoneL = refl
lengths_by_lem (BoolL b) = refl
lengths_by_lem (I64L n) = refl
lengths_by_lem (F64L n) = refl
lengths_by_lem (BytesL t) = refl
lengths_by_lem (StringL t) = refl
lengths_by_lem ListL = refl
lengths_by_lem TupleL = refl
lengths_by_lem SetL = refl
lengths_by_lem FrozenSetL = refl
lengths_by_lem DictL = refl
lengths_by_lem (GlobalL m n) = refl
lengths_by_lem (ObjectL m n b) = refl

pub has_text_lem : (l : Label) → label_has_text l ≡ spoken (kind l)
unfolding spoken
has_text_lem NoneL = refl
has_text_lem (BoolL b) = refl
has_text_lem (I64L n) = refl
has_text_lem (F64L n) = refl
has_text_lem (BytesL t) = refl
has_text_lem (StringL t) = refl
has_text_lem ListL = refl
has_text_lem TupleL = refl
has_text_lem SetL = refl
has_text_lem FrozenSetL = refl
has_text_lem DictL = refl
has_text_lem (GlobalL m n) = refl
has_text_lem (ObjectL m n b) = refl

names-all : (m k : List ℕ) → length (m ++ k) ≤ 65536 → (length m * 2 ^ 32 + length k) / 2 ^ 32 + (length m * 2 ^ 32 + length k) % 2 ^ 32 ≡ length (m ++ k)
names-all m k h = omega (arith, length-append m k)

-- the whole length, of a text that is short
pub lengths_all : (l : Label) → length (text_of l) ≤ 65536 → lengths_of l / 2 ^ 32 + lengths_of l % 2 ^ 32 ≡ length (text_of l)
lengths_all NoneL h = refl
lengths_all (BoolL b) h = refl
lengths_all (I64L n) h = refl
lengths_all (F64L n) h = refl
lengths_all (BytesL t) h = omega arith
lengths_all (StringL t) h = omega arith
lengths_all ListL h = refl
lengths_all TupleL h = refl
lengths_all SetL h = refl
lengths_all FrozenSetL h = refl
lengths_all DictL h = refl
lengths_all (GlobalL m k) h = names-all m k h
lengths_all (ObjectL m k b) h = names-all m k h

-- ---- the label of a node, by its words

module _ (p ws : List ℕ) (i : ℕ) where
  -- two functions of labels that agree on every choice agree on the one chosen
  chosen : {B : Type 0} (f g : Label → B) → map f (node_labels p ws (first ws i) (second ws i)) ≡ map g (node_labels p ws (first ws i) (second ws i)) → f NoneL ≡ g NoneL → f (node_label p ws i) ≡ g (node_label p ws i)
  unfolding node_label
  chosen f g e z =
      let k = kind_in (first ws i) in
      let l = node_labels p ws (first ws i) (second ws i) in
      sym (get_or-map f l k NoneL) ∙ rw (e, z) (get_or-map g l k NoneL)

  pub record_is : (at n z : ℕ) → record_from (kind (node_label p ws i)) (fresh_in (first ws i)) (second ws i) (lengths_of (node_label p ws i)) at n z ≡ record_of (node_label p ws i) at n z
  unfolding record_from
  record_is at n z = chosen (λ l. record_from (kind l) (fresh_in (first ws i)) (second ws i) (lengths_of l) at n z) (λ l. record_of l at n z) refl refl
