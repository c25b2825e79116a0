-- Laws of the literals: the line's own tests before `parse`, and `parse` itself by whether the line is UTF-8. Assumes nothing.
use Prim.Native.Nat.{ℕ, ◌-◌, ◌≤◌}
use mathlib.Core.Bool.{Bool, true, false, ◌&&◌}
use mathlib.Core.List.{List, [], ◌∷◌}
use mathlib.Core.Path.{◌≡◌, refl, sym, ap}
use Rattle.std.specs.Cmp.Lexicographic.{pointwise}
use native.Mathlib.Omega.{arith}
use borrow.Author.Tests.{eq-eqb, ne_eqb}
use lib.Dec.{eqb}
use lib.ListN.{length, get_or, take}
use Rattle.refusal.specs.Read.{Read, got, refused}
use Rattle.utf8.specs.Utf8.{valid}
use Rattle.number.specs.Space.{same, trimmed}
use Rattle.number.specs.Number.{invalid, turned, only, plus, integer, in_u32, parse_i64, parse_u32, whole, int_literal, less_l}
use Rattle.input.specs.Long.{in_i64, bits64}
use Rattle.number.specs.Literal.{truth_bits, whole_bits, int_bits}

module _ (s : List ℕ) where
  pub i64_text : valid s ≡ true → only in_i64 (integer (trimmed s)) ≡ parse_i64 s
  unfolding parse_i64
  i64_text h = simp h

  pub i64_not : valid s ≡ false → invalid ≡ turned bits64 (parse_i64 s)
  unfolding parse_i64 turned invalid
  i64_not h = simp h

  pub u32_text : valid s ≡ true → only in_u32 (plus (trimmed s)) ≡ parse_u32 s
  unfolding parse_u32
  u32_text h = simp h

  pub u32_not : valid s ≡ false → invalid ≡ parse_u32 s
  unfolding parse_u32
  u32_not h = simp h

pointwise_is : (s t : List ℕ) → pointwise eqb s t ≡ same s t
unfolding same
pointwise_is [] [] = refl
pointwise_is [] (b ∷ t) = refl
pointwise_is (a ∷ s) [] = refl
pointwise_is (a ∷ s) (b ∷ t) = ap (λ (x : Bool). eqb a b && x) (pointwise_is s t)

-- what `==` says of two slices
pub same_told : (s t u : List ℕ) (r : Bool) → u ≡ t → r ≡ pointwise eqb s u → same s t ≡ r
same_told s t u r e h = rw (h, e) (sym (pointwise_is s t))

module _ (s : List ℕ) where
  pub int_false : same s (0x30 ∷ 0x30 ∷ []) ≡ true → got (truth_bits false) ≡ turned int_bits (int_literal s)
  unfolding int_literal turned int_bits
  int_false h = simp h

  module _ (n : same s (0x30 ∷ 0x30 ∷ []) ≡ false) where
    pub int_true : same s (0x30 ∷ 0x31 ∷ []) ≡ true → got (truth_bits true) ≡ turned int_bits (int_literal s)
    unfolding int_literal turned int_bits
    int_true h = simp (n, h)

    pub int_other : same s (0x30 ∷ 0x31 ∷ []) ≡ false → (m : Read ℕ) → m ≡ turned bits64 (parse_i64 s) → turned whole_bits m ≡ turned int_bits (int_literal s)
    unfolding int_literal turned int_bits
    int_other h m e = rw e (simp (n, h) (go (parse_i64 s)))
      where
        go : (x : Read _) → turned whole_bits (turned bits64 x) ≡ turned int_bits (turned whole x)
        go (got z) = refl
        go (refused why at) = refl

pub less_cut : (s : List ℕ) → get_or s (length s - 1) 0 ≡ 0x4C → take (length s - 1) s ≡ less_l s
unfolding less_l
less_cut s h = simp (eq-eqb _ _ h)

pub less_other : (s : List ℕ) → (1 ≤ length s → get_or s (length s - 1) 0 ≡ 0x4C → ⊥) → s ≡ less_l s
unfolding less_l
less_other [] h = refl
less_other (b ∷ s) h = simp (ne_eqb _ _ (h (omega arith)))
