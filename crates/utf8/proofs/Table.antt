-- The code's tests of a first byte are Table 3-7: a computed test at each of the 256 bytes. Assumes nothing.
use Prim.Native.Nat.{ℕ, suc, zero, ◌<◌}
use native.Mathlib.Omega.{arith}
use native.Mathlib.Decide.{ℕ_discrete}
use mathlib.Core.Bool.{Bool, true, false, cond, ◌&&◌}
use mathlib.Core.List.{List, [], ◌∷◌}
use mathlib.Core.Path.{◌≡◌, refl}
use lib.Dec.{ltb, eqb}
use borrow.Author.Tests.{eqb-true}
use Rattle.utf8.specs.Utf8.{ByteRow, table37, in_column}
use Rattle.utf8.specs.Rows.{rows_after, and_left, and_right}
use Rattle.utf8.specs.Place.{second_of}

-- the columns after the second
abbrev pub more : ℕ × ℕ
more = (0x80, 0xBF)

-- what the tests of a first byte ask of the bytes after it, as rows
unfoldable pub lead : ℕ → List ByteRow
lead b =
    cond (ltb b 0x80) ([] ∷ [])
    (cond (ltb b 0xC2) []
    (cond (ltb 0xF4 b) []
    ((second_of b ∷ cond (ltb b 0xE0) [] (more ∷ cond (ltb b 0xF0) [] (more ∷ []))) ∷ [])))

module _ {A : Type 0} (q : A → A → Bool) (sound : (a b : A) → q a b ≡ true → a ≡ b) where
  unfoldable same : List A → List A → Bool
  same [] [] = true
  same [] (b ∷ y) = false
  same (a ∷ x) [] = false
  same (a ∷ x) (b ∷ y) = q a b && same x y

  same_sound : (x y : List A) → same x y ≡ true → x ≡ y
  unfolding same
  same_sound [] [] h = refl
  same_sound [] (b ∷ y) h = cc
  same_sound (a ∷ x) [] h = cc
  same_sound (a ∷ x) (b ∷ y) h = rw (sound a b (and_left (q a b) (same x y) h), same_sound x y (and_right (q a b) (same x y) h))

same_column : ℕ × ℕ → ℕ × ℕ → Bool
same_column e f = eqb e.0 f.0 && eqb e.1 f.1

column_sound : (e f : ℕ × ℕ) → same_column e f ≡ true → e ≡ f
unfolding same_column
column_sound e f h =
    let a = eqb-true e.0 f.0 (and_left _ (eqb e.1 f.1) h) in
    let b = eqb-true e.1 f.1 (and_right (eqb e.0 f.0) _ h) in
    λ i. (a i, b i)

-- a test at each number below n
unfoldable all : (ℕ → Bool) → ℕ → Bool
all p zero = true
all p (suc n) = p n && all p n

all_at : (p : ℕ → Bool) (n : ℕ) → all p n ≡ true → (b : ℕ) → b < n → p b ≡ true
unfolding all
all_at p zero h b l = let z : ◌≡◌ {A = ℕ} 0 1 = omega arith in cc
all_at p (suc n) h b l = elim (ℕ_discrete b n) [
  | yes e ↦ rw e (and_left (p n) (all p n) h)
  | no d ↦ all_at p n (and_right (p n) (all p n) h) b (omega arith)
]

same_rows : List ByteRow → List ByteRow → Bool
same_rows = same (same same_column column_sound) (same_sound same_column column_sound)

computed : all (λ b. same_rows (rows_after b table37) (lead b)) 256 ≡ true
unfolding all same same_column same_rows rows_after in_column lead second_of
computed = refl

pub table-lead : (b : ℕ) → b < 256 → rows_after b table37 ≡ lead b
unfolding same_rows
table-lead b l =
    same_sound (same same_column column_sound) (same_sound same_column column_sound) (rows_after b table37) (lead b)
    (all_at (λ (x : ℕ). same_rows (rows_after x table37) (lead x)) 256 computed b l)
