-- The first n numbers of a list zero, the others as they were.
use Rattle.std.specs.Prelude.{ℕ, ◌≡◌, drop, replicate}
use mathlib.Core.List.{List, ◌++◌}
use Rattle.std.proofs.Math.Path.{refl}
use Rattle.std.proofs.Common.{arith}
use Rattle.std.specs.Int.Bits.{bit_or, or_add_and}
use Rattle.std.proofs.lemmas.Nat.{and_le_l, and_le_r}

unfoldable pub cleared : ℕ → List ℕ → List ℕ
cleared n l = replicate n 0 ++ drop n l

-- ---- what a room of numbers of any width needs

-- n times z, then the rest of a list
abbrev pub begun_by : {A : Type 0} → A → ℕ → List A → List A
begun_by z n l = replicate n z ++ drop n l

pub cleared_begins : (n : ℕ) (l : List ℕ) → cleared n l ≡ begun_by 0 n l
unfolding cleared
cleared_begins n l = refl

pub or_is_zero : (a b r : ℕ) → r ≡ bit_or a b → r ≡ 0 → (a ≡ 0) × (b ≡ 0)
or_is_zero a b r e z = let s = or_add_and a b in (omega (arith, s, and_le_r a b), omega (arith, s, and_le_l a b))
