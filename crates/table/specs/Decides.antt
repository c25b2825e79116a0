-- An answer that decides a statement.
use Rattle.std.specs.Prelude.{Bool, true, false, ◌≡◌, ℕ}
use Rattle.std.proofs.Common.{arith}

-- yes exactly where it holds
pub record YesIff (r : Bool) (P : Type 0) : Type 0 where
  pub yes : r ≡ true → P
  pub always : P → r ≡ true

pub refuted : {r : Bool} {P : Type 0} → YesIff r P → r ≡ false → P → ⊥
refuted d e p = let x = d.always p in let z : ◌≡◌ {A = ℕ} 0 1 = cc in omega arith
