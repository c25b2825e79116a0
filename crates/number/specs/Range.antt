-- The range of what is read, and of its bits. Assumes nothing.
use Rattle.std.specs.Prelude.{◌^◌, ◌<◌, ◌-◌, Bool, true, false, cond, ◌≡◌, refl, ℤ, pos, negsuc}
use Rattle.std.proofs.Math.Bool.{and-true}
use Rattle.std.proofs.Common.{arith, ltb-true, leb-true, SFits}
use Rattle.std.specs.Int.{w64}
use Rattle.refusal.specs.Read.{Read, got, refused}
use Rattle.number.specs.Number.{invalid, only}
use Rattle.input.specs.Long.{in_i64, bits64}

-- what is read under a test passes it
pub only_got : {A : Type 0} (p : A → Bool) (x : Read A) (a : A) → got a ≡ only p x → p a ≡ true
unfolding only invalid
only_got p (got b) a e = go (p b) refl e
  where
    go : (t : Bool) → p b ≡ t → got a ≡ cond t (got b) invalid → p a ≡ true
    go true h q = let z : a ≡ b = cc in rw z h
    go false h q = cc
only_got p (refused why at) a e = cc

fits : (z : ℤ) → in_i64 z ≡ true → SFits w64 z
unfolding in_i64
fits (pos n) h = record { sfits = ltb-true n (2 ^ 63) h }
fits (negsuc n) h = let k = leb-true n (2 ^ 63 - 1) (rw and-true at h) in record { sfits = omega arith }

pub bits64_fits : (z : ℤ) → in_i64 z ≡ true → bits64 z < 2 ^ 64
unfolding bits64 in_i64
bits64_fits (pos n) h = omega (arith, ltb-true n (2 ^ 63) h)
bits64_fits (negsuc n) h = omega arith
