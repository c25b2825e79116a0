-- Below the cap's tenth a digit more stays below the cap.
use Rattle.std.proofs.Common.{arith, sym}
use native.Mathlib.Nat.{min-eq_left}
use Rattle.float.proofs.Scans.{digit_low, digit-high}
use Rattle.float.proofs.append.Goals as goal

pub overflow_sub-result : goal.overflow_sub-result
overflow_sub-result c = digit_low _ c.requires

pub returns-then-value-lt1000000000000000000 : goal.returns-then-value-lt1000000000000000000
returns-then-value-lt1000000000000000000 c = sym (min-eq_left (omega (arith, digit-high _ c.requires)))
