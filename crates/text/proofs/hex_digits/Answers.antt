use Rattle.std.proofs.Common.{arith, lit<}
use Rattle.text.proofs.Digits.{grown}
use Rattle.text.proofs.hex_digits.Goals as goal

pub overflow_mul-value : goal.overflow_mul-value
overflow_mul-value c = omega (arith, grown 16 c.loop-c.c-index 8 {d = 0} (lit< tt) (omega arith) c.loop-c.invariant.small (lit< tt))

pub overflow_add-value : goal.overflow_add-value
overflow_add-value c =
    let d = c.in_ok-value.ensures in
    omega (arith, grown 16 c.loop-c.c-index 8 {d = c.in_ok-value.field-0} (lit< tt) (omega arith) c.loop-c.invariant.small (omega (arith, d)))
