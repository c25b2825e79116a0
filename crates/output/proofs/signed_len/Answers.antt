use Rattle.std.proofs.Common.{◌∙◌, ap, sym, arith, length}
use Rattle.output.specs.Decimal.{decimal-short}
use Rattle.output.proofs.Laws.{signed_low, signed_high}
use Rattle.output.proofs.signed_len.Goals as goal

pub overflow_add-result : goal.overflow_add-result
overflow_add-result c = omega (arith, c.digits-else-bits.ensures, decimal-short c.wrapping_neg.result)

pub returns-then-bits : goal.returns-then-bits
returns-then-bits c = c.digits.ensures ∙ sym (ap length (signed_low c.args.bits c.if-bits.true))

pub returns-else-bits : goal.returns-else-bits
returns-else-bits c = omega (arith, c.digits-else-bits.ensures, ap length (signed_high c.args.bits c.wrapping_neg.result c.if-bits.false (omega arith) (omega arith) c.wrapping_neg.ensures))
