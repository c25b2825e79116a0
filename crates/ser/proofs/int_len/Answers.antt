use Rattle.std.proofs.Common.{arith}
use Rattle.output.specs.Decimal.{signed-short}
use Rattle.ser.proofs.int_len.Goals as goal

pub overflow_add-result : goal.overflow_add-result
overflow_add-result c = omega (arith, c.signed_len.ensures, signed-short c.args.bits)
