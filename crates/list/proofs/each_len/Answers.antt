use Rattle.std.proofs.Common.{ap, arith, length}
use Rattle.list.proofs.Laws.{length_drop, drop-none}
use Rattle.list.proofs.each_len.Goals as goal

pub overflow_add-sum : goal.overflow_add-sum
overflow_add-sum c =
    omega (arith, length_drop c.args.text.now c.loop-byte.byte-index 0 c.loop-byte-test.true, c.loop-byte.invariant, c.byte_len-sum.ensures)

pub loop-byte-preserved : goal.loop-byte-preserved
loop-byte-preserved c =
    omega (arith, length_drop c.args.text.now c.loop-byte.byte-index 0 c.loop-byte-test.true, c.loop-byte.invariant, c.byte_len-sum.ensures)

pub returns : goal.returns
returns c = omega (arith, ap length (drop-none c.args.text.now c.loop-byte.byte-index c.loop-byte-test.false), c.loop-byte.invariant)
