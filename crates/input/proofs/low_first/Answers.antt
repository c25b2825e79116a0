-- The value and one byte more are below 2 ^ 64.
use Rattle.std.proofs.Common.{◌-◌, arith}
use Rattle.input.proofs.Laws.{above-none, above_more, room}
use Rattle.input.proofs.low_first.Goals as goal

pub loop-i-init : goal.loop-i-init
loop-i-init c = above-none _ _ _

pub overflow_mul-value : goal.overflow_mul-value
overflow_mul-value c = omega (arith, room (c.args.width - c.loop-i.i) c.loop-i.value (omega arith) c.loop-i.invariant.small)

pub overflow_add-value : goal.overflow_add-value
overflow_add-value c = omega (arith, room (c.args.width - c.loop-i.i) c.loop-i.value (omega arith) c.loop-i.invariant.small)

pub loop-i-preserved : goal.loop-i-preserved
loop-i-preserved c = above_more _ _ _ _ _ _ (omega arith) (omega arith) (grind arith) c.loop-i.invariant
