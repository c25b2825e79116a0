-- A sheet, and what the lengths behind it come to.
use Rattle.std.proofs.Common.{arith}
use Rattle.lengths.specs.Sum.{sum_drop}
use Rattle.checking.proofs.show_plain.Goals as goal

pub split_at-requires : goal.split_at-requires
split_at-requires c = let e = sum_drop c.args.lengths.now c.loop-length.length-index c.loop-length-test.true in omega (arith, e, c.loop-length.invariant)

pub loop-length-preserved : goal.loop-length-preserved
loop-length-preserved c =
    let e = sum_drop c.args.lengths.now c.loop-length.length-index c.loop-length-test.true in
    omega (arith, e, c.loop-length.invariant, c.split_at.ensures.back_len)
