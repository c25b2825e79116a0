use Rattle.std.proofs.Common.{arith, get_or, ◌<◌}
use Rattle.lengths.specs.Sum.{adding_over, adding_more, adding_end}
use Rattle.lengths.proofs.add_up.Goals as goal

pub returns-in_default : goal.returns-in_default
returns-in_default c =
    let over : c.loop-n.left < get_or c.args.lengths.now c.loop-n.n-index 0 = omega (arith, c.in_default.ensures) in
    adding_over c.args.lengths.now c.args.total c.loop-n.left c.loop-n.n-index c.loop-n.invariant c.loop-n-test.true over

pub loop-n-preserved : goal.loop-n-preserved
loop-n-preserved c =
    let taken = c.in-Some.ensures in
    rw taken.1 (adding_more c.args.lengths.now c.args.total c.loop-n.left c.loop-n.n-index c.loop-n.invariant c.loop-n-test.true taken.0)

pub returns : goal.returns
returns c = adding_end c.args.lengths.now c.args.total c.loop-n.left c.loop-n.n-index c.loop-n.invariant c.loop-n-test.false
