-- The greatest power of ten in the number says how many digits it has.
use Rattle.std.proofs.Common.{arith}
use Rattle.output.proofs.Laws.{counted}
use Rattle.output.proofs.digits.Goals as goal

pub returns : goal.returns
returns c = let e = c.checked_ilog10.ensures in rw c.unwrap_or.ensures (counted c.checked_ilog10.result c.args.n e.none e.power_le e.next_power_gt (omega arith))
