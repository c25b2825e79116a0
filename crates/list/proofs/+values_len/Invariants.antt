-- Of the values from a record on, what the lines of those that are left take is left to count. The levels fall with the depth, of which there
-- are 64.
use Rattle.std.proofs.Common.{◌-◌}
use Rattle.list.proofs.Walk.{Measuring}
use Rattle.list.proofs.+values_len.Given as goal

abbrev pub decreases-values_len : goal.decreases-values_len
decreases-values_len l = 64 - l.depth

abbrev pub invariant-loop : goal.invariant-loop
invariant-loop l = Measuring l.words l.text l.from l.count l.depth l.at l.i (l.count - l.counter) l.next
