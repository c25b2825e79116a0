-- Of the values from a record on, the listing of those that are left is left to put. The levels fall with the depth, of which there are 64.
use Rattle.std.proofs.Common.{◌-◌}
use Rattle.list.proofs.Walk.{Going}
use Rattle.list.proofs.+put_values.Given as goal

abbrev pub decreases-put_values : goal.decreases-put_values
decreases-put_values l = 64 - l.depth

abbrev pub invariant-loop : goal.invariant-loop
invariant-loop l = Going l.words l.text l.from l.count l.depth l.fn.output l.at l.output l.i (l.count - l.counter) l.next
