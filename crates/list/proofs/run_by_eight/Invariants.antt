-- The bytes before i are a run.
use Rattle.std.proofs.Common.{◌-◌}
use Rattle.list.specs.Verbatim.{VerbatimTo}
use Rattle.list.proofs.run_by_eight.Given as goal

abbrev pub invariant-loop-i : goal.invariant-loop-i
invariant-loop-i l = VerbatimTo l.text l.from l.end l.i

abbrev pub decreases-loop-i : goal.decreases-loop-i
decreases-loop-i l = l.end - l.i
