-- The value is the number of the bytes from i on.
use Rattle.input.proofs.Laws.{Above}
use Rattle.input.proofs.low_first.Given as goal

abbrev pub invariant-loop-i : goal.invariant-loop-i
invariant-loop-i l = Above l.width l.fill l.bytes l.i l.value
