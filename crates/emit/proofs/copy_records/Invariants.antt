-- After k turns k records are copied.
use Rattle.emit.specs.Copies.{Copying}
use Rattle.emit.proofs.copy_records.Given as goal

abbrev pub invariant-loop-k : goal.invariant-loop-k
invariant-loop-k l = Copying l.fn.table l.from l.size l.at l.origin l.target l.k l.table
