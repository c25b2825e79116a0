-- What is left of the total is due to the lengths that are left exactly if the total is due to all.
use Rattle.lengths.specs.Sum.{Adding}
use Rattle.lengths.proofs.add_up.Given as goal

abbrev pub invariant-loop-n : goal.invariant-loop-n
invariant-loop-n l = Adding l.lengths l.total l.left l.n-index
