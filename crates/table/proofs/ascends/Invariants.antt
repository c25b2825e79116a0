-- What is left decides for all.
use Rattle.table.specs.Items.{Rest}
use Rattle.table.proofs.ascends.Given as goal

abbrev pub invariant-loop-left : goal.invariant-loop-left
invariant-loop-left l = Rest l.words l.text l.i l.m l.entry l.p l.left

abbrev pub decreases-loop-left : goal.decreases-loop-left
decreases-loop-left l = l.left
