-- No node has a kind.
use borrow.Author.Tests.{ne_eqb}
use Rattle.value.specs.Shape.{kind_in}
use Rattle.steps.specs.NodeWords.{first}
use Rattle.emit.specs.Leaves.{kind_below}
use Rattle.emit.proofs.is_below.Goals as goal

pub returns-then-i-eq-NOWHERE : goal.returns-then-i-eq-NOWHERE
unfolding kind_below
returns-then-i-eq-NOWHERE c = rw c.if-i-eq-NOWHERE.true

pub returns : goal.returns
unfolding kind_below first kind_in
returns c = rw (ne_eqb _ 4096 c.if-i-eq-NOWHERE.false)
