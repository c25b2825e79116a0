-- The mark of a state.
use Rattle.std.proofs.lemmas.Bool.{eq-eqb}
use borrow.Author.Tests.{ne_eqb}
use Rattle.value.specs.Shape.{state_in}
use Rattle.machine.proofs.effects.with_state.Goals as goal

pub returns-then-a-eq1 : goal.returns-then-a-eq1
unfolding state_in
returns-then-a-eq1 c = rw (eq-eqb _ 1 c.if-a-eq1.true)

pub returns : goal.returns
unfolding state_in
returns c = rw (ne_eqb _ 1 c.if-a-eq1.false)
