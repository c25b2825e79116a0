-- A test for each kind with text.
use Rattle.std.proofs.Common.{arith}
use Rattle.value.specs.Shape.{kind_in}
use Rattle.resolve.specs.Moved.{has_text_place}
use Rattle.std.proofs.lemmas.Grind.{common_steps}
use Rattle.emit.proofs.is_placed.Goals as goal

pub returns-then-kind-eq-KIND_STRING : goal.returns-then-kind-eq-KIND_STRING
unfolding has_text_place kind_in
returns-then-kind-eq-KIND_STRING c = grind (arith, common_steps)

pub returns-else-kind-eq-KIND_STRING : goal.returns-else-kind-eq-KIND_STRING
unfolding has_text_place kind_in
returns-else-kind-eq-KIND_STRING c = grind (arith, common_steps)
