use Rattle.std.proofs.Common.{◌∙◌, ap}
use borrow.Author.Tests.{ne_eqb}
use Rattle.value.specs.Left.{new_object, new_other}
use Rattle.value.proofs.is_new.Goals as goal

pub returns-then-head-eq-KIND_OBJECT : goal.returns-then-head-eq-KIND_OBJECT
returns-then-head-eq-KIND_OBJECT c = new_object _ _ _ (ap (λ h. h.kind) c.head_of-head.ensures) _ (ap (λ h. h.new) c.head_of-head.ensures) c.if-head-eq-KIND_OBJECT.true

pub returns-else-head-eq-KIND_OBJECT : goal.returns-else-head-eq-KIND_OBJECT
returns-else-head-eq-KIND_OBJECT c = ne_eqb _ _ c.if-head-eq-KIND_OBJECT.false ∙ new_other _ _ _ (ap (λ h. h.kind) c.head_of-head.ensures) c.if-head-eq-KIND_OBJECT.false
