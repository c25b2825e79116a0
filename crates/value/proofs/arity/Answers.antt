-- Each arm by the law of its kinds.
use Rattle.std.proofs.Common.{◌≡◌, ◌∙◌, ap, arith, add-zero}
use Rattle.value.specs.Value.{bit}
use Rattle.value.specs.Shape.{arity_items, arity_object, arity_none, arity_other}
use Rattle.value.specs.Stands.{arity_at}
use Rattle.value.specs.Left.{dict_arity}
use Rattle.value.proofs.arity.Goals as goal

pub overflow_add-result : goal.overflow_add-result
overflow_add-result c = omega (arith, dict_arity c.args.words.now c.args.i _ (ap (λ h. h.kind) c.head_of-head.ensures) c.in-10.is)

pub returns-in-10 : goal.returns-in-10
returns-in-10 c = dict_arity c.args.words.now c.args.i _ (ap (λ h. h.kind) c.head_of-head.ensures) c.in-10.is

pub returns-in-12 : goal.returns-in-12
unfolding arity_at
returns-in-12 c =
    let e : c.from.result ≡ bit c.head_of-head.result.state = c.from.ensures in
    rw add-zero (arity_object _ _ _ (ap (λ h. h.kind) c.head_of-head.ensures) c.in-12.is _ (e ∙ ap (λ h. bit h.state) c.head_of-head.ensures))

pub returns-in-6-to-9 : goal.returns-in-6-to-9
unfolding arity_at
returns-in-6-to-9 c = rw add-zero (arity_items _ _ _ (ap (λ h. h.kind) c.head_of-head.ensures) (omega arith) (omega arith))

pub returns-in_default : goal.returns-in_default
unfolding arity_at
returns-in_default c = rw add-zero (arity_none _ _ _ (ap (λ h. h.kind) c.head_of-head.ensures) (omega arith))

pub returns-in_default-2 : goal.returns-in_default-2
unfolding arity_at
returns-in_default-2 c = rw add-zero (arity_other _ _ _ (ap (λ h. h.kind) c.head_of-head.ensures) (omega arith) (omega arith))
