-- BUILD.
use Rattle.std.proofs.Common.{refl, sym, ◌∙◌, arith}
use Rattle.store.specs.Effects.{Decides}
use Rattle.decoder.proofs.LawsCalls.{lent_two, says-build-short, says_no_object, says-build}
use Rattle.decoder.proofs.build_state.Goals as goal

pub returns-then-c-lt2 : goal.returns-then-c-lt2
unfolding Decides
returns-then-c-lt2 c = λ r s q. says-build-short r _ s _ _ q.0 q.1 c.if-c-lt2.true

pub kind-requires : goal.kind-requires
kind-requires c = let t = lent_two _ _ _ c.requires (omega arith) in omega arith

pub returns-then-kind-ne-KIND_OBJECT : goal.returns-then-kind-ne-KIND_OBJECT
unfolding Decides
returns-then-kind-ne-KIND_OBJECT c = λ r s q. says_no_object r _ s _ _ q.0 q.1 (omega arith) (λ e. c.if-kind-ne-KIND_OBJECT.true (c.kind.ensures ∙ e))

pub returns : goal.returns
unfolding Decides
returns c = λ r s q. says-build r _ s _ _ q.0 q.1 (omega arith) _ _ _ refl refl (sym c.kind.ensures ∙ c.if-kind-ne-KIND_OBJECT.false) refl
