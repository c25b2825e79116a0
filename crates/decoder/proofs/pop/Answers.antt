-- POP.
use Rattle.store.specs.Effects.{Decides, says_refused}
use Rattle.decoder.specs.StackSteps.{pop_underflow, pop_goes}
use Rattle.decoder.proofs.pop.Goals as goal

pub returns-then-c-eq0 : goal.returns-then-c-eq0
unfolding Decides
returns-then-c-eq0 c = λ r s q. says_refused _ r _ _ (pop_underflow r _ s c.if-c-eq0.true)

pub returns : goal.returns
unfolding Decides
returns c = λ r s q. pop_goes r _ s c.if-c-eq0.false
