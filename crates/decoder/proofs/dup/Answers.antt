-- DUP.
use Rattle.store.specs.Effects.{Decides, says_refused}
use Rattle.decoder.specs.StackSteps.{dup_underflow, dup_lent}
use Rattle.decoder.proofs.dup.Goals as goal

pub returns-then-c-eq0 : goal.returns-then-c-eq0
unfolding Decides
returns-then-c-eq0 c = λ r s q. says_refused _ r _ _ (dup_underflow r _ s c.if-c-eq0.true)

pub returns : goal.returns
unfolding Decides
returns c = λ r s q. dup_lent _ _ r s q c.if-c-eq0.false
