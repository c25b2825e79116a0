-- APPEND.
use Rattle.store.specs.Effects.{Decides, says_refused}
use Rattle.decoder.specs.Items.{Adds}
use Rattle.decoder.specs.StackSteps.{append_underflow, append_adds}
use Rattle.decoder.proofs.append.Goals as goal

pub returns-then-c-eq0 : goal.returns-then-c-eq0
unfolding Decides
returns-then-c-eq0 c = λ r s q. says_refused _ r _ _ (append_underflow r _ s c.if-c-eq0.true)

pub returns : goal.returns
unfolding Decides Adds
returns c = λ r s q. rw (append_adds r _ s c.if-c-eq0.false) at (c.grown.ensures r s q.0 q.1)
