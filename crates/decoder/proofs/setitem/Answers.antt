-- SETITEM.
use Rattle.store.specs.Effects.{Decides, says_refused}
use Rattle.decoder.specs.Items.{Adds}
use Rattle.decoder.specs.StackSteps.{setitem_underflow, setitem_adds}
use Rattle.decoder.proofs.setitem.Goals as goal

pub returns-then-c-lt2 : goal.returns-then-c-lt2
unfolding Decides
returns-then-c-lt2 c = λ r s q. says_refused _ r _ _ (setitem_underflow r _ s c.if-c-lt2.true)

pub returns : goal.returns
unfolding Decides Adds
returns c = λ r s q. rw (setitem_adds r _ s c.if-c-lt2.false) at (c.grown.ensures r s q.0 q.1)
