-- The last mark, if the stack reaches it.
use Rattle.decoder.specs.Items.{TakesMark}
use Rattle.decoder.specs.StackSteps.{took_none, took_above, took_from}
use Rattle.decoder.proofs.above_mark.Goals as goal

pub returns-then-c-eq0 : goal.returns-then-c-eq0
unfolding TakesMark
returns-then-c-eq0 c = λ r s q. took_none _ _ r s q c.if-c-eq0.true

pub returns-then-c-m : goal.returns-then-c-m
unfolding TakesMark
returns-then-c-m c = λ r s q. took_above _ _ r s q c.if-c-eq0.false c.if-c-m.true

pub returns : goal.returns
unfolding TakesMark
returns c = λ r s q. took_from _ _ r s q c.if-c-eq0.false c.if-c-m.false
