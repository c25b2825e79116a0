-- POP_MARK.
use Rattle.std.proofs.Common.{arith}
use Rattle.std.proofs.lemmas.Result.{err_from_is_err_and}
use Rattle.store.specs.Effects.{Decides, says_refused}
use Rattle.decoder.specs.Items.{TakesMark}
use Rattle.decoder.specs.StackSteps.{took_below, pop_mark_underflow, pop_mark-goes}
use Rattle.decoder.proofs.pop_mark.Goals as goal

pub returns-in_err-m : goal.returns-in_err-m
unfolding Decides TakesMark
returns-in_err-m c = let p = err_from_is_err_and c.from_residual.result c.from_residual.ensures.1 in rw (p.1, p.2) (λ r s q. says_refused _ r _ _ (pop_mark_underflow r _ s (c.in_err-m.ensures r s q)))

pub overflow_sub-result : goal.overflow_sub-result
overflow_sub-result c = let b = took_below _ _ _ c.in_ok-m.ensures c.requires in omega arith

pub returns : goal.returns
unfolding Decides TakesMark
returns c = λ r s q. pop_mark-goes r _ s _ (c.in_ok-m.ensures r s q)
