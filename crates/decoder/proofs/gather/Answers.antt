-- LIST and TUPLE.
use Rattle.std.proofs.Common.{arith}
use Rattle.std.proofs.lemmas.Result.{err_from_is_err_and}
use Rattle.store.specs.Effects.{Decides, says_refused}
use Rattle.decoder.specs.Items.{TakesMark}
use Rattle.decoder.specs.StackSteps.{took_below, gathered_underflow, gathered_makes}
use Rattle.decoder.proofs.gather.Goals as goal

pub returns-in_err-m : goal.returns-in_err-m
unfolding Decides TakesMark
returns-in_err-m c = let p = err_from_is_err_and c.from_residual.result c.from_residual.ensures.1 in rw (p.1, p.2) (λ r s q. says_refused _ r _ _ (gathered_underflow r _ s _ (c.in_err-m.ensures r s q)))

pub overflow_sub-result : goal.overflow_sub-result
overflow_sub-result c = let b = took_below _ _ _ c.in_ok-m.ensures c.requires.0 in omega arith

pub returns : goal.returns
unfolding Decides TakesMark
returns c = λ r s q. gathered_makes r _ s _ _ c.requires.1 (c.in_ok-m.ensures r s q)
