-- DICT.
use Rattle.std.proofs.Common.{arith}
use Rattle.std.proofs.lemmas.Result.{err_from_is_err_and}
use Rattle.store.specs.Effects.{Decides, says_refused}
use Rattle.decoder.specs.Items.{TakesMark}
use Rattle.decoder.specs.StackSteps.{took_below, dict_underflow, dict_odd, dict_makes}
use Rattle.decoder.proofs.dict.Goals as goal

pub returns-in_err-m : goal.returns-in_err-m
unfolding Decides TakesMark
returns-in_err-m c = let p = err_from_is_err_and c.from_residual.result c.from_residual.ensures.1 in rw (p.1, p.2) (λ r s q. says_refused _ r _ _ (dict_underflow r _ s (c.in_err-m.ensures r s q)))

pub overflow_sub-c : goal.overflow_sub-c
overflow_sub-c c = let b = took_below _ _ _ c.in_ok-m.ensures c.requires in omega arith

pub returns-then-c-m-ne0 : goal.returns-then-c-m-ne0
unfolding Decides TakesMark
returns-then-c-m-ne0 c = λ r s q. says_refused _ r _ _ (dict_odd r _ s _ (c.in_ok-m.ensures r s q) c.if-c-m-ne0.true)

pub overflow_sub-result : goal.overflow_sub-result
overflow_sub-result c = let b = took_below _ _ _ c.in_ok-m.ensures c.requires in omega arith

pub returns : goal.returns
unfolding Decides TakesMark
returns c = λ r s q. dict_makes r _ s _ (c.in_ok-m.ensures r s q) c.if-c-m-ne0.false
