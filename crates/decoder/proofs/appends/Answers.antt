-- APPENDS.
use Rattle.std.proofs.Common.{refl, arith}
use Rattle.std.proofs.lemmas.Result.{err_from_is_err_and}
use Rattle.store.specs.Effects.{Decides, says_refused}
use Rattle.decoder.specs.Items.{TakesMark, Adds, lists}
use Rattle.decoder.specs.StackSteps.{some-less, took_below, appends_underflow, appends_adds}
use Rattle.decoder.proofs.appends.Goals as goal

pub above_mark-requires : goal.above_mark-requires
above_mark-requires c = some-less (λ r q. q.2) c.requires

pub returns-in_err-m : goal.returns-in_err-m
unfolding Decides TakesMark
returns-in_err-m c = let p = err_from_is_err_and c.from_residual.result c.from_residual.ensures.1 in rw (p.1, p.2) (λ r s q. says_refused _ r _ _ (appends_underflow r _ s (c.in_err-m.ensures r s q.2)))

pub overflow_sub-c : goal.overflow_sub-c
overflow_sub-c c = let b = took_below _ _ _ c.in_ok-m.ensures (some-less (λ r q. q.2) c.requires) in omega arith

pub grown-requires-clause-some_rooms : goal.grown-requires-clause-some_rooms
grown-requires-clause-some_rooms c = some-less (λ r q. (q.0, q.1)) c.requires

pub grown-requires-clause-within_stack : goal.grown-requires-clause-within_stack
grown-requires-clause-within_stack c = let b = took_below _ _ _ c.in_ok-m.ensures (some-less (λ r q. q.2) c.requires) in (b.0, omega arith, lists refl)

pub returns : goal.returns
unfolding Decides Adds TakesMark
returns c = λ r s q. rw (appends_adds r _ s _ (c.in_ok-m.ensures r s q.2)) at (c.grown.ensures r s q.0 q.1)
