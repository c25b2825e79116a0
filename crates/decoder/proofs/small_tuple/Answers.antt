-- TUPLE1 to TUPLE3.
use Rattle.store.specs.Effects.{Decides, says_refused}
use Rattle.decoder.specs.StackSteps.{tuple_n_underflow, tuple_n_makes}
use Rattle.decoder.proofs.small_tuple.Goals as goal

pub returns-then-c-n : goal.returns-then-c-n
unfolding Decides
returns-then-c-n c = λ r s q. says_refused _ r _ _ (tuple_n_underflow r _ s _ c.if-c-n.true)

pub returns : goal.returns
unfolding Decides
returns c = λ r s q. tuple_n_makes r _ s _ c.if-c-n.false
