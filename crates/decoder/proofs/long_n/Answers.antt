-- LONG1, LONG4: what was read, as an effect.
use Rattle.std.proofs.Common.{refl}
use Rattle.std.proofs.lemmas.Result.{err_from_is_err_and}
use Rattle.decoder.specs.ReadsPickle.{long-none, long-push}
use Rattle.decoder.proofs.long_n.Goals as goal

pub returns-in_err-at : goal.returns-in_err-at
returns-in_err-at c = λ n p h. let e = err_from_is_err_and c.from_residual.result c.from_residual.ensures.1 in rw (e.1, e.2) (long-none _ _ n p h _ c.in_err-at.was)

pub returns : goal.returns
returns c = λ n p h. long-push _ _ n p h _ _ c.in_ok-at.was _ refl
