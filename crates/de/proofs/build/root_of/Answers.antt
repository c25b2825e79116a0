-- By how the run ended.
use Rattle.std.proofs.Common.{refl, arith}
use Rattle.std.proofs.lemmas.Result.{err_from_is_err_and}
use Rattle.de.specs.Given.{refused_run, empty_run, valued_run}
use Rattle.de.proofs.build.root_of.Goals as goal

pub returns-in_err-outcome : goal.returns-in_err-outcome
returns-in_err-outcome c = let p = err_from_is_err_and c.from_residual.result c.from_residual.ensures.1 in rw (p.1, p.2) (refused_run _ _ _ c.in_err-outcome.was)

pub returns-then-values-eq0 : goal.returns-then-values-eq0
returns-then-values-eq0 c = empty_run _ _ _ c.in_ok-outcome.was c.if-values-eq0.true

pub returns : goal.returns
returns c = valued_run _ _ _ c.in_ok-outcome.was _ (omega (arith, c.if-values-eq0.false)) refl
