use Rattle.std.proofs.Common.{◌∙◌}
use Rattle.number.specs.Space.{trim_start}
use Rattle.number.proofs.Space.{start_less, start_more, start_stop}
use Rattle.number.proofs.trim_start.Goals as goal

pub loop-rest-smaller : goal.loop-rest-smaller
loop-rest-smaller c = start_less _ _ c.in-Some.ensures

pub loop-rest-preserved : goal.loop-rest-preserved
loop-rest-preserved c = start_more _ _ c.in-Some.ensures ∙ c.loop-rest.invariant

pub returns : goal.returns
unfolding trim_start
returns c = start_stop _ c.in_default.ensures ∙ c.loop-rest.invariant
