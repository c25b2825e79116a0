use Rattle.std.proofs.Common.{ap, ◌∙◌, reverse}
use Rattle.number.specs.Space.{trim_end}
use Rattle.number.proofs.Space.{end_less, end_more, end_stop}
use Rattle.number.proofs.trim_end.Goals as goal

pub loop-rest-smaller : goal.loop-rest-smaller
loop-rest-smaller c = end_less _ _ c.in-Some.ensures

pub loop-rest-preserved : goal.loop-rest-preserved
loop-rest-preserved c = end_more _ _ c.in-Some.ensures ∙ c.loop-rest.invariant

pub returns : goal.returns
unfolding trim_end
returns c = end_stop _ c.in_default.ensures ∙ ap reverse c.loop-rest.invariant
