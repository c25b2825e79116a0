-- The order of the ranks.
use Rattle.std.proofs.Common.{◌∙◌, ap}
use Rattle.value.specs.Told.{told, told_floats}
use Rattle.value.proofs.compare_floats.Goals as goal

pub returns : goal.returns
returns c = ap told (rw (c.float_rank.ensures, c.float_rank-2.ensures) at c.cmp.ensures) ∙ told_floats c.args.x c.args.y c.ranges.x.fits c.ranges.y.fits
