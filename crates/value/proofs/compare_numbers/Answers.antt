use Rattle.std.proofs.Common.{◌∙◌, ap}
use Rattle.value.specs.Told.{told, told_numbers}
use Rattle.value.proofs.compare_numbers.Goals as goal

pub returns : goal.returns
returns c = ap told c.cmp.ensures ∙ told_numbers c.args.x c.args.y
