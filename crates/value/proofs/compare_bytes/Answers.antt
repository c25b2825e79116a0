use Rattle.std.proofs.Common.{◌∙◌, ap}
use Rattle.value.specs.Told.{told, told_texts}
use Rattle.value.proofs.compare_bytes.Goals as goal

pub returns : goal.returns
returns c = ap told c.cmp.ensures ∙ told_texts c.args.a.now c.args.b.now
