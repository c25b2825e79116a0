use Rattle.resolve.specs.MeasureWord.{pack_w}
use Rattle.std.proofs.Common.{rules}
use Rattle.resolve.proofs.measure_word.Goals as goal

pub returns : goal.returns
unfolding pack_w
returns c = search rules
