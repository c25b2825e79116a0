use Rattle.std.proofs.Common.{rules}
use Rattle.resolve.specs.DecodedMeasure.{measure_of}
use Rattle.resolve.proofs.texts.decoded_measure.Goals as goal

pub returns : goal.returns
unfolding measure_of
returns c = search rules
