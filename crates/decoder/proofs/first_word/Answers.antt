-- A node's first word.
use Rattle.std.proofs.Common.{refl}
use Rattle.steps.specs.NodeWords.{first}
use Rattle.decoder.proofs.first_word.Goals as goal

pub returns : goal.returns
unfolding first
returns c = refl
