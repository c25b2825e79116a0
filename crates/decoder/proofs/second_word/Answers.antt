-- A node's second word.
use Rattle.std.proofs.Common.{◌*◌, add-one}
use Rattle.steps.specs.NodeWords.{second}
use Rattle.decoder.proofs.second_word.Goals as goal

pub returns : goal.returns
unfolding second
returns c = rw (add-one (2 * c.args.id.0))
