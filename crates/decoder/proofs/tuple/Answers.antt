-- TUPLE.
use Rattle.std.proofs.Common.{refl}
use Rattle.value.specs.Shape.{kind_in}
use Rattle.steps.specs.Opcodes.{tuple}
use Rattle.steps.specs.NodeWords.{node_is, a_tuple}
use Rattle.decoder.specs.Items.{gathered}
use Rattle.decoder.proofs.tuple.Goals as goal

pub gather-requires : goal.gather-requires
unfolding kind_in
gather-requires c = (c.requires, a_tuple refl)

pub returns : goal.returns
unfolding tuple gathered node_is kind_in
returns c = c.gather.ensures
