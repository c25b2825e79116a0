-- An Object has its class's names, and any other container no text.
use Rattle.std.proofs.Common.{arith}
use Rattle.steps.specs.NodeWords.{first}
use Rattle.emit.specs.Leaves.{texts_other}
use Rattle.emit.proofs.put_class.Goals as goal

pub put_names-requires : goal.put_names-requires
unfolding first
put_names-requires c = record { text_ready = c.requires.text_ready; kind_bound = omega (arith, c.value_kind.ensures, c.if-value_kind-eq-KIND_OBJECT.true) }

pub returns : goal.returns
unfolding first
returns c = texts_other _ _ _ _ _ _ _ c.requires.text_ready c.value_kind.result c.value_kind.ensures (rw c.value_kind.ensures c.requires.is_container) c.if-value_kind-eq-KIND_OBJECT.false
