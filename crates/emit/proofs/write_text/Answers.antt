-- Bytes or a String: the text that leads, and its record.
use Rattle.std.proofs.Common.{◌∙◌, refl, arith}
use Rattle.steps.specs.NodeWords.{first}
use Rattle.resolve.specs.Kinds.{kind-small}
use Rattle.emit.specs.Leaves.{text_room, text-leaf}
use Rattle.emit.proofs.write_text.Goals as goal

pub put_bytes-requires : goal.put_bytes-requires
put_bytes-requires c = text_room c.requires.leaf_ready c.requires.kind_bound _ c.lead_part-bytes.ensures

pub plain_word-word-requires : goal.plain_word-word-requires
unfolding first
plain_word-word-requires c = rw c.value_kind.ensures (omega (arith, kind-small (first c.args.nodes.now c.args.node.0)))

pub returns : goal.returns
unfolding first
returns c =
    let k = c.plain_word-word.ensures ∙ c.value_kind.ensures in
    text-leaf c.requires.leaf_ready c.requires.kind_bound _ c.lead_part-bytes.ensures _ _ _ c.put_bytes.ensures (rw k at c.put_record.ensures) refl
