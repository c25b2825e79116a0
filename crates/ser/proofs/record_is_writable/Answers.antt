-- By the kind.
use Rattle.std.proofs.Common.{ap, ◌∙◌, le-leb}
use Rattle.value.specs.declared.Head.{Head}
use Rattle.value.specs.Labels.{names_inside}
use Rattle.ser.proofs.Record.{names-writable, no_names}
use Rattle.ser.proofs.record_is_writable.Goals as goal

pub names_are_writable-requires : goal.names_are_writable-requires
names_are_writable-requires c =
    names_inside c.args.words.now c.args.text.now c.args.i _ c.requires (ap (λ (x : Head). x.kind) c.head_of.ensures) c.if-head_of-le-KIND_DICT.false

pub returns-then-head_of-le-KIND_DICT : goal.returns-then-head_of-le-KIND_DICT
returns-then-head_of-le-KIND_DICT c =
    rw (le-leb c.head_of.result.kind 10 c.if-head_of-le-KIND_DICT.true) (no_names c.requires c.head_of.ensures c.if-head_of-le-KIND_DICT.true)

pub returns-else-head_of-le-KIND_DICT : goal.returns-else-head_of-le-KIND_DICT
returns-else-head_of-le-KIND_DICT c = c.names_are_writable.ensures ∙ names-writable c.requires c.head_of.ensures c.if-head_of-le-KIND_DICT.false
