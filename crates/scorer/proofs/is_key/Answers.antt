use Rattle.std.proofs.Common.{◌∙◌, ap}
use Rattle.std.proofs.Math.Dec.{eqb}
use lib.Pointwise.{pointwise}
use Rattle.scorer.specs.Steps.{not_key, key_inside, key_by_lem, same_texts}
use Rattle.scorer.proofs.is_key.Goals as goal

pub returns-then-head_of-ne-KIND_BYTES : goal.returns-then-head_of-ne-KIND_BYTES
returns-then-head_of-ne-KIND_BYTES c = not_key c.args.words.now c.args.i c.head_of.result c.head_of.ensures c.args.text.now c.requires c.args.name.now c.if-head_of-ne-KIND_BYTES.true

pub part-requires : goal.part-requires
part-requires c = key_inside c.args.words.now c.args.i c.head_of.result c.head_of.ensures c.args.text.now c.requires c.args.name.now c.if-head_of-ne-KIND_BYTES.false

pub returns : goal.returns
returns c =
    let args = c.args in
    c.eq.ensures ∙ ap (pointwise eqb args.name.now) c.part.ensures ∙ same_texts args.name.now _ ∙ key_by_lem args.words.now args.i c.head_of.result c.head_of.ensures args.text.now c.requires args.name.now c.if-head_of-ne-KIND_BYTES.false
