use Rattle.std.proofs.Common.{ap, ◌∙◌}
use Rattle.input.specs.Bytes.{high_first}
use Rattle.input.proofs.Laws.{high_eight, chunk_is, chunk_length}
use Rattle.input.proofs.f64_at.Goals as goal

pub returns : goal.returns
returns c =
    let h = rw c.unwrap.ensures at c.first_chunk.ensures.cases in
    c.from_be_bytes.ensures
    ∙ high_eight _ (chunk_length c.args.pickle.now c.args.at 8 _ c.requires h.same)
    ∙ ap high_first (chunk_is c.args.pickle.now c.args.at 8 _ c.requires h.same)
