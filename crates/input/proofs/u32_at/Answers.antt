use Rattle.std.proofs.Common.{ap, ◌∙◌}
use Rattle.input.specs.Bytes.{low_first}
use Rattle.input.proofs.Laws.{low_four, chunk_is, chunk_length}
use Rattle.input.proofs.u32_at.Goals as goal

pub returns : goal.returns
returns c =
    let h = rw c.unwrap.ensures at c.first_chunk.ensures.cases in
    c.from_le_bytes.ensures
    ∙ low_four _ (chunk_length c.args.pickle.now c.args.at 4 _ c.requires h.same)
    ∙ ap low_first (chunk_is c.args.pickle.now c.args.at 4 _ c.requires h.same)
