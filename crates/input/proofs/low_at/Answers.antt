-- The bytes at the place are as many as the width.
use Rattle.std.proofs.Common.{ap, ◌∙◌}
use Rattle.input.specs.Bytes.{low_first}
use Rattle.input.proofs.Laws.{part_filled}
use Rattle.input.proofs.low_at.Goals as goal

pub returns : goal.returns
returns c = (c.low_first.ensures.0 ∙ ap low_first (part_filled c.args.width c.args.pickle.now c.args.at 0 c.requires.0), c.low_first.ensures.1)
