-- Where the tests hold together, each does.
use Rattle.list.proofs.Laws.{both}
use Rattle.list.proofs.eight_verbatim.Goals as goal

pub returns : goal.returns
returns c = both c.args.text.now c.args.i 4 4 c.four_verbatim.ensures c.four_verbatim-2.ensures
