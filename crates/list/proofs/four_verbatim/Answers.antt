-- Where the tests hold together, each does.
use Rattle.std.proofs.Common.{◌+◌, arith}
use Rattle.list.proofs.Laws.{verbatim_one, both}
use Rattle.list.proofs.four_verbatim.Goals as goal

pub returns : goal.returns
returns c =
    let t = c.args.text.now in
    let i = c.args.i in
    both t i 3 1
    (both t i 2 1
    (both t i 1 1
    (verbatim_one t i (omega arith) c.verbatim.ensures)
    (verbatim_one t (i + 1) (omega arith) c.verbatim-2.ensures))
    (verbatim_one t (i + 2) (omega arith) c.verbatim-3.ensures))
    (verbatim_one t (i + 3) (omega arith) c.verbatim-4.ensures)
