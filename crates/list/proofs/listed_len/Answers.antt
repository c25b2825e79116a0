-- A run, and the bytes behind it.
use Rattle.std.proofs.Common.{ap, arith, length}
use Rattle.list.proofs.Laws.{run_length, rest_all}
use Rattle.list.proofs.listed_len.Goals as goal

pub each_len-requires : goal.each_len-requires
each_len-requires c =
    omega (arith, run_length c.run_by_eight-stop.ensures c.requires.count_in_bounds, ap length (rest_all c.args.text.now c.args.from c.args.count), c.requires.text_len_bound)

pub overflow_add-result : goal.overflow_add-result
overflow_add-result c =
    omega (arith, run_length c.run_by_eight-stop.ensures c.requires.count_in_bounds, ap length (rest_all c.args.text.now c.args.from c.args.count), c.requires.text_len_bound, c.each_len.ensures)

pub returns : goal.returns
returns c =
    omega (arith, run_length c.run_by_eight-stop.ensures c.requires.count_in_bounds, ap length (rest_all c.args.text.now c.args.from c.args.count), c.each_len.ensures)
