use Rattle.std.proofs.Common.{arith}
use Rattle.list.proofs.Record.{names-length}
use Rattle.list.proofs.listed_names_len.Goals as goal

pub listed_len-requires-clause-text_len_bound : goal.listed_len-requires-clause-text_len_bound
listed_len-requires-clause-text_len_bound c = omega (arith, names-length c.args.text.now c.args.from c.args.lengths, c.requires.len_bound)

pub overflow_add-result : goal.overflow_add-result
overflow_add-result c = omega (arith, names-length c.args.text.now c.args.from c.args.lengths, c.requires.len_bound, c.listed_len.ensures)

pub listed_len-requires-2-clause-text_len_bound : goal.listed_len-requires-2-clause-text_len_bound
listed_len-requires-2-clause-text_len_bound c = omega (arith, names-length c.args.text.now c.args.from c.args.lengths, c.requires.len_bound)

pub overflow_add-result-2 : goal.overflow_add-result-2
overflow_add-result-2 c = omega (arith, names-length c.args.text.now c.args.from c.args.lengths, c.requires.len_bound, c.listed_len.ensures, c.listed_len-2.ensures)

pub returns : goal.returns
returns c = omega (arith, names-length c.args.text.now c.args.from c.args.lengths, c.listed_len.ensures, c.listed_len-2.ensures)
