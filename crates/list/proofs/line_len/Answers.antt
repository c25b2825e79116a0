-- Depth, kind and content.
use Rattle.std.proofs.Common.{ap, arith, length}
use Rattle.list.proofs.Record.{opened, line-length}
use Rattle.list.proofs.line_len.Goals as goal

pub overflow_add-result : goal.overflow_add-result
overflow_add-result c =
    omega (arith, line-length (opened c.requires.reads c.head_of-head.ensures) c.args.depth, c.digits.ensures, ap length c.kind_name.ensures, c.requires.len_bound)

pub content_len-requires-clause-len_bound : goal.content_len-requires-clause-len_bound
content_len-requires-clause-len_bound c =
    omega (arith, line-length (opened c.requires.reads c.head_of-head.ensures) c.args.depth, c.requires.len_bound)

pub overflow_add-result-2 : goal.overflow_add-result-2
overflow_add-result-2 c =
    omega (arith, line-length (opened c.requires.reads c.head_of-head.ensures) c.args.depth, c.digits.ensures, ap length c.kind_name.ensures, c.content_len.ensures, c.requires.len_bound)

pub overflow_add-result-3 : goal.overflow_add-result-3
overflow_add-result-3 c =
    omega (arith, line-length (opened c.requires.reads c.head_of-head.ensures) c.args.depth, c.digits.ensures, ap length c.kind_name.ensures, c.content_len.ensures, c.requires.len_bound)

pub returns : goal.returns
returns c =
    omega (arith, line-length (opened c.requires.reads c.head_of-head.ensures) c.args.depth, c.digits.ensures, ap length c.kind_name.ensures, c.content_len.ensures)
