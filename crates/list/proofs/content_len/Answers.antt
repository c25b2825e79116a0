-- Kind by kind.
use Rattle.std.proofs.Common.{◌∙◌, ap, sym, arith, length}
use Rattle.output.specs.Decimal.{figures-length}
use Rattle.list.proofs.Record.{opened, text_fits, names_fit, content_one, content_int, content-float, content-text, content-count, content-global, content-flags, names_few}
use Rattle.list.proofs.content_len.Goals as goal

pub returns-in-0 : goal.returns-in-0
returns-in-0 c = content_one (opened c.requires.reads c.head_of.ensures) (omega arith)

pub returns-in-2 : goal.returns-in-2
returns-in-2 c = c.signed_len.ensures ∙ sym (ap length (content_int (opened c.requires.reads c.head_of.ensures) c.in-2.is))

pub returns-in-3 : goal.returns-in-3
returns-in-3 c = sym (ap length (content-float (opened c.requires.reads c.head_of.ensures) c.in-3.is) ∙ figures-length 16 16 _)

pub listed_len-requires-clause-count_in_bounds : goal.listed_len-requires-clause-count_in_bounds
listed_len-requires-clause-count_in_bounds c = text_fits (opened c.requires.reads c.head_of.ensures) (omega arith) (omega arith)

pub listed_len-requires-clause-text_len_bound : goal.listed_len-requires-clause-text_len_bound
listed_len-requires-clause-text_len_bound c =
    omega (arith, ap length (content-text (opened c.requires.reads c.head_of.ensures) (omega arith) (omega arith)), c.requires.len_bound)

pub returns-in-4 : goal.returns-in-4
returns-in-4 c =
    c.listed_len.ensures ∙ sym (ap length (content-text (opened c.requires.reads c.head_of.ensures) (omega arith) (omega arith)))

pub returns-in-6-to-10 : goal.returns-in-6-to-10
returns-in-6-to-10 c =
    c.digits.ensures ∙ sym (ap length (content-count (opened c.requires.reads c.head_of.ensures) (omega arith) (omega arith)))

pub listed_names_len-requires-clause-lengths_in_bounds : goal.listed_names_len-requires-clause-lengths_in_bounds
listed_names_len-requires-clause-lengths_in_bounds c = names_fit (opened c.requires.reads c.head_of.ensures) (omega arith)

pub listed_names_len-requires-clause-len_bound : goal.listed_names_len-requires-clause-len_bound
listed_names_len-requires-clause-len_bound c =
    omega (arith, names_few (opened c.requires.reads c.head_of.ensures) (omega arith), c.requires.len_bound)

pub returns-in-11 : goal.returns-in-11
returns-in-11 c = c.listed_names_len.ensures ∙ sym (ap length (content-global (opened c.requires.reads c.head_of.ensures) c.in-11.is))

pub listed_names_len-requires-in_default-clause-lengths_in_bounds : goal.listed_names_len-requires-in_default-clause-lengths_in_bounds
listed_names_len-requires-in_default-clause-lengths_in_bounds c =
    names_fit (opened c.requires.reads c.head_of.ensures) (omega arith)

pub listed_names_len-requires-in_default-clause-len_bound : goal.listed_names_len-requires-in_default-clause-len_bound
listed_names_len-requires-in_default-clause-len_bound c =
    omega (arith, names_few (opened c.requires.reads c.head_of.ensures) (omega arith), c.requires.len_bound)

pub overflow_add-result : goal.overflow_add-result
overflow_add-result c =
    omega (arith, content-flags (opened c.requires.reads c.head_of.ensures) (omega arith), c.listed_names_len-in_default.ensures, c.requires.len_bound)

pub returns-in_default : goal.returns-in_default
returns-in_default c =
    omega (arith, content-flags (opened c.requires.reads c.head_of.ensures) (omega arith), c.listed_names_len-in_default.ensures)
