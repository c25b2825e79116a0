-- LONG.
use Rattle.std.proofs.lemmas.Result.{err_from_is_err_and}
use Rattle.decoder.specs.ReadsPickle.{line_found, counts_behind, line_ends, line_bad, line-push, makes_i64}
use Rattle.input.specs.Long.{bits64}
use Rattle.number.specs.Number.{long_literal}
use Rattle.value.specs.Value.{I64L}
use Rattle.steps.specs.Opcodes.{long}
use Rattle.decoder.proofs.LawsPickle.{long-whole, long_bad}
use Rattle.decoder.proofs.long.Goals as goal

pub returns-in_err-line : goal.returns-in_err-line
unfolding long
returns-in_err-line c = let p = err_from_is_err_and c.from_residual.result c.from_residual.ensures.1 in rw (p.1, p.2) (line_ends _ _ long_literal (λ z. I64L (bits64 z)) c.in_err-line.ensures)

pub returns-in_err-v : goal.returns-in_err-v
unfolding long
returns-in_err-v c = let t = c.in_ok-line.ensures in let e = line_found t c.requires in let p = err_from_is_err_and c.from_residual-in_err-v.result c.from_residual-in_err-v.ensures.1 in rw (p.1, p.2) (line_bad _ _ long_literal (λ z. I64L (bits64 z)) e t.line (long_bad _ _ c.long_text.ensures _ c.in_err-v.was))

pub returns : goal.returns
unfolding long
returns c = let t = c.in_ok-line.ensures in let e = line_found t c.requires in line-push _ _ long_literal (λ z. I64L (bits64 z)) e t.line (long-whole _ _ c.long_text.ensures _ c.in_ok-v.was) (makes_i64 _ _) (counts_behind c.args.c t)
