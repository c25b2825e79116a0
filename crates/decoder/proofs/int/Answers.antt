-- INT.
use Rattle.std.proofs.Common.{◌∙◌, ap}
use Rattle.std.specs.Prelude.{Ok}
use Rattle.std.proofs.lemmas.Result.{err_from_is_err_and}
use Rattle.decoder.specs.ReadsPickle.{line_found, counts_behind, line_ends, line_bad, line-push, makes_bool, makes_i64}
use Rattle.steps.specs.Opcodes.{int, int_label}
use Rattle.number.specs.Number.{int_literal}
use Rattle.decoder.proofs.LawsPickle.{int_bool, int_whole, int_bad}
use Rattle.decoder.proofs.int.Goals as goal

pub returns-in_err-line : goal.returns-in_err-line
unfolding int
returns-in_err-line c = let p = err_from_is_err_and c.from_residual.result c.from_residual.ensures.1 in rw (p.1, p.2) (line_ends _ _ int_literal int_label c.in_err-line.ensures)

pub returns-in_err-b : goal.returns-in_err-b
unfolding int
returns-in_err-b c = let t = c.in_ok-line.ensures in let e = line_found t c.requires in let p = err_from_is_err_and c.from_residual-in_err-b.result c.from_residual-in_err-b.ensures.1 in rw (p.1, p.2) (line_bad _ _ int_literal int_label e t.line (int_bad _ _ c.int.ensures _ c.in_err-b.was))

pub returns-in-Bool : goal.returns-in-Bool
unfolding int
returns-in-Bool c = let t = c.in_ok-line.ensures in let e = line_found t c.requires in line-push _ _ int_literal int_label e t.line (int_bool _ _ c.int.ensures _ (c.in_ok-b.was ∙ ap Ok c.in-Bool.is)) (makes_bool _ _) (counts_behind c.args.c t)

pub returns-in-I64 : goal.returns-in-I64
unfolding int
returns-in-I64 c = let t = c.in_ok-line.ensures in let e = line_found t c.requires in line-push _ _ int_literal int_label e t.line (int_whole _ _ c.int.ensures _ (c.in_ok-b.was ∙ ap Ok c.in-I64.is)) (makes_i64 _ _) (counts_behind c.args.c t)
