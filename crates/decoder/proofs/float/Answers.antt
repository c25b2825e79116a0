-- FLOAT.
use Rattle.std.proofs.lemmas.Result.{err_from_is_err_and}
use Rattle.decoder.specs.ReadsPickle.{line_found, counts_behind, line_ends, line_bad, line-push, makes_f64}
use Rattle.float.specs.Literal.{parse_f64}
use Rattle.value.specs.Value.{F64L}
use Rattle.steps.specs.Opcodes.{float}
use Rattle.decoder.proofs.LawsPickle.{float-bits, float_bad}
use Rattle.decoder.proofs.float.Goals as goal

pub returns-in_err-line : goal.returns-in_err-line
unfolding float
returns-in_err-line c = let p = err_from_is_err_and c.from_residual.result c.from_residual.ensures.1 in rw (p.1, p.2) (line_ends _ _ parse_f64 F64L c.in_err-line.ensures)

pub returns-in_err-v : goal.returns-in_err-v
unfolding float
returns-in_err-v c = let t = c.in_ok-line.ensures in let e = line_found t c.requires in let p = err_from_is_err_and c.from_residual-in_err-v.result c.from_residual-in_err-v.ensures.1 in rw (p.1, p.2) (line_bad _ _ parse_f64 F64L e t.line (float_bad _ _ c.parse_f64.ensures _ c.in_err-v.was))

pub returns : goal.returns
unfolding float
returns c = let t = c.in_ok-line.ensures in let e = line_found t c.requires in line-push _ _ parse_f64 F64L e t.line (float-bits _ _ c.parse_f64.ensures _ c.in_ok-v.was) (makes_f64 _ _) (counts_behind c.args.c t)
