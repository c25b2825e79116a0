-- The line to the first newline.
use Rattle.std.proofs.Common.{sym, refl, arith}
use Rattle.std.proofs.lemmas.Result.{err_from_is_err_and}
use Rattle.input.specs.Line.{newline_first}
use Rattle.decoder.specs.ReadsPickle.{no_line}
use Rattle.decoder.proofs.line_at.Goals as goal

pub line-requires : goal.line-requires
line-requires c = let f = newline_first _ _ _ (sym c.in_ok-end.ensures) in (f.low, f.inside)

pub overflow_add-result : goal.overflow_add-result
overflow_add-result c = let f = newline_first _ _ _ (sym c.in_ok-end.ensures) in omega (arith, f.inside)

pub returns-in_err-end : goal.returns-in_err-end
returns-in_err-end c = let p = err_from_is_err_and c.from_residual.result c.from_residual.ensures.1 in rw (p.1, p.2) (no_line _ _ (sym c.in_err-end.ensures))

pub returns : goal.returns
returns c = record { end = c.in_ok-end.end; found = sym c.in_ok-end.ensures; line = c.line.ensures; behind = refl }
