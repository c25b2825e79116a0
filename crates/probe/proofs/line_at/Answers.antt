use Rattle.std.proofs.Common.{sym, arith}
use Rattle.input.specs.Line.{newline_first}
use Rattle.probe.proofs.line_at.Goals as goal

pub line-requires : goal.line-requires
line-requires c = let f = newline_first _ _ _ (sym c.in_ok-end.ensures) in (f.low, f.inside)

pub overflow_add-result : goal.overflow_add-result
overflow_add-result c = let f = newline_first _ _ _ (sym c.in_ok-end.ensures) in omega (arith, f.inside)
