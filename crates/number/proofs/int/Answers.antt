use Rattle.std.proofs.Common.{◌∙◌}
use Rattle.std.proofs.lemmas.Result.{err_from_is_err_and}
use Rattle.number.specs.Literal.{int_read}
use Rattle.number.specs.Number.{turned}
use Rattle.number.proofs.Literal.{same_told, int_false, int_true, int_other}
use Rattle.number.proofs.int.Goals as goal

pub returns-then-eq : goal.returns-then-eq
unfolding int_read
returns-then-eq c = int_false c.args.line.now (same_told _ _ _ _ c.as_slice.ensures c.eq.ensures ∙ c.if-eq.true)

pub returns-then-eq-2 : goal.returns-then-eq-2
unfolding int_read
returns-then-eq-2 c = int_true c.args.line.now (same_told _ _ _ _ c.as_slice.ensures c.eq.ensures ∙ c.if-eq.false) (same_told _ _ _ _ c.as_slice-2.ensures c.eq-2.ensures ∙ c.if-eq-2.true)

pub returns-in_err-parse_i64 : goal.returns-in_err-parse_i64
unfolding int_read turned
returns-in_err-parse_i64 c =
    let e = int_other c.args.line.now (same_told _ _ _ _ c.as_slice.ensures c.eq.ensures ∙ c.if-eq.false) (same_told _ _ _ _ c.as_slice-2.ensures c.eq-2.ensures ∙ c.if-eq-2.false) _ c.in_err-parse_i64.ensures in
    let p = err_from_is_err_and c.from_residual.result c.from_residual.ensures.1 in
    rw (p.1, p.2) e

pub returns : goal.returns
unfolding int_read turned
returns c = int_other c.args.line.now (same_told _ _ _ _ c.as_slice.ensures c.eq.ensures ∙ c.if-eq.false) (same_told _ _ _ _ c.as_slice-2.ensures c.eq-2.ensures ∙ c.if-eq-2.false) _ c.in_ok-parse_i64.ensures
