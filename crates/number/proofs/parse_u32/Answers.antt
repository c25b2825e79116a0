use Rattle.std.proofs.Common.{ap, sym, ◌∙◌, leb, arith, leb-true}
use Rattle.std.proofs.lemmas.Result.{err_from_is_err_and}
use Rattle.number.specs.Number.{only, plus, in_u32, invalid}
use Rattle.number.specs.Range.{only_got}
use Rattle.number.proofs.Number.{only_same, below_u32}
use Rattle.number.proofs.Literal.{u32_text, u32_not}
use Rattle.number.proofs.parse_u32.Goals as goal

pub returns-then-not-valid : goal.returns-then-not-valid
unfolding invalid
returns-then-not-valid c = u32_not c.args.line.now (sym c.valid.ensures ∙ c.if-not-valid.true)

pub overflow_cast-result : goal.overflow_cast-result
overflow_cast-result c = omega (arith, leb-true c.in_ok-plus.field-0 0xFFFF_FFFF (only_got (λ n. leb n 0xFFFF_FFFF) _ c.in_ok-plus.field-0 c.in_ok-plus.ensures))

pub returns-in_err-plus : goal.returns-in_err-plus
returns-in_err-plus c =
    let e = c.in_err-plus.ensures ∙ only_same (λ n. leb n 0xFFFF_FFFF) in_u32 below_u32 _ ∙ ap (λ t. only in_u32 (plus t)) c.trim.ensures ∙ u32_text c.args.line.now (sym c.valid.ensures ∙ c.if-not-valid.false) in
    let p = err_from_is_err_and c.from_residual.result c.from_residual.ensures.1 in
    rw (p.1, p.2) e

pub returns : goal.returns
returns c = c.in_ok-plus.ensures ∙ only_same (λ n. leb n 0xFFFF_FFFF) in_u32 below_u32 _ ∙ ap (λ t. only in_u32 (plus t)) c.trim.ensures ∙ u32_text c.args.line.now (sym c.valid.ensures ∙ c.if-not-valid.false)
