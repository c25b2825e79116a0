use Rattle.std.proofs.Common.{◌≡◌, ◌≤◌, ◌-◌, ap, ◌∙◌, length, get_or, arith}
use Rattle.input.specs.Long.{bits64}
use Rattle.number.specs.Number.{turned, parse_i64, long_literal}
use Rattle.number.proofs.Literal.{less_cut, less_other}
use Rattle.number.proofs.long_text.Goals as goal
use Rattle.number.proofs.long_text.Goals.{in_default-via-then-line-lt1, in_default-via-in-len1-up+else-last-eq76}

pub returns-in-len1-up : goal.returns-in-len1-up
unfolding long_literal
returns-in-len1-up c = c.parse_i64.ensures ∙ ap (λ l. turned bits64 (parse_i64 l)) (less_cut c.args.line.now c.if-last-eq76.true)

pub returns-in_default : goal.returns-in_default
unfolding long_literal
returns-in_default c =
    let no : 1 ≤ length c.args.line.now → get_or c.args.line.now (length c.args.line.now - 1) 0 ≡ 76 → ⊥ =
    λ l e. elim c.in_default.branch [ in_default-via-then-line-lt1 w ↦ grind arith | in_default-via-in-len1-up+else-last-eq76 w ↦ w.if-last-eq76.false e ] in
    c.parse_i64-in_default.ensures ∙ ap (λ l. turned bits64 (parse_i64 l)) (less_other c.args.line.now no)
