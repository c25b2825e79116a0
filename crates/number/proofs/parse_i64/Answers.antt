use Rattle.std.proofs.Common.{ap, sym, ◌∙◌}
use Rattle.input.specs.Long.{bits64, in_i64}
use Rattle.number.specs.Number.{turned, only, integer, invalid}
use Rattle.number.proofs.Literal.{i64_text, i64_not}
use Rattle.number.proofs.parse_i64.Goals as goal

pub returns-then-not-valid : goal.returns-then-not-valid
unfolding invalid
returns-then-not-valid c = i64_not c.args.line.now (sym c.valid.ensures ∙ c.if-not-valid.true)

pub returns : goal.returns
returns c = c.integer.ensures ∙ ap (λ t. turned bits64 (only in_i64 (integer t))) c.trim.ensures ∙ ap (turned bits64) (i64_text c.args.line.now (sym c.valid.ensures ∙ c.if-not-valid.false))
