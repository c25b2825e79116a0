-- The two tests are the rule on the bytes of RULES A7.4.
use Rattle.std.proofs.Common.{true, false, refl, sym, ◌∙◌, rules}
use Rattle.input.proofs.Laws.{long_is}
use Rattle.input.proofs.long.Goals as goal

pub returns-then-not-repeats : goal.returns-then-not-repeats
returns-then-not-repeats c = long_is c.args.bytes.now (λ i. search rules) c.fill_of-fill.result _ false _ c.fill_of-fill.ensures (sym c.if-not-repeats.true ∙ c.repeats.ensures) refl refl

pub returns-then-value-fill : goal.returns-then-value-fill
returns-then-value-fill c = long_is c.args.bytes.now (λ i. search rules) c.fill_of-fill.result _ true true c.fill_of-fill.ensures (sym c.if-not-repeats.false ∙ c.repeats.ensures) c.low_first-value.ensures.0 c.if-value-fill.true

pub returns-else-value-fill : goal.returns-else-value-fill
returns-else-value-fill c = long_is c.args.bytes.now (λ i. search rules) c.fill_of-fill.result _ true false c.fill_of-fill.ensures (sym c.if-not-repeats.false ∙ c.repeats.ensures) c.low_first-value.ensures.0 c.if-value-fill.false
