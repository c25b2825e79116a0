-- The modules decide, or the names do.
use Rattle.std.proofs.Common.{◌∙◌, ap₂, rules}
use Rattle.value.specs.Order.{lex}
use Rattle.value.specs.Told.{told_then_with}
use Rattle.value.proofs.compare_names.Goals as goal

pub returns : goal.returns
returns c = told_then_with _ _ _ _ _ c.then_with.ensures (c.compare_bytes.ensures ∙ ap₂ lex c.names.ensures.module c.names-2.ensures.module) (λ p. search rules)
