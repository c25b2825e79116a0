use Rattle.std.proofs.Common.{sym, ◌∙◌}
use Rattle.float.proofs.Values.{float_named, float_number}
use Rattle.float.proofs.float_text.Goals as goal

pub returns-then-is_named : goal.returns-then-is_named
returns-then-is_named c = float_named c.args.text.now _ c.split_sign-negative.ensures.1 (sym c.is_named.ensures ∙ c.if-is_named.true)

pub returns : goal.returns
returns c = c.number_of.ensures ∙ float_number c.args.text.now _ _ c.split_sign-negative.ensures.1 (sym c.is_named.ensures ∙ c.if-is_named.false) c.split_sign-negative.ensures.0
