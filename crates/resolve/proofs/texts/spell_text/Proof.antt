-- `texts::spell_text` meets its contract. Assumes nothing.
use borrow.Author.Rules.{rules}
use Rattle.resolve.proofs.texts.spell_text.Statement.{statement}
use Rattle.resolve.proofs.texts.spell_text.Tie as tie
use mathlib.Core.Path.{sym, ◌∙◌}
use Rattle.resolve.specs.Spell.{stands, one_stands, text_stays}

returns : tie.Need-returns-then-valid
returns c = text_stays c.args.bytes.now c.args.measure c.args.used c.args.decoded.now (sym c.valid.ensures ∙ c.if-valid.true)

returns-2 : tie.Need-returns
returns-2 c = stands (one_stands _ _ _ _ _ c.put_repaired-n.ensures c.decoded_measure.result c.decoded_measure.ensures)

pub spell_text_spec : {M : Type 1} → statement M
spell_text_spec = tie.close (tie.spec (λ c κs. search rules) returns (λ c κs. search rules) (λ c κs. search rules) (λ c. search rules) (λ c. search rules) returns-2)
