-- `texts::spell_names` meets its contract. Assumes nothing.
use borrow.Author.Rules.{rules}
use Rattle.resolve.proofs.texts.spell_names.Statement.{statement}
use Rattle.resolve.proofs.texts.spell_names.Tie as tie
use mathlib.Core.Path.{sym, ◌∙◌}
use Rattle.resolve.specs.Spell.{stands, two_stand, names_stay}

returns : tie.Need-returns-then-valid-2
returns c = names_stay c.args.lead.now c.args.measure c.args.used c.args.decoded.now (sym c.valid.ensures ∙ c.if-valid.true) c.args.trail.now (sym c.valid-then-valid.ensures ∙ c.if-valid-2.true)

returns-2 : tie.Need-returns
returns-2 c = stands (two_stand _ _ _ _ _ c.put_repaired-m.ensures _ _ _ c.put_repaired-n.ensures c.decoded_measure.result c.decoded_measure.ensures)

pub spell_names_spec : {M : Type 1} → statement M
spell_names_spec = tie.close (tie.spec (λ c κs. search rules) (λ c κs. search rules) returns (λ c κs. search rules) (λ c. search rules) (λ c κs. search rules) (λ c κs. search rules) (λ c. search rules) (λ c. search rules) (λ c. search rules) returns-2)
