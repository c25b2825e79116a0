-- `texts::spell_string` meets its contract. Assumes nothing.
use borrow.Author.Rules.{rules}
use Rattle.resolve.proofs.texts.spell_string.Statement.{statement}
use Rattle.resolve.proofs.texts.spell_string.Tie as tie
use Rattle.resolve.specs.Spell.{one_stands}

returns : tie.Need-returns
returns c = one_stands _ _ _ _ _ c.put_string-n.ensures c.decoded_measure.result c.decoded_measure.ensures

pub spell_string_spec : {M : Type 1} → statement M
spell_string_spec = tie.close (tie.spec (λ c κs. search rules) (λ c κs. search rules) (λ c. search rules) (λ c. search rules) returns)
