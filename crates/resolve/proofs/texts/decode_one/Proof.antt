-- `texts::decode_one` meets its contract. Assumes nothing.
use borrow.Author.Rules.{rules}
use Rattle.resolve.proofs.texts.decode_one.Statement.{statement}
use Rattle.resolve.proofs.texts.decode_one.Tie as tie
use mathlib.Core.Path.{◌≡◌, refl, sym, ◌∙◌}
use lib.ListN.{get_or}
use Rattle.steps.specs.NodeWords.{first}
use Rattle.resolve.specs.TextsDue.{text_due, due_word, due_text_lem, passed, spelled}

-- ---- the places: the test of the node's first word, and what it tells

abbrev start : tie.After-text_is_due → tie.Start
start c = c.before.before.before.before.before.before.before

due : (c : tie.After-text_is_due) → let a = (start c).args in c.text_is_due.result ≡ text_due a.pickle.now a.nodes.now a.node.0 (get_or a.measures.now a.node.0 0)
unfolding first
due c = c.text_is_due.ensures ∙ due_word _ _ _ _

-- ---- the needs

spell-node-requires : tie.Need-spell_node-spelling-requires
spell-node-requires c κs =
    let e = sym (due c.before.before) ∙ c.if-text_is_due.true in
    let t = (start c.before.before).requires in
    record { words = t.words; class = t.class; text = due_text_lem _ _ _ _ e; fits = t.fits e }

returns : tie.Need-returns-then-text_is_due
returns c = spelled (sym (due c.before.before.before.before.before) ∙ c.if-text_is_due.true) c.spell_node-spelling.result c.spell_node-spelling.ensures refl refl

returns-2 : tie.Need-returns
returns-2 c = passed (sym (due c.before) ∙ c.if-text_is_due.false) refl refl refl

pub decode_one_spec : {M : Type 1} → statement M
decode_one_spec = tie.close (tie.spec (λ c. search rules) (λ c. search rules) (λ c. search rules) (λ c. search rules) (λ c. search rules) (λ c κs. tt) spell-node-requires (λ c. search rules) (λ c. search rules) (λ c. search rules) (λ c. search rules) returns returns-2)
