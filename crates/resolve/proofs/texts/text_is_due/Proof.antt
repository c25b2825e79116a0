-- `texts::text_is_due` meets its contract. Assumes nothing.
use Rattle.resolve.proofs.texts.text_is_due.Statement.{statement}
use Rattle.resolve.proofs.texts.text_is_due.Tie as tie
use mathlib.Core.Path.{◌∙◌}
use Rattle.value.specs.Shape.{kind_in}
use Rattle.resolve.specs.TextsDue.{due_early, due_object, due_late, due_leaf}

returns : tie.Need-returns-then-measure-lt-DEPTHS
returns c = due_early c.args.first c.args.measure c.if-measure-lt-DEPTHS.true

returns-2 : tie.Need-returns-then-kind-eq-KIND_OBJECT
unfolding kind_in
returns-2 c = due_object c.args.first c.args.measure c.if-measure-lt-DEPTHS.false c.if-kind-eq-KIND_OBJECT.true

returns-3 : tie.Need-returns-then-measure-ge-AHEAD
unfolding kind_in
returns-3 c = due_late c.args.first c.args.measure c.if-measure-lt-DEPTHS.false c.if-kind-eq-KIND_OBJECT.false c.if-measure-ge-AHEAD.true

returns-4 : tie.Need-returns
unfolding kind_in
returns-4 c = c.kind_has_text.ensures ∙ due_leaf c.args.first c.args.measure c.if-measure-lt-DEPTHS.false c.if-kind-eq-KIND_OBJECT.false c.if-measure-ge-AHEAD.false

pub text_is_due_spec : {M : Type 1} → statement M
text_is_due_spec = tie.close (tie.spec returns returns-2 returns-3 (λ c κs. tt) returns-4)
