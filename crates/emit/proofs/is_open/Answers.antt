-- No node, a container by its measure, or a leaf.
use Rattle.std.proofs.Common.{sym, ◌∙◌}
use borrow.Author.Tests.{ne_eqb}
use Rattle.steps.specs.NodeWords.{first}
use Rattle.emit.specs.Leaves.{opened}
use Rattle.emit.proofs.is_open.Goals as goal

pub returns-then-i-eq-NOWHERE : goal.returns-then-i-eq-NOWHERE
unfolding opened first
returns-then-i-eq-NOWHERE c = rw c.if-i-eq-NOWHERE.true

pub returns-then-is_container : goal.returns-then-is_container
unfolding opened first
returns-then-is_container c =
    let b = rw c.value_kind.ensures at (sym c.is_container.ensures ∙ c.if-is_container.true) in
    rw (ne_eqb _ 4096 c.if-i-eq-NOWHERE.false, b)

pub returns : goal.returns
unfolding opened first
returns c =
    let b = rw c.value_kind.ensures at (sym c.is_container.ensures ∙ c.if-is_container.false) in
    rw (ne_eqb _ 4096 c.if-i-eq-NOWHERE.false, b)
