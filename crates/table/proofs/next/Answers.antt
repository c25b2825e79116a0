use Rattle.std.proofs.Common.{eq-eqb}
use borrow.Author.Tests.{ne_eqb}
use Rattle.table.specs.Items.{next_at}
use Rattle.table.proofs.next.Goals as goal

pub returns-then-entry-eq1 : goal.returns-then-entry-eq1
unfolding next_at
returns-then-entry-eq1 c = rw (eq-eqb _ _ c.if-entry-eq1.true) c.after-behind.ensures

pub returns-else-entry-eq1 : goal.returns-else-entry-eq1
unfolding next_at
returns-else-entry-eq1 c = rw (ne_eqb _ _ c.if-entry-eq1.false, ← c.after-behind.ensures) c.after.ensures
