use Rattle.std.proofs.Common.{arith}
use Rattle.table.specs.Length.{end_of}
use Rattle.table.proofs.text_end.Goals as goal

pub returns : goal.returns
unfolding end_of
returns c = omega (arith, c.span.ensures, c.saturating_add.ensures)
