-- The records left have the last text.
use Rattle.std.proofs.Common.{◌≡◌}
use Rattle.table.specs.Length.{last_end, text_length}
use Rattle.table.proofs.text_len.Given as goal

abbrev pub invariant-loop-i : goal.invariant-loop-i
invariant-loop-i l = last_end l.words l.i ≡ text_length l.words l.count
