-- The bytes written so far, and those of the text that is left, are those of the whole.
use Rattle.std.proofs.Common.{◌+◌, ◌-◌, ◌≤◌, length, drop}
use Rattle.text.specs.Escapes.{string_head}
use Rattle.text.specs.Pieces.{texts}
use Rattle.text.specs.Text.{byte_itself}
use Rattle.text.proofs.Loops.{Writing}
use Rattle.text.proofs.write_inner.Given as goal

abbrev pub invariant-loop-i : goal.invariant-loop-i
invariant-loop-i l = record {
  left : Writing (texts string_head byte_itself 0 1 l.text) (texts string_head byte_itself 0 (l.i + 1) (drop l.i l.text)) l.fn.out l.out l.n;
  inside : l.i ≤ length l.text;
}

abbrev pub decreases-loop-i : goal.decreases-loop-i
decreases-loop-i l = length l.text - l.i
