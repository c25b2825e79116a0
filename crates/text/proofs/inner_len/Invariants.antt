-- The bytes counted so far, and those of the text that is left, are those of the whole.
use Rattle.std.proofs.Common.{◌≡◌, ◌+◌, ◌-◌, ◌≤◌, length, drop}
use Rattle.text.specs.Escapes.{string_head}
use Rattle.text.specs.Pieces.{texts, length_of}
use Rattle.text.specs.Text.{byte_itself}
use Rattle.text.proofs.Loops.{more}
use Rattle.text.proofs.inner_len.Given as goal

abbrev pub invariant-loop-i : goal.invariant-loop-i
invariant-loop-i l = record {
  left : more l.n (texts string_head byte_itself 0 (l.i + 1) (drop l.i l.text)) ≡ length_of (texts string_head byte_itself 0 1 l.text);
  inside : l.i ≤ length l.text;
  few : l.n ≤ l.i;
}

abbrev pub decreases-loop-i : goal.decreases-loop-i
decreases-loop-i l = length l.text - l.i
