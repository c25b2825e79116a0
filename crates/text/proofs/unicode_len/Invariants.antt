-- The bytes counted so far, and those of the line that is left, are those of the whole.
use Rattle.std.proofs.Common.{◌≡◌, ◌-◌, ◌*◌, ◌≤◌, length, drop}
use Rattle.utf8.specs.Utf8.{encode}
use Rattle.text.specs.Escapes.{unicode_head}
use Rattle.text.specs.Pieces.{texts, length_of}
use Rattle.text.specs.Text.{unescape_unicode}
use Rattle.text.proofs.Loops.{more}
use Rattle.text.proofs.unicode_len.Given as goal

abbrev pub invariant-loop-i : goal.invariant-loop-i
invariant-loop-i l = record {
  left : more l.n (texts unicode_head encode 0 l.i (drop l.i l.line)) ≡ length_of (unescape_unicode l.line);
  inside : l.i ≤ length l.line;
  few : l.n ≤ 2 * l.i;
}

abbrev pub decreases-loop-i : goal.decreases-loop-i
decreases-loop-i l = length l.line - l.i
