-- The bytes written so far, and those of the line that is left, are those of the whole.
use Rattle.std.proofs.Common.{◌-◌, ◌≤◌, length, drop}
use Rattle.utf8.specs.Utf8.{encode}
use Rattle.text.specs.Escapes.{unicode_head}
use Rattle.text.specs.Pieces.{texts}
use Rattle.text.specs.Text.{unescape_unicode}
use Rattle.text.proofs.Loops.{Writing}
use Rattle.text.proofs.unescape_unicode.Given as goal

abbrev pub invariant-loop-i : goal.invariant-loop-i
invariant-loop-i l = record {
  left : Writing (unescape_unicode l.line) (texts unicode_head encode 0 l.i (drop l.i l.line)) l.fn.out l.out l.n;
  inside : l.i ≤ length l.line;
}

abbrev pub decreases-loop-i : goal.decreases-loop-i
decreases-loop-i l = length l.line - l.i
