-- The first newline from i on is the first from `from` on.
use Rattle.std.proofs.Common.{◌≡◌, ◌-◌, length}
use Rattle.input.specs.Line.{newline_of}
use Rattle.input.proofs.newline.Given as goal

abbrev pub invariant-loop-i : goal.invariant-loop-i
invariant-loop-i l = newline_of l.pickle l.i ≡ newline_of l.pickle l.from

abbrev pub decreases-loop-i : goal.decreases-loop-i
decreases-loop-i l = length l.pickle - l.i
