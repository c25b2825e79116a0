-- The value so far, followed by the digits that are left, is what the whole is.
use Rattle.std.proofs.Common.{◌≡◌, ◌+◌, ◌-◌, ◌<◌, ◌≤◌, ◌^◌, length, drop}
use Rattle.text.specs.Escapes.{octals, octal_from}
use Rattle.text.proofs.octal_escape.Given as goal

abbrev pub invariant-loop-more : goal.invariant-loop-more
invariant-loop-more l = record {
  value : octal_from l.value (octals (3 - l.more) (drop l.more l.text)) ≡ octal_from 0 (octals 3 l.text);
  count : l.more + length (octals (3 - l.more) (drop l.more l.text)) ≡ length (octals 3 l.text);
  small : l.value < 8 ^ l.more;
  few : l.more ≤ 3;
  inside : l.more ≤ length l.text;
}

abbrev pub decreases-loop-more : goal.decreases-loop-more
decreases-loop-more l = 3 - l.more
