-- The text of the bytes from i on is left to put.
use Rattle.std.proofs.Common.{◌+◌, ◌-◌, ◌≤◌, take, drop}
use Rattle.output.specs.Put.{StillToPut}
use Rattle.list.specs.Listing.{listed_text}
use Rattle.list.proofs.Laws.{rest}
use Rattle.list.proofs.put_text.Given as goal

abbrev pub invariant-loop-i : goal.invariant-loop-i
invariant-loop-i l = record {
  inside : l.i ≤ l.from + l.count;
  left : StillToPut l.fn.output l.at (listed_text (take l.count (drop l.from l.text))) l.output l.next (rest l.text (l.from + l.count) l.i);
}

abbrev pub decreases-loop-i : goal.decreases-loop-i
decreases-loop-i l = l.from + l.count - l.i
