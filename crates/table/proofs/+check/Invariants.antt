-- Three for each level, and one more for `check`, two more for `contents`. The loop: what is left to check from here gives what
-- there was to check.
use Rattle.std.proofs.Common.{◌≡◌, ◌+◌, ◌*◌, ◌≤◌, length}
use Rattle.table.specs.Find.{find, find_many}
use Rattle.table.specs.Check.{checked_of}
use Rattle.table.proofs.+check.Given as goal

abbrev pub decreases-check : goal.decreases-check
decreases-check l = 3 * l.levels + 1

abbrev pub decreases-container : goal.decreases-container
decreases-container l = 3 * l.levels

abbrev pub decreases-contents : goal.decreases-contents
decreases-contents l = 3 * l.levels + 2

abbrev pub invariant-contents-loop : goal.invariant-contents-loop
invariant-contents-loop l = (l.j ≤ l.count) × (l.end ≤ length l.text) × (checked_of (find_many (find l.words l.count l.text l.levels) l.counter l.j l.end) ≡ checked_of (find_many (find l.words l.count l.text l.levels) l.m l.i l.at))
