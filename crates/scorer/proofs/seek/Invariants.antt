-- What is sought is among the entries that are left.
use Rattle.std.proofs.Common.{◌≡◌, ◌+◌, ◌-◌}
use Rattle.value.specs.Value.{Forest, count}
use Rattle.scorer.specs.Sheet.{under}
use Rattle.scorer.specs.Place.{Lies}
use Rattle.scorer.specs.Steps.{Seeking}
use Rattle.scorer.proofs.seek.Given as goal

abbrev pub invariant-loop : goal.invariant-loop
invariant-loop l = (f : Forest) → Lies l.words l.text 1 f → count f ≡ l.entries + l.entries → Seeking l.words l.text l.name l.i (l.entries - l.counter) (under l.name f)
