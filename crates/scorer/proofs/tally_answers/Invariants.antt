-- What is left of the walk decides for all of it.
use Rattle.std.proofs.Common.{◌≡◌, ℕ, List, ◌+◌, ◌-◌, ◌*◌, ◌≤◌, length}
use Rattle.value.specs.Value.{Forest, count}
use Rattle.scorer.specs.Walk.{tally_walk}
use Rattle.scorer.specs.Place.{Lies}
use Rattle.scorer.specs.Steps.{TallySoFar}
use Rattle.scorer.proofs.tally_answers.Given as goal

abbrev pub invariant-loop : goal.invariant-loop
invariant-loop l =
    ((t : List ℕ) (f g : Forest) → Lies l.words t l.from f → count f ≡ l.entries + l.entries → Lies l.words t l.first g → count g ≡ l.items
    → TallySoFar l.words t l.max l.flipped l.entries l.i (l.entries - l.counter) l.j l.rest l.score (tally_walk l.max l.flipped l.entries 0 f g))
    × (l.score ≤ 100 * l.counter)
    × (l.j ≤ length l.words)
