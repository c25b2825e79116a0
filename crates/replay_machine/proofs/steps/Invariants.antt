-- The rooms stay sound, and as long as they were lent.
use Rattle.std.proofs.Common.{◌-◌, length}
use Rattle.store.specs.Effects.{Sound}
use Rattle.machine.specs.RoomsOf.{rooms_of, lent_of}
use Rattle.machine.specs.Ran.{AsLong}
use Rattle.replay_machine.proofs.steps.Given as goal

abbrev pub invariant-loop-d : goal.invariant-loop-d
invariant-loop-d l =
    let r = rooms_of (lent_of l.fn.nodes l.fn.owners l.fn.children l.fn.stack l.fn.marks l.fn.keys l.fn.held) l.pickle l.nodes l.owners l.children l.stack l.marks l.keys l.held in
    Sound r l.c × AsLong r

abbrev pub decreases-loop-d : goal.decreases-loop-d
decreases-loop-d l = length l.pickle - l.c.at
