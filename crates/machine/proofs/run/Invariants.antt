-- The run: what is left of it is what there was.
use Rattle.std.proofs.Common.{◌-◌, length}
use Rattle.machine.specs.RoomsOf.{rooms_of, lent_of}
use Rattle.machine.specs.Ran.{Running, AsLong}
use Rattle.machine.proofs.run.Given as goal

abbrev pub invariant-loop-d : goal.invariant-loop-d
invariant-loop-d l =
    let r = rooms_of (lent_of l.fn.nodes l.fn.owners l.fn.children l.fn.stack l.fn.marks l.fn.keys l.fn.held) l.pickle l.nodes l.owners l.children l.stack l.marks l.keys l.held in
    Running l.edition l.pickle r l.c × AsLong r

abbrev pub decreases-loop-d : goal.decreases-loop-d
decreases-loop-d l = length l.pickle - l.c.at
