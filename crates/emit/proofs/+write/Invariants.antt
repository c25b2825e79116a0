-- Each call has a level less. Whatever nodes and graph the rooms show, the children that are passed are written.
use Rattle.emit.specs.Turns.{OpenWithText, WrittenChildren}
use Rattle.emit.proofs.+write.Given as goal

abbrev pub decreases-write : goal.decreases-write
decreases-write l = l.levels

abbrev pub invariant-loop-j : goal.invariant-loop-j
invariant-loop-j l =
    (E : OpenWithText l.pickle l.decoded l.nodes l.starts l.sorted l.log l.levels l.node.0 l.to l.fn.measures l.fn.table l.initial.text)
    → WrittenChildren E.walk.ready.t E.walk.ready.h E.walk.ready.v l.node.0 l.to l.range.at l.fn.measures l.fn.table l.initial.text l.next l.j l.measures l.table l.text
