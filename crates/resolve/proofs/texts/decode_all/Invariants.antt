-- What it is to say of all nodes, it says of those passed.
use Rattle.resolve.specs.TextsDue.{Decodes}
use Rattle.resolve.proofs.texts.decode_all.Given as goal

abbrev pub invariant-loop-i : goal.invariant-loop-i
invariant-loop-i l = Decodes l.pickle l.nodes l.fn.decoded l.fn.measures l.i l.decoded l.measures l.used
