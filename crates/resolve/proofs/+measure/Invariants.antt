-- Each call has a level less. The loop: whatever state of a walk the rooms held where it begins, they are in the midst of its turns now.
use Rattle.std.proofs.Common.{◌+◌, ◌-◌, ◌*◌, ◌≤◌}
use Rattle.resolve.specs.Loop.{LoopBegins, Midway}
use Rattle.resolve.proofs.+measure.Given as goal

abbrev pub decreases-measure : goal.decreases-measure
decreases-measure l = l.levels

abbrev pub invariant-loop-i : goal.invariant-loop-i
invariant-loop-i l = record {
  few : l.values ≤ 1 + 4096 * l.i;
  short : l.texts ≤ 131072 * (l.i + 1);
  shallow : l.deepest ≤ 127;
  midway : (I : LoopBegins l.pickle l.nodes l.starts l.initial.measures l.initial.sorted l.initial.dues l.n)
      → Midway I (l.levels - 1) l.initial.texts l.measures l.sorted l.dues l.deepest l.values l.texts l.i;
}
