-- What is left of the buffer makes what all of it makes.
use Rattle.batch.specs.Sheets.{ReadSoFar}
use Rattle.rooms.specs.Lent.{slices_of, SameSlices}
use Rattle.batch.proofs.read_all.Given as goal

abbrev pub invariant-loop-i : goal.invariant-loop-i
invariant-loop-i l = record {
  so_far : ReadSoFar l.sheets l.lengths l.fn.answers (slices_of l.fn.lent) l.at l.i l.answers (slices_of l.lent);
  same : SameSlices l.fn.lent l.lent;
}
