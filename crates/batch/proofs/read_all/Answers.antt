-- The sheet of a turn lies in the buffer, and reading it is a turn of `ReadSoFar`.
use Rattle.std.proofs.Common.{◌+◌, ◌≤◌, slice_index_or, length, arith, rules}
use Rattle.rooms.specs.Lent.{SameSlices}
use Rattle.batch.specs.Sheets.{going_inside, going_more, going_end, sheet-read}
use Rattle.batch.proofs.read_all.Goals as goal

pub overflow_add-end : goal.overflow_add-end
overflow_add-end c =
    let a = c.args in
    let h : c.loop-i.at + slice_index_or a.lengths.now c.loop-i.i 0 ≤ length a.sheets.now = going_inside _ _ _ _ _ _ _ _ c.loop-i.invariant.so_far c.loop-i-test.true in
    omega arith

pub slice_bounds-read-end : goal.slice_bounds-read-end
slice_bounds-read-end c = going_inside _ _ _ _ _ _ _ _ c.loop-i.invariant.so_far c.loop-i-test.true

pub loop-i-preserved : goal.loop-i-preserved
loop-i-preserved c =
    let s : SameSlices c.args.lent.now c.read-a.new.lent = search rules in
    record {
      so_far = going_more _ _ _ _ _ _ _ _ c.loop-i.invariant.so_far c.loop-i-test.true _ _ _ (sheet-read _ _ _ _ c.read-a.ensures.reads) c.put.ensures;
      same = s;
    }

pub returns-clause-all : goal.returns-clause-all
returns-clause-all c = going_end _ _ _ _ _ _ _ _ c.loop-i.invariant.so_far c.loop-i-test.false c.requires.lengths_in_bounds
