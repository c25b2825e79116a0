-- 1, 23, or the rooms made zero and every sheet read.
use Rattle.std.proofs.Common.{ℕ, List, Bool, false, ◌||◌, ◌/◌, ◌*◌, ◌≡◌, sym, ◌∙◌, length, ltb}
use Rattle.rooms.specs.Stated.{Slices, room_lengths, output_lengths, stated, short, long, long_front, ready}
use Rattle.rooms.specs.Lent.{slices_of}
use Rattle.batch.specs.Batch.{batch_test, batch-long, batch-short, batch_bad, batch-read}
use Rattle.batch.proofs.from_bytes_batch.Goals as goal

-- what the first test says
tested : (s ns o : List ℕ) (l : Slices) (b v : Bool) → b ≡ short stated l → (b || ltb (length o / 4) (length ns)) ≡ v → (short stated l || ltb (length o) (4 * length ns)) ≡ v
tested s ns o l b v e f = sym (batch_test s ns o l b e) ∙ f

pub returns-then-is_short-lengths-clause-call : goal.returns-then-is_short-lengths-clause-call
returns-then-is_short-lengths-clause-call c =
    let a = c.args in
    batch-short a.sheets.now a.lengths.now a.answers.now (slices_of a.lent.now) _ (tested a.sheets.now _ _ _ _ _ c.is_short.ensures c.if-is_short-lengths.true) c.refused.ensures

pub returns-then-not-add_up-clause-call : goal.returns-then-not-add_up-clause-call
returns-then-not-add_up-clause-call c =
    let a = c.args in
    rw c.refused-then-not-add_up.ensures
    (batch_bad a.sheets.now a.lengths.now a.answers.now (slices_of a.lent.now) (tested a.sheets.now _ _ _ _ _ c.is_short.ensures c.if-is_short-lengths.false)
    (sym c.add_up.ensures ∙ c.if-not-add_up.true))

pub clear-requires : goal.clear-requires
clear-requires c =
    let a = c.args in
    let e : short stated (slices_of a.lent.now) ≡ false = batch-long a.sheets.now _ _ _ (tested a.sheets.now _ _ _ _ _ c.is_short.ensures c.if-is_short-lengths.false) in
    long_front room_lengths output_lengths (slices_of a.lent.now) (long stated _ e)

pub read_all-requires-clause-ready : goal.read_all-requires-clause-ready
read_all-requires-clause-ready c =
    let a = c.args in
    let e : short stated (slices_of a.lent.now) ≡ false = batch-long a.sheets.now _ _ _ (tested a.sheets.now _ _ _ _ _ c.is_short.ensures c.if-is_short-lengths.false) in
    ready (slices_of a.lent.now) (slices_of c.clear.new.self) e c.clear.ensures.after

pub returns-clause-call : goal.returns-clause-call
returns-clause-call c =
    let a = c.args in
    batch-read a.sheets.now a.lengths.now a.answers.now (slices_of a.lent.now) (tested a.sheets.now _ _ _ _ _ c.is_short.ensures c.if-is_short-lengths.false)
    _ (slices_of c.clear.new.self) _ (sym c.add_up.ensures ∙ c.if-not-add_up.false) c.clear.ensures.after c.read_all.ensures.all.answers c.read_all.ensures.all.slices
