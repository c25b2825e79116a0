-- The lines are measured, then put.
use Rattle.list.specs.Call.{countable_all, measured_ready, list_full, list_all}
use Rattle.list.proofs.list_table.Goals as goal

pub values_len-measured-requires : goal.values_len-measured-requires
values_len-measured-requires c = countable_all _ _ _ (c.well_formed-2.ensures.yes c.if-well_formed.true)

pub returns-then-output-measured : goal.returns-then-output-measured
returns-then-output-measured c =
    list_full _ _ _ c.values_len-measured.ensures _ _ (c.well_formed-2.ensures.yes c.if-well_formed.true) c.if-output-measured.true c.refused.ensures

pub put_values-end-requires : goal.put_values-end-requires
put_values-end-requires c =
    measured_ready _ _ _ c.values_len-measured.ensures _ (c.well_formed-2.ensures.yes c.if-well_formed.true) c.if-output-measured.false

pub returns-else-output-measured : goal.returns-else-output-measured
returns-else-output-measured c =
    list_all _ _ _ c.values_len-measured.ensures _ _ _ _ (c.well_formed-2.ensures.yes c.if-well_formed.true) c.if-output-measured.false c.put_values-end.ensures
