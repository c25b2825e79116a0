-- The names are looked at, the records measured, then the value is written.
use Rattle.std.proofs.Common.{sym, ◌∙◌}
use Rattle.ser.specs.Call.{ready_all, read_all, length_few, write_unwritable, write_full, write_all}
use Rattle.ser.proofs.to_bytes.Goals as goal

pub is_writable-requires : goal.is_writable-requires
is_writable-requires c = read_all _ _ _ (c.well_formed-2.ensures.yes c.if-well_formed.true)

pub returns-then-not-is_writable : goal.returns-then-not-is_writable
returns-then-not-is_writable c = write_unwritable _ _ _ _ _ (c.well_formed-2.ensures.yes c.if-well_formed.true) (sym c.is_writable.ensures ∙ c.if-not-is_writable.true) c.refused.ensures

pub pickle_len-requires-clause-records_readable : goal.pickle_len-requires-clause-records_readable
pickle_len-requires-clause-records_readable c = read_all _ _ _ (c.well_formed-2.ensures.yes c.if-well_formed.true)

pub pickle_len-requires-clause-len_bound : goal.pickle_len-requires-clause-len_bound
pickle_len-requires-clause-len_bound c = length_few _ _ _ (c.well_formed-2.ensures.yes c.if-well_formed.true)

pub returns-then-output-pickle_len : goal.returns-then-output-pickle_len
returns-then-output-pickle_len c = write_full _ _ _ (c.well_formed-2.ensures.yes c.if-well_formed.true) (sym c.is_writable.ensures ∙ c.if-not-is_writable.false) _ _ (rw c.pickle_len.ensures at c.if-output-pickle_len.true) c.refused-then-output-pickle_len.ensures

pub encode_pickle-length-requires : goal.encode_pickle-length-requires
encode_pickle-length-requires c = ready_all _ _ _ _ (c.well_formed-2.ensures.yes c.if-well_formed.true) (rw c.pickle_len.ensures at c.if-output-pickle_len.false)

pub returns-else-output-pickle_len : goal.returns-else-output-pickle_len
returns-else-output-pickle_len c = write_all _ _ _ (c.well_formed-2.ensures.yes c.if-well_formed.true) (sym c.is_writable.ensures ∙ c.if-not-is_writable.false) _ _ _ (rw c.pickle_len.ensures at c.if-output-pickle_len.false) c.encode_pickle-length.ensures
