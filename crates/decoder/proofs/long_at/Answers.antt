-- The integer of a LONG1 or LONG4, from the part that its length tells.
use Rattle.std.proofs.Common.{arith}
use Rattle.std.proofs.lemmas.Result.{err_from_is_err_and}
use Rattle.decoder.specs.ReadsPickle.{part_inside, long-short}
use Rattle.decoder.proofs.LawsPickle.{long-value, long-outside}
use Rattle.decoder.proofs.long_at.Goals as goal

pub overflow_add-end : goal.overflow_add-end
overflow_add-end c = let x = part_inside _ _ _ _ c.prefixed.ensures _ _ c.in_ok-from.was in omega arith

pub slice_bounds-long-end : goal.slice_bounds-long-end
slice_bounds-long-end c = let x = part_inside _ _ _ _ c.prefixed.ensures _ _ c.in_ok-from.was in x.1

pub returns-in_err-from : goal.returns-in_err-from
returns-in_err-from c = let p = err_from_is_err_and c.from_residual.result c.from_residual.ensures.1 in rw (p.1, p.2) (long-short _ _ _ _ c.prefixed.ensures _ c.in_err-from.was)

pub returns-in_err-long : goal.returns-in_err-long
returns-in_err-long c = let p = err_from_is_err_and c.from_residual-in_err-long.result c.from_residual-in_err-long.ensures.1 in rw (p.1, p.2) (long-outside _ _ _ _ c.prefixed.ensures _ _ c.in_ok-from.was _ c.long.ensures _ c.in_err-long.was)

pub returns : goal.returns
returns c = long-value _ _ _ _ c.prefixed.ensures _ _ c.in_ok-from.was _ c.long.ensures _ c.in_ok-long.was
