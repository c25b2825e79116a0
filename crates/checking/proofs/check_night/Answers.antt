-- The room's length by a lemma, since a list of so many zeros is too long to be counted; what was read is no longer than the room.
use Rattle.std.proofs.Common.{ℕ, sym}
use Rattle.std.proofs.lemmas.List.{length-replicate}
use Rattle.checking.proofs.check_night.Goals as goal

pub slice_bounds-read_full-end : goal.slice_bounds-read_full-end
slice_bounds-read_full-end c = sym (length-replicate {0} {A = ℕ} 524288 0)

pub slice_bounds-check_plain-end : goal.slice_bounds-check_plain-end
slice_bounds-check_plain-end c = c.read_full-n.ensures.0

pub slice_bounds-check-end : goal.slice_bounds-check-end
slice_bounds-check-end c = c.read_full-n.ensures.0
