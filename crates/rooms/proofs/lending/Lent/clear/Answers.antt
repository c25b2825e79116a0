-- Slice by slice.
use Rattle.std.proofs.Common.{refl}
use Rattle.rooms.specs.Stated.{blank, same_slices}
use Rattle.rooms.proofs.lending.Lent.clear.Goals as goal

pub returns-clause-after : goal.returns-clause-after
unfolding blank
returns-clause-after c =
    same_slices c.zero.ensures
    (same_slices c.zero-2.ensures
    (same_slices c.zero-3.ensures
    (same_slices c.zero-4.ensures
    (same_slices c.zero-5.ensures
    (same_slices c.zero-6.ensures
    (same_slices c.zero-7.ensures
    (same_slices c.zero-8.ensures
    (same_slices c.zero-9.ensures
    (same_slices c.zero-10.ensures
    (same_slices c.zero-11.ensures refl))))))))))
