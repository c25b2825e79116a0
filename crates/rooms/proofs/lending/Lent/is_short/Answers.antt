-- The lengths one after the other, as the code tests them.
use Rattle.std.proofs.Common.{false}
use Rattle.rooms.specs.Stated.{stated, short_from, short-from}
use Rattle.rooms.specs.Lent.{slices_of}
use Rattle.rooms.proofs.lending.Lent.is_short.Goals as goal

pub returns : goal.returns
unfolding short_from
returns c = short-from false stated (slices_of c.args.self.now)
