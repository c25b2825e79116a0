use Rattle.std.proofs.Common.{◌≡◌, take, replicate}
use Rattle.rooms.proofs.are_zero.Given as goal

abbrev pub invariant-loop-x : goal.invariant-loop-x
invariant-loop-x g l = l.any ≡ g.T.Unsigned.ZERO → take l.x-index l.room ≡ replicate l.x-index g.T.Unsigned.ZERO
