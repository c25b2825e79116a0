-- A number that is above all is absent.
use Rattle.store.specs.RoomMemo.{absent_above}
use Rattle.store.proofs.slot.Goals as goal

pub returns-then-greatest-k : goal.returns-then-greatest-k
returns-then-greatest-k c = absent_above _ _ _ c.requires.2 _ c.if-greatest-k.true
