-- The reading, in rooms that are made zero and as long as stated.
use Rattle.std.proofs.Common.{rules, true}
use Rattle.de.specs.Given.{due}
use Rattle.de.specs.Call.{OwnRoomsCall, own_rooms, own_calls}
use Rattle.de.proofs.read_in_own_rooms.Goals as goal

pub returns : goal.returns
unfolding own_rooms
returns c =
    let a = c.args in
    let l = c.reading.new.lent in
    let e : OwnRoomsCall (due a.edition true a.pickle.now) a.table.now a.text.now l.table.now l.text.now c.reading.result = own_calls _ _ _ _ _ c.reading.ensures.call in
    search (rules, e, c.reading.ensures.same_slices)
