use Rattle.output.specs.Put.{put_same, put_none, room_same}
use Rattle.ser.proofs.Laws.{mark-none, mark-some}
use Rattle.ser.proofs.tuple_mark.Goals as goal

pub returns-then-len-le3 : goal.returns-then-len-le3
returns-then-len-le3 c = put_same (mark-none _ c.if-len-le3.true) put_none

pub put_byte-requires : goal.put_byte-requires
put_byte-requires c = room_same (mark-some _ c.if-len-le3.false) c.requires

pub returns : goal.returns
returns c = put_same (mark-some _ c.if-len-le3.false) c.put_byte.ensures
