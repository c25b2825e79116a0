use Rattle.output.specs.Put.{put_then, room_first, room_then}
use Rattle.ser.proofs.Laws.{bytes-short, bytes-long}
use Rattle.ser.proofs.encode_bytes.Goals as goal

pub put_byte-next-requires : goal.put_byte-next-requires
put_byte-next-requires c = room_first _ (rw (bytes-short _ c.if-len-le255.true) at c.requires)

pub put_low-end-requires-clause-room : goal.put_low-end-requires-clause-room
put_low-end-requires-clause-room c = room_first _ (room_then _ c.put_byte-next.ensures (rw (bytes-short _ c.if-len-le255.true) at c.requires))

pub put_run-requires : goal.put_run-requires
put_run-requires c = room_then _ c.put_low-end.ensures (room_then _ c.put_byte-next.ensures (rw (bytes-short _ c.if-len-le255.true) at c.requires))

pub returns-then-len-le255 : goal.returns-then-len-le255
returns-then-len-le255 c = rw (bytes-short _ c.if-len-le255.true) (put_then c.put_byte-next.ensures (put_then c.put_low-end.ensures c.put_run.ensures))

pub put_byte-next-requires-2 : goal.put_byte-next-requires-2
put_byte-next-requires-2 c = room_first _ (rw (bytes-long _ c.if-len-le255.false) at c.requires)

pub put_low-end-requires-2-clause-room : goal.put_low-end-requires-2-clause-room
put_low-end-requires-2-clause-room c = room_first _ (room_then _ c.put_byte-next-2.ensures (rw (bytes-long _ c.if-len-le255.false) at c.requires))

pub put_run-requires-2 : goal.put_run-requires-2
put_run-requires-2 c = room_then _ c.put_low-end-2.ensures (room_then _ c.put_byte-next-2.ensures (rw (bytes-long _ c.if-len-le255.false) at c.requires))

pub returns : goal.returns
returns c = rw (bytes-long _ c.if-len-le255.false) (put_then c.put_byte-next-2.ensures (put_then c.put_low-end-2.ensures c.put_run-2.ensures))
