use Rattle.output.specs.Put.{put_then, room_first, room_then}
use Rattle.ser.proofs.Laws.{string_parts}
use Rattle.ser.proofs.encode_string.Goals as goal

pub put_byte-next-requires : goal.put_byte-next-requires
put_byte-next-requires c = room_first _ (rw string_parts at c.requires)

pub put_low-end-requires-clause-room : goal.put_low-end-requires-clause-room
put_low-end-requires-clause-room c = room_first _ (room_then _ c.put_byte-next.ensures (rw string_parts at c.requires))

pub put_run-requires : goal.put_run-requires
put_run-requires c = room_then _ c.put_low-end.ensures (room_then _ c.put_byte-next.ensures (rw string_parts at c.requires))

pub returns : goal.returns
returns c = rw string_parts (put_then c.put_byte-next.ensures (put_then c.put_low-end.ensures c.put_run.ensures))
