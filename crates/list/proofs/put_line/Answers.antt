-- Depth, kind and content, one behind the other.
use Rattle.output.specs.Put.{put_same, room_same, put_then, room_first, room_then}
use Rattle.list.proofs.Record.{opened, line_parts}
use Rattle.list.proofs.put_line.Goals as goal

pub put_decimal-a-requires : goal.put_decimal-a-requires
put_decimal-a-requires c = room_first _ (rw (line_parts (opened c.requires.reads c.head_of-head.ensures) c.args.depth) at c.requires.room)

pub put_byte-b-requires : goal.put_byte-b-requires
put_byte-b-requires c = room_first _ (room_then _ c.put_decimal-a.ensures (rw (line_parts (opened c.requires.reads c.head_of-head.ensures) c.args.depth) at c.requires.room))

pub put_run-c-requires : goal.put_run-c-requires
put_run-c-requires c = room_same c.kind_name.ensures (room_first _ (room_then _ c.put_byte-b.ensures (room_then _ c.put_decimal-a.ensures (rw (line_parts (opened c.requires.reads c.head_of-head.ensures) c.args.depth) at c.requires.room))))

pub put_byte-d-requires : goal.put_byte-d-requires
put_byte-d-requires c = room_first _ (room_then _ (put_same c.kind_name.ensures c.put_run-c.ensures) (room_then _ c.put_byte-b.ensures (room_then _ c.put_decimal-a.ensures (rw (line_parts (opened c.requires.reads c.head_of-head.ensures) c.args.depth) at c.requires.room))))

pub put_content-e-requires-clause-room : goal.put_content-e-requires-clause-room
put_content-e-requires-clause-room c = room_first _ (room_then _ c.put_byte-d.ensures (room_then _ (put_same c.kind_name.ensures c.put_run-c.ensures) (room_then _ c.put_byte-b.ensures (room_then _ c.put_decimal-a.ensures (rw (line_parts (opened c.requires.reads c.head_of-head.ensures) c.args.depth) at c.requires.room)))))

pub put_byte-requires : goal.put_byte-requires
put_byte-requires c = room_then _ c.put_content-e.ensures (room_then _ c.put_byte-d.ensures (room_then _ (put_same c.kind_name.ensures c.put_run-c.ensures) (room_then _ c.put_byte-b.ensures (room_then _ c.put_decimal-a.ensures (rw (line_parts (opened c.requires.reads c.head_of-head.ensures) c.args.depth) at c.requires.room)))))

pub returns : goal.returns
returns c = rw (line_parts (opened c.requires.reads c.head_of-head.ensures) c.args.depth) (put_then c.put_decimal-a.ensures (put_then c.put_byte-b.ensures (put_then (put_same c.kind_name.ensures c.put_run-c.ensures) (put_then c.put_byte-d.ensures (put_then c.put_content-e.ensures c.put_byte.ensures)))))
