-- A module and a name, a line each.
use Rattle.output.specs.Put.{put_then, room_first, room_then}
use Rattle.ser.proofs.Laws.{global_parts}
use Rattle.ser.proofs.encode_global.Goals as goal

pub put_byte-a-requires : goal.put_byte-a-requires
put_byte-a-requires c = room_first _ (rw (global_parts c.args.«module».now c.args.name.now) at c.requires)

pub put_run-b-requires : goal.put_run-b-requires
put_run-b-requires c = room_first _ (room_then _ c.put_byte-a.ensures (rw (global_parts c.args.«module».now c.args.name.now) at c.requires))

pub put_byte-c-requires : goal.put_byte-c-requires
put_byte-c-requires c = room_first _ (room_then _ c.put_run-b.ensures (room_then _ c.put_byte-a.ensures (rw (global_parts c.args.«module».now c.args.name.now) at c.requires)))

pub put_run-d-requires : goal.put_run-d-requires
put_run-d-requires c = room_first _ (room_then _ c.put_byte-c.ensures (room_then _ c.put_run-b.ensures (room_then _ c.put_byte-a.ensures (rw (global_parts c.args.«module».now c.args.name.now) at c.requires))))

pub put_byte-requires : goal.put_byte-requires
put_byte-requires c = room_then _ c.put_run-d.ensures (room_then _ c.put_byte-c.ensures (room_then _ c.put_run-b.ensures (room_then _ c.put_byte-a.ensures (rw (global_parts c.args.«module».now c.args.name.now) at c.requires))))

pub returns : goal.returns
returns c = rw (global_parts c.args.«module».now c.args.name.now) (put_then c.put_byte-a.ensures (put_then c.put_run-b.ensures (put_then c.put_byte-c.ensures (put_then c.put_run-d.ensures c.put_byte.ensures))))
