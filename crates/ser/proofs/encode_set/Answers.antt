use Rattle.output.specs.Put.{put_then, room_first, room_then}
use Rattle.ser.proofs.Laws.{set_parts}
use Rattle.ser.proofs.encode_set.Goals as goal

pub encode_global-next-requires : goal.encode_global-next-requires
encode_global-next-requires c = room_first _ (rw (set_parts c.args.name.now) at c.requires)

pub put_byte-requires : goal.put_byte-requires
put_byte-requires c = room_then _ c.encode_global-next.ensures (rw (set_parts c.args.name.now) at c.requires)

pub returns : goal.returns
returns c = rw (set_parts c.args.name.now) (put_then c.encode_global-next.ensures c.put_byte.ensures)
