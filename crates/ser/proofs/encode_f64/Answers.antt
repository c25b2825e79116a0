use Rattle.std.proofs.Common.{◌∙◌}
use Rattle.output.specs.Put.{put_same, room_same, put_then, room_first, room_then}
use Rattle.ser.proofs.Laws.{float_parts, high_of}
use Rattle.ser.proofs.encode_f64.Goals as goal

pub put_byte-next-requires : goal.put_byte-next-requires
put_byte-next-requires c = room_first _ (rw float_parts at c.requires)

pub put_run-requires : goal.put_run-requires
put_run-requires c = room_same (c.to_be_bytes.ensures ∙ high_of c.args.bits) (room_then _ c.put_byte-next.ensures (rw float_parts at c.requires))

pub returns : goal.returns
returns c = rw float_parts (put_then c.put_byte-next.ensures (put_same (c.to_be_bytes.ensures ∙ high_of c.args.bits) c.put_run.ensures))
