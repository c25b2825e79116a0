use Rattle.std.proofs.Common.{◌∙◌, ap, take}
use Rattle.output.specs.Put.{put_same, room_same}
use Rattle.ser.proofs.Laws.{low_of}
use Rattle.ser.proofs.put_low.Goals as goal

pub put_run-requires : goal.put_run-requires
put_run-requires c = room_same (ap (take c.args.count) c.to_le_bytes.ensures ∙ low_of c.args.count c.args.n c.requires.count_bound) c.requires.room

pub returns : goal.returns
returns c = put_same (ap (take c.args.count) c.to_le_bytes.ensures ∙ low_of c.args.count c.args.n c.requires.count_bound) c.put_run.ensures
