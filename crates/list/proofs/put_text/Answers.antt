use Rattle.std.proofs.Common.{arith}
use Rattle.list.proofs.Laws.{part_room, part_left}
use Rattle.list.proofs.put_text.Goals as goal

pub put_eight-next-requires-clause-room : goal.put_eight-next-requires-clause-room
put_eight-next-requires-clause-room c = part_room c.args.text.now c.loop-i.i 8 (omega arith) c.loop-i.invariant.left c.requires.room

pub loop-i-preserved : goal.loop-i-preserved
loop-i-preserved c = record {
  inside = omega arith;
  left = part_left c.args.text.now c.loop-i.i 8 (omega arith) c.loop-i.invariant.left c.put_eight-next.ensures;
}
