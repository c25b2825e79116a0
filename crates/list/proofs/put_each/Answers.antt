use Rattle.output.specs.Put.{left_none}
use Rattle.list.proofs.Laws.{byte_room, byte_left, drop-none}
use Rattle.list.proofs.put_each.Goals as goal

pub put_listed-next-requires : goal.put_listed-next-requires
put_listed-next-requires c = byte_room c.args.text.now c.loop-byte.byte-index 0 c.loop-byte-test.true c.loop-byte.invariant c.requires

pub loop-byte-preserved : goal.loop-byte-preserved
loop-byte-preserved c = byte_left c.args.text.now c.loop-byte.byte-index 0 c.loop-byte-test.true c.loop-byte.invariant c.put_listed-next.ensures

pub returns : goal.returns
returns c = left_none (rw (drop-none c.args.text.now c.loop-byte.byte-index c.loop-byte-test.false) at c.loop-byte.invariant)
