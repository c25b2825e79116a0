-- Below 2 ^ 63 the bits are the number, from there on it is negative.
use Rattle.std.proofs.Common.{◌-◌, ◌^◌, arith}
use Rattle.output.specs.Put.{put_then, room_first, room_then}
use Rattle.output.proofs.Laws.{signed_low, signed_high}
use Rattle.output.proofs.put_signed.Goals as goal

pub put_decimal-requires : goal.put_decimal-requires
put_decimal-requires c = let e = signed_low c.args.bits c.if-bits.true in rw e at c.requires

pub returns-then-bits : goal.returns-then-bits
returns-then-bits c = let e = signed_low c.args.bits c.if-bits.true in rw e c.put_decimal.ensures

pub put_byte-next-requires : goal.put_byte-next-requires
put_byte-next-requires c = let e = signed_high c.args.bits (2 ^ 64 - c.args.bits) c.if-bits.false (omega arith) (omega arith) (omega arith) in room_first _ (rw e at c.requires)

pub put_decimal-requires-2 : goal.put_decimal-requires-2
put_decimal-requires-2 c = let e = signed_high c.args.bits c.wrapping_neg.result c.if-bits.false (omega arith) (omega arith) c.wrapping_neg.ensures in room_then _ c.put_byte-next.ensures (rw e at c.requires)

pub returns : goal.returns
returns c = let e = signed_high c.args.bits c.wrapping_neg.result c.if-bits.false (omega arith) (omega arith) c.wrapping_neg.ensures in rw e (put_then c.put_byte-next.ensures c.put_decimal-2.ensures)
