-- Range by range.
use Rattle.std.proofs.Common.{◌∙◌, sym}
use Rattle.output.specs.Put.{put_then, room_first, room_then}
use Rattle.ser.proofs.Laws.{int_1, int_2, int_4, int_text}
use Rattle.ser.proofs.encode_i64.Goals as goal

pub put_byte-next-requires : goal.put_byte-next-requires
put_byte-next-requires c = room_first _ (rw (int_1 _ c.if-bits-le255.true) at c.requires)

pub put_low-requires-clause-room : goal.put_low-requires-clause-room
put_low-requires-clause-room c = room_then _ c.put_byte-next.ensures (rw (int_1 _ c.if-bits-le255.true) at c.requires)

pub returns-then-bits-le255 : goal.returns-then-bits-le255
returns-then-bits-le255 c = rw (int_1 _ c.if-bits-le255.true) (put_then c.put_byte-next.ensures c.put_low.ensures)

pub put_byte-next-requires-then-bits-le65535 : goal.put_byte-next-requires-then-bits-le65535
put_byte-next-requires-then-bits-le65535 c = room_first _ (rw (int_2 _ c.if-bits-le255.false c.if-bits-le65535.true) at c.requires)

pub put_low-requires-then-bits-le65535-clause-room : goal.put_low-requires-then-bits-le65535-clause-room
put_low-requires-then-bits-le65535-clause-room c =
    room_then _ c.put_byte-next-then-bits-le65535.ensures (rw (int_2 _ c.if-bits-le255.false c.if-bits-le65535.true) at c.requires)

pub returns-then-bits-le65535 : goal.returns-then-bits-le65535
returns-then-bits-le65535 c =
    rw (int_2 _ c.if-bits-le255.false c.if-bits-le65535.true) (put_then c.put_byte-next-then-bits-le65535.ensures c.put_low-then-bits-le65535.ensures)

pub put_byte-next-requires-then-in_i32 : goal.put_byte-next-requires-then-in_i32
put_byte-next-requires-then-in_i32 c =
    room_first _ (rw (int_4 _ c.if-bits-le65535.false (sym c.in_i32.ensures ∙ c.if-in_i32.true)) at c.requires)

pub put_low-requires-then-in_i32-clause-room : goal.put_low-requires-then-in_i32-clause-room
put_low-requires-then-in_i32-clause-room c =
    room_then _ c.put_byte-next-then-in_i32.ensures (rw (int_4 _ c.if-bits-le65535.false (sym c.in_i32.ensures ∙ c.if-in_i32.true)) at c.requires)

pub returns-then-in_i32 : goal.returns-then-in_i32
returns-then-in_i32 c =
    rw (int_4 _ c.if-bits-le65535.false (sym c.in_i32.ensures ∙ c.if-in_i32.true)) (put_then c.put_byte-next-then-in_i32.ensures c.put_low-then-in_i32.ensures)

pub put_byte-next-requires-2 : goal.put_byte-next-requires-2
put_byte-next-requires-2 c = room_first _ (rw (int_text _ c.if-bits-le65535.false (sym c.in_i32.ensures ∙ c.if-in_i32.false)) at c.requires)

pub put_signed-end-requires : goal.put_signed-end-requires
put_signed-end-requires c =
    room_first _ (room_then _ c.put_byte-next-2.ensures (rw (int_text _ c.if-bits-le65535.false (sym c.in_i32.ensures ∙ c.if-in_i32.false)) at c.requires))

pub put_byte-requires : goal.put_byte-requires
put_byte-requires c =
    room_then _ c.put_signed-end.ensures
    (room_then _ c.put_byte-next-2.ensures (rw (int_text _ c.if-bits-le65535.false (sym c.in_i32.ensures ∙ c.if-in_i32.false)) at c.requires))

pub returns : goal.returns
returns c =
    rw (int_text _ c.if-bits-le65535.false (sym c.in_i32.ensures ∙ c.if-in_i32.false))
    (put_then c.put_byte-next-2.ensures (put_then c.put_signed-end.ensures c.put_byte.ensures))
