-- The module, a tab and the name, one behind the other.
use Rattle.output.specs.Put.{put_then, room_first, room_then}
use Rattle.list.proofs.Record.{names_parts}
use Rattle.list.proofs.put_listed_names.Goals as goal

pub put_text-end-requires-clause-room : goal.put_text-end-requires-clause-room
put_text-end-requires-clause-room c = room_first _ (rw (names_parts c.args.text.now c.args.from c.args.lengths) at c.requires.room)

pub put_byte-next-requires : goal.put_byte-next-requires
put_byte-next-requires c =
    room_first _ (room_then _ c.put_text-end.ensures (rw (names_parts c.args.text.now c.args.from c.args.lengths) at c.requires.room))

pub put_text-requires-clause-room : goal.put_text-requires-clause-room
put_text-requires-clause-room c =
    room_then _ c.put_byte-next.ensures (room_then _ c.put_text-end.ensures (rw (names_parts c.args.text.now c.args.from c.args.lengths) at c.requires.room))

pub returns : goal.returns
returns c =
    rw (names_parts c.args.text.now c.args.from c.args.lengths) (put_then c.put_text-end.ensures (put_then c.put_byte-next.ensures c.put_text.ensures))
