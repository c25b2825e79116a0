-- Kind by kind.
use Rattle.std.proofs.Common.{arith}
use Rattle.output.specs.Put.{put_then, room_then}
use Rattle.list.proofs.Record.{opened, text_fits, names_fit, names_room, content-none, content_bool, content_int, content-float, content-text, content-count, content-global, content-object}
use Rattle.list.proofs.put_content.Goals as goal

pub put_byte-requires : goal.put_byte-requires
put_byte-requires c = rw (content-none (opened c.requires.reads c.head_of-head.ensures) c.in-0.is) at c.requires.room

pub returns-in-0 : goal.returns-in-0
returns-in-0 c = rw (content-none (opened c.requires.reads c.head_of-head.ensures) c.in-0.is) c.put_byte.ensures

pub put_flag-requires : goal.put_flag-requires
put_flag-requires c = rw (content_bool (opened c.requires.reads c.head_of-head.ensures) c.in-1.is) at c.requires.room

pub returns-in-1 : goal.returns-in-1
returns-in-1 c = rw (content_bool (opened c.requires.reads c.head_of-head.ensures) c.in-1.is) c.put_flag.ensures

pub put_signed-requires : goal.put_signed-requires
put_signed-requires c = rw (content_int (opened c.requires.reads c.head_of-head.ensures) c.in-2.is) at c.requires.room

pub returns-in-2 : goal.returns-in-2
returns-in-2 c = rw (content_int (opened c.requires.reads c.head_of-head.ensures) c.in-2.is) c.put_signed.ensures

pub put_figures-requires-clause-room : goal.put_figures-requires-clause-room
put_figures-requires-clause-room c = rw (content-float (opened c.requires.reads c.head_of-head.ensures) c.in-3.is) at c.requires.room

pub returns-in-3 : goal.returns-in-3
returns-in-3 c = rw (content-float (opened c.requires.reads c.head_of-head.ensures) c.in-3.is) c.put_figures.ensures

pub put_text-requires-clause-count_in_bounds : goal.put_text-requires-clause-count_in_bounds
put_text-requires-clause-count_in_bounds c = text_fits (opened c.requires.reads c.head_of-head.ensures) (omega arith) (omega arith)

pub put_text-requires-clause-room : goal.put_text-requires-clause-room
put_text-requires-clause-room c = rw (content-text (opened c.requires.reads c.head_of-head.ensures) (omega arith) (omega arith)) at c.requires.room

pub returns-in-4 : goal.returns-in-4
returns-in-4 c = rw (content-text (opened c.requires.reads c.head_of-head.ensures) (omega arith) (omega arith)) c.put_text.ensures

pub put_decimal-requires : goal.put_decimal-requires
put_decimal-requires c = rw (content-count (opened c.requires.reads c.head_of-head.ensures) (omega arith) (omega arith)) at c.requires.room

pub returns-in-6-to-10 : goal.returns-in-6-to-10
returns-in-6-to-10 c = rw (content-count (opened c.requires.reads c.head_of-head.ensures) (omega arith) (omega arith)) c.put_decimal.ensures

pub put_listed_names-requires-clause-lengths_in_bounds : goal.put_listed_names-requires-clause-lengths_in_bounds
put_listed_names-requires-clause-lengths_in_bounds c = names_fit (opened c.requires.reads c.head_of-head.ensures) (omega arith)

pub put_listed_names-requires-clause-room : goal.put_listed_names-requires-clause-room
put_listed_names-requires-clause-room c = names_room (opened c.requires.reads c.head_of-head.ensures) (omega arith) c.requires.room

pub returns-in-11 : goal.returns-in-11
returns-in-11 c = rw (content-global (opened c.requires.reads c.head_of-head.ensures) c.in-11.is) c.put_listed_names.ensures

pub put_listed_names-end-requires-clause-lengths_in_bounds : goal.put_listed_names-end-requires-clause-lengths_in_bounds
put_listed_names-end-requires-clause-lengths_in_bounds c = names_fit (opened c.requires.reads c.head_of-head.ensures) (omega arith)

pub put_listed_names-end-requires-clause-room : goal.put_listed_names-end-requires-clause-room
put_listed_names-end-requires-clause-room c = names_room (opened c.requires.reads c.head_of-head.ensures) (omega arith) c.requires.room

pub put_flags-requires : goal.put_flags-requires
put_flags-requires c = room_then _ c.put_listed_names-end.ensures (rw (content-object (opened c.requires.reads c.head_of-head.ensures) (omega arith)) at c.requires.room)

pub returns-in_default : goal.returns-in_default
returns-in_default c = rw (content-object (opened c.requires.reads c.head_of-head.ensures) (omega arith)) (put_then c.put_listed_names-end.ensures c.put_flags.ensures)
