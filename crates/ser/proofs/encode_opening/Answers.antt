-- Kind by kind.
use Rattle.std.proofs.Common.{ap, arith}
use Rattle.value.specs.declared.Head.{Head}
use Rattle.value.specs.Labels.{text_inside, names_inside}
use Rattle.output.specs.Put.{put_same, put_none, room_same}
use Rattle.ser.proofs.Record.{opens_names, opens_tuple, opens_none, opens_bool, opens_int, opens_float, opens_bytes, opens_string, opens_list, opens_set, opens_frozenset, opens_dict}
use Rattle.ser.proofs.encode_opening.Goals as goal

pub put_byte-requires : goal.put_byte-requires
put_byte-requires c = room_same (opens_none c.requires.reads c.head_of.ensures c.in-0.is) c.requires.room

pub returns-in-0 : goal.returns-in-0
returns-in-0 c = put_same (opens_none c.requires.reads c.head_of.ensures c.in-0.is) c.put_byte.ensures

pub encode_bool-requires : goal.encode_bool-requires
encode_bool-requires c = room_same (opens_bool c.requires.reads c.head_of.ensures c.in-1.is) c.requires.room

pub returns-in-1 : goal.returns-in-1
returns-in-1 c = put_same (opens_bool c.requires.reads c.head_of.ensures c.in-1.is) c.encode_bool.ensures

pub encode_i64-requires : goal.encode_i64-requires
encode_i64-requires c = room_same (opens_int c.requires.reads c.head_of.ensures c.in-2.is) c.requires.room

pub returns-in-2 : goal.returns-in-2
returns-in-2 c = put_same (opens_int c.requires.reads c.head_of.ensures c.in-2.is) c.encode_i64.ensures

pub encode_f64-requires : goal.encode_f64-requires
encode_f64-requires c = room_same (opens_float c.requires.reads c.head_of.ensures c.in-3.is) c.requires.room

pub returns-in-3 : goal.returns-in-3
returns-in-3 c = put_same (opens_float c.requires.reads c.head_of.ensures c.in-3.is) c.encode_f64.ensures

pub part-requires : goal.part-requires
part-requires c = text_inside _ _ _ _ c.requires.reads (ap (λ (x : Head). x.kind) c.head_of.ensures) (omega (arith, c.in-4.is)) (omega (arith, c.in-4.is))

pub encode_bytes-requires : goal.encode_bytes-requires
encode_bytes-requires c = room_same (opens_bytes c.requires.reads c.head_of.ensures _ c.part.ensures c.in-4.is) c.requires.room

pub returns-in-4 : goal.returns-in-4
returns-in-4 c = put_same (opens_bytes c.requires.reads c.head_of.ensures _ c.part.ensures c.in-4.is) c.encode_bytes.ensures

pub part-requires-in-5 : goal.part-requires-in-5
part-requires-in-5 c = text_inside _ _ _ _ c.requires.reads (ap (λ (x : Head). x.kind) c.head_of.ensures) (omega (arith, c.in-5.is)) (omega (arith, c.in-5.is))

pub encode_string-requires : goal.encode_string-requires
encode_string-requires c = room_same (opens_string c.requires.reads c.head_of.ensures _ c.part-in-5.ensures c.in-5.is) c.requires.room

pub returns-in-5 : goal.returns-in-5
returns-in-5 c = put_same (opens_string c.requires.reads c.head_of.ensures _ c.part-in-5.ensures c.in-5.is) c.encode_string.ensures

pub put_byte-requires-in-6 : goal.put_byte-requires-in-6
put_byte-requires-in-6 c = room_same (opens_list c.requires.reads c.head_of.ensures c.in-6.is) c.requires.room

pub returns-in-6 : goal.returns-in-6
returns-in-6 c = put_same (opens_list c.requires.reads c.head_of.ensures c.in-6.is) c.put_byte-in-6.ensures

pub encode_set-requires : goal.encode_set-requires
encode_set-requires c = room_same (opens_set c.requires.reads c.head_of.ensures c.in-8.is) c.requires.room

pub returns-in-8 : goal.returns-in-8
returns-in-8 c = put_same (opens_set c.requires.reads c.head_of.ensures c.in-8.is) c.encode_set.ensures

pub encode_set-requires-in-9 : goal.encode_set-requires-in-9
encode_set-requires-in-9 c = room_same (opens_frozenset c.requires.reads c.head_of.ensures c.in-9.is) c.requires.room

pub returns-in-9 : goal.returns-in-9
returns-in-9 c = put_same (opens_frozenset c.requires.reads c.head_of.ensures c.in-9.is) c.encode_set-in-9.ensures

pub put_byte-requires-in-10 : goal.put_byte-requires-in-10
put_byte-requires-in-10 c = room_same (opens_dict c.requires.reads c.head_of.ensures c.in-10.is) c.requires.room

pub returns-in-10 : goal.returns-in-10
returns-in-10 c = put_same (opens_dict c.requires.reads c.head_of.ensures c.in-10.is) c.put_byte-in-10.ensures

pub returns-in-7 : goal.returns-in-7
returns-in-7 c = put_same (opens_tuple c.requires.reads c.head_of.ensures c.in-7.is) put_none

pub encode_names-requires-clause-lengths_in_bounds : goal.encode_names-requires-clause-lengths_in_bounds
encode_names-requires-clause-lengths_in_bounds c =
    names_inside _ _ _ _ c.requires.reads (ap (λ (x : Head). x.kind) c.head_of.ensures) (omega arith)

pub encode_names-requires-clause-room : goal.encode_names-requires-clause-room
encode_names-requires-clause-room c = room_same (opens_names c.requires.reads c.head_of.ensures (omega arith)) c.requires.room

pub returns-in_default : goal.returns-in_default
returns-in_default c = put_same (opens_names c.requires.reads c.head_of.ensures (omega arith)) c.encode_names.ensures
