-- The premises of Ask 6 can be met, and each is needed: by computation, a table that meets them all, and for each premise what a value that
-- it leaves out is read back as.
use Rattle.std.specs.Prelude.{ℕ, suc, zero, ◌^◌, ◌<◌, Bool, true, false, ◌&&◌, List, [], ◌∷◌, ◌++◌, ◌≡◌, refl, get_or, replicate, T, ltb}
use Rattle.std.proofs.Common.{arith, length-append, ltb→lt}
use Rattle.std.proofs.lemmas.List.{length-replicate}
use Rattle.refusal.specs.declared.Refusal.TheVariants.{TooLong, EndOfInput}
use Rattle.op.specs.Table as Table
use Rattle.op.specs.Edition.{evaluates as edition-evaluates}
use Rattle.op.specs.declared.Edition.TheVariants.{Full}
use Rattle.utf8.specs.Utf8 as utf8
use Rattle.input.specs.Bytes.{last_byte, low_first}
use Rattle.input.specs.Line as Line
use Rattle.input.specs.Long.{bits64, denotes}
use Rattle.number.specs.Space as Space
use Rattle.value.specs.Value.{Value, one, text, count, size, depth, table, NoneL, I64L, StringL, TupleL, SetL, DictL, GlobalL, ObjectL, nil, node}
use Rattle.value.specs.Order as Order
use Rattle.value.specs.Shape.{shaped, and_l, and_r}
use Rattle.value.specs.WellFormed.{ascending, keys, settled}
use Rattle.steps.specs.State as State
use Rattle.steps.specs.State.{◌>>=◌}
use Rattle.steps.specs.Opcodes as Opcodes
use Rattle.steps.specs.Opcodes.{builtin, set_name}
use Rattle.steps.specs.Run as Run
use Rattle.reading.specs.Build as Build
use Rattle.reading.specs.Measure.{measured}
use Rattle.reading.specs.Settle as Settle
use Rattle.reading.specs.Reading.{refuses, reads, reading_of, stopped, prefix_in, prefix, pickle_limit, stopped-long, prefix_refused}
use Rattle.ser.specs.Image as Image
use Rattle.ser.specs.Image.{pickled}
use Rattle.ser.specs.Writable as Writable
use Rattle.outback.specs.SetCalls.{set_class, two_arguments, two_arguments_in}
use Rattle.outback.specs.Reading.{Unhindered}
use Rattle.outback.specs.Theorem.{Outgoing, image}

-- ---- what computes on given values

unfoldable shaping : Unit {0}
unfolding shaped settled ascending keys text count size depth table Order.◌then◌ Order.lex Order.labels Order.forests Order.order utf8.evaluates last_byte Space.same Writable.has_newline Writable.ends_cr Writable.writable Writable.writable_label Writable.writable_in set_class two_arguments two_arguments_in
shaping = tt

unfoldable writing : Unit {0}
unfolding Table.code_of Table.number_in Table.is_named Table.place Image.low Image.in_i32 Image.int_image Image.string_image Image.global_image Image.set_opening Image.opening Image.joined Image.list_batch Image.dict_batch Image.one_batch Image.batch_size Image.batches_up_to Image.batches Image.items_image Image.tuple_mark Image.tuple_opcode Image.tuple_image Image.object_opcode Image.state_image Image.object_image Image.contents Image.images Image.framed Image.pickled
writing = tt

unfoldable literals : Unit {0}
unfolding low_first denotes Line.first_from Line.newline_of Line.less_cr Line.line_of bits64
literals = tt

unfoldable running : Unit {0}
unfolding Table.row_in Table.row_of Table.known_name Table.opcode_of edition-evaluates ◌>>=◌ State.need State.leaf State.bytes State.byte State.line State.pop State.top State.pop_mark State.pop_many State.push_id State.push_node State.push State.link State.extend Opcodes.proto Opcodes.low_bytes Opcodes.binint1 Opcodes.binint Opcodes.binunicode Opcodes.global Opcodes.mark Opcodes.made Opcodes.tuple_n Opcodes.add_items Opcodes.append Opcodes.appends Opcodes.pairs Opcodes.setitems Opcodes.called Opcodes.reduced Opcodes.reduce Run.going Run.does Run.decide Run.admit Run.step Run.runs Run.start Run.run
running = tt

unfoldable building : Unit {0}
unfolding Build.first_taken Build.blocked Build.finish Build.each Build.build Build.tree measured Settle.by Settle.insert Settle.as_set Settle.enter Settle.as_dict Settle.items Settle.arrange Settle.settle reading_of stopped prefix_in
building = tt

-- ---- all premises met

-- {1: set([5]), 2: m.C()}
abbrev fine_value : Value
fine_value = record { label = DictL; contents = node (I64L 1) nil (node SetL (node (I64L 5) nil nil) (node (I64L 2) nil (node (ObjectL (0x6D ∷ []) (0x43 ∷ []) false) (node TupleL nil nil) nil))) }

unfoldable every_word : List ℕ → Bool
every_word [] = true
every_word (x ∷ l) = ltb x (2 ^ 64) && every_word l

words_of : (l : List ℕ) → T (every_word l) → (i : ℕ) → get_or l i 0 < 2 ^ 64
unfolding every_word
words_of [] h i = omega arith
words_of (x ∷ l) h zero = ltb→lt x (2 ^ 64) (and_l (ltb x (2 ^ 64)) (every_word l) h)
words_of (x ∷ l) h (suc i) = words_of l (and_r (ltb x (2 ^ 64)) (every_word l) h) i

pub fine_goes : Outgoing (table (one fine_value) 0) 7 (text (one fine_value))
unfolding shaping every_word
fine_goes =
    record {
      formed =
          record {
            value = fine_value;
            shape = tt;
            settle = tt;
            counted = refl;
            few = omega arith;
            shallow = omega arith;
            lent = omega arith;
            records = refl;
            texts = refl;
            short = omega arith;
          };
      words = words_of (table (one fine_value) 0) tt;
      names = tt;
      objects = tt;
    }

-- STOP follows its pickle
pub fine_free : Unhindered (prefix (image fine_goes ++ (0x2E ∷ [])))
unfolding shaping writing literals running building fine_goes
fine_free = tt

-- ---- each premise

-- An added refusal: the None whose pickle is followed by more bytes than may be read is 2.
pub a_long_tail : prefix (pickled (record { label = NoneL; contents = nil }) ++ replicate pickle_limit 0) ≡ refuses TooLong
unfolding writing
a_long_tail =
    let p = pickled (record { label = NoneL; contents = nil }) in
    prefix_refused Full (p ++ replicate pickle_limit 0) TooLong (stopped-long Full (p ++ replicate pickle_limit 0) (omega (arith, length-append p (replicate pickle_limit 0), length-replicate {A = ℕ} pickle_limit 0)))

-- Room: without it nothing is written, and no bytes at all are 3.
pub no_room : prefix [] ≡ refuses EndOfInput
unfolding running building
no_room = refl

-- Objects: that of `__builtin__` `set` and no arguments is read back as an empty Set.
pub a_set-call : prefix (pickled (record { label = ObjectL builtin set_name false; contents = node TupleL nil nil })) ≡ reads 22 (node SetL nil nil)
unfolding shaping writing literals running building
a_set-call = refl

-- Names: the Global of m and `C`, newline, STOP is read back as that of m and `C`; so is that of m and `C`, CR.
pub a_newline : prefix (pickled (record { label = GlobalL (0x6D ∷ []) (0x43 ∷ 0x0A ∷ 0x2E ∷ []); contents = nil })) ≡ reads 8 (node (GlobalL (0x6D ∷ []) (0x43 ∷ [])) nil nil)
unfolding shaping writing literals running building
a_newline = refl

pub a_cr : prefix (pickled (record { label = GlobalL (0x6D ∷ []) (0x43 ∷ 0x0D ∷ []); contents = nil })) ≡ reads 9 (node (GlobalL (0x6D ∷ []) (0x43 ∷ [])) nil nil)
unfolding shaping writing literals running building
a_cr = refl

-- Well formed: a Set of 2 and 1, in this order, is read back in order; a String that is the byte FF, repaired.
pub out_of_order : prefix (pickled (record { label = SetL; contents = node (I64L 2) nil (node (I64L 1) nil nil) })) ≡ reads 29 (node SetL (node (I64L 1) nil (node (I64L 2) nil nil)) nil)
unfolding shaping writing literals running building
out_of_order = refl

pub not_utf8 : prefix (pickled (record { label = StringL (0xFF ∷ []); contents = nil })) ≡ reads 9 (node (StringL (0xEF ∷ 0xBF ∷ 0xBD ∷ [])) nil nil)
unfolding shaping writing literals running building
not_utf8 = refl

-- Words of 64 bits: 2^64 is written, and read back, as 0.
pub a_wide_word : prefix (pickled (record { label = I64L (2 ^ 64); contents = nil })) ≡ reads 8 (node (I64L 0) nil nil)
unfolding shaping writing literals running building
a_wide_word = refl
