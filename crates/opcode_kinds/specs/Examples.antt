-- The exceptions shown by pickles (of the PUTs, BINPUT), and the words that stand for more than one kind.
use Rattle.std.specs.Prelude.{ℕ, true, false, List, [], ◌∷◌, ◌++◌, ◌≡◌, refl}
use Rattle.refusal.specs.declared.Refusal.TheVariants.{StackUnderflow, Invalid, UnsupportedProtocol}
use Rattle.refusal.specs.declared.Wanted.TheVariants.{Class, Arguments, Object}
use Rattle.op.specs.Table as Table
use Rattle.op.specs.Edition.{evaluates as edition-evaluates}
use Rattle.op.specs.declared.Edition.TheVariants.{Full}
use Rattle.utf8.specs.Utf8.{evaluates as utf8-evaluates}
use Rattle.input.specs.Bytes.{low_first, last_byte}
use Rattle.input.specs.Line as Line
use Rattle.input.specs.Long.{evaluates as long-evaluates}
use Rattle.number.specs.Space.{same}
use Rattle.number.specs.Number.{int_literal}
use Rattle.value.specs.Value.{Label, BoolL, I64L, SetL, FrozenSetL, GlobalL, ObjectL}
use Rattle.steps.specs.State as State
use Rattle.steps.specs.State.{State, Res, ok, no, ◌>>=◌, last, node_by}
use Rattle.steps.specs.Opcodes as Opcodes
use Rattle.steps.specs.Opcodes.{builtin, set_name, frozenset_name}
use Rattle.steps.specs.Run as Run
use Rattle.steps.specs.Run.{start, run}

-- opens what the examples compute with
unfoldable evaluates : Unit {0}
unfolding Table.row_in Table.row_of Table.known_name Table.opcode_of edition-evaluates utf8-evaluates low_first last_byte Line.first_from Line.newline_of Line.less_cr Line.line_of long-evaluates same int_literal ◌>>=◌ State.need State.leaf State.bytes State.byte State.line State.pop State.top State.push_id State.push_node State.push State.memo_find State.memo_has State.memo_insert State.put Opcodes.proto Opcodes.int_label Opcodes.int Opcodes.low_bytes Opcodes.long_n Opcodes.global Opcodes.put_bytes Opcodes.reduced Opcodes.called Opcodes.reduce Opcodes.newobj Opcodes.build_state Run.going Run.does Run.decide Run.admit Run.step Run.runs Run.start Run.run
evaluates = tt

-- what is on top at STOP
unfoldable pub top_at_stop : Res State → Res Label
top_at_stop (ok s) = ok (node_by s (last s.stack)).label
top_at_stop (no why) = no why

-- INT: 00 and 01 are Bool; a `long` is an I64
pub numbers : (top_at_stop (run Full (0x49 ∷ 0x30 ∷ 0x31 ∷ 0x0A ∷ 0x2E ∷ [])) ≡ ok (BoolL true)) × (top_at_stop (run Full (0x8A ∷ 0x01 ∷ 0x05 ∷ 0x2E ∷ [])) ≡ ok (I64L 5))
unfolding evaluates top_at_stop
numbers = (refl, refl)

-- a class by name, `)`, and an opcode
abbrev call : List ℕ → List ℕ → ℕ → List ℕ
call m n b = (0x63 ∷ []) ++ m ++ (0x0A ∷ []) ++ n ++ (0x0A ∷ 0x29 ∷ b ∷ 0x2E ∷ [])

-- REDUCE makes a Set, a FrozenSet or an Object; NEWOBJ an Object, also of `set`; GLOBAL a Global
pub called_classes :
    (top_at_stop (run Full (call builtin set_name 0x52)) ≡ ok SetL)
    × (top_at_stop (run Full (call builtin frozenset_name 0x52)) ≡ ok FrozenSetL)
    × (top_at_stop (run Full (call (0x61 ∷ []) (0x62 ∷ []) 0x52)) ≡ ok (ObjectL (0x61 ∷ []) (0x62 ∷ []) false))
    × (top_at_stop (run Full (call builtin set_name 0x81)) ≡ ok (ObjectL builtin set_name true))
    × (top_at_stop (run Full (0x63 ∷ 0x61 ∷ 0x0A ∷ 0x62 ∷ 0x0A ∷ 0x2E ∷ [])) ≡ ok (GlobalL (0x61 ∷ []) (0x62 ∷ [])))
unfolding evaluates top_at_stop
called_classes = (refl, refl, refl, refl, refl)

-- REDUCE and NEWOBJ refuse another class than a Global, and other arguments than a Tuple; BUILD what is no Object
pub other_kinds :
    (run Full (0x29 ∷ 0x29 ∷ 0x52 ∷ 0x2E ∷ []) ≡ no (Invalid Class))
    × (run Full (0x29 ∷ 0x29 ∷ 0x81 ∷ 0x2E ∷ []) ≡ no (Invalid Class))
    × (run Full (0x63 ∷ 0x61 ∷ 0x0A ∷ 0x62 ∷ 0x0A ∷ 0x5D ∷ 0x52 ∷ 0x2E ∷ []) ≡ no (Invalid Arguments))
    × (run Full (0x63 ∷ 0x61 ∷ 0x0A ∷ 0x62 ∷ 0x0A ∷ 0x5D ∷ 0x81 ∷ 0x2E ∷ []) ≡ no (Invalid Arguments))
    × (run Full (0x5D ∷ 0x4E ∷ 0x62 ∷ 0x2E ∷ []) ≡ no (Invalid Object))
unfolding evaluates
other_kinds = (refl, refl, refl, refl, refl)

-- STOP by itself: the machine stops as it began. BINPUT by itself: no top
pub by_themselves : (run Full (0x2E ∷ []) ≡ ok (start [])) × (run Full (0x71 ∷ 0x00 ∷ 0x2E ∷ []) ≡ no StackUnderflow)
unfolding evaluates
by_themselves = (refl, refl)

-- NEWTRUE, of protocol 2: without PROTO, and after PROTO 0; PROTO 3 is refused
pub true_of_two :
    (top_at_stop (run Full (0x88 ∷ 0x2E ∷ [])) ≡ ok (BoolL true))
    × (top_at_stop (run Full (0x80 ∷ 0x00 ∷ 0x88 ∷ 0x2E ∷ [])) ≡ ok (BoolL true))
    × (run Full (0x80 ∷ 0x03 ∷ 0x88 ∷ 0x2E ∷ []) ≡ no (UnsupportedProtocol 3))
unfolding evaluates top_at_stop
true_of_two = (refl, refl, refl)
