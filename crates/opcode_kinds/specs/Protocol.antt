-- The protocol of an opcode's row, and of PROTO. The machine keeps no protocol: PROTO's byte is looked at once and forgotten, and an
-- opcode is read alike under any PROTO, or none. So an opcode of protocol 2 is read without PROTO, and after PROTO 0.
use Rattle.std.specs.Prelude.{ℕ, ◌<◌, ◌≤◌, Bool, true, false, ◌&&◌, List, [], ◌∷◌, ◌≡◌, length, T, leb}
use Rattle.std.proofs.Math.Path.{refl}
use Rattle.std.proofs.Common.{sym, ◌∙◌, arith}
use borrow.Author.Tests.{le-leb, lt-leb}
use Rattle.refusal.specs.declared.Refusal.TheVariants.{UnsupportedProtocol}
use Rattle.op.specs.Table.{known, Row, opcode_table, place, is_named, row_in, row_of, known_name, opcode_of}
use Rattle.op.specs.Edition.{highest, evaluates}
use Rattle.op.specs.declared.Opcode.{Opcode}
use Rattle.op.specs.declared.Opcode.TheVariants.{MARK, STOP, POP, POP_MARK, DUP, FLOAT, INT, BININT, BININT1, LONG, BININT2, NONE, REDUCE, STRING, BINSTRING, SHORT_BINSTRING, UNICODE, BINUNICODE, APPEND, BUILD, GLOBAL, DICT, EMPTY_DICT, APPENDS, GET, BINGET, LONG_BINGET, LIST, EMPTY_LIST, PUT, BINPUT, LONG_BINPUT, SETITEM, TUPLE, EMPTY_TUPLE, SETITEMS, BINFLOAT, PROTO, NEWOBJ, TUPLE1, TUPLE2, TUPLE3, NEWTRUE, NEWFALSE, LONG1, LONG4}
use Rattle.op.specs.declared.Edition.{Edition}
use Rattle.op.specs.declared.Edition.TheVariants.{Full, Plain}
use Rattle.steps.specs.State.{State, ok, no, ◌>>=◌, need, with_input, bytes, byte}
use Rattle.steps.specs.Opcodes.{proto}
use Rattle.steps.specs.Run.{goes, going, does, decide, admit, step, start, run}
use Rattle.steps.specs.Fuel.{run_from, run_finish, finish-goes}

-- ---- the table

unfoldable pub protocols_to : ℕ → List Row → Bool
protocols_to n [] = true
protocols_to n (r ∷ t) = leb r.proto n && protocols_to n t

-- no row's protocol is above the highest that PROTO accepts, in either edition
pub protocols_to-highest : T (protocols_to (highest Full) opcode_table) × T (protocols_to (highest Plain) opcode_table)
unfolding protocols_to highest
protocols_to-highest = (tt, tt)

-- ---- PROTO

byte_is : (s : State) (b : ℕ) (rest : List ℕ) → s.input ≡ b ∷ rest → byte s ≡ ok (b, with_input s rest)
unfolding byte bytes need ◌>>=◌
byte_is s b rest e = rw (e, le-leb 1 (length (b ∷ rest)) (omega arith))

-- a step at PROTO's number, in either edition
at_proto : (ed : Edition) (s : State) (rest : List ℕ) → s.input ≡ 0x80 ∷ rest → step ed s ≡ going (proto (highest ed) (with_input s rest))
unfolding step decide does admit evaluates opcode_of known_name row_of row_in ◌>>=◌
at_proto Full s rest e = rw (byte_is s 0x80 rest e)
at_proto Plain s rest e = rw (byte_is s 0x80 rest e)

module _ (ed : Edition) (s : State) (n : ℕ) (rest : List ℕ) (begins : s.input ≡ 0x80 ∷ n ∷ rest) where
  -- PROTO's two bytes are read, and nothing else is done
  pub proto-leaves : n ≤ highest ed → step ed s ≡ ok (goes (with_input s rest))
  unfolding proto going need ◌>>=◌
  proto-leaves h = at_proto ed s (n ∷ rest) begins ∙ rw (byte_is (with_input s (n ∷ rest)) n rest refl, le-leb n (highest ed) h)

  -- a number above the highest is refused
  pub proto-refuses : highest ed < n → step ed s ≡ no (UnsupportedProtocol n)
  unfolding proto going need ◌>>=◌
  proto-refuses h = at_proto ed s (n ∷ rest) begins ∙ rw (byte_is (with_input s (n ∷ rest)) n rest refl, lt-leb n (highest ed) h)

  -- so what follows goes on from any state as it would without PROTO
  pub proto_forgotten : n ≤ highest ed → run_from ed s ≡ run_from ed (with_input s rest)
  proto_forgotten h = finish-goes ed s (with_input s rest) (proto-leaves h)

-- a pickle with PROTO in front runs as without
pub proto-first : (ed : Edition) (n : ℕ) (p : List ℕ) → n ≤ highest ed → run ed (0x80 ∷ n ∷ p) ≡ run ed p
unfolding start
proto-first ed n p h = run_finish ed (0x80 ∷ n ∷ p) ∙ proto_forgotten ed (start (0x80 ∷ n ∷ p)) n p refl h ∙ sym (run_finish ed p)

-- ---- the others

-- no other opcode asks for the highest protocol
pub only_proto_asks : (v w : ℕ) (o : Opcode) (s : State) → is_named o (known PROTO) ≡ false → does v o s ≡ does w o s
unfolding does is_named place
only_proto_asks v w MARK s h = refl
only_proto_asks v w STOP s h = refl
only_proto_asks v w POP s h = refl
only_proto_asks v w POP_MARK s h = refl
only_proto_asks v w DUP s h = refl
only_proto_asks v w FLOAT s h = refl
only_proto_asks v w INT s h = refl
only_proto_asks v w BININT s h = refl
only_proto_asks v w BININT1 s h = refl
only_proto_asks v w LONG s h = refl
only_proto_asks v w BININT2 s h = refl
only_proto_asks v w NONE s h = refl
only_proto_asks v w REDUCE s h = refl
only_proto_asks v w STRING s h = refl
only_proto_asks v w BINSTRING s h = refl
only_proto_asks v w SHORT_BINSTRING s h = refl
only_proto_asks v w UNICODE s h = refl
only_proto_asks v w BINUNICODE s h = refl
only_proto_asks v w APPEND s h = refl
only_proto_asks v w BUILD s h = refl
only_proto_asks v w GLOBAL s h = refl
only_proto_asks v w DICT s h = refl
only_proto_asks v w EMPTY_DICT s h = refl
only_proto_asks v w APPENDS s h = refl
only_proto_asks v w GET s h = refl
only_proto_asks v w BINGET s h = refl
only_proto_asks v w LONG_BINGET s h = refl
only_proto_asks v w LIST s h = refl
only_proto_asks v w EMPTY_LIST s h = refl
only_proto_asks v w PUT s h = refl
only_proto_asks v w BINPUT s h = refl
only_proto_asks v w LONG_BINPUT s h = refl
only_proto_asks v w SETITEM s h = refl
only_proto_asks v w TUPLE s h = refl
only_proto_asks v w EMPTY_TUPLE s h = refl
only_proto_asks v w SETITEMS s h = refl
only_proto_asks v w BINFLOAT s h = refl
only_proto_asks v w PROTO s h = let c : ◌≡◌ {A = ℕ} 0 1 = cc in absurd (omega arith)
only_proto_asks v w NEWOBJ s h = refl
only_proto_asks v w TUPLE1 s h = refl
only_proto_asks v w TUPLE2 s h = refl
only_proto_asks v w TUPLE3 s h = refl
only_proto_asks v w NEWTRUE s h = refl
only_proto_asks v w NEWFALSE s h = refl
only_proto_asks v w LONG1 s h = refl
only_proto_asks v w LONG4 s h = refl
