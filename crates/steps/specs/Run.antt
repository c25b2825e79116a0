-- The decision over the opcode byte, one step, and the run to STOP, in any edition of the reader.
use Rattle.std.specs.Prelude.{ℕ, suc, zero, true, false, Some, None, List, [], length}
use Rattle.std.proofs.Math.Option.{Option, none, some}
use Rattle.refusal.specs.declared.Refusal.TheVariants.{EndOfInput, UnsupportedOpcode, OutsideProfile}
use Rattle.op.specs.Table.{opcode_of}
use Rattle.op.specs.Edition.{Against, against, highest}
use Rattle.op.specs.declared.Edition.{Edition}
use Rattle.op.specs.declared.Objection.TheVariants.{Outside, Unknown}
use Rattle.op.specs.declared.Opcode.{Opcode}
use Rattle.op.specs.declared.Opcode.TheVariants.{MARK, STOP, POP, POP_MARK, DUP, FLOAT, INT, BININT, BININT1, LONG, BININT2, NONE, REDUCE, STRING, BINSTRING, SHORT_BINSTRING, UNICODE, BINUNICODE, APPEND, BUILD, GLOBAL, DICT, EMPTY_DICT, APPENDS, GET, BINGET, LONG_BINGET, LIST, EMPTY_LIST, PUT, BINPUT, LONG_BINPUT, SETITEM, TUPLE, EMPTY_TUPLE, SETITEMS, BINFLOAT, PROTO, NEWOBJ, TUPLE1, TUPLE2, TUPLE3, NEWTRUE, NEWFALSE, LONG1, LONG4}
use Rattle.value.specs.Value.{NoneL, BoolL, ListL, TupleL, DictL}
use Rattle.steps.specs.State.{State, Res, ok, no, ◌>>=◌, byte, push}
use Rattle.steps.specs.Opcodes.{proto, mark, pop_one, pop_to_mark, dup, int, binint, binint1, binint2, long, long_n, float, binfloat, string, binstring, short_binstring, unicode, binunicode, global, list, tuple, tuple_n, dict, append, appends, setitem, setitems, get_line, get_bytes, put_line, put_bytes, reduce, newobj, build_state}

-- what a step comes to: the machine goes on, or has stopped
pub data Next : Type 0 where
  goes : State → Next
  stops : State → Next

unfoldable pub going : Res State → Res Next
going (ok s) = ok (goes s)
going (no why) = no why

-- the step of an opcode, whose byte has been read; v is the highest protocol that PROTO accepts
unfoldable pub does : ℕ → Opcode → State → Res Next
does v MARK s = going (mark s)
does v STOP s = ok (stops s)
does v POP s = going (pop_one s)
does v POP_MARK s = going (pop_to_mark s)
does v DUP s = going (dup s)
does v FLOAT s = going (float s)
does v INT s = going (int s)
does v BININT s = going (binint s)
does v BININT1 s = going (binint1 s)
does v LONG s = going (long s)
does v BININT2 s = going (binint2 s)
does v NONE s = going (push NoneL s)
does v REDUCE s = going (reduce s)
does v STRING s = going (string s)
does v BINSTRING s = going (binstring s)
does v SHORT_BINSTRING s = going (short_binstring s)
does v UNICODE s = going (unicode s)
does v BINUNICODE s = going (binunicode s)
does v APPEND s = going (append s)
does v BUILD s = going (build_state s)
does v GLOBAL s = going (global s)
does v DICT s = going (dict s)
does v EMPTY_DICT s = going (push DictL s)
does v APPENDS s = going (appends s)
does v GET s = going (get_line s)
does v BINGET s = going (get_bytes 1 s)
does v LONG_BINGET s = going (get_bytes 4 s)
does v LIST s = going (list s)
does v EMPTY_LIST s = going (push ListL s)
does v PUT s = going (put_line s)
does v BINPUT s = going (put_bytes 1 s)
does v LONG_BINPUT s = going (put_bytes 4 s)
does v SETITEM s = going (setitem s)
does v TUPLE s = going (tuple s)
does v EMPTY_TUPLE s = going (push TupleL s)
does v SETITEMS s = going (setitems s)
does v BINFLOAT s = going (binfloat s)
does v PROTO s = going (proto v s)
does v NEWOBJ s = going (newobj s)
does v TUPLE1 s = going (tuple_n 1 s)
does v TUPLE2 s = going (tuple_n 2 s)
does v TUPLE3 s = going (tuple_n 3 s)
does v NEWTRUE s = going (push (BoolL true) s)
does v NEWFALSE s = going (push (BoolL false) s)
does v LONG1 s = going (long_n 1 s)
does v LONG4 s = going (long_n 4 s)

-- a byte that is no opcode that the Rust knows is number 4
unfoldable pub decide : ℕ → Option Opcode → ℕ → State → Res Next
decide v none b s = no (UnsupportedOpcode b)
decide v (some o) b s = does v o s

-- what an edition has against the byte stands before that: 26, or 4
unfoldable pub admit : Against → ℕ → Res Next → Res Next
admit None b r = r
admit (Some Outside) b r = no (OutsideProfile b)
admit (Some Unknown) b r = no (UnsupportedOpcode b)

-- one step: the opcode's byte, and what it does
unfoldable pub step : Edition → State → Res Next
step ed s = do
  (b, s₁) ← byte s
  admit (against ed b) b (decide (highest ed) (opcode_of b) b s₁)

-- The run to STOP. Each step reads a byte at least, so that as many steps as there are bytes are enough; then the input is at
-- its end.
unfoldable pub runs : Edition → ℕ → State → Res State
runs ed zero s = no EndOfInput
runs ed (suc k) s = elim (step ed s) [ no why ↦ no why | ok n ↦ elim n [ stops t ↦ ok t | goes t ↦ runs ed k t ] ]

unfoldable pub start : List ℕ → State
start p = record { input = p; nodes = []; stack = []; marks = []; memo = []; links = 0 }

-- the machine at STOP, or the refusal
unfoldable pub run : Edition → List ℕ → Res State
run ed p = runs ed (suc (length p)) (start p)
