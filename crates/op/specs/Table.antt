-- The opcodes of protocols 0 to 2, as Python's pickletools lists them, in its order. The one table of opcodes;
-- a test holds it against pickletools itself, field by field.
use Rattle.std.specs.Prelude.{ℕ, Bool, true, false, cond, ◌&&◌, ◌||◌, not, List, [], ◌∷◌, eqb, T}
use Rattle.std.proofs.Math.Option.{Option, none, some}
use Rattle.op.specs.declared.Opcode.{Opcode}
use Rattle.op.specs.declared.Opcode.TheVariants.{MARK, STOP, POP, POP_MARK, DUP, FLOAT, INT, BININT, BININT1, LONG, BININT2, NONE, REDUCE, STRING, BINSTRING, SHORT_BINSTRING, UNICODE, BINUNICODE, APPEND, BUILD, GLOBAL, DICT, EMPTY_DICT, APPENDS, GET, BINGET, LONG_BINGET, LIST, EMPTY_LIST, PUT, BINPUT, LONG_BINPUT, SETITEM, TUPLE, EMPTY_TUPLE, SETITEMS, BINFLOAT, PROTO, NEWOBJ, TUPLE1, TUPLE2, TUPLE3, NEWTRUE, NEWFALSE, LONG1, LONG4}

-- the opcodes of these protocols that the Rust refuses
pub data Refused : Type 0 where
  INST OBJ PERSID BINPERSID EXT1 EXT2 EXT4 : Refused

pub data Name : Type 0 where
  known : Opcode → Name
  refused : Refused → Name

-- pickletools' forms of an argument
pub data Form : Type 0 where
  decimalnl_short int4 uint1 uint2 decimalnl_long long1 long4 stringnl string4 string1 nothing unicodestringnl unicodestring4 floatnl float8 uint4 stringnl_noescape_pair stringnl_noescape : Form

-- what an opcode takes from the stack, or leaves on it: a number of values, where that is fixed; the values above the topmost
-- mark, the mark, and a number of values below it; a mark
pub data Stack : Type 0 where
  values : ℕ → Stack
  to_mark : ℕ → Stack
  a_mark : Stack

pub record Row : Type 0 where
  pub name : Name
  pub number : ℕ
  pub proto : ℕ
  pub form : Form
  pub takes : Stack
  pub leaves : Stack

abbrev row : Name → ℕ → ℕ → Form → Stack → Stack → Row
row n c p f t l = record { name = n; number = c; proto = p; form = f; takes = t; leaves = l }

abbrev pub opcode_table : List Row
opcode_table =
    row (known INT) 0x49 0 decimalnl_short (values 0) (values 1)
    ∷ row (known BININT) 0x4A 1 int4 (values 0) (values 1)
    ∷ row (known BININT1) 0x4B 1 uint1 (values 0) (values 1)
    ∷ row (known BININT2) 0x4D 1 uint2 (values 0) (values 1)
    ∷ row (known LONG) 0x4C 0 decimalnl_long (values 0) (values 1)
    ∷ row (known LONG1) 0x8A 2 long1 (values 0) (values 1)
    ∷ row (known LONG4) 0x8B 2 long4 (values 0) (values 1)
    ∷ row (known STRING) 0x53 0 stringnl (values 0) (values 1)
    ∷ row (known BINSTRING) 0x54 1 string4 (values 0) (values 1)
    ∷ row (known SHORT_BINSTRING) 0x55 1 string1 (values 0) (values 1)
    ∷ row (known NONE) 0x4E 0 nothing (values 0) (values 1)
    ∷ row (known NEWTRUE) 0x88 2 nothing (values 0) (values 1)
    ∷ row (known NEWFALSE) 0x89 2 nothing (values 0) (values 1)
    ∷ row (known UNICODE) 0x56 0 unicodestringnl (values 0) (values 1)
    ∷ row (known BINUNICODE) 0x58 1 unicodestring4 (values 0) (values 1)
    ∷ row (known FLOAT) 0x46 0 floatnl (values 0) (values 1)
    ∷ row (known BINFLOAT) 0x47 1 float8 (values 0) (values 1)
    ∷ row (known EMPTY_LIST) 0x5D 1 nothing (values 0) (values 1)
    ∷ row (known APPEND) 0x61 0 nothing (values 2) (values 1)
    ∷ row (known APPENDS) 0x65 1 nothing (to_mark 1) (values 1)
    ∷ row (known LIST) 0x6C 0 nothing (to_mark 0) (values 1)
    ∷ row (known EMPTY_TUPLE) 0x29 1 nothing (values 0) (values 1)
    ∷ row (known TUPLE) 0x74 0 nothing (to_mark 0) (values 1)
    ∷ row (known TUPLE1) 0x85 2 nothing (values 1) (values 1)
    ∷ row (known TUPLE2) 0x86 2 nothing (values 2) (values 1)
    ∷ row (known TUPLE3) 0x87 2 nothing (values 3) (values 1)
    ∷ row (known EMPTY_DICT) 0x7D 1 nothing (values 0) (values 1)
    ∷ row (known DICT) 0x64 0 nothing (to_mark 0) (values 1)
    ∷ row (known SETITEM) 0x73 0 nothing (values 3) (values 1)
    ∷ row (known SETITEMS) 0x75 1 nothing (to_mark 1) (values 1)
    ∷ row (known POP) 0x30 0 nothing (values 1) (values 0)
    ∷ row (known DUP) 0x32 0 nothing (values 1) (values 2)
    ∷ row (known MARK) 0x28 0 nothing (values 0) a_mark
    ∷ row (known POP_MARK) 0x31 1 nothing (to_mark 0) (values 0)
    ∷ row (known GET) 0x67 0 decimalnl_short (values 0) (values 1)
    ∷ row (known BINGET) 0x68 1 uint1 (values 0) (values 1)
    ∷ row (known LONG_BINGET) 0x6A 1 uint4 (values 0) (values 1)
    ∷ row (known PUT) 0x70 0 decimalnl_short (values 0) (values 0)
    ∷ row (known BINPUT) 0x71 1 uint1 (values 0) (values 0)
    ∷ row (known LONG_BINPUT) 0x72 1 uint4 (values 0) (values 0)
    ∷ row (refused EXT1) 0x82 2 uint1 (values 0) (values 1)
    ∷ row (refused EXT2) 0x83 2 uint2 (values 0) (values 1)
    ∷ row (refused EXT4) 0x84 2 int4 (values 0) (values 1)
    ∷ row (known GLOBAL) 0x63 0 stringnl_noescape_pair (values 0) (values 1)
    ∷ row (known REDUCE) 0x52 0 nothing (values 2) (values 1)
    ∷ row (known BUILD) 0x62 0 nothing (values 2) (values 1)
    ∷ row (refused INST) 0x69 0 stringnl_noescape_pair (to_mark 0) (values 1)
    ∷ row (refused OBJ) 0x6F 1 nothing (to_mark 0) (values 1)
    ∷ row (known NEWOBJ) 0x81 2 nothing (values 2) (values 1)
    ∷ row (known PROTO) 0x80 2 uint1 (values 0) (values 0)
    ∷ row (known STOP) 0x2E 0 nothing (values 1) (values 0)
    ∷ row (refused PERSID) 0x50 0 stringnl_noescape (values 0) (values 1)
    ∷ row (refused BINPERSID) 0x51 1 nothing (values 1) (values 1)
    ∷ []

-- where a name stands in the Rust's list
unfoldable pub place : Opcode → ℕ
place MARK = 0
place STOP = 1
place POP = 2
place POP_MARK = 3
place DUP = 4
place FLOAT = 5
place INT = 6
place BININT = 7
place BININT1 = 8
place LONG = 9
place BININT2 = 10
place NONE = 11
place REDUCE = 12
place STRING = 13
place BINSTRING = 14
place SHORT_BINSTRING = 15
place UNICODE = 16
place BINUNICODE = 17
place APPEND = 18
place BUILD = 19
place GLOBAL = 20
place DICT = 21
place EMPTY_DICT = 22
place APPENDS = 23
place GET = 24
place BINGET = 25
place LONG_BINGET = 26
place LIST = 27
place EMPTY_LIST = 28
place PUT = 29
place BINPUT = 30
place LONG_BINPUT = 31
place SETITEM = 32
place TUPLE = 33
place EMPTY_TUPLE = 34
place SETITEMS = 35
place BINFLOAT = 36
place PROTO = 37
place NEWOBJ = 38
place TUPLE1 = 39
place TUPLE2 = 40
place TUPLE3 = 41
place NEWTRUE = 42
place NEWFALSE = 43
place LONG1 = 44
place LONG4 = 45

unfoldable pub is_named : Opcode → Name → Bool
is_named o (known p) = eqb (place o) (place p)
is_named o (refused r) = false

-- the number in the row of a name
unfoldable pub number_in : List Row → Opcode → ℕ
number_in [] o = 0
number_in (r ∷ t) o = cond (is_named o r.name) r.number (number_in t o)

unfoldable pub code_of : Opcode → ℕ
code_of o = number_in opcode_table o

-- the row of a number
unfoldable pub row_in : List Row → ℕ → Option Row
row_in [] n = none
row_in (r ∷ t) n = cond (eqb n r.number) (some r) (row_in t n)

unfoldable pub row_of : ℕ → Option Row
row_of n = row_in opcode_table n

-- ---- no number stands twice

unfoldable pub stands_in : List Row → ℕ → Bool
stands_in [] n = false
stands_in (r ∷ t) n = eqb n r.number || stands_in t n

unfoldable pub different : List Row → Bool
different [] = true
different (r ∷ t) = not (stands_in t r.number) && different t

pub no_number_twice : T (different opcode_table)
unfolding different stands_in
no_number_twice = tt

-- ---- the decision over the opcode byte: the name, where the Rust knows the number

unfoldable pub known_name : Option Row → Option Opcode
known_name none = none
known_name (some r) = elim r.name [ known o ↦ some o | refused x ↦ none ]

unfoldable pub opcode_of : ℕ → Option Opcode
opcode_of n = known_name (row_of n)

-- ---- each row decides to its own name, a refused one to none, and a name has one row

unfoldable pub agrees : Option Opcode → Name → Bool
agrees none (known o) = false
agrees none (refused x) = true
agrees (some p) (known o) = eqb (place p) (place o)
agrees (some p) (refused x) = false

unfoldable pub numbered : Name → ℕ → Bool
numbered (known o) n = eqb (code_of o) n
numbered (refused x) n = true

unfoldable pub decides : List Row → Bool
decides [] = true
decides (r ∷ t) = agrees (opcode_of r.number) r.name && (numbered r.name r.number && decides t)

pub each_row_decides : T (decides opcode_table)
unfolding decides agrees numbered opcode_of known_name row_of row_in code_of number_in is_named place
each_row_decides = tt
