-- pickletools' words for the values that an opcode takes from the stack and leaves on it (`stack_before`, `stack_after`), one row for
-- each opcode that the Rust knows, in pickletools' order; and the rows where this reader differs. tests/opcodes holds the first against pickletools and the second against its own list.
use Rattle.std.specs.Prelude.{Bool, true, false, cond, ◌&&◌, ◌||◌, List, [], ◌∷◌, ◌++◌, length, eqb, leb, T}
use Rattle.std.proofs.Math.Option.{Option, none, some}
use Rattle.op.specs.Table.{known, Stack, values, to_mark, a_mark, Row, place, is_named, number_in, code_of, row_in, row_of}
use Rattle.op.specs.declared.Opcode.{Opcode}
use Rattle.op.specs.declared.Opcode.TheVariants.{MARK, STOP, POP, POP_MARK, DUP, FLOAT, INT, BININT, BININT1, LONG, BININT2, NONE, REDUCE, STRING, BINSTRING, SHORT_BINSTRING, UNICODE, BINUNICODE, APPEND, BUILD, GLOBAL, DICT, EMPTY_DICT, APPENDS, GET, BINGET, LONG_BINGET, LIST, EMPTY_LIST, PUT, BINPUT, LONG_BINPUT, SETITEM, TUPLE, EMPTY_TUPLE, SETITEMS, BINFLOAT, PROTO, NEWOBJ, TUPLE1, TUPLE2, TUPLE3, NEWTRUE, NEWFALSE, LONG1, LONG4}
use Rattle.value.specs.Value.{Label, kind}
use Rattle.steps.specs.Opcodes.{is_list, is_tuple, is_dict, is_object}

-- pickletools' words; the last three are this reader's own, for what pickletools calls `any`
pub data Word : Type 0 where
  any None bool int int_or_bool float bytes_or_str str list tuple dict : Word
  a_global an_object set_or_object : Word

-- the kinds of a word here: an integer of any length is an I64 (a longer one is refused), `bytes_or_str` Bytes, `str` String
unfoldable pub allows : Word → Label → Bool
allows any l = true
allows None l = eqb (kind l) 0
allows bool l = eqb (kind l) 1
allows int l = eqb (kind l) 2
allows int_or_bool l = eqb (kind l) 1 || eqb (kind l) 2
allows float l = eqb (kind l) 3
allows bytes_or_str l = eqb (kind l) 4
allows str l = eqb (kind l) 5
allows list l = is_list l
allows tuple l = is_tuple l
allows dict l = is_dict l
allows a_global l = eqb (kind l) 11
allows an_object l = is_object l
allows set_or_object l = eqb (kind l) 8 || (eqb (kind l) 9 || is_object l)

-- values by their words, the lowest first: the topmost ones; those below the topmost mark, with the mark and any values above it; a
-- mark alone
pub data Kinds : Type 0 where
  topmost : List Word → Kinds
  below_mark : List Word → Kinds
  mark_only : Kinds

pub record KindRow : Type 0 where
  pub opcode : Opcode
  pub takes : Kinds
  pub leaves : Kinds

abbrev row : Opcode → Kinds → Kinds → KindRow
row o t l = record { opcode = o; takes = t; leaves = l }

abbrev pub pickletools : List KindRow
pickletools =
    row INT (topmost []) (topmost (int_or_bool ∷ []))
    ∷ row BININT (topmost []) (topmost (int ∷ []))
    ∷ row BININT1 (topmost []) (topmost (int ∷ []))
    ∷ row BININT2 (topmost []) (topmost (int ∷ []))
    ∷ row LONG (topmost []) (topmost (int ∷ []))
    ∷ row LONG1 (topmost []) (topmost (int ∷ []))
    ∷ row LONG4 (topmost []) (topmost (int ∷ []))
    ∷ row STRING (topmost []) (topmost (bytes_or_str ∷ []))
    ∷ row BINSTRING (topmost []) (topmost (bytes_or_str ∷ []))
    ∷ row SHORT_BINSTRING (topmost []) (topmost (bytes_or_str ∷ []))
    ∷ row NONE (topmost []) (topmost (None ∷ []))
    ∷ row NEWTRUE (topmost []) (topmost (bool ∷ []))
    ∷ row NEWFALSE (topmost []) (topmost (bool ∷ []))
    ∷ row UNICODE (topmost []) (topmost (str ∷ []))
    ∷ row BINUNICODE (topmost []) (topmost (str ∷ []))
    ∷ row FLOAT (topmost []) (topmost (float ∷ []))
    ∷ row BINFLOAT (topmost []) (topmost (float ∷ []))
    ∷ row EMPTY_LIST (topmost []) (topmost (list ∷ []))
    ∷ row APPEND (topmost (list ∷ any ∷ [])) (topmost (list ∷ []))
    ∷ row APPENDS (below_mark (list ∷ [])) (topmost (list ∷ []))
    ∷ row LIST (below_mark []) (topmost (list ∷ []))
    ∷ row EMPTY_TUPLE (topmost []) (topmost (tuple ∷ []))
    ∷ row TUPLE (below_mark []) (topmost (tuple ∷ []))
    ∷ row TUPLE1 (topmost (any ∷ [])) (topmost (tuple ∷ []))
    ∷ row TUPLE2 (topmost (any ∷ any ∷ [])) (topmost (tuple ∷ []))
    ∷ row TUPLE3 (topmost (any ∷ any ∷ any ∷ [])) (topmost (tuple ∷ []))
    ∷ row EMPTY_DICT (topmost []) (topmost (dict ∷ []))
    ∷ row DICT (below_mark []) (topmost (dict ∷ []))
    ∷ row SETITEM (topmost (dict ∷ any ∷ any ∷ [])) (topmost (dict ∷ []))
    ∷ row SETITEMS (below_mark (dict ∷ [])) (topmost (dict ∷ []))
    ∷ row POP (topmost (any ∷ [])) (topmost [])
    ∷ row DUP (topmost (any ∷ [])) (topmost (any ∷ any ∷ []))
    ∷ row MARK (topmost []) mark_only
    ∷ row POP_MARK (below_mark []) (topmost [])
    ∷ row GET (topmost []) (topmost (any ∷ []))
    ∷ row BINGET (topmost []) (topmost (any ∷ []))
    ∷ row LONG_BINGET (topmost []) (topmost (any ∷ []))
    ∷ row PUT (topmost []) (topmost [])
    ∷ row BINPUT (topmost []) (topmost [])
    ∷ row LONG_BINPUT (topmost []) (topmost [])
    ∷ row GLOBAL (topmost []) (topmost (any ∷ []))
    ∷ row REDUCE (topmost (any ∷ any ∷ [])) (topmost (any ∷ []))
    ∷ row BUILD (topmost (any ∷ any ∷ [])) (topmost (any ∷ []))
    ∷ row NEWOBJ (topmost (any ∷ any ∷ [])) (topmost (any ∷ []))
    ∷ row PROTO (topmost []) (topmost [])
    ∷ row STOP (topmost (any ∷ [])) (topmost [])
    ∷ []

-- Where this reader differs: STOP leaves its value for the reading; the PUTs ask for a top, and leave it; a class is a Global,
-- its arguments are a Tuple, and only an Object has a state.
abbrev pub exceptions : List KindRow
exceptions =
    row STOP (topmost []) (topmost [])
    ∷ row PUT (topmost (any ∷ [])) (topmost (any ∷ []))
    ∷ row BINPUT (topmost (any ∷ [])) (topmost (any ∷ []))
    ∷ row LONG_BINPUT (topmost (any ∷ [])) (topmost (any ∷ []))
    ∷ row GLOBAL (topmost []) (topmost (a_global ∷ []))
    ∷ row REDUCE (topmost (a_global ∷ tuple ∷ [])) (topmost (set_or_object ∷ []))
    ∷ row NEWOBJ (topmost (a_global ∷ tuple ∷ [])) (topmost (an_object ∷ []))
    ∷ row BUILD (topmost (an_object ∷ any ∷ [])) (topmost (an_object ∷ []))
    ∷ []

unfoldable pub kinds_in : List KindRow → Opcode → Option KindRow
kinds_in [] o = none
kinds_in (r ∷ t) o = cond (is_named o (known r.opcode)) (some r) (kinds_in t o)

-- the row of an opcode: the exception, if it is one, else pickletools'
unfoldable pub kinds_of : Opcode → Option KindRow
kinds_of o = kinds_in (exceptions ++ pickletools) o

-- ---- the words are as many as the values in crate op's table

unfoldable pub same_count : Kinds → Stack → Bool
same_count (topmost ws) (values n) = eqb (length ws) n
same_count (topmost ws) (to_mark n) = false
same_count (topmost ws) a_mark = false
same_count (below_mark ws) (values n) = false
same_count (below_mark ws) (to_mark n) = eqb (length ws) n
same_count (below_mark ws) a_mark = false
same_count mark_only (values n) = false
same_count mark_only (to_mark n) = false
same_count mark_only a_mark = true

unfoldable pub counts_row : KindRow → Option Row → Bool
counts_row k none = false
counts_row k (some r) = same_count k.takes r.takes && same_count k.leaves r.leaves

unfoldable pub all_count : List KindRow → Bool
all_count [] = true
all_count (k ∷ t) = counts_row k (row_of (code_of k.opcode)) && all_count t

pub words_count : T (all_count pickletools)
unfolding all_count counts_row same_count row_of row_in code_of number_in is_named place
words_count = tt

-- ---- the exceptions say more than pickletools, which says `any` there or names nothing; STOP's says less

unfoldable pub is_any : Word → Bool
is_any any = true
is_any None = false
is_any bool = false
is_any int = false
is_any int_or_bool = false
is_any float = false
is_any bytes_or_str = false
is_any str = false
is_any list = false
is_any tuple = false
is_any dict = false
is_any a_global = false
is_any an_object = false
is_any set_or_object = false

unfoldable pub all_any : List Word → Bool
all_any [] = true
all_any (w ∷ ws) = is_any w && all_any ws

-- the first words say all that the second do
unfoldable pub says : Kinds → Kinds → Bool
says (topmost ws) (topmost vs) = all_any vs && leb (length vs) (length ws)
says (topmost ws) (below_mark vs) = false
says (topmost ws) mark_only = false
says (below_mark ws) k = false
says mark_only k = false

unfoldable pub says_row : KindRow → Option KindRow → Bool
says_row k none = false
says_row k (some r) = says k.takes r.takes && says k.leaves r.leaves

unfoldable pub say_more : List KindRow → List KindRow → Bool
say_more [] m = true
say_more (k ∷ t) m = (is_named k.opcode (known STOP) || says_row k (kinds_in m k.opcode)) && say_more t m

pub exceptions-say_more : T (say_more exceptions pickletools)
unfolding say_more says_row says all_any is_any kinds_in is_named place
exceptions-say_more = tt
