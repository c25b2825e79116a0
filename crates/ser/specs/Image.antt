-- RULES A8: the bytes of a value, at protocol 2 as Python 2 writes it, without the memo. A value's bytes are made of
-- its label and of the bytes of the values directly in it, its parts. Opcodes are those of pickletools (crate `op`).
use Rattle.std.specs.Prelude.{ℕ, suc, zero, ◌-◌, ◌^◌, ◌/◌, ◌%◌, Bool, true, false, cond, ◌||◌, List, [], ◌∷◌, ◌++◌, eqb, leb, ltb, length, get_or, take, drop}
use Rattle.op.specs.Table.{code_of}
use Rattle.op.specs.declared.Opcode.{Opcode}
use Rattle.op.specs.declared.Opcode.TheVariants.{MARK, STOP, INT, BININT, BININT1, BININT2, NONE, REDUCE, BINSTRING, SHORT_BINSTRING, BINUNICODE, APPEND, BUILD, GLOBAL, EMPTY_DICT, APPENDS, EMPTY_LIST, SETITEM, TUPLE, EMPTY_TUPLE, SETITEMS, BINFLOAT, PROTO, NEWOBJ, TUPLE1, TUPLE2, TUPLE3, NEWTRUE, NEWFALSE}
use Rattle.value.specs.Value.{Label, Forest, Value, one, NoneL, BoolL, I64L, F64L, BytesL, StringL, ListL, TupleL, SetL, FrozenSetL, DictL, GlobalL, ObjectL, nil, node}
use Rattle.output.specs.Decimal.{signed_text}
use Rattle.output.specs.Put.{newline_byte}

-- an opcode alone
abbrev pub op : Opcode → List ℕ
op o = code_of o ∷ []

-- ---- numbers and text

-- the low k bytes of a number, low byte first
unfoldable pub low : ℕ → ℕ → List ℕ
low zero n = []
low (suc k) n = n % 256 ∷ low k (n / 256)

-- the same, high byte first
unfoldable pub high : ℕ → ℕ → List ℕ
high zero n = []
high (suc k) n = high k (n / 256) ++ (n % 256 ∷ [])

-- the i64 of 64 bits is one of an i32
unfoldable pub in_i32 : ℕ → Bool
in_i32 b = ltb b (2 ^ 31) || leb (2 ^ 64 - 2 ^ 31) b

-- BININT1 for 0 to 255, BININT2 to 65,535, BININT within i32, else INT with decimal text
unfoldable pub int_image : ℕ → List ℕ
int_image b =
    cond (leb b 255) (op BININT1 ++ low 1 b)
    (cond (leb b 65535) (op BININT2 ++ low 2 b)
    (cond (in_i32 b) (op BININT ++ low 4 b) (op INT ++ (signed_text b ++ (newline_byte ∷ [])))))

-- BINFLOAT has the high byte first
unfoldable pub float_image : ℕ → List ℕ
float_image b = op BINFLOAT ++ high 8 b

-- bytes up to 255 are short
unfoldable pub bytes_image : List ℕ → List ℕ
bytes_image t = cond (leb (length t) 255) (op SHORT_BINSTRING ++ low 1 (length t)) (op BINSTRING ++ low 4 (length t)) ++ t

unfoldable pub string_image : List ℕ → List ℕ
string_image t = (op BINUNICODE ++ low 4 (length t)) ++ t

-- a module and a name, a line each
unfoldable pub global_image : List ℕ → List ℕ → List ℕ
global_image m k = op GLOBAL ++ (m ++ ((newline_byte ∷ []) ++ (k ++ (newline_byte ∷ []))))

-- `__builtin__`, `set`, `frozenset`
abbrev pub builtin : List ℕ
builtin = 0x5F ∷ 0x5F ∷ 0x62 ∷ 0x75 ∷ 0x69 ∷ 0x6C ∷ 0x74 ∷ 0x69 ∷ 0x6E ∷ 0x5F ∷ 0x5F ∷ []

abbrev pub set : List ℕ
set = 0x73 ∷ 0x65 ∷ 0x74 ∷ []

abbrev pub frozenset : List ℕ
frozenset = 0x66 ∷ 0x72 ∷ 0x6F ∷ 0x7A ∷ 0x65 ∷ 0x6E ∷ 0x73 ∷ 0x65 ∷ 0x74 ∷ []

-- Python 2 has no set opcodes: the name, called with a list of the items
unfoldable pub set_opening : List ℕ → List ℕ
set_opening k = global_image builtin k ++ op EMPTY_LIST

unfoldable pub bool_image : Bool → List ℕ
bool_image b = op (cond b NEWTRUE NEWFALSE)

-- ---- what stands before a label's parts

unfoldable pub opening : Label → List ℕ
opening NoneL = op NONE
opening (BoolL b) = bool_image b
opening (I64L i) = int_image i
opening (F64L i) = float_image i
opening (BytesL t) = bytes_image t
opening (StringL t) = string_image t
opening ListL = op EMPTY_LIST
opening TupleL = []
opening SetL = set_opening set
opening FrozenSetL = set_opening frozenset
opening DictL = op EMPTY_DICT
opening (GlobalL m k) = global_image m k
opening (ObjectL m k b) = global_image m k

-- ---- the parts

-- one after the other
unfoldable pub joined : List (List ℕ) → List ℕ
joined [] = []
joined (x ∷ s) = x ++ joined s

-- a batch of a list: MARK and APPENDS, whatever its length
unfoldable pub list_batch : List (List ℕ) → List ℕ
list_batch s = op MARK ++ (joined s ++ op APPENDS)

-- a batch of a dict: MARK and SETITEMS, but SETITEM for an entry alone
unfoldable pub dict_batch : List (List ℕ) → List ℕ
dict_batch s = cond (eqb (length s) 2) (joined s ++ op SETITEM) (op MARK ++ (joined s ++ op SETITEMS))

-- a thousand items, or entries of two parts each; by whether they are entries
unfoldable pub one_batch : Bool → List (List ℕ) → List ℕ
one_batch true s = dict_batch s
one_batch false s = list_batch s

unfoldable pub batch_size : Bool → ℕ
batch_size true = 2000
batch_size false = 1000

-- batch by batch, of which there are at most k
unfoldable pub batches_up_to : ℕ → Bool → List (List ℕ) → List ℕ
batches_up_to zero e s = []
batches_up_to (suc k) e [] = []
batches_up_to (suc k) e (x ∷ s) = one_batch e (take (batch_size e) (x ∷ s)) ++ batches_up_to k e (drop (batch_size e) (x ∷ s))

unfoldable pub batches : Bool → List (List ℕ) → List ℕ
batches e s = batches_up_to (length s) e s

-- the items of a list or of a set's argument: one alone ends APPEND
unfoldable pub items_image : List (List ℕ) → List ℕ
items_image [] = []
items_image (x ∷ []) = joined (x ∷ []) ++ op APPEND
items_image (x ∷ y ∷ s) = batches false (x ∷ y ∷ s)

-- the items of a tuple, marked where there are more than three
unfoldable pub tuple_mark : ℕ → List ℕ
tuple_mark n = cond (leb n 3) [] (op MARK)

unfoldable pub tuple_opcode : ℕ → Opcode
tuple_opcode n = get_or (EMPTY_TUPLE ∷ TUPLE1 ∷ TUPLE2 ∷ TUPLE3 ∷ []) n TUPLE

unfoldable pub tuple_image : List (List ℕ) → List ℕ
tuple_image s = tuple_mark (length s) ++ (joined s ++ op (tuple_opcode (length s)))

-- an Object's arguments, by which it is made, and any state
unfoldable pub object_opcode : Bool → Opcode
object_opcode new = cond new NEWOBJ REDUCE

unfoldable pub state_image : List (List ℕ) → List ℕ
state_image [] = []
state_image (x ∷ s) = joined (x ∷ s) ++ op BUILD

unfoldable pub object_image : Bool → List (List ℕ) → List ℕ
object_image new [] = []
object_image new (x ∷ s) = joined (x ∷ []) ++ (op (object_opcode new) ++ state_image s)

unfoldable pub contents : Label → List (List ℕ) → List ℕ
contents NoneL s = []
contents (BoolL b) s = []
contents (I64L i) s = []
contents (F64L i) s = []
contents (BytesL t) s = []
contents (StringL t) s = []
contents ListL s = items_image s
contents TupleL s = tuple_image s
contents SetL s = items_image s ++ (op TUPLE1 ++ op REDUCE)
contents FrozenSetL s = items_image s ++ (op TUPLE1 ++ op REDUCE)
contents DictL s = batches true s
contents (GlobalL m k) s = []
contents (ObjectL m k b) s = object_image b s

-- ---- a value

-- the bytes of each of the values that stand side by side
unfoldable pub images : Forest → List (List ℕ)
images nil = []
images (node l c r) = (opening l ++ contents l (images c)) ∷ images r

-- PROTO 2, the value, STOP
unfoldable pub framed : List (List ℕ) → List ℕ
framed s = op PROTO ++ ((2 ∷ []) ++ (joined s ++ op STOP))

unfoldable pub pickled : Value → List ℕ
pickled v = framed (images (one v))
