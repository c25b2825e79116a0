-- Each opcode of protocols 0 to 2 that the Rust knows, grouped as in de.rs's `decode`: the Rust's own checks in its order, then
-- LinksFull, NodesFull, StackFull, or MarksFull or MemoFull. Opcodes that differ in a width share a definition.
use Rattle.std.specs.Prelude.{ℕ, ◌%◌, Bool, true, false, cond, ◌&&◌, List, [], ◌∷◌, ◌++◌, length, get_or, set, leb, ltb, eqb, ℤ, pos, negsuc}
use Rattle.refusal.specs.declared.Refusal.{Refusal}
use Rattle.refusal.specs.declared.Refusal.TheVariants.{UnsupportedProtocol, MarksFull, Invalid}
use Rattle.refusal.specs.declared.Wanted.TheVariants.{Length, DictItems, List as AList, Dict as ADict, Class, Arguments, Object}
use Rattle.utf8.specs.Utf8.{repair}
use Rattle.input.specs.Bytes.{low_first, high_first}
use Rattle.input.specs.Long.{denotes, bits64, long_of}
use Rattle.number.specs.Space.{same}
use Rattle.number.specs.Number.{Int, truth, whole, int_literal, long_literal, parse_u32}
use Rattle.float.specs.Literal.{parse_f64}
use Rattle.text.specs.Text.{unescape_string, unescape_unicode}
use Rattle.value.specs.Value.{Label, NoneL, BoolL, I64L, F64L, BytesL, StringL, ListL, TupleL, SetL, FrozenSetL, DictL, GlobalL, ObjectL}
pub use Rattle.value.specs.WellFormed.{is_tuple}
use Rattle.steps.specs.State.{Node, State, Res, ok, no, ◌>>=◌, need, leaf, marks_limit, with_marks, with_nodes, bytes, byte, line, pop, top, pop_mark, pop_many, push_id, push_node, push, link, node_by, extend, get, put}

-- ---- kinds of nodes

abbrev pub is_list : Label → Bool
is_list NoneL = false
is_list (BoolL b) = false
is_list (I64L n) = false
is_list (F64L n) = false
is_list (BytesL t) = false
is_list (StringL t) = false
is_list ListL = true
is_list TupleL = false
is_list SetL = false
is_list FrozenSetL = false
is_list DictL = false
is_list (GlobalL m n) = false
is_list (ObjectL m n b) = false

abbrev pub is_dict : Label → Bool
is_dict NoneL = false
is_dict (BoolL b) = false
is_dict (I64L n) = false
is_dict (F64L n) = false
is_dict (BytesL t) = false
is_dict (StringL t) = false
is_dict ListL = false
is_dict TupleL = false
is_dict SetL = false
is_dict FrozenSetL = false
is_dict DictL = true
is_dict (GlobalL m n) = false
is_dict (ObjectL m n b) = false

abbrev pub is_object : Label → Bool
is_object NoneL = false
is_object (BoolL b) = false
is_object (I64L n) = false
is_object (F64L n) = false
is_object (BytesL t) = false
is_object (StringL t) = false
is_object ListL = false
is_object TupleL = false
is_object SetL = false
is_object FrozenSetL = false
is_object DictL = false
is_object (GlobalL m n) = false
is_object (ObjectL m n b) = true

-- a class: the module and the name of a Global
abbrev pub class_of : Label → Res (List ℕ × List ℕ)
class_of NoneL = no (Invalid Class)
class_of (BoolL b) = no (Invalid Class)
class_of (I64L n) = no (Invalid Class)
class_of (F64L n) = no (Invalid Class)
class_of (BytesL t) = no (Invalid Class)
class_of (StringL t) = no (Invalid Class)
class_of ListL = no (Invalid Class)
class_of TupleL = no (Invalid Class)
class_of SetL = no (Invalid Class)
class_of FrozenSetL = no (Invalid Class)
class_of DictL = no (Invalid Class)
class_of (GlobalL m n) = ok (m, n)
class_of (ObjectL m n b) = no (Invalid Class)

-- ---- marks and the stack

-- v is the highest protocol that is accepted
unfoldable pub proto : ℕ → State → Res State
proto v s = do
  (p, s₁) ← byte s
  _ ← need (leb p v) (UnsupportedProtocol p)
  ok s₁

-- a mark is the stack's length
unfoldable pub mark : State → Res State
mark s = do
  _ ← need (ltb (length s.marks) marks_limit) MarksFull
  ok (with_marks s (s.marks ++ (length s.stack ∷ [])))

-- POP does not guard a mark
unfoldable pub pop_one : State → Res State
pop_one s = do
  (i, s₁) ← pop s
  ok s₁

unfoldable pub pop_to_mark : State → Res State
pop_to_mark s = do
  (is, s₁) ← pop_mark s
  ok s₁

-- the same node again
unfoldable pub dup : State → Res State
dup s = do
  i ← top s
  push_id i s

-- ---- values

unfoldable pub int_label : Int → Label
int_label (truth b) = BoolL b
int_label (whole z) = I64L (bits64 z)

unfoldable pub int : State → Res State
int s = do
  (l, s₁) ← line s
  v ← leaf (int_literal l)
  push (int_label v) s₁

-- the number of the next n bytes, low byte first
unfoldable pub low_bytes : ℕ → State → Res (ℕ × State)
low_bytes n s = do
  (b, s₁) ← bytes n s
  ok (low_first b, s₁)

unfoldable pub binint : State → Res State
binint s = do
  (b, s₁) ← bytes 4 s
  push (I64L (bits64 (denotes b))) s₁

unfoldable pub binint1 : State → Res State
binint1 s = do
  (v, s₁) ← low_bytes 1 s
  push (I64L v) s₁

unfoldable pub binint2 : State → Res State
binint2 s = do
  (v, s₁) ← low_bytes 2 s
  push (I64L v) s₁

unfoldable pub long : State → Res State
long s = do
  (l, s₁) ← line s
  z ← leaf (long_literal l)
  push (I64L (bits64 z)) s₁

-- LONG1 and LONG4: a length of n bytes, and so many bytes; these (3) before 9
unfoldable pub long_n : ℕ → State → Res State
long_n n s = do
  (z, s₁) ← low_bytes n s
  (b, s₂) ← bytes z s₁
  v ← leaf (long_of b)
  push (I64L v) s₂

unfoldable pub float : State → Res State
float s = do
  (l, s₁) ← line s
  v ← leaf (parse_f64 l)
  push (F64L v) s₁

unfoldable pub binfloat : State → Res State
binfloat s = do
  (b, s₁) ← bytes 8 s
  push (F64L (high_first b)) s₁

unfoldable pub string : State → Res State
string s = do
  (l, s₁) ← line s
  t ← leaf (unescape_string l)
  push (BytesL t) s₁

-- a length of four bytes that may be negative: its sign (10, 1) before the bytes (3)
unfoldable pub signed_length : ℤ → Res ℕ
signed_length (pos n) = ok n
signed_length (negsuc n) = no (Invalid Length)

unfoldable pub binstring : State → Res State
binstring s = do
  (h, s₁) ← bytes 4 s
  n ← signed_length (denotes h)
  (b, s₂) ← bytes n s₁
  push (BytesL b) s₂

unfoldable pub short_binstring : State → Res State
short_binstring s = do
  (n, s₁) ← low_bytes 1 s
  (b, s₂) ← bytes n s₁
  push (BytesL b) s₂

unfoldable pub unicode : State → Res State
unicode s = do
  (l, s₁) ← line s
  t ← leaf (unescape_unicode l)
  push (StringL t) s₁

unfoldable pub binunicode : State → Res State
binunicode s = do
  (n, s₁) ← low_bytes 4 s
  (b, s₂) ← bytes n s₁
  push (StringL (repair b)) s₂

unfoldable pub global : State → Res State
global s = do
  (m, s₁) ← line s
  (n, s₂) ← line s₁
  push (GlobalL (repair m) (repair n)) s₂

-- ---- containers

-- a node with items: a link each
unfoldable pub made : Label → List ℕ → State → Res State
made l items s = do
  s₁ ← link (length items) s
  push_node (record { label = l; kids = items }) s₁

unfoldable pub list : State → Res State
list s = do
  (is, s₁) ← pop_mark s
  made ListL is s₁

unfoldable pub tuple : State → Res State
tuple s = do
  (is, s₁) ← pop_mark s
  made TupleL is s₁

-- TUPLE1 to TUPLE3 pay no heed to marks
unfoldable pub tuple_n : ℕ → State → Res State
tuple_n n s = do
  (is, s₁) ← pop_many n s
  made TupleL is s₁

-- keys and values come in pairs
unfoldable pub pairs : List ℕ → Res (Unit {0})
pairs is = need (eqb (length is % 2) 0) (Invalid DictItems)

unfoldable pub dict : State → Res State
dict s = do
  (is, s₁) ← pop_mark s
  _ ← pairs is
  made DictL is s₁

-- items to the container on top, which must be of its kind; LinksFull
unfoldable pub add_items : (Label → Bool) → Refusal → List ℕ → State → Res State
add_items right why is s = do
  i ← top s
  _ ← need (right (node_by s i).label) why
  s₁ ← link (length is) s
  ok (extend i is s₁)

unfoldable pub append : State → Res State
append s = do
  (i, s₁) ← pop s
  add_items is_list (Invalid AList) (i ∷ []) s₁

unfoldable pub appends : State → Res State
appends s = do
  (is, s₁) ← pop_mark s
  add_items is_list (Invalid AList) is s₁

unfoldable pub setitem : State → Res State
setitem s = do
  (v, s₁) ← pop s
  (k, s₂) ← pop s₁
  add_items is_dict (Invalid ADict) (k ∷ v ∷ []) s₂

unfoldable pub setitems : State → Res State
setitems s = do
  (is, s₁) ← pop_mark s
  _ ← pairs is
  add_items is_dict (Invalid ADict) is s₁

-- ---- the memo

unfoldable pub get_line : State → Res State
get_line s = do
  (l, s₁) ← line s
  k ← leaf (parse_u32 l)
  get k s₁

unfoldable pub get_bytes : ℕ → State → Res State
get_bytes n s = do
  (k, s₁) ← low_bytes n s
  get k s₁

unfoldable pub put_line : State → Res State
put_line s = do
  (l, s₁) ← line s
  k ← leaf (parse_u32 l)
  put k s₁

unfoldable pub put_bytes : ℕ → State → Res State
put_bytes n s = do
  (k, s₁) ← low_bytes n s
  put k s₁

-- ---- classes and objects

-- `__builtin__`, `set`, `frozenset`
abbrev pub builtin : List ℕ
builtin = 95 ∷ 95 ∷ 98 ∷ 117 ∷ 105 ∷ 108 ∷ 116 ∷ 105 ∷ 110 ∷ 95 ∷ 95 ∷ []

abbrev pub set_name : List ℕ
set_name = 115 ∷ 101 ∷ 116 ∷ []

abbrev pub frozenset_name : List ℕ
frozenset_name = 102 ∷ 114 ∷ 111 ∷ 122 ∷ 101 ∷ 110 ∷ 115 ∷ 101 ∷ 116 ∷ []

-- an Object made of its class and arguments
abbrev pub object : List ℕ × List ℕ → Bool → ℕ → Node
object c is_new args = record { label = ObjectL c.0 c.1 is_new; kids = args ∷ [] }

-- a set of its one argument, without one of the empty tuple of arguments
abbrev pub set_of : Label → ℕ → List ℕ → Node
set_of l args items = record { label = l; kids = get_or items 0 args ∷ [] }

-- REDUCE on `__builtin__` `set` or `frozenset` with at most one argument makes a set of it
unfoldable pub reduced : List ℕ × List ℕ → ℕ → List ℕ → Node
reduced c args items =
    cond (same c.0 builtin && leb (length items) 1)
    (cond (same c.1 set_name) (set_of SetL args items) (cond (same c.1 frozenset_name) (set_of FrozenSetL args items) (object c false args)))
    (object c false args)

-- both pops, the class, the arguments; then what the opcode makes of them
unfoldable pub called : (List ℕ × List ℕ → ℕ → List ℕ → Node) → State → Res State
called makes s = do
  (args, s₁) ← pop s
  (i, s₂) ← pop s₁
  c ← class_of (node_by s₂ i).label
  _ ← need (is_tuple (node_by s₂ args).label) (Invalid Arguments)
  push_node (makes c args (node_by s₂ args).kids) s₂

unfoldable pub reduce : State → Res State
reduce s = called reduced s

-- NEWOBJ never makes a set
unfoldable pub newobj : State → Res State
newobj s = called (λ c args items. object c true args) s

-- the state replaces an earlier one
unfoldable pub build_state : State → Res State
build_state s = do
  (i, s₁) ← pop s
  o ← top s₁
  let n = node_by s₁ o
  _ ← need (is_object n.label) (Invalid Object)
  ok (with_nodes s₁ (set s₁.nodes o (record { label = n.label; kids = get_or n.kids 0 0 ∷ i ∷ [] })))
