-- No opcode, no step, no run and no measure of a tree refuses with 1, 2, 11, 23 or 24.
use Rattle.std.specs.Prelude.{ℕ, suc, zero, Bool, true, false, cond, Some, None, List, [], ◌∷◌, ◌≡◌, refl, eqb, ℤ, pos, negsuc}
use Rattle.std.proofs.Math.Option.{Option, none, some}
use Rattle.refusal.specs.Read.{Read, got, refused}
use Rattle.refusal.specs.declared.Refusal.{Refusal}
use Rattle.refusal.specs.declared.Refusal.TheVariants.{EndOfInput, UnsupportedProtocol, StackUnderflow, Invalid, StackFull, MarksFull, MemoFull, NodesFull, LinksFull, TooDeep, TooManyValues, TextFull}
use Rattle.refusal.specs.declared.Wanted.TheVariants.{DictItems, List as AList, Dict as ADict, Arguments, Object}
use Rattle.op.specs.Table.{opcode_of}
use Rattle.op.specs.declared.Opcode.{Opcode}
use Rattle.op.specs.declared.Opcode.TheVariants.{MARK, STOP, POP, POP_MARK, DUP, FLOAT, INT, BININT, BININT1, LONG, BININT2, NONE, REDUCE, STRING, BINSTRING, SHORT_BINSTRING, UNICODE, BINUNICODE, APPEND, BUILD, GLOBAL, DICT, EMPTY_DICT, APPENDS, GET, BINGET, LONG_BINGET, LIST, EMPTY_LIST, PUT, BINPUT, LONG_BINPUT, SETITEM, TUPLE, EMPTY_TUPLE, SETITEMS, BINFLOAT, PROTO, NEWOBJ, TUPLE1, TUPLE2, TUPLE3, NEWTRUE, NEWFALSE, LONG1, LONG4}
use Rattle.op.specs.Edition.{Against, against, highest}
use Rattle.op.specs.declared.Edition.{Edition}
use Rattle.op.specs.declared.Objection.TheVariants.{Outside, Unknown}
use Rattle.input.specs.Long.{denotes}
use Rattle.value.specs.Value.{Label, NoneL, BoolL, I64L, F64L, BytesL, StringL, ListL, TupleL, SetL, FrozenSetL, DictL, GlobalL, ObjectL, Forest}
use Rattle.steps.specs.State.{Node, State, Res, ok, no, ◌>>=◌, need, leaf, bytes, byte, line, pop, top, pop_mark, pop_many, push_id, push_node, push, link, node_by, memo_find, get, put}
use Rattle.steps.specs.Opcodes.{is_list, is_dict, class_of, proto, mark, pop_one, pop_to_mark, dup, int, low_bytes, binint, binint1, binint2, long, long_n, float, binfloat, string, signed_length, binstring, short_binstring, unicode, binunicode, global, made, list, tuple, tuple_n, pairs, dict, add_items, append, appends, setitem, setitems, get_line, get_bytes, put_line, put_bytes, called, reduce, newobj, build_state}
use Rattle.steps.specs.Run.{Next, goes, stops, going, does, decide, admit, step, runs, start, run}
use Rattle.reading.specs.Measure.{measured}
use Rattle.run_laws.specs.Inner.{Inner, InnerRead, newline_inner, long_of-inner, parse_u32-inner, int_literal-inner, long_literal-inner, parse_f64-inner, unescape_string-inner, unescape_unicode-inner}
use Rattle.run_laws.specs.InnerSteps.{InnerOnly}

-- ---- the ways in which parts are joined

pub fine : {A : Type 0} (a : A) → InnerOnly (ok a)
unfolding InnerOnly
fine a = tt

pub inner-joined : {A B : Type 0} (r : Res A) (f : A → Res B) → InnerOnly r → ((a : A) → InnerOnly (f a)) → InnerOnly (r >>= f)
unfolding InnerOnly ◌>>=◌
inner-joined (ok a) f h k = k a
inner-joined (no why) f h k = h

checked : (b : Bool) (why : Refusal) → Inner why → InnerOnly (need b why)
unfolding InnerOnly need
checked true why h = tt
checked false why h = h

-- a check and then more
after_check : {A : Type 0} (b : Bool) (why : Refusal) (f : Unit {0} → Res A) → Inner why → InnerOnly (f tt) → InnerOnly (need b why >>= f)
unfolding InnerOnly need ◌>>=◌
after_check true why f h k = k
after_check false why f h k = h

of_leaf : {A : Type 0} (r : Read A) → InnerRead r → InnerOnly (leaf r)
unfolding InnerOnly InnerRead leaf
of_leaf (got a) h = tt
of_leaf (refused why at) h = h

-- ---- the parts of a step

bytes-inner : (n : ℕ) (s : State) → InnerOnly (bytes n s)
unfolding bytes
bytes-inner n s = after_check _ EndOfInput _ tt (fine _)

byte-inner : (s : State) → InnerOnly (byte s)
unfolding byte
byte-inner s = inner-joined _ _ (bytes-inner 1 s) λ p. fine _

line-inner : (s : State) → InnerOnly (line s)
unfolding line
line-inner s = inner-joined _ _ (of_leaf _ (newline_inner s.input 0)) λ i. fine _

low_bytes-inner : (n : ℕ) (s : State) → InnerOnly (low_bytes n s)
unfolding low_bytes
low_bytes-inner n s = inner-joined _ _ (bytes-inner n s) λ p. fine _

pub pop_inner : (s : State) → InnerOnly (pop s)
unfolding pop
pop_inner s = after_check _ StackUnderflow _ tt (fine _)

top_inner : (s : State) → InnerOnly (top s)
unfolding top
top_inner s = after_check _ StackUnderflow _ tt (fine _)

pop_mark-inner : (s : State) → InnerOnly (pop_mark s)
unfolding pop_mark
pop_mark-inner s = after_check _ StackUnderflow _ tt (after_check _ StackUnderflow _ tt (fine _))

pop_many-inner : (n : ℕ) (s : State) → InnerOnly (pop_many n s)
unfolding pop_many
pop_many-inner n s = after_check _ StackUnderflow _ tt (fine _)

push_id-inner : (i : ℕ) (s : State) → InnerOnly (push_id i s)
unfolding push_id
push_id-inner i s = after_check _ StackFull _ tt (fine _)

push_node-inner : (n : Node) (s : State) → InnerOnly (push_node n s)
unfolding push_node
push_node-inner n s = after_check _ NodesFull _ tt (push_id-inner _ _)

push-inner : (l : Label) (s : State) → InnerOnly (push l s)
unfolding push
push-inner l s = push_node-inner _ s

link-inner : (k : ℕ) (s : State) → InnerOnly (link k s)
unfolding link
link-inner k s = after_check _ LinksFull _ tt (fine _)

find-inner : (m : List (ℕ × ℕ)) (k : ℕ) → InnerOnly (memo_find m k)
unfolding memo_find InnerOnly
find-inner [] k = tt
find-inner (e ∷ m) k = go (eqb k e.0) (find-inner m k)
  where
    go : (b : Bool) → InnerOnly (memo_find m k) → InnerOnly (cond b (ok e.1) (memo_find m k))
    go true h = tt
    go false h = h

get_inner : (k : ℕ) (s : State) → InnerOnly (get k s)
unfolding get
get_inner k s = inner-joined _ _ (find-inner s.memo k) λ i. push_id-inner i s

put_inner : (k : ℕ) (s : State) → InnerOnly (put k s)
unfolding put
put_inner k s = inner-joined _ _ (top_inner s) λ i. after_check _ MemoFull _ tt (fine _)

class_of-inner : (l : Label) → InnerOnly (class_of l)
unfolding InnerOnly
class_of-inner NoneL = tt
class_of-inner (BoolL b) = tt
class_of-inner (I64L n) = tt
class_of-inner (F64L n) = tt
class_of-inner (BytesL t) = tt
class_of-inner (StringL t) = tt
class_of-inner ListL = tt
class_of-inner TupleL = tt
class_of-inner SetL = tt
class_of-inner FrozenSetL = tt
class_of-inner DictL = tt
class_of-inner (GlobalL m n) = tt
class_of-inner (ObjectL m n b) = tt

signed-inner : (z : ℤ) → InnerOnly (signed_length z)
unfolding InnerOnly signed_length
signed-inner (pos n) = tt
signed-inner (negsuc n) = tt

-- a literal on a line
line_then : {A : Type 0} (s : State) (read : List ℕ → Read A) (g : A → State → Res State) → ((l : List ℕ) → InnerRead (read l)) → ((a : A) (t : State) → InnerOnly (g a t))
    → InnerOnly (line s >>= λ p. leaf (read p.0) >>= λ a. g a p.1)
line_then s read g h k = inner-joined _ _ (line-inner s) λ p. inner-joined _ _ (of_leaf _ (h p.0)) λ a. k a p.1

made-inner : (l : Label) (is : List ℕ) (s : State) → InnerOnly (made l is s)
unfolding made
made-inner l is s = inner-joined _ _ (link-inner _ s) λ t. push_node-inner _ t

added-inner : (right : Label → Bool) (why : Refusal) (is : List ℕ) (s : State) → Inner why → InnerOnly (add_items right why is s)
unfolding add_items
added-inner right why is s h = inner-joined _ _ (top_inner s) λ i. after_check _ why _ h (inner-joined _ _ (link-inner _ s) λ t. fine _)

called-inner : (makes : List ℕ × List ℕ → ℕ → List ℕ → Node) (s : State) → InnerOnly (called makes s)
unfolding called
called-inner makes s = inner-joined _ _ (pop_inner s) λ p. inner-joined _ _ (pop_inner p.1) λ q. inner-joined _ _ (class_of-inner (node_by q.1 q.0).label) λ c. after_check _ (Invalid Arguments) _ tt (push_node-inner _ _)

-- ---- the opcodes

module _ (s : State) where
  proto-inner : (v : ℕ) → InnerOnly (proto v s)
  unfolding proto
  proto-inner v = inner-joined _ _ (byte-inner s) λ p. after_check _ (UnsupportedProtocol p.0) _ tt (fine _)

  mark-inner : InnerOnly (mark s)
  unfolding mark
  mark-inner = after_check _ MarksFull _ tt (fine _)

  pop_one-inner : InnerOnly (pop_one s)
  unfolding pop_one
  pop_one-inner = inner-joined _ _ (pop_inner s) λ p. fine _

  pop_to_mark-inner : InnerOnly (pop_to_mark s)
  unfolding pop_to_mark
  pop_to_mark-inner = inner-joined _ _ (pop_mark-inner s) λ p. fine _

  dup_inner : InnerOnly (dup s)
  unfolding dup
  dup_inner = inner-joined _ _ (top_inner s) λ i. push_id-inner i s

  int_inner : InnerOnly (int s)
  unfolding int
  int_inner = line_then s _ _ int_literal-inner λ v t. push-inner _ t

  long-inner : InnerOnly (long s)
  unfolding long
  long-inner = line_then s _ _ long_literal-inner λ v t. push-inner _ t

  float-inner : InnerOnly (float s)
  unfolding float
  float-inner = line_then s _ _ parse_f64-inner λ v t. push-inner _ t

  string-inner : InnerOnly (string s)
  unfolding string
  string-inner = line_then s _ _ unescape_string-inner λ v t. push-inner _ t

  unicode-inner : InnerOnly (unicode s)
  unfolding unicode
  unicode-inner = line_then s _ _ unescape_unicode-inner λ v t. push-inner _ t

  get_line-inner : InnerOnly (get_line s)
  unfolding get_line
  get_line-inner = line_then s _ _ parse_u32-inner get_inner

  put_line-inner : InnerOnly (put_line s)
  unfolding put_line
  put_line-inner = line_then s _ _ parse_u32-inner put_inner

  binint-inner : InnerOnly (binint s)
  unfolding binint
  binint-inner = inner-joined _ _ (bytes-inner 4 s) λ p. push-inner _ _

  binint1-inner : InnerOnly (binint1 s)
  unfolding binint1
  binint1-inner = inner-joined _ _ (low_bytes-inner 1 s) λ p. push-inner _ _

  binint2-inner : InnerOnly (binint2 s)
  unfolding binint2
  binint2-inner = inner-joined _ _ (low_bytes-inner 2 s) λ p. push-inner _ _

  binfloat-inner : InnerOnly (binfloat s)
  unfolding binfloat
  binfloat-inner = inner-joined _ _ (bytes-inner 8 s) λ p. push-inner _ _

  long_n-inner : (n : ℕ) → InnerOnly (long_n n s)
  unfolding long_n
  long_n-inner n = inner-joined _ _ (low_bytes-inner n s) λ p. inner-joined _ _ (bytes-inner p.0 p.1) λ q. inner-joined _ _ (of_leaf _ (long_of-inner q.0)) λ v. push-inner _ _

  binstring-inner : InnerOnly (binstring s)
  unfolding binstring
  binstring-inner = inner-joined _ _ (bytes-inner 4 s) λ p. inner-joined _ _ (signed-inner (denotes p.0)) λ n. inner-joined _ _ (bytes-inner n p.1) λ q. push-inner _ _

  short_binstring-inner : InnerOnly (short_binstring s)
  unfolding short_binstring
  short_binstring-inner = inner-joined _ _ (low_bytes-inner 1 s) λ p. inner-joined _ _ (bytes-inner p.0 p.1) λ q. push-inner _ _

  binunicode-inner : InnerOnly (binunicode s)
  unfolding binunicode
  binunicode-inner = inner-joined _ _ (low_bytes-inner 4 s) λ p. inner-joined _ _ (bytes-inner p.0 p.1) λ q. push-inner _ _

  global-inner : InnerOnly (global s)
  unfolding global
  global-inner = inner-joined _ _ (line-inner s) λ p. inner-joined _ _ (line-inner p.1) λ q. push-inner _ _

  list-inner : InnerOnly (list s)
  unfolding list
  list-inner = inner-joined _ _ (pop_mark-inner s) λ p. made-inner _ _ _

  tuple-inner : InnerOnly (tuple s)
  unfolding tuple
  tuple-inner = inner-joined _ _ (pop_mark-inner s) λ p. made-inner _ _ _

  tuple_n-inner : (n : ℕ) → InnerOnly (tuple_n n s)
  unfolding tuple_n
  tuple_n-inner n = inner-joined _ _ (pop_many-inner n s) λ p. made-inner _ _ _

  dict-inner : InnerOnly (dict s)
  unfolding dict pairs
  dict-inner = inner-joined _ _ (pop_mark-inner s) λ p. after_check _ (Invalid DictItems) _ tt (made-inner _ _ _)

  append-inner : InnerOnly (append s)
  unfolding append
  append-inner = inner-joined _ _ (pop_inner s) λ p. added-inner is_list (Invalid AList) _ _ tt

  appends-inner : InnerOnly (appends s)
  unfolding appends
  appends-inner = inner-joined _ _ (pop_mark-inner s) λ p. added-inner is_list (Invalid AList) _ _ tt

  setitem-inner : InnerOnly (setitem s)
  unfolding setitem
  setitem-inner = inner-joined _ _ (pop_inner s) λ p. inner-joined _ _ (pop_inner p.1) λ q. added-inner is_dict (Invalid ADict) _ _ tt

  setitems-inner : InnerOnly (setitems s)
  unfolding setitems pairs
  setitems-inner = inner-joined _ _ (pop_mark-inner s) λ p. after_check _ (Invalid DictItems) _ tt (added-inner is_dict (Invalid ADict) _ _ tt)

  get_bytes-inner : (n : ℕ) → InnerOnly (get_bytes n s)
  unfolding get_bytes
  get_bytes-inner n = inner-joined _ _ (low_bytes-inner n s) λ p. get_inner _ _

  put_bytes-inner : (n : ℕ) → InnerOnly (put_bytes n s)
  unfolding put_bytes
  put_bytes-inner n = inner-joined _ _ (low_bytes-inner n s) λ p. put_inner _ _

  reduce-inner : InnerOnly (reduce s)
  unfolding reduce
  reduce-inner = called-inner _ s

  newobj-inner : InnerOnly (newobj s)
  unfolding newobj
  newobj-inner = called-inner _ s

  build-inner : InnerOnly (build_state s)
  unfolding build_state
  build-inner = inner-joined _ _ (pop_inner s) λ p. inner-joined _ _ (top_inner p.1) λ o. after_check _ (Invalid Object) _ tt (fine _)

going-inner : (r : Res State) → InnerOnly r → InnerOnly (going r)
unfolding InnerOnly going
going-inner (ok s) h = tt
going-inner (no why) h = h

pub does-inner : (v : ℕ) (o : Opcode) (s : State) → InnerOnly (does v o s)
unfolding does
does-inner v MARK s = going-inner _ (mark-inner s)
does-inner v STOP s = fine _
does-inner v POP s = going-inner _ (pop_one-inner s)
does-inner v POP_MARK s = going-inner _ (pop_to_mark-inner s)
does-inner v DUP s = going-inner _ (dup_inner s)
does-inner v FLOAT s = going-inner _ (float-inner s)
does-inner v INT s = going-inner _ (int_inner s)
does-inner v BININT s = going-inner _ (binint-inner s)
does-inner v BININT1 s = going-inner _ (binint1-inner s)
does-inner v LONG s = going-inner _ (long-inner s)
does-inner v BININT2 s = going-inner _ (binint2-inner s)
does-inner v NONE s = going-inner _ (push-inner NoneL s)
does-inner v REDUCE s = going-inner _ (reduce-inner s)
does-inner v STRING s = going-inner _ (string-inner s)
does-inner v BINSTRING s = going-inner _ (binstring-inner s)
does-inner v SHORT_BINSTRING s = going-inner _ (short_binstring-inner s)
does-inner v UNICODE s = going-inner _ (unicode-inner s)
does-inner v BINUNICODE s = going-inner _ (binunicode-inner s)
does-inner v APPEND s = going-inner _ (append-inner s)
does-inner v BUILD s = going-inner _ (build-inner s)
does-inner v GLOBAL s = going-inner _ (global-inner s)
does-inner v DICT s = going-inner _ (dict-inner s)
does-inner v EMPTY_DICT s = going-inner _ (push-inner DictL s)
does-inner v APPENDS s = going-inner _ (appends-inner s)
does-inner v GET s = going-inner _ (get_line-inner s)
does-inner v BINGET s = going-inner _ (get_bytes-inner s 1)
does-inner v LONG_BINGET s = going-inner _ (get_bytes-inner s 4)
does-inner v LIST s = going-inner _ (list-inner s)
does-inner v EMPTY_LIST s = going-inner _ (push-inner ListL s)
does-inner v PUT s = going-inner _ (put_line-inner s)
does-inner v BINPUT s = going-inner _ (put_bytes-inner s 1)
does-inner v LONG_BINPUT s = going-inner _ (put_bytes-inner s 4)
does-inner v SETITEM s = going-inner _ (setitem-inner s)
does-inner v TUPLE s = going-inner _ (tuple-inner s)
does-inner v EMPTY_TUPLE s = going-inner _ (push-inner TupleL s)
does-inner v SETITEMS s = going-inner _ (setitems-inner s)
does-inner v BINFLOAT s = going-inner _ (binfloat-inner s)
does-inner v PROTO s = going-inner _ (proto-inner s v)
does-inner v NEWOBJ s = going-inner _ (newobj-inner s)
does-inner v TUPLE1 s = going-inner _ (tuple_n-inner s 1)
does-inner v TUPLE2 s = going-inner _ (tuple_n-inner s 2)
does-inner v TUPLE3 s = going-inner _ (tuple_n-inner s 3)
does-inner v NEWTRUE s = going-inner _ (push-inner (BoolL true) s)
does-inner v NEWFALSE s = going-inner _ (push-inner (BoolL false) s)
does-inner v LONG1 s = going-inner _ (long_n-inner s 1)
does-inner v LONG4 s = going-inner _ (long_n-inner s 4)

-- ---- a step, the run, the measures

decide-inner : (v : ℕ) (o : Option Opcode) (b : ℕ) (s : State) → InnerOnly (decide v o b s)
unfolding decide InnerOnly
decide-inner v none b s = tt
decide-inner v (some o) b s = does-inner v o s

admit-inner : (x : Against) (b : ℕ) (r : Res Next) → InnerOnly r → InnerOnly (admit x b r)
unfolding admit InnerOnly
admit-inner None b r h = h
admit-inner (Some Outside) b r h = tt
admit-inner (Some Unknown) b r h = tt

pub step-inner : (ed : Edition) (s : State) → InnerOnly (step ed s)
unfolding step
step-inner ed s = inner-joined _ _ (byte-inner s) λ p. admit-inner (against ed p.0) p.0 _ (decide-inner (highest ed) (opcode_of p.0) p.0 p.1)

pub runs-inner : (ed : Edition) (k : ℕ) (s : State) → InnerOnly (runs ed k s)
unfolding runs InnerOnly
runs-inner ed zero s = tt
runs-inner ed (suc k) s = go (step ed s) refl (step-inner ed s) (runs-inner ed k)
  where
    go : (r : Res Next) → step ed s ≡ r → InnerOnly r → ((t : State) → InnerOnly (runs ed k t)) → InnerOnly (runs ed (suc k) s)
    go (no why) e h more = rw (e, runs) h
    go (ok (stops t)) e h more = rw (e, runs) tt
    go (ok (goes t)) e h more = rw (e, runs) (more t)

pub run_inner : (ed : Edition) (p : List ℕ) → InnerOnly (run ed p)
unfolding run
run_inner ed p = runs-inner ed _ (start p)

pub measured-inner : (f : Forest) → InnerOnly (measured f)
unfolding measured
measured-inner f = after_check _ TooDeep _ tt (after_check _ TooManyValues _ tt (checked _ TextFull tt))
