-- What the machine holds, and the parts of a step: reading, the stack, marks, memo, nodes and links, with the limits of RULES A3.1.
use Rattle.std.specs.Prelude.{ℕ, suc, ◌+◌, ◌-◌, Bool, true, false, cond, List, [], ◌∷◌, ◌++◌, length, get_or, take, drop, set, leb, ltb, eqb}
use Rattle.refusal.specs.Read.{Read, got, refused}
use Rattle.refusal.specs.declared.Refusal.{Refusal}
use Rattle.refusal.specs.declared.Refusal.TheVariants.{EndOfInput, StackUnderflow, MissingMemo, StackFull, MemoFull, NodesFull, LinksFull}
use Rattle.input.specs.Line.{newline_of, line_of}
use Rattle.value.specs.Value.{Label, NoneL}

-- ---- RULES A3.1

abbrev pub stack_limit : ℕ
stack_limit = 2048

abbrev pub marks_limit : ℕ
marks_limit = 256

abbrev pub memo_limit : ℕ
memo_limit = 1024

abbrev pub nodes_limit : ℕ
nodes_limit = 4096

abbrev pub links_limit : ℕ
links_limit = 8192

-- ---- the state

-- A node (`Node` of de.rs): what it is, and the numbers of the nodes in it. A value has none; a Dict's alternate key and value; a
-- Set has its argument, without one the empty argument tuple; an Object has its arguments and then any state.
pub record Node : Type 0 where
  pub label : Label
  pub kids : List ℕ

abbrev pub kidless : Label → Node
kidless l = record { label = l; kids = [] }

-- the bytes still to be read; stack and marks with the top last; memo numbers with their nodes, different numbers only
pub record State : Type 0 where
  pub input : List ℕ
  pub nodes : List Node
  pub stack : List ℕ
  pub marks : List ℕ
  pub memo : List (ℕ × ℕ)
  pub links : ℕ

pub data Res (A : Type 0) : Type 0 where
  ok : A → Res A
  no : Refusal → Res A

infixl 20 ◌>>=◌
unfoldable pub ◌>>=◌ : {A B : Type 0} → Res A → (A → Res B) → Res B
ok a >>= f = f a
no why >>= f = no why

-- a check: passed, or refused
unfoldable pub need : Bool → Refusal → Res (Unit {0})
need true why = ok tt
need false why = no why

-- what a leaf read
unfoldable pub leaf : {A : Type 0} → Read A → Res A
leaf (got a) = ok a
leaf (refused why place) = no why

abbrev pub with_input : State → List ℕ → State
with_input s i = record { input = i; nodes = s.nodes; stack = s.stack; marks = s.marks; memo = s.memo; links = s.links }

abbrev pub with_nodes : State → List Node → State
with_nodes s n = record { input = s.input; nodes = n; stack = s.stack; marks = s.marks; memo = s.memo; links = s.links }

abbrev pub with_stack : State → List ℕ → State
with_stack s t = record { input = s.input; nodes = s.nodes; stack = t; marks = s.marks; memo = s.memo; links = s.links }

abbrev pub with_marks : State → List ℕ → State
with_marks s m = record { input = s.input; nodes = s.nodes; stack = s.stack; marks = m; memo = s.memo; links = s.links }

abbrev pub with_memo : State → List (ℕ × ℕ) → State
with_memo s m = record { input = s.input; nodes = s.nodes; stack = s.stack; marks = s.marks; memo = m; links = s.links }

abbrev pub with_links : State → ℕ → State
with_links s n = record { input = s.input; nodes = s.nodes; stack = s.stack; marks = s.marks; memo = s.memo; links = n }

-- ---- reading

-- `bytes`, `array`: the next n bytes, or number 3
unfoldable pub bytes : ℕ → State → Res (List ℕ × State)
bytes n s = do
  _ ← need (leb n (length s.input)) EndOfInput
  ok (take n s.input, with_input s (drop n s.input))

-- `u8`
unfoldable pub byte : State → Res (ℕ × State)
byte s = do
  (b, s₁) ← bytes 1 s
  ok (get_or b 0 0, s₁)

-- `line`: to the first newline, less one CR
unfoldable pub line : State → Res (List ℕ × State)
line s = do
  i ← leaf (newline_of s.input 0)
  ok (line_of s.input 0 i, with_input s (drop (suc i) s.input))

-- ---- the stack and its marks

abbrev pub last : List ℕ → ℕ
last l = get_or l (length l - 1) 0

abbrev pub but_last : List ℕ → List ℕ
but_last l = take (length l - 1) l

unfoldable pub pop : State → Res (ℕ × State)
pop s = do
  _ ← need (ltb 0 (length s.stack)) StackUnderflow
  ok (last s.stack, with_stack s (but_last s.stack))

unfoldable pub top : State → Res ℕ
top s = do
  _ ← need (ltb 0 (length s.stack)) StackUnderflow
  ok (last s.stack)

-- the values above the mark; a mark above the stack is number 6
unfoldable pub pop_mark : State → Res (List ℕ × State)
pop_mark s = do
  _ ← need (ltb 0 (length s.marks)) StackUnderflow
  let m = last s.marks
  _ ← need (leb m (length s.stack)) StackUnderflow
  ok (drop m s.stack, with_marks (with_stack s (take m s.stack)) (but_last s.marks))

-- the n topmost values, whatever marks there are
unfoldable pub pop_many : ℕ → State → Res (List ℕ × State)
pop_many n s = do
  let z = length s.stack
  _ ← need (leb n z) StackUnderflow
  ok (drop (z - n) s.stack, with_stack s (take (z - n) s.stack))

-- StackFull
unfoldable pub push_id : ℕ → State → Res State
push_id i s = do
  _ ← need (ltb (length s.stack) stack_limit) StackFull
  ok (with_stack s (s.stack ++ (i ∷ [])))

-- NodesFull, then StackFull
unfoldable pub push_node : Node → State → Res State
push_node n s = do
  _ ← need (ltb (length s.nodes) nodes_limit) NodesFull
  push_id (length s.nodes) (with_nodes s (s.nodes ++ (n ∷ [])))

unfoldable pub push : Label → State → Res State
push l s = push_node (kidless l) s

-- LinksFull: k links more
unfoldable pub link : ℕ → State → Res State
link k s = do
  _ ← need (leb (s.links + k) links_limit) LinksFull
  ok (with_links s (s.links + k))

-- ---- nodes

abbrev pub node_by : State → ℕ → Node
node_by s i = get_or s.nodes i (kidless NoneL)

-- items after those that a node has
unfoldable pub extend : ℕ → List ℕ → State → State
extend i items s = with_nodes s (set s.nodes i (record { label = (node_by s i).label; kids = (node_by s i).kids ++ items }))

-- ---- the memo

unfoldable pub memo_find : List (ℕ × ℕ) → ℕ → Res ℕ
memo_find [] k = no (MissingMemo k)
memo_find (e ∷ m) k = cond (eqb k e.0) (ok e.1) (memo_find m k)

unfoldable pub memo_has : List (ℕ × ℕ) → ℕ → Bool
memo_has [] k = false
memo_has (e ∷ m) k = cond (eqb k e.0) true (memo_has m k)

-- an entry replaced, or a new one at the end
unfoldable pub memo_insert : List (ℕ × ℕ) → ℕ → ℕ → List (ℕ × ℕ)
memo_insert [] k i = (k, i) ∷ []
memo_insert (e ∷ m) k i = cond (eqb k e.0) ((k, i) ∷ m) (e ∷ memo_insert m k i)

-- MissingMemo, then StackFull
unfoldable pub get : ℕ → State → Res State
get k s = do
  i ← memo_find s.memo k
  push_id i s

-- the top (6), then MemoFull; a number that is there already is replaced
unfoldable pub put : ℕ → State → Res State
put k s = do
  i ← top s
  _ ← need (cond (memo_has s.memo k) true (ltb (length s.memo) memo_limit)) MemoFull
  ok (with_memo s (memo_insert s.memo k i))
