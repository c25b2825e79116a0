-- What an opcode can do to the machine once its argument is read: eight effects. Each opcode has one of them (Pickletools), so that
-- an invariant of the machine is proved by eight cases.
use Rattle.std.specs.Prelude.{ℕ, suc, zero, ◌+◌, ◌-◌, ◌<◌, ◌≤◌, ◌%◌, Bool, true, false, cond, ◌||◌, List, [], ◌∷◌, ◌++◌, ◌≡◌, refl, ◌⊎◌, length, get_or, take, drop, set, ltb, T}
use Rattle.std.proofs.Common.{◌∙◌, ⊎_elim, length-append, length-take, length-drop, take-take, get_or-drop, arith}
use Rattle.std.proofs.lemmas.List.{take-append-le}
use Rattle.op.specs.Table.{Stack, values, to_mark, a_mark}
use Rattle.value.specs.Value.{Label, NoneL, BoolL, I64L, F64L, BytesL, StringL, ListL, TupleL, SetL, FrozenSetL, DictL, GlobalL, ObjectL}
use Rattle.steps.specs.State.{Node, State, ok, kidless, stack_limit, marks_limit, memo_limit, nodes_limit, links_limit, with_stack, with_marks, with_memo, last, but_last, node_by, memo_find, memo_has, memo_insert}
use Rattle.steps.specs.Opcodes.{is_list, is_tuple, is_dict, is_object}
use Rattle.steps.specs.Out.{Every, every_of}

-- ---- nodes

-- the links of a node: one for each list or tuple item, two for each dict entry; none for sets and Objects
unfoldable pub linked : Label → ℕ → ℕ
linked l n = cond (is_list l || (is_tuple l || is_dict l)) n 0

unfoldable pub held : Node → ℕ
held n = linked n.label (length n.kids)

pub linked-none : (l : Label) → linked l 0 ≡ 0
unfolding linked
linked-none l = go (is_list l || (is_tuple l || is_dict l))
  where
    go : (b : Bool) → ◌≡◌ {A = ℕ} (cond b 0 0) 0
    go true = refl
    go false = refl

-- the contents that a node's label asks for: a dict's in pairs; a set's one; an Object's arguments, a tuple, and any state
unfoldable pub Right : List Node → Label → List ℕ → Type 0
Right l NoneL ks = ks ≡ []
Right l (BoolL b) ks = ks ≡ []
Right l (I64L n) ks = ks ≡ []
Right l (F64L n) ks = ks ≡ []
Right l (BytesL t) ks = ks ≡ []
Right l (StringL t) ks = ks ≡ []
Right l ListL ks = Unit {0}
Right l TupleL ks = Unit {0}
Right l SetL ks = length ks ≡ 1
Right l FrozenSetL ks = length ks ≡ 1
Right l DictL ks = length ks % 2 ≡ 0
Right l (GlobalL m n) ks = ks ≡ []
Right l (ObjectL m n b) ks = (0 < length ks) × (length ks ≤ 2) × T (is_tuple (get_or l (get_or ks 0 0) (kidless NoneL)).label)

-- a node whose label is known to be no None is one that the machine has
pub labelled : (P : Label → Type 0) (l : List Node) (i : ℕ) → (P NoneL → ⊥) → P (get_or l i (kidless NoneL)).label → i < length l
labelled P [] i n h = absurd (n h)
labelled P (x ∷ l) zero n h = omega arith
labelled P (x ∷ l) (suc i) n h = let u = labelled P l i n h in omega arith

-- a node number that the machine has: on the stack, in the memo, or in a node
pub data Known (s : State) : ℕ → Type 0 where
  stacked : (k : ℕ) → k < length s.stack → Known s (get_or s.stack k 0)
  kept : (k i : ℕ) → memo_find s.memo k ≡ ok i → Known s i
  inside : (j k : ℕ) → k < length (node_by s j).kids → Known s (get_or (node_by s j).kids k 0)

-- what stands on the stack from n on is known
pub known_drop : (s : State) (n : ℕ) → Every (Known s) (drop n s.stack)
known_drop s n =
    every_of (Known s) (drop n s.stack) 0 λ k h.
    let u : n + k < length s.stack = let z = rw length-drop at h in omega arith in
    rw (get_or-drop n s.stack k 0) (stacked (n + k) u)

-- ---- the effects

-- the beginning of a list
unfoldable pub BeginningOf : List ℕ → List ℕ → Type 0
BeginningOf a b = (n : ℕ) × (a ≡ take n b)

-- items that a list takes, and those that a dict takes
unfoldable pub TakesItems : Label → ℕ → Type 0
TakesItems l n = T (is_list l) ⊎ (T (is_dict l) × (n % 2 ≡ 0))

pub grows_inside : (l : List Node) (i n : ℕ) → TakesItems (get_or l i (kidless NoneL)).label n → i < length l
unfolding TakesItems
grows_inside l i n g = labelled (λ (x : Label). TakesItems x n) l i (λ h. ⊎_elim (λ u. u) (λ u. u.0) h) g

pub object_inside : (l : List Node) (i : ℕ) → T (is_object (get_or l i (kidless NoneL)).label) → i < length l
object_inside l i h = labelled (λ (x : Label). T (is_object x)) l i (λ u. u) h

pub data StateEffect (s : State) : State → Type 0 where
  -- PROTO
  same : StateEffect s s
  -- MARK
  marked : length s.marks < marks_limit → StateEffect s (with_marks s (s.marks ++ (length s.stack ∷ [])))
  -- POP, POP_MARK
  cut : (st ms : List ℕ) → BeginningOf st s.stack → BeginningOf ms s.marks → StateEffect s (with_marks (with_stack s st) ms)
  -- DUP and the GETs: a number once more
  again : (i : ℕ) → Known s i → length s.stack < stack_limit → StateEffect s (with_stack s (s.stack ++ (i ∷ [])))
  -- one node more, on top of what is left of the stack
  new :
      (n : Node) (st ms : List ℕ) (lk : ℕ) → BeginningOf st s.stack → BeginningOf ms s.marks → Every (Known s) n.kids → Right s.nodes n.label n.kids
      → length s.nodes < nodes_limit → length st < stack_limit
      → lk ≡ s.links + held n → (s.links ≤ links_limit → lk ≤ links_limit)
      → StateEffect s (record { input = s.input; nodes = s.nodes ++ (n ∷ []); stack = st ++ (length s.nodes ∷ []); marks = ms; memo = s.memo; links = lk })
  -- APPEND, APPENDS, SETITEM, SETITEMS: a list or a dict has items more
  grown :
      (o : ℕ) (is st ms : List ℕ) → BeginningOf st s.stack → BeginningOf ms s.marks → Known s o → TakesItems (node_by s o).label (length is)
      → Every (Known s) is → s.links + length is ≤ links_limit
      → StateEffect s (record { input = s.input; nodes = set s.nodes o (record { label = (node_by s o).label; kids = (node_by s o).kids ++ is }); stack = st; marks = ms; memo = s.memo; links = s.links + length is })
  -- BUILD: an Object has a state
  state_set_lem :
      (o i : ℕ) (st : List ℕ) → BeginningOf st s.stack → Known s o → Known s i → T (is_object (node_by s o).label)
      → StateEffect s (record { input = s.input; nodes = set s.nodes o (record { label = (node_by s o).label; kids = get_or (node_by s o).kids 0 0 ∷ i ∷ [] }); stack = st; marks = s.marks; memo = s.memo; links = s.links })
  -- the PUTs
  noted : (k i : ℕ) → Known s i → T (cond (memo_has s.memo k) true (ltb (length s.memo) memo_limit)) → StateEffect s (with_memo s (memo_insert s.memo k i))

-- only reading changes the input
pub effect_input : (s t : State) → StateEffect s t → t.input ≡ s.input
effect_input s t same = refl
effect_input s t (marked h) = refl
effect_input s t (cut st ms a b) = refl
effect_input s t (again i k h) = refl
effect_input s t (new n st ms lk a b c d e f g h) = refl
effect_input s t (grown o is st ms a b c d e f) = refl
effect_input s t (state_set_lem o i st a b c d) = refl
effect_input s t (noted k i a b) = refl

-- ---- the stack, as pickletools has it

-- the first k values are as they were, and b stand above them
pub record Moved (k b : ℕ) (s t : State) : Type 0 where
  pub low : k ≤ length s.stack
  pub below : take k t.stack ≡ take k s.stack
  pub count : length t.stack ≡ k + b

-- so many values taken and left: `values a` are the topmost a; `to_mark a` those above the topmost mark, the mark, and a below it
unfoldable pub Stacks : Stack → Stack → State → State → Type 0
Stacks (values a) (values b) s t = (a ≤ length s.stack) × Moved (length s.stack - a) b s t × (t.marks ≡ s.marks)
Stacks (values a) (to_mark b) s t = ⊥
Stacks (values a) a_mark s t = (a ≡ 0) × (t.stack ≡ s.stack) × (t.marks ≡ s.marks ++ (length s.stack ∷ []))
Stacks (to_mark a) (values b) s t =
    (0 < length s.marks) × (last s.marks ≤ length s.stack) × (a ≤ last s.marks) × Moved (last s.marks - a) b s t × (t.marks ≡ but_last s.marks)
Stacks (to_mark a) (to_mark b) s t = ⊥
Stacks (to_mark a) a_mark s t = ⊥
Stacks a_mark lv s t = ⊥

-- so many taken and so many left, in numbers
pub values_count : (a b : ℕ) (s t : State) → Stacks (values a) (values b) s t → length t.stack + a ≡ length s.stack + b
unfolding Stacks
values_count a b s t h = let l = h.0 in let e = h.1.count in omega arith

pub moved : (s t : State) (k j b : ℕ) (x : List ℕ) → k ≤ j → j ≤ length s.stack → t.stack ≡ take j s.stack ++ x → j + length x ≡ k + b → Moved k b s t
moved s t k j b x h l e c =
    let z : length (take j s.stack) ≡ j = simp length-take (omega arith) in
    record {
      low = omega arith;
      below = rw e (take-append-le k (take j s.stack) x (omega arith) ∙ take-take k j s.stack h);
      count = rw e (simp (length-append, z) c);
    }

-- the effect and the stack together
pub record Did (tk lv : Stack) (s t : State) : Type 0 where
  pub effect : StateEffect s t
  pub stacks : Stacks tk lv s t
