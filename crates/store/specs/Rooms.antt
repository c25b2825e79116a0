-- The machine's state as the code keeps it, in lent rooms with counts of what is used: one function from their contents to a State.
use Rattle.std.specs.Prelude.{ℕ, suc, zero, ◌+◌, ◌^◌, ◌/◌, ◌%◌, ◌<◌, ◌≤◌, cond, List, [], ◌∷◌, ◌++◌, ◌≡◌, ◌≢◌, length, get_or, take, drop, eqb}
use Rattle.value.specs.Shape.{kind_in}
use Rattle.steps.specs.State.{Node, State}
use Rattle.steps.specs.NodeWords.{first, second, class_in, node_is, HoldsLinks}
pub use Rattle.store.specs.declared.Counts.{Counts}

-- the rooms as a run was lent them
pub record LentAs : Type 0 where
  pub nodes : List ℕ
  pub owners : List ℕ
  pub children : List ℕ
  pub stack : List ℕ
  pub marks : List ℕ
  pub keys : List ℕ
  pub held : List ℕ

-- the rooms: the pickle, two words a node, the log of links (owner, child), stack, marks, the memo (number, node); and as they were lent
pub record Rooms : Type 0 where
  pub lent : LentAs
  pub pickle : List ℕ
  pub nodes : List ℕ
  pub owners : List ℕ
  pub children : List ℕ
  pub stack : List ℕ
  pub marks : List ℕ
  pub keys : List ℕ
  pub held : List ℕ

-- ---- lists read off rooms

-- f 0, .., f (n - 1)
unfoldable pub tabulated : {A : Type 0} → (ℕ → A) → ℕ → List A
tabulated f zero = []
tabulated f (suc n) = tabulated f n ++ (f n ∷ [])

-- the children of those links of the log that o owns, in order
unfoldable pub linked_items : List ℕ → List ℕ → ℕ → List ℕ
linked_items [] cs o = []
linked_items (w ∷ ws) [] o = []
linked_items (w ∷ ws) (c ∷ cs) o = cond (eqb w o) (c ∷ linked_items ws cs o) (linked_items ws cs o)

-- memo numbers, each with its node
unfoldable pub entries : List ℕ → List ℕ → List (ℕ × ℕ)
entries [] hs = []
entries (k ∷ ks) [] = []
entries (k ∷ ks) (h ∷ hs) = (k, h) ∷ entries ks hs

-- ---- the state

-- the children of node i's links, of the part of the log that is used
abbrev pub kids_of : Rooms → Counts → ℕ → List ℕ
kids_of r c i = linked_items (take c.links r.owners) (take c.links r.children) i

-- node i
abbrev pub node_of : Rooms → Counts → ℕ → Node
node_of r c i = node_is r.pickle r.nodes (kids_of r c i) (first r.nodes i) (second r.nodes i)

-- all of them
abbrev pub nodes_of : Rooms → Counts → List Node
nodes_of r c = tabulated (node_of r c) c.nodes

-- the memo
abbrev pub memo_of : Rooms → Counts → List (ℕ × ℕ)
memo_of r c = entries (take c.memo r.keys) (take c.memo r.held)

-- the state that the rooms and counts say
unfoldable pub state_of : Rooms → Counts → State
state_of r c = record { input = drop c.at r.pickle; nodes = nodes_of r c; stack = take c.stack r.stack; marks = take c.marks r.marks; memo = memo_of r c; links = c.links }

-- ---- one room changed

abbrev pub words_in : Rooms → List ℕ → Rooms
words_in r l = record { lent = r.lent; pickle = r.pickle; nodes = l; owners = r.owners; children = r.children; stack = r.stack; marks = r.marks; keys = r.keys; held = r.held }

abbrev pub log_in : Rooms → List ℕ → List ℕ → Rooms
log_in r ws cs = record { lent = r.lent; pickle = r.pickle; nodes = r.nodes; owners = ws; children = cs; stack = r.stack; marks = r.marks; keys = r.keys; held = r.held }

abbrev pub stack_in : Rooms → List ℕ → Rooms
stack_in r l = record { lent = r.lent; pickle = r.pickle; nodes = r.nodes; owners = r.owners; children = r.children; stack = l; marks = r.marks; keys = r.keys; held = r.held }

abbrev pub marks_in : Rooms → List ℕ → Rooms
marks_in r l = record { lent = r.lent; pickle = r.pickle; nodes = r.nodes; owners = r.owners; children = r.children; stack = r.stack; marks = l; keys = r.keys; held = r.held }

abbrev pub memo_in : Rooms → List ℕ → List ℕ → Rooms
memo_in r ks hs = record { lent = r.lent; pickle = r.pickle; nodes = r.nodes; owners = r.owners; children = r.children; stack = r.stack; marks = r.marks; keys = ks; held = hs }

-- ---- one count changed

abbrev pub at_to : Counts → ℕ → Counts
at_to c n = record { at = n; nodes = c.nodes; links = c.links; stack = c.stack; deepest = c.deepest; marks = c.marks; most = c.most; memo = c.memo; greatest = c.greatest }

abbrev pub nodes_to : Counts → ℕ → Counts
nodes_to c n = record { at = c.at; nodes = n; links = c.links; stack = c.stack; deepest = c.deepest; marks = c.marks; most = c.most; memo = c.memo; greatest = c.greatest }

abbrev pub links_to : Counts → ℕ → Counts
links_to c n = record { at = c.at; nodes = c.nodes; links = n; stack = c.stack; deepest = c.deepest; marks = c.marks; most = c.most; memo = c.memo; greatest = c.greatest }

abbrev pub stack_to : Counts → ℕ → Counts
stack_to c n = record { at = c.at; nodes = c.nodes; links = c.links; stack = n; deepest = c.deepest; marks = c.marks; most = c.most; memo = c.memo; greatest = c.greatest }

abbrev pub marks_to : Counts → ℕ → Counts
marks_to c n = record { at = c.at; nodes = c.nodes; links = c.links; stack = c.stack; deepest = c.deepest; marks = n; most = c.most; memo = c.memo; greatest = c.greatest }

abbrev pub memo_to : Counts → ℕ → Counts
memo_to c n = record { at = c.at; nodes = c.nodes; links = c.links; stack = c.stack; deepest = c.deepest; marks = c.marks; most = c.most; memo = n; greatest = c.greatest }

-- ---- what the code keeps

-- every link has an owner among the n nodes
unfoldable pub Owned : List ℕ → ℕ → ℕ → Type 0
Owned owners links n = (k : ℕ) → k < links → get_or owners k 0 < n

-- if a is the first word of an Object, its class is a Global among the n nodes
unfoldable pub Class : List ℕ → ℕ → ℕ → Type 0
Class ws n a = kind_in a ≡ 12 → (class_in a < n) × (kind_in (first ws (class_in a)) ≡ 11)

-- every Object's class is a Global
unfoldable pub Classed : List ℕ → ℕ → Type 0
Classed ws n = (i : ℕ) → i < n → Class ws n (first ws i)

-- none of the first n memo numbers is k
unfoldable pub Absent : List ℕ → ℕ → ℕ → Type 0
Absent keys n k = (i : ℕ) → i < n → get_or keys i 0 ≢ k

-- none of those from i up to n is k
abbrev pub Passed : List ℕ → ℕ → ℕ → ℕ → Type 0
Passed keys i n k = (j : ℕ) → i ≤ j → j < n → get_or keys j 0 ≢ k

-- the first n memo numbers are different ones, all below m
pub record Numbered (keys : List ℕ) (n m : ℕ) : Type 0 where
  pub once : (i : ℕ) → i < n → Absent keys i (get_or keys i 0)
  pub below : (i : ℕ) → i < n → get_or keys i 0 < m

-- the low half of a container's second word is the number of its items
unfoldable pub Counted : List ℕ → List ℕ → List ℕ → ℕ → ℕ → Type 0
Counted ws owners children links n = (i : ℕ) → i < n → HoldsLinks (first ws i) → second ws i % 2 ^ 32 ≡ length (linked_items (take links owners) (take links children) i)

-- `is` are the children of links that stand together: the halves of the word b are their number and the place of the first
pub record Together (b : ℕ) (is children : List ℕ) (links : ℕ) : Type 0 where
  pub ends : b / 2 ^ 32 + b % 2 ^ 32 ≤ links
  pub child : (j : ℕ) → j < b % 2 ^ 32 → get_or is j 0 ≡ get_or children (b / 2 ^ 32 + j) 0

-- a Tuple's links do, as it never grows
unfoldable pub Placed : List ℕ → List ℕ → List ℕ → ℕ → ℕ → Type 0
Placed ws owners children links n = (i : ℕ) → i < n → kind_in (first ws i) ≡ 7 → Together (second ws i) (linked_items (take links owners) (take links children) i) children links

-- every owner is a List, Tuple or Dict
unfoldable pub Holding : List ℕ → List ℕ → ℕ → Type 0
Holding ws owners links = (k : ℕ) → k < links → HoldsLinks (first ws (get_or owners k 0))

-- what the code keeps of its words and its log, for n nodes
pub record Kept (ws owners children : List ℕ) (links n : ℕ) : Type 0 where
  pub owned : Owned owners links n
  pub holding : Holding ws owners links
  pub classed : Classed ws n
  pub counted : Counted ws owners children links n
  pub placed : Placed ws owners children links n
