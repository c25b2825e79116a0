-- What the effect of an opcode means: the rest of its step, with the limits, over the rooms and the counts after what it read and took;
-- and what holds of rooms and counts at every step.
use Rattle.std.specs.Prelude.{ℕ, ◌*◌, ◌<◌, ◌≤◌, true, cond, List, [], ◌∷◌, Result, Ok, Err, IfOk, ◌≡◌, refl, ◌≢◌, length, get_or, take, drop, set, ltb}
use Rattle.std.proofs.Common.{sym}
use Rattle.refusal.specs.declared.Refusal.{Refusal}
use Rattle.refusal.specs.declared.Refusal.TheVariants.{MemoFull}
use Rattle.value.specs.Shape.{kind_in}
use Rattle.store.specs.declared.Effect.{Effect}
use Rattle.store.specs.declared.Effect.TheVariants.{Push, Share, Mark, Go, Make, Extend, Remember, Build, Stop}
use Rattle.steps.specs.State.{State, Res, ok, no, ◌>>=◌, need, memo_limit, nodes_limit, links_limit, stack_limit, marks_limit, with_nodes, with_memo, top, push_id, push_node, link, node_by, extend, memo_has, memo_insert, put}
use Rattle.steps.specs.Opcodes.{mark, made}
use Rattle.steps.specs.Run.{Next, goes, stops, going}
use Rattle.steps.specs.Range.{InRange}
use Rattle.store.specs.Rooms.{Rooms, Counts, state_of, Class, Numbered, Kept}
use Rattle.steps.specs.NodeWords.{first, node_is, HoldsLinks}

-- ---- the parts of a step that follow what it read and took

-- `put` behind the top: MemoFull, else the entry
unfoldable pub remember : ℕ → ℕ → State → Res State
remember k i s = do
  _ ← need (cond (memo_has s.memo k) true (ltb (length s.memo) memo_limit)) MemoFull
  ok (with_memo s (memo_insert s.memo k i))

pub put_is : (k : ℕ) (s : State) → put k s ≡ (top s >>= λ i. remember k i s)
unfolding put remember
put_is k s = refl

-- `add_items` behind the container: LinksFull, else the items
unfoldable pub grow : ℕ → List ℕ → State → Res State
grow o is s = do
  s₁ ← link (length is) s
  ok (extend o is s₁)

-- `build_state` behind the Object: its state is i
unfoldable pub with_state : ℕ → ℕ → State → State
with_state o i s = with_nodes s (set s.nodes o (record { label = (node_by s o).label; kids = get_or (node_by s o).kids 0 0 ∷ i ∷ [] }))

-- the values above the first n, of h on the stack
unfoldable pub above : ℕ → ℕ → List ℕ → List ℕ
above n h stack = drop n (take h stack)

-- the container that a kind names
unfoldable pub container : ℕ → Rooms → List ℕ → State → Res State
container k r is s = made (node_is r.pickle r.nodes [] k 0).label is s

-- what an effect does; h values were on the stack before the opcode took any
unfoldable pub enacted : Effect → Rooms → ℕ → Res Next
enacted (Push c a b) r h = going (push_node (node_is r.pickle r.nodes [] a b) (state_of r c))
enacted (Share c i) r h = going (push_id i.0 (state_of r c))
enacted (Mark c) r h = going (mark (state_of r c))
enacted (Go c) r h = ok (goes (state_of r c))
enacted (Make c k) r h = going (container k r (above c.stack h r.stack) (state_of r c))
enacted (Extend c o) r h = going (grow o.0 (above c.stack h r.stack) (state_of r c))
enacted (Remember c i w k) r h = going (remember k.0 i.0 (state_of r c))
enacted (Build c o i) r h = ok (goes (with_state o.0 i.0 (state_of r c)))
enacted (Stop c) r h = ok (stops (state_of r c))

-- what an opcode's answer comes to: what its effect does, or the refusal
abbrev pub comes_to : Result Effect Refusal → Rooms → ℕ → Res Next
comes_to (Ok e) r h = enacted e r h
comes_to (Err why) r h = no why

-- ---- what holds of the rooms and counts

-- a room may be longer than the machine needs
pub record Lengths (r : Rooms) : Type 0 where
  pub pickle : length r.pickle ≤ 65536
  pub nodes : 2 * nodes_limit ≤ length r.nodes
  pub owners : links_limit ≤ length r.owners
  pub children : links_limit ≤ length r.children
  pub stack : stack_limit ≤ length r.stack
  pub marks : marks_limit ≤ length r.marks
  pub keys : memo_limit ≤ length r.keys
  pub held : memo_limit ≤ length r.held

-- a room is as it was lent but for its first n numbers
pub record AsLentBehind (n : ℕ) (lent room : List ℕ) : Type 0 where
  pub same : drop n room ≡ drop n lent

-- behind what the counts say each room is as it was lent
pub record Clean (r : Rooms) (c : Counts) : Type 0 where
  pub nodes : AsLentBehind (2 * c.nodes) r.lent.nodes r.nodes
  pub owners : AsLentBehind c.links r.lent.owners r.owners
  pub children : AsLentBehind c.links r.lent.children r.children
  pub stack : AsLentBehind c.deepest r.lent.stack r.stack
  pub marks : AsLentBehind c.most r.lent.marks r.marks
  pub keys : AsLentBehind c.memo r.lent.keys r.keys
  pub held : AsLentBehind c.memo r.lent.held r.held

pub record Firm (r : Rooms) (c : Counts) : Type 0 where
  pub lengths : Lengths r
  pub at : c.at ≤ length r.pickle
  pub nodes : c.nodes ≤ nodes_limit
  pub links : c.links ≤ links_limit
  pub stack : c.stack ≤ c.deepest
  pub deepest : c.deepest ≤ stack_limit
  pub marks : c.marks ≤ c.most
  pub most : c.most ≤ marks_limit
  pub memo : c.memo ≤ memo_limit
  pub numbered : Numbered r.keys c.memo c.greatest
  pub kept : Kept r.nodes r.owners r.children c.links c.nodes
  pub clean : Clean r c

pub record Sound (r : Rooms) (c : Counts) : Type 0 where
  pub firm : Firm r c
  pub range : InRange (state_of r c)

-- ---- what an opcode's function promises

-- the effect can be had in the rooms
unfoldable pub Fits : Effect → Rooms → ℕ → Type 0
Fits (Push c a b) r h = Firm r c × Class r.nodes c.nodes a × (HoldsLinks a → b ≡ 0)
Fits (Share c i) r h = Firm r c × (i.0 < c.nodes)
Fits (Mark c) r h = Firm r c
Fits (Go c) r h = Firm r c
Fits (Make c k) r h = Firm r c × (c.stack ≤ h) × (h ≤ c.deepest) × HoldsLinks k
Fits (Extend c o) r h = Firm r c × (c.stack ≤ h) × (h ≤ c.deepest) × (o.0 < c.nodes) × HoldsLinks (first r.nodes o.0) × (kind_in (first r.nodes o.0) ≢ 7)
Fits (Remember c i w k) r h = Firm r c × (i.0 < c.nodes)
Fits (Build c o i) r h = Firm r c × (o.0 < c.nodes) × (i.0 < c.nodes) × (kind_in (first r.nodes o.0) ≡ 12)
Fits (Stop c) r h = Firm r c

-- an opcode's answer is the step n of the machine with the rooms r and counts c
pub record IsStep (answer : Result Effect Refusal) (r : Rooms) (c : Counts) (n : Res Next) : Type 0 where
  pub enacts : comes_to answer r c.stack ≡ n
  pub fits : IfOk answer (λ e. Fits e r c.stack)

pub says_refused : (why : Refusal) (r : Rooms) (c : Counts) (n : Res Next) → n ≡ no why → IsStep (Err why) r c n
says_refused why r c n e = record { enacts = sym e; fits = tt }

-- some rooms of which P holds, with these counts
pub record SomeRooms (c : Counts) (P : Rooms → Type 0) : Type 0 where
  pub rooms : Rooms
  pub sound : Sound rooms c
  pub agrees : P rooms

-- in all such rooms the answer is the step that `does` is
unfoldable pub Decides : Counts → (Rooms → Type 0) → (State → Res Next) → Result Effect Refusal → Type 0
Decides c P does answer = (r : Rooms) → Sound r c → P r → IsStep answer r c (does (state_of r c))
