-- A node or a number pushed, and a mark.
use Prim.Native.Nat.{ℕ, suc, ◌+◌, ◌*◌, ◌<◌, ◌≤◌, max}
use mathlib.Core.List.{List, [], ◌∷◌, ◌++◌}
use Rattle.std.specs.Prelude.{Result, Ok, Err, ◌≡◌, length, take, set}
use Rattle.std.proofs.Common.{◌∙◌, length-set, add-one}
use Rattle.std.proofs.Math.Path.{ap}
use borrow.Author.Tests.{lt-ltb, le-ltb}
use native.Mathlib.Omega.{arith}
use Rattle.refusal.specs.declared.Refusal.TheVariants.{NodesFull, StackFull, MarksFull}
use Rattle.store.specs.declared.Counts.{Counts}
use Rattle.store.specs.declared.Effect.TheVariants.{Push, Share, Mark}
use Rattle.steps.specs.State.{Node, ok, no, ◌>>=◌, need, nodes_limit, stack_limit, marks_limit, with_nodes, with_stack, with_marks, push_id, push_node}
use Rattle.steps.specs.Opcodes.{mark}
use Rattle.steps.specs.Run.{going}
use Rattle.store.specs.Rooms.{Rooms, state_of, words_in, stack_in, marks_in, nodes_to, stack_to, marks_to, Class}
use Rattle.steps.specs.NodeWords.{node_is, words_set}
use Rattle.store.specs.RoomLaws.{node_more, stack_more, marks_more}
use Rattle.store.specs.RoomReads.{nodes-length, stack_length, marks_length}
use Rattle.store.specs.RoomKeeps.{Empty, empty_zero, kept_node}
use Rattle.store.specs.Effects.{Firm, Fits, enacted}
use Rattle.refusal.specs.declared.Refusal.{Refusal}
use Rattle.machine.specs.declared.Step.TheVariants as step
use Rattle.machine.specs.Done.{meant, Stays, Done, gone_on, done_refused, pushed_to, behind-set}

-- ---- the functions' promises

unfoldable pub PushNode : List ℕ → List ℕ → Counts → ℕ → ℕ → List ℕ → List ℕ → Result Counts Refusal → Type 0
PushNode nodes stack c a b nodes' stack' t =
    (r : Rooms) (h : ℕ) → r.nodes ≡ nodes → r.stack ≡ stack → Fits (Push c a b) r h → Done (gone_on t) r (stack_in (words_in r nodes') stack') (enacted (Push c a b) r h)

unfoldable pub PushId : List ℕ → Counts → ℕ → List ℕ → Result Counts Refusal → Type 0
PushId stack c i stack' t =
    (r : Rooms) (h : ℕ) → r.stack ≡ stack → Fits (Share c (record { 0 = i })) r h → Done (gone_on t) r (stack_in r stack') (enacted (Share c (record { 0 = i })) r h)

unfoldable pub PutMark : List ℕ → Counts → List ℕ → Result Counts Refusal → Type 0
PutMark marks c marks' t = (r : Rooms) (h : ℕ) → r.marks ≡ marks → Fits (Mark c) r h → Done (gone_on t) r (marks_in r marks') (enacted (Mark c) r h)

-- ---- a number pushed

module _ (r : Rooms) (c : Counts) (f : Firm r c) where
  stack_held : length (state_of r c).stack ≡ c.stack
  stack_held = stack_length r c (let x = f.lengths.stack in let y = f.stack in let z = f.deepest in omega arith)

  pub id_full : stack_limit ≤ c.stack → (i : ℕ) → push_id i (state_of r c) ≡ no StackFull
  unfolding push_id ◌>>=◌ need
  id_full h i = rw (stack_held, le-ltb c.stack stack_limit h)

  -- the rooms with i on the stack
  abbrev pub with_id : ℕ → Rooms
  with_id i = stack_in r (set r.stack c.stack i)

  pushed_at : (i : ℕ) → state_of (with_id i) (pushed_to c c.nodes c.links) ≡ state_of (with_id i) (stack_to c (suc c.stack))
  unfolding state_of
  pushed_at i = let e : c.stack + 1 ≡ suc c.stack = omega arith in ap (λ (k : ℕ). with_stack (state_of (with_id i) c) (take k (set r.stack c.stack i))) e

  pub id_pushed : c.stack < stack_limit → (i : ℕ) → push_id i (state_of r c) ≡ ok (state_of (with_id i) (pushed_to c c.nodes c.links))
  unfolding push_id ◌>>=◌ need
  id_pushed h i = rw (stack_held, lt-ltb c.stack stack_limit h, pushed_at i, stack_more r c i (let x = f.lengths.stack in omega arith))

  pub id_firm : c.stack < stack_limit → (i : ℕ) → Firm (with_id i) (pushed_to c c.nodes c.links)
  id_firm h i = record {
    lengths = record { pickle = f.lengths.pickle; nodes = f.lengths.nodes; owners = f.lengths.owners; children = f.lengths.children; stack = rw length-set f.lengths.stack; marks = f.lengths.marks; keys = f.lengths.keys; held = f.lengths.held };
    at = f.at;
    nodes = f.nodes;
    links = f.links;
    stack = omega arith;
    deepest = let x = f.deepest in omega arith;
    marks = f.marks;
    most = f.most;
    memo = f.memo;
    numbered = f.numbered;
    kept = f.kept;
    clean = record { nodes = f.clean.nodes; owners = f.clean.owners; children = f.clean.children; stack = behind-set f.clean.stack (omega arith) c.stack i (omega arith); marks = f.clean.marks; keys = f.clean.keys; held = f.clean.held };
  }

-- ---- a node more

module _ (r : Rooms) (c : Counts) (f : Firm r c) where
  -- the rooms with the words a and b behind those of the nodes
  abbrev pub with_node : ℕ → ℕ → Rooms
  with_node a b = words_in r (words_set r.nodes c.nodes a b)

  abbrev pub one_node : Counts
  one_node = nodes_to c (c.nodes + 1)

  pub node_full : nodes_limit ≤ c.nodes → (n : Node) → push_node n (state_of r c) ≡ no NodesFull
  unfolding push_node ◌>>=◌ need
  node_full h n = rw (nodes-length r c, le-ltb c.nodes nodes_limit h)

  module _ (h : c.nodes < nodes_limit) (a b : ℕ) (class : Class r.nodes c.nodes a) where
    words_room : suc (2 * c.nodes) < length r.nodes
    words_room = let x = f.lengths.nodes in omega arith

    log_room : c.links ≤ length r.owners
    log_room = let x = f.lengths.owners in let y = f.links in omega arith

    pub node_pushed : state_of (with_node a b) one_node ≡ with_nodes (state_of r c) ((state_of r c).nodes ++ (node_is r.pickle r.nodes [] a b ∷ []))
    node_pushed =
        let e : c.nodes + 1 ≡ suc c.nodes = omega arith in
        ap (λ (n : ℕ). state_of (with_node a b) (nodes_to c n)) e ∙ node_more r c a b words_room log_room f.kept.owned f.kept.classed class

    -- what is left of `push_node`
    pub node_then : push_node (node_is r.pickle r.nodes [] a b) (state_of r c) ≡ push_id c.nodes (state_of (with_node a b) one_node)
    unfolding push_node ◌>>=◌ need
    node_then = rw (nodes-length r c, lt-ltb c.nodes nodes_limit h, node_pushed)

    pub node_firm : Empty c.links a b → Firm (with_node a b) one_node
    unfolding words_set
    node_firm empty = record {
      lengths = record { pickle = f.lengths.pickle; nodes = rw (length-set, length-set) f.lengths.nodes; owners = f.lengths.owners; children = f.lengths.children; stack = f.lengths.stack; marks = f.lengths.marks; keys = f.lengths.keys; held = f.lengths.held };
      at = f.at;
      nodes = omega arith;
      links = f.links;
      stack = f.stack;
      deepest = f.deepest;
      marks = f.marks;
      most = f.most;
      memo = f.memo;
      numbered = f.numbered;
      kept = rw (add-one c.nodes) (kept_node r.nodes r.owners r.children c.links c.nodes f.kept a b words_room log_room class empty);
      clean = record { nodes = behind-set (behind-set {m = 2 * (c.nodes + 1)} f.clean.nodes (omega arith) (2 * c.nodes) a (omega arith)) (omega arith) (suc (2 * c.nodes)) b (omega arith); owners = f.clean.owners; children = f.clean.children; stack = f.clean.stack; marks = f.clean.marks; keys = f.clean.keys; held = f.clean.held };
    }

-- ---- what the functions answer

module _ (r : Rooms) (h : ℕ) (c : Counts) where
  pub push_id_full : (i : ℕ) → Fits (Share c (record { 0 = i })) r h → stack_limit ≤ c.stack → Done (Err StackFull) r r (enacted (Share c (record { 0 = i })) r h)
  unfolding enacted Fits going
  push_id_full i f l = done_refused StackFull r (going (push_id i (state_of r c))) (rw (id_full r c f.0 l i))

  pub push_id-done : (i : ℕ) → Fits (Share c (record { 0 = i })) r h → c.stack < stack_limit → Done (Ok (step.Next (pushed_to c c.nodes c.links))) r (stack_in r (set r.stack c.stack i)) (enacted (Share c (record { 0 = i })) r h)
  unfolding enacted Fits going meant Stays
  push_id-done i f l = record { means = rw (id_pushed r c f.0 l i); stays = id_firm r c f.0 l i }

  module _ (a b : ℕ) (f : Fits (Push c a b) r h) where
    pub push_node_full : nodes_limit ≤ c.nodes → Done (Err NodesFull) r r (enacted (Push c a b) r h)
    unfolding enacted Fits going
    push_node_full l = done_refused NodesFull r (going (push_node (node_is r.pickle r.nodes [] a b) (state_of r c))) (rw (node_full r c f.0 l (node_is r.pickle r.nodes [] a b)))

    pub push_node-high : c.nodes < nodes_limit → stack_limit ≤ c.stack → Done (Err StackFull) r r (enacted (Push c a b) r h)
    unfolding enacted Fits going
    push_node-high l k =
        done_refused StackFull r (going (push_node (node_is r.pickle r.nodes [] a b) (state_of r c)))
        (rw (node_then r c f.0 l a b f.1, id_full (with_node r c f.0 a b) (one_node r c f.0) (node_firm r c f.0 l a b f.1 (empty_zero c.links a b f.2)) k c.nodes))

    pub push_node-done : c.nodes < nodes_limit → c.stack < stack_limit
        → Done (Ok (step.Next (pushed_to c (c.nodes + 1) c.links))) r (stack_in (words_in r (words_set r.nodes c.nodes a b)) (set r.stack c.stack c.nodes)) (enacted (Push c a b) r h)
    unfolding enacted Fits going meant Stays
    push_node-done l k =
        let g = node_firm r c f.0 l a b f.1 (empty_zero c.links a b f.2) in
        record {
          means = rw (node_then r c f.0 l a b f.1, id_pushed (with_node r c f.0 a b) (one_node r c f.0) g k c.nodes);
          stays = id_firm (with_node r c f.0 a b) (one_node r c f.0) g k c.nodes;
        }

  -- ---- a mark

  abbrev pub marked_to : Counts
  marked_to = record { at = c.at; nodes = c.nodes; links = c.links; stack = c.stack; deepest = c.deepest; marks = c.marks + 1; most = max c.most (c.marks + 1); memo = c.memo; greatest = c.greatest }

  module _ (f : Firm r c) where
    marks_held : length (state_of r c).marks ≡ c.marks
    marks_held = marks_length r c (let x = f.lengths.marks in let y = f.marks in let z = f.most in omega arith)

    values : length (state_of r c).stack ≡ c.stack
    values = stack_length r c (let x = f.lengths.stack in let y = f.stack in let z = f.deepest in omega arith)

    mark_is_full : marks_limit ≤ c.marks → mark (state_of r c) ≡ no MarksFull
    unfolding mark ◌>>=◌ need
    mark_is_full l = rw (marks_held, le-ltb c.marks marks_limit l)

    abbrev with_mark : Rooms
    with_mark = marks_in r (set r.marks c.marks c.stack)

    marked_at : state_of with_mark marked_to ≡ state_of with_mark (marks_to c (suc c.marks))
    unfolding state_of
    marked_at = let e : c.marks + 1 ≡ suc c.marks = omega arith in ap (λ (k : ℕ). with_marks (state_of with_mark c) (take k (set r.marks c.marks c.stack))) e

    mark_is_put : c.marks < marks_limit → mark (state_of r c) ≡ ok (state_of with_mark marked_to)
    unfolding mark ◌>>=◌ need
    mark_is_put l = rw (marks_held, values, lt-ltb c.marks marks_limit l, marked_at, marks_more r c c.stack (let x = f.lengths.marks in omega arith))

    mark_firm : c.marks < marks_limit → Firm with_mark marked_to
    mark_firm l = record {
      lengths = record { pickle = f.lengths.pickle; nodes = f.lengths.nodes; owners = f.lengths.owners; children = f.lengths.children; stack = f.lengths.stack; marks = rw length-set f.lengths.marks; keys = f.lengths.keys; held = f.lengths.held };
      at = f.at;
      nodes = f.nodes;
      links = f.links;
      stack = f.stack;
      deepest = f.deepest;
      marks = omega arith;
      most = let x = f.most in omega arith;
      memo = f.memo;
      numbered = f.numbered;
      kept = f.kept;
      clean = record { nodes = f.clean.nodes; owners = f.clean.owners; children = f.clean.children; stack = f.clean.stack; marks = behind-set f.clean.marks (omega arith) c.marks c.stack (omega arith); keys = f.clean.keys; held = f.clean.held };
    }

  pub put_mark_full : Fits (Mark c) r h → marks_limit ≤ c.marks → Done (Err MarksFull) r r (enacted (Mark c) r h)
  unfolding enacted Fits going
  put_mark_full f l = done_refused MarksFull r (going (mark (state_of r c))) (rw (mark_is_full f l))

  pub put_mark-done : Fits (Mark c) r h → c.marks < marks_limit → Done (Ok (step.Next marked_to)) r (marks_in r (set r.marks c.marks c.stack)) (enacted (Mark c) r h)
  unfolding enacted Fits going meant Stays
  put_mark-done f l = record { means = rw (mark_is_put f l); stays = mark_firm f l }
