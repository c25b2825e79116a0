-- An Object's state.
use Rattle.std.specs.Prelude.{Ok, ℕ, suc, ◌+◌, ◌*◌, ◌^◌, ◌%◌, ◌<◌, ◌≤◌, cond, List, ◌≡◌, length, set}
use Rattle.std.proofs.Math.Path.{ap}
use Rattle.std.proofs.Common.{length-set}
use Rattle.std.proofs.Math.ListN.{get_or}
use Rattle.std.proofs.Math.Numerals.{add-one}
use native.Mathlib.Omega.{arith}
use Rattle.value.specs.Shape.{state_in}
use Rattle.store.specs.declared.Counts.{Counts}
use Rattle.store.specs.declared.Effect.TheVariants.{Build}
use Rattle.steps.specs.State.{State, ok}
use Rattle.steps.specs.Run.{goes}
use Rattle.store.specs.Rooms.{Rooms, words_in, Class, Classed}
use Rattle.steps.specs.NodeWords.{first, second, words_set, class_in, state_set}
use Rattle.store.specs.RoomLaws.{build-set}
use Rattle.store.specs.RoomKeeps.{kept_build}
use Rattle.store.specs.Effects.{Fits, enacted, with_state}
use Rattle.machine.specs.declared.Step.TheVariants as step
use Rattle.machine.specs.Done.{meant, Stays, Done, words-plus, behind-set}

-- ---- the functions' promises

pub record Buildable (nodes : List ℕ) (c : Counts) (o i : ℕ) : Type 0 where
  pub rooms : Rooms
  pub nodes_are : rooms.nodes ≡ nodes
  pub fits : Fits (Build c (record { 0 = o }) (record { 0 = i })) rooms 0

unfoldable pub SetsState : List ℕ → Counts → ℕ → ℕ → List ℕ → Counts → Type 0
SetsState nodes c o i nodes' t =
    (r : Rooms) (h : ℕ) → r.nodes ≡ nodes → Fits (Build c (record { 0 = o }) (record { 0 = i })) r h → Done (Ok (step.Next t)) r (words_in r nodes') (enacted (Build c (record { 0 = o }) (record { 0 = i })) r h)

-- ---- an Object's state

module _ (r : Rooms) (c : Counts) (o i h : ℕ) (f : Fits (Build c (record { 0 = o }) (record { 0 = i })) r h) where
  abbrev a : ℕ
  a = first r.nodes o

  abbrev b : ℕ
  b = second r.nodes o

  abbrev a' : ℕ
  a' = cond (state_in a) a (a + 32)

  abbrev b' : ℕ
  b' = i * 2 ^ 32 + b % 2 ^ 32

  -- its first word is small
  pub build-small : (a < 0x1000000) × (o < 4096) × (i < 4096) × (8192 ≤ length r.nodes)
  unfolding Fits Classed Class class_in
  build-small =
      let v = (f.0.kept.classed o f.1 f.3).0 in
      let n = f.0.nodes in
      let x = f.1 in
      let y = f.2 in
      (omega arith, omega arith, omega arith, f.0.lengths.nodes)

  pub build-done : Done (Ok (step.Next c)) r (words_in r (words_set r.nodes o a' b')) (enacted (Build c (record { 0 = o }) (record { 0 = i })) r h)
  unfolding enacted Fits meant Stays with_state words_set
  build-done =
      let g = f.0 in
      let n = g.nodes in
      let x = f.1 in
      let z = g.lengths.nodes in
      let t = state_set a b i f.3 in
      record {
        means = ap (λ (s : State). ok (goes s)) (build-set r c o a' b' i f.1 (omega arith) g.kept.classed f.3 t);
        stays = record {
          lengths = record { pickle = g.lengths.pickle; nodes = rw (length-set, length-set) g.lengths.nodes; owners = g.lengths.owners; children = g.lengths.children; stack = g.lengths.stack; marks = g.lengths.marks; keys = g.lengths.keys; held = g.lengths.held };
          at = g.at;
          nodes = g.nodes;
          links = g.links;
          stack = g.stack;
          deepest = g.deepest;
          marks = g.marks;
          most = g.most;
          memo = g.memo;
          numbered = g.numbered;
          kept = kept_build r.nodes r.owners r.children c.links c.nodes g.kept o a' b' i (omega arith) f.3 t;
          clean = record { nodes = behind-set (behind-set {m = 2 * c.nodes} g.clean.nodes (omega arith) (2 * o) a' (omega arith)) (omega arith) (suc (2 * o)) b' (omega arith); owners = g.clean.owners; children = g.clean.children; stack = g.clean.stack; marks = g.clean.marks; keys = g.clean.keys; held = g.clean.held };
        };
      }

-- of the words that were lent
module _ (nodes : List ℕ) (c : Counts) (o i : ℕ) where
  pub build_room : Buildable nodes c o i → (get_or nodes (2 * o) 0 < 0x1000000) × (o < 4096) × (i < 4096) × (8192 ≤ length nodes)
  unfolding first
  build_room k = rw (← k.nodes_are) (build-small k.rooms c o i 0 k.fits)

  pub state_lent : SetsState nodes c o i (set (set nodes (2 * o) (cond (state_in (get_or nodes (2 * o) 0)) (get_or nodes (2 * o) 0) (get_or nodes (2 * o) 0 + 32))) (2 * o + 1) (i * 2 ^ 32 + get_or nodes (2 * o + 1) 0 % 2 ^ 32)) c
  unfolding SetsState first second
  state_lent r h q f = rw (← q, words-plus r.nodes o (cond (state_in (get_or r.nodes (2 * o) 0)) (get_or r.nodes (2 * o) 0) (get_or r.nodes (2 * o) 0 + 32)) (i * 2 ^ 32 + get_or r.nodes (2 * o + 1) 0 % 2 ^ 32), add-one (2 * o)) (build-done r c o i h f)
