-- What the code reads off its rooms: the parts of the state.
use Rattle.std.specs.Prelude.{ℕ, ◌<◌, ◌≤◌, ◌≡◌, length, take, drop}
use Rattle.std.proofs.Math.Path.{refl}
use Rattle.std.proofs.Math.Seq.{length-take-le}
use Rattle.value.specs.Value.{NoneL}
use Rattle.steps.specs.State.{kidless, node_by}
use Rattle.steps.specs.Run.{start}
use Rattle.store.specs.Rooms.{Rooms, Counts, tabulated, entries, node_of, memo_of, state_of}
use Rattle.store.specs.RoomLists.{length_tab, get_d_tab}

-- with nothing read yet
pub start_of : (r : Rooms) → state_of r (record { at = 0; nodes = 0; links = 0; stack = 0; deepest = 0; marks = 0; most = 0; memo = 0; greatest = 0 }) ≡ start r.pickle
unfolding state_of tabulated entries start
start_of r = refl

module _ (r : Rooms) (c : Counts) where
  pub input_of : (state_of r c).input ≡ drop c.at r.pickle
  unfolding state_of
  input_of = refl

  pub stack_of : (state_of r c).stack ≡ take c.stack r.stack
  unfolding state_of
  stack_of = refl

  pub marks_of : (state_of r c).marks ≡ take c.marks r.marks
  unfolding state_of
  marks_of = refl

  pub memo_of_lem : (state_of r c).memo ≡ memo_of r c
  unfolding state_of
  memo_of_lem = refl

  pub links_of_lem : (state_of r c).links ≡ c.links
  unfolding state_of
  links_of_lem = refl

  pub nodes-length : length (state_of r c).nodes ≡ c.nodes
  unfolding state_of
  nodes-length = length_tab (node_of r c) c.nodes

  pub stack_length : c.stack ≤ length r.stack → length (state_of r c).stack ≡ c.stack
  unfolding state_of
  stack_length h = length-take-le c.stack r.stack h

  pub marks_length : c.marks ≤ length r.marks → length (state_of r c).marks ≡ c.marks
  unfolding state_of
  marks_length h = length-take-le c.marks r.marks h

  pub node_at : (i : ℕ) → i < c.nodes → node_by (state_of r c) i ≡ node_of r c i
  unfolding state_of
  node_at i h = get_d_tab (node_of r c) c.nodes i (kidless NoneL) h
