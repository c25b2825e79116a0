-- Items added late, as late as may be: what an opcode adds to a list or dict at any step stands at its place in every write-out of what
-- that node contains at STOP.
use Prim.Native.Nat.{ℕ, suc, ◌+◌, ◌<◌}
use Rattle.std.specs.Prelude.{List, ◌++◌, ◌≡◌, length, T}
use Rattle.std.proofs.Common.{◌∙◌, length-append, get_or-append-add, arith}
use Rattle.std.proofs.Math.ListN.{get_or}
use Rattle.op.specs.declared.Edition.{Edition}
use Rattle.value.specs.Value.{Forest}
use Rattle.steps.specs.State.{State, ok, node_by}
use Rattle.steps.specs.Run.{Next, goes, step, run}
use Rattle.steps.specs.Keeps.{state_after}
use Rattle.reading.specs.Build.{at}
use Rattle.reading.specs.Unfold.{WritesOut}
use Rattle.machine.specs.Ran.{after_steps}
use Rattle.run_laws.specs.Steps.{one_step}
use Rattle.run_laws.specs.Carried.{list_or_dict, begins_at}
use Rattle.run_laws.specs.Late.{Item, item_at, Has, what}
use Rattle.run_laws.proofs.Carried.{contents_at_stop}

pub late_item : (ed : Edition) (p : List ℕ) (x : Next) (i j : ℕ) → Has ed p x i j → (z : State) → run ed p ≡ ok z → (c : Forest) → WritesOut z.nodes (at z.nodes i).kids c → Item z.nodes (what x i j) j c
late_item ed p x i j h z stop c w =
    let b = begins_at i (node_by (state_after x) i).label (node_by (state_after x) i).kids z (contents_at_stop ed p h.steps x z h.there stop i h.kind) j h.inside in
    rw b.1 at (item_at w j b.0)

-- So the items `is` that the opcode of the step from s to t adds to the node i: the n-th stands there behind all that i had before.
module _ (ed : Edition) (p : List ℕ) (k : ℕ) (s t : State) (here : after_steps ed k p ≡ ok (goes s)) (did : step ed s ≡ ok (goes t)) (i : ℕ) (kind : T (list_or_dict (node_by t i).label)) (is : List ℕ) (adds : (node_by t i).kids ≡ (node_by s i).kids ++ is) (n : ℕ) (inside : n < length is) where
  pub has_added : Has ed p (goes t) i (length (node_by s i).kids + n)
  unfolding state_after
  has_added = record { steps = suc k; there = one_step ed p k s here ∙ did; kind = kind; inside = rw (adds, length-append) (omega arith) }

  pub added_item : (z : State) → run ed p ≡ ok z → (c : Forest) → WritesOut z.nodes (at z.nodes i).kids c → Item z.nodes (get_or is n 0) (length (node_by s i).kids + n) c
  unfolding state_after
  added_item z stop c w = let e : what (goes t) i (length (node_by s i).kids + n) ≡ get_or is n 0 = rw (adds, get_or-append-add) in rw e at (late_item ed p (goes t) i (length (node_by s i).kids + n) has_added z stop c w)
