-- Items added late, as late as may be, and where they stand in a write-out. That they do stand there is in proofs/Late.
use Prim.Native.Nat.{ℕ, suc, zero, ◌<◌}
use Rattle.std.specs.Prelude.{List, ◌≡◌, length, T}
use Rattle.std.proofs.Common.{arith}
use Rattle.std.proofs.Math.ListN.{get_or}
use Rattle.op.specs.declared.Edition.{Edition}
use Rattle.value.specs.Value.{Label, Forest, node}
use Rattle.steps.specs.State.{Node, ok, node_by}
use Rattle.steps.specs.Run.{Next}
use Rattle.steps.specs.Keeps.{state_after}
use Rattle.reading.specs.Build.{at}
use Rattle.reading.specs.Unfold.{WritesOut, nothing, afresh}
use Rattle.machine.specs.Ran.{after_steps}
use Rattle.run_laws.specs.Carried.{list_or_dict}

-- among values side by side, at place j, stands the write-out of the node x
pub data Item (t : List Node) (x : ℕ) : ℕ → Forest → Type 0 where
  first : {c r : Forest} → WritesOut t (at t x).kids c → Item t x 0 (node (at t x).label c r)
  next : {j : ℕ} {l : Label} {c r : Forest} → Item t x j r → Item t x (suc j) (node l c r)

pub item_at : {t : List Node} {is : List ℕ} {f : Forest} → WritesOut t is f → (j : ℕ) → j < length is → Item t (get_or is j 0) j f
item_at nothing j h = absurd (omega arith)
item_at (afresh a b) zero h = first a
item_at (afresh a b) (suc j) h = next (item_at b j (omega arith))

-- the machine x after some steps: its node i, a list or a dict, has something at place j, and no matter since when
pub record Has (ed : Edition) (p : List ℕ) (x : Next) (i j : ℕ) : Type 0 where
  pub steps : ℕ
  pub there : after_steps ed steps p ≡ ok x
  pub kind : T (list_or_dict (node_by (state_after x) i).label)
  pub inside : j < length (node_by (state_after x) i).kids

-- what it has there
abbrev pub what : Next → ℕ → ℕ → ℕ
what x i j = get_or (node_by (state_after x) i).kids j 0
