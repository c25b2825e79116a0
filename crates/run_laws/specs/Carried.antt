-- What it is that one list or dict begins as another. That they only grow, and at their end, is in proofs/Carried.
use Prim.Native.Nat.{ℕ, ◌<◌}
use Rattle.std.specs.Prelude.{Bool, ◌||◌, List, ◌≡◌, refl, length, get_or, take}
use Rattle.std.proofs.Common.{sym, ◌∙◌, ap, length-take, get_or-take}
use Rattle.std.proofs.Math.Seq.{take-length}
use native.Mathlib.Omega.{arith}
use Rattle.value.specs.Value.{Label}
use Rattle.steps.specs.State.{State, node_by}
use Rattle.steps.specs.Opcodes.{is_list, is_dict}

-- a list or a dict; a dict contains its keys and values by turns
abbrev pub list_or_dict : Label → Bool
list_or_dict l = is_list l || is_dict l

-- the node i has the label l, and begins with the contents ks
pub record BeginsWith (i : ℕ) (l : Label) (ks : List ℕ) (s : State) : Type 0 where
  pub label : (node_by s i).label ≡ l
  pub kids : take (length ks) (node_by s i).kids ≡ ks

-- as it begins with its own
pub begins_itself : (s : State) (i : ℕ) → BeginsWith i (node_by s i).label (node_by s i).kids s
begins_itself s i = record { label = refl; kids = take-length (node_by s i).kids }

-- so that what stands at a place stays there
pub begins_at : (i : ℕ) (l : Label) (ks : List ℕ) (s : State) → BeginsWith i l ks s → (j : ℕ) → j < length ks → (j < length (node_by s i).kids) × (get_or (node_by s i).kids j 0 ≡ get_or ks j 0)
begins_at i l ks s b j h =
    let m = (node_by s i).kids in
    let z = rw length-take at (ap length b.kids) in
    (omega arith, sym (get_or-take (length ks) m j 0 h) ∙ ap (λ (x : List ℕ). get_or x j 0) b.kids)
