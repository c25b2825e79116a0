-- The nodes' children side by side, as the code behind STOP reads them.
use Rattle.std.specs.Prelude.{ℕ, suc, ◌<◌, ◌≤◌, List, ◌≡◌, length, get_or}
use Rattle.std.proofs.Math.Seq.{slice}
use Rattle.steps.specs.State.{Node}
use Rattle.reading.specs.Build.{at}

-- the children of node i stand from the i-th number of `starts` to the next
pub record Graph (t : List Node) (starts sorted : List ℕ) : Type 0 where
  pub bounds : (i : ℕ) → i < length t → (get_or starts i 0 ≤ get_or starts (suc i) 0) × (get_or starts (suc i) 0 ≤ length sorted)
  pub kids : (i : ℕ) → i < length t → slice (get_or starts i 0) (get_or starts (suc i) 0) sorted ≡ (at t i).kids
  pub inside : (k : ℕ) → k < length sorted → get_or sorted k 0 < length t
  pub room : length t < length starts
