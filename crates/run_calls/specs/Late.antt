-- Items added late, carried through the run: what an opcode adds to a list or dict at any step stands, at its place in that node, at each
-- place of the node in the write-out that the prefix call fills in order.
use Rattle.std.specs.Prelude.{ℕ, ◌<◌, ◌≤◌, List, [], ◌∷◌, ◌≡◌, length}
use Rattle.refusal.specs.declared.Answer.{Answer}
use Rattle.op.specs.declared.Edition.{Edition}
use Rattle.value.specs.Value.{Forest}
use Rattle.steps.specs.State.{State, ok, last}
use Rattle.steps.specs.Run.{Next, run}
use Rattle.reading.specs.Unfold.{WritesOut, NothingContainsItself}
use Rattle.reading.specs.Reading.{pickle_limit, reading_of, consumed, prefix_in, written_out}
use Rattle.rooms.specs.Stated.{Slices}
use Rattle.de.specs.Call.{ReadCall}
use Rattle.de.specs.Theorems.{ShownIn, place_shows, LateItems, late_items_show}
use Rattle.run_laws.specs.Late.{Item, Has, what}
use Rattle.run_laws.proofs.Late.{late_item}

-- in a write-out of nodes at STOP
pub at_each_place : (ed : Edition) (p : List ℕ) (z : State) → run ed p ≡ ok z → {is : List ℕ} {f : Forest} {w : WritesOut z.nodes is f} → (x : Next) (i j : ℕ) → Has ed p x i j → (c : Forest) → ShownIn i c is f w → Item z.nodes (what x i j) j c
at_each_place ed p z stop x i j h c q = late_item ed p x i j h z stop c (place_shows i c q)

-- every item that a list or dict had after some steps, at each place of it in the write-out f of the value left
abbrev pub EachItem : (ed : Edition) (p : List ℕ) (z : State) (f : Forest) → WritesOut z.nodes (last z.stack ∷ []) f → Type 0
EachItem ed p z f w = (x : Next) (i j : ℕ) → Has ed p x i j → (c : Forest) → ShownIn i c (last z.stack ∷ []) f w → Item z.nodes (what x i j) j c

-- A pickle read to STOP with a value left, nothing reachable from which contains itself.
module _ (ed : Edition) (p : List ℕ) (z : State) (fits : length p ≤ pickle_limit) (stop : run ed p ≡ ok z) (left : 0 < length z.stack) (apart : NothingContainsItself z.nodes (last z.stack)) where
  -- in what the prefix reading gives
  pub prefix_late_items : (f : Forest) × (w : WritesOut z.nodes (last z.stack ∷ []) f) × (prefix_in ed p ≡ reading_of (consumed p z) f) × EachItem ed p z f w
  prefix_late_items = let o = written_out ed p z fits stop left apart in (o.0, o.1, o.2, λ x i j h c q. at_each_place ed p z stop x i j h c q)

  -- and in that of the call, in which every node that the value left reaches has a place
  pub call_late_items : (l l' : Slices) (a : Answer) → ReadCall (prefix_in ed p) l l' a → (late : LateItems p z l l' a) × EachItem ed p z late.forest late.written
  call_late_items l l' a c = (late_items_show ed p z fits stop left apart l l' a c, λ x i j h c q. at_each_place ed p z stop x i j h c q)
