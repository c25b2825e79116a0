-- An effect had in rooms that it fits: what `apply` promises, and what each effect's function asks for.
use Rattle.std.specs.Prelude.{Result, Ok, ℕ, ◌<◌, ◌≤◌, List, refl, length}
use Rattle.std.proofs.Common.{arith}
use Rattle.refusal.specs.declared.Refusal.{Refusal}
use Rattle.store.specs.declared.Counts.{Counts}
use Rattle.store.specs.declared.NodeId.{NodeId}
use Rattle.store.specs.declared.MemoKey.{MemoKey}
use Rattle.store.specs.declared.Effect.{Effect}
use Rattle.store.specs.declared.Effect.TheVariants.{Push, Share, Mark, Go, Make, Extend, Remember, Build, Stop}
use Rattle.store.specs.Rooms.{LentAs, Rooms}
use Rattle.store.specs.Effects.{Fits, enacted}
use Rattle.machine.specs.declared.Step.{Step}
use Rattle.machine.specs.declared.Step.TheVariants as step
use Rattle.machine.specs.Done.{meant, Stays, Done}
use Rattle.machine.specs.Containers.{Makeable, Extendable}
use Rattle.machine.specs.Memo.{Rememberable}
use Rattle.machine.specs.Words.{Buildable}

-- rooms that the effect fits, had they been lent in some way and with some pickle
pub record Fitting (e : Effect) (had : ℕ) (rooms : LentAs → List ℕ → Rooms) : Type 0 where
  pub lent : LentAs
  pub pickle : List ℕ
  pub fits : Fits e (rooms lent pickle) had

-- in whatever way they were lent and with whatever pickle, if it fits the step t has it
unfoldable pub Applies : Effect → ℕ → Result Step Refusal → (LentAs → List ℕ → Rooms) → (LentAs → List ℕ → Rooms) → Type 0
Applies e had t before after = (l : LentAs) (p : List ℕ) → Fits e (before l p) had → Done t (before l p) (after l p) (enacted e (before l p) had)

module _ (r : Rooms) (h : ℕ) (c : Counts) where
  pub push_lengths : (a b : ℕ) → Fits (Push c a b) r h → (8192 ≤ length r.nodes) × (2048 ≤ length r.stack)
  unfolding Fits
  push_lengths a b f = (f.0.lengths.nodes, f.0.lengths.stack)

  pub share_lengths : (i : NodeId) → Fits (Share c i) r h → (2048 ≤ length r.stack) × (i.0 < 65536)
  unfolding Fits
  share_lengths i f = let x = f.1 in let y = f.0.nodes in (f.0.lengths.stack, omega arith)

  pub mark_lengths : Fits (Mark c) r h → (256 ≤ length r.marks) × (c.stack ≤ 2048)
  unfolding Fits
  mark_lengths f = let x = f.stack in let y = f.deepest in (f.lengths.marks, omega arith)

  pub makeable : (k : ℕ) → Fits (Make c k) r h → Makeable r.nodes r.owners r.children r.stack c k h
  makeable k f = record { rooms = r; nodes_are = refl; owners_are = refl; children_are = refl; stack_is = refl; fits = f }

  pub extendable : (o : NodeId) → Fits (Extend c o) r h → Extendable r.nodes r.owners r.children r.stack c o.0 h
  extendable o f = record { rooms = r; nodes_are = refl; owners_are = refl; children_are = refl; stack_is = refl; fits = f }

  pub rememberable : (i : NodeId) (w : ℕ) (k : MemoKey) → Fits (Remember c i w k) r h → Rememberable r.keys r.held c k.0 i.0
  unfolding Fits
  rememberable i w k f = record { rooms = r; keys_are = refl; held_are = refl; fits = f }

  pub buildable : (o i : NodeId) → Fits (Build c o i) r h → Buildable r.nodes c o.0 i.0
  unfolding Fits
  buildable o i f = record { rooms = r; nodes_are = refl; fits = f }

  -- effects that change no room
  pub goes_on : Fits (Go c) r h → Done (Ok (step.Next c)) r r (enacted (Go c) r h)
  unfolding Fits enacted meant Stays
  goes_on f = record { means = refl; stays = f }

  pub stops : Fits (Stop c) r h → Done (Ok (step.Stop c)) r r (enacted (Stop c) r h)
  unfolding Fits enacted meant Stays
  stops f = record { means = refl; stays = f }
