-- What a step comes to in the rooms: its meaning for the machine, and what is kept.
use Rattle.std.specs.Prelude.{Result, Ok, Err, ℕ, ◌+◌, ◌-◌, ◌*◌, ◌<◌, ◌≤◌, max, List, ◌≡◌, refl, set, drop}
use Rattle.std.proofs.Common.{sym, ◌∙◌, ap, drop-set-lt, drop-drop, add-one, arith}
use Rattle.refusal.specs.declared.Refusal.{Refusal}
use Rattle.store.specs.declared.Counts.{Counts}
use Rattle.steps.specs.State.{Res, ok, no}
use Rattle.steps.specs.Run.{Next, goes, stops}
use Rattle.store.specs.Rooms.{Rooms, state_of}
use Rattle.steps.specs.NodeWords.{words_set}
use Rattle.store.specs.Effects.{Firm, AsLentBehind}
use Rattle.machine.specs.declared.Step.{Step}
use Rattle.machine.specs.declared.Step.TheVariants as step

-- for the machine
unfoldable pub meant : Result Step Refusal → Rooms → Res Next
meant (Ok (step.Next c)) r = ok (goes (state_of r c))
meant (Ok (step.Stop c)) r = ok (stops (state_of r c))
meant (Err why) r = no why

-- the rooms r' after a step from r: firm, and on a refusal as they were
unfoldable pub Stays : Result Step Refusal → Rooms → Rooms → Type 0
Stays (Ok (step.Next c)) r r' = Firm r' c
Stays (Ok (step.Stop c)) r r' = Firm r' c
Stays (Err why) r r' = r' ≡ r

-- the step t from the rooms r to r' is n
pub record Done (t : Result Step Refusal) (r r' : Rooms) (n : Res Next) : Type 0 where
  pub means : meant t r' ≡ n
  pub stays : Stays t r r'

-- an effect that has these counts, or is refused, as a step
abbrev pub gone_on : Result Counts Refusal → Result Step Refusal
gone_on (Ok c) = Ok (step.Next c)
gone_on (Err why) = Err why

pub done_refused : (why : Refusal) (r : Rooms) (n : Res Next) → n ≡ no why → Done (Err why) r r n
unfolding meant Stays
done_refused why r n e = record { means = sym e; stays = refl }

-- a value more on the stack
abbrev pub pushed_to : Counts → ℕ → ℕ → Counts
pushed_to c n l = record { at = c.at; nodes = n; links = l; stack = c.stack + 1; deepest = max c.deepest (c.stack + 1); marks = c.marks; most = c.most; memo = c.memo; greatest = c.greatest }

-- ---- more of a room used

module _ {n m : ℕ} {lent room : List ℕ} (h : AsLentBehind n lent room) (k : n ≤ m) where
  more : drop m room ≡ drop m lent
  more =
      let e : n + (m - n) ≡ m = omega arith in
      rw e at (sym (drop-drop (m - n) n room) ∙ ap (drop (m - n)) h.same ∙ drop-drop (m - n) n lent)

  pub behind-set : (p x : ℕ) → p < m → AsLentBehind m lent (set room p x)
  behind-set p x q = record { same = drop-set-lt m room p x q ∙ more }

-- a node's two words, one after the other
pub words-plus : (ws : List ℕ) (i a b : ℕ) → set (set ws (2 * i) a) (2 * i + 1) b ≡ words_set ws i a b
unfolding words_set
words-plus ws i a b = rw (add-one (2 * i))
