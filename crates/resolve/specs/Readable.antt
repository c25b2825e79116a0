-- What a call that reads node i's text asks of the rooms: that its words, its measure and its class's words are there.
use Rattle.std.specs.Prelude.{ℕ, ◌+◌, ◌*◌, ◌<◌, List, ◌≡◌, length, get_or}
use Rattle.std.proofs.Common.{arith}
use Rattle.value.specs.Value.{Label}
use Rattle.value.specs.Shape.{kind_in}
use Rattle.steps.specs.State.{Node}
use Rattle.steps.specs.NodeWords.{first, class_in}
use Rattle.resolve.specs.Resolved.{Kids}
use Rattle.resolve.specs.Shown.{Shown, Spelled, lead_text, trail_text}

pub record TextReadable (ws measures : List ℕ) (i : ℕ) : Type 0 where
  pub words : 2 * i + 1 < length ws
  pub measured : i < length measures
  pub class : kind_in (first ws i) ≡ 12 → 2 * class_in (first ws i) + 1 < length ws

-- rooms that show the nodes have it
pub shown_readable : (t : List Node) (h : Kids) (P : ℕ → Type 0) (p d ws starts sorted log measures : List ℕ) (i : ℕ) → Shown t h P p d ws starts sorted log measures → i < length t → TextReadable ws measures i
shown_readable t h P p d ws starts sorted log measures i s l =
    record {
      words = omega (arith, s.words_long);
      measured = omega (arith, s.measures_long);
      class = λ k. (let c = (s.classes i l k).0 in omega (arith, s.words_long));
    }

-- a node's text goes by its own measure alone
pub spelled_measure : (p d ws measures measures' : List ℕ) (i : ℕ) (l : Label) → get_or measures' i 0 ≡ get_or measures i 0 → Spelled p d ws measures i l → Spelled p d ws measures' i l
unfolding lead_text trail_text
spelled_measure p d ws measures measures' i l e s = record { lead = rw e s.lead; trail = rw e s.trail; inside = rw e s.inside }
