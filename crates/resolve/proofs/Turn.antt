-- What the walk keeps, turn by turn.
use Rattle.std.proofs.Common.{◌≡◌, subst, ℕ, ◌+◌, ◌-◌, ◌*◌, ◌%◌, ◌<◌, ◌≤◌, List, length, get_or, set, false, max, arith}
use Rattle.std.specs.Prelude.{Option, None, Some, Result, Ok, Err}
use Rattle.refusal.specs.declared.Refusal.{Refusal}
use Rattle.refusal.specs.declared.Refusal.TheVariants.{TooDeep}
use Rattle.reading.specs.Build.{blocked}
use Rattle.resolve.specs.Known.{Learns}
use Rattle.resolve.specs.declared.Seen.{Seen}
use Rattle.resolve.specs.declared.Seen.TheVariants as seen
use Rattle.resolve.specs.Class.{Owns}
use Rattle.resolve.specs.MeasureWord.{deep_w, values_w, texts_w}
use Rattle.resolve.specs.Loop.{LoopBegins, Midway}
use Rattle.resolve.specs.Walk.{walk}
use Rattle.resolve.specs.Ends.{Opens, WalkEnds, Walks, moved, enter, ends_too, known_deep, known_word, known_empty, known_open, walk-deep, walk-word, walk_empty, child_at, why_deep}

-- ---- a turn of the loop, over plain lists: so that a need names the facts of its place and nothing else

-- node n is entered, whatever it was, and its own text measured; the loop has come to child i, which is there
pub record Turn (p ws starts measures sorted room : List ℕ) (n levels : ℕ) (after : List ℕ) (len : ℕ) (ms ss rs : List ℕ) (deepest values texts i : ℕ) : Type 0 where
  pub owns : Owns p ws measures after n len
  pub midway : (I : LoopBegins p ws starts (set after n 1) sorted room n) → Midway I (levels - 1) len ms ss rs deepest values texts i
  pub child : i < get_or starts (n + 1) 0
  pub level : 1 ≤ levels

pub turn : {p ws starts measures sorted room : List ℕ} {n levels : ℕ} {after : List ℕ} {len : ℕ} {ms ss rs : List ℕ} {deepest values texts i : ℕ} → Owns p ws measures after n len
    → ((I : LoopBegins p ws starts (set after n 1) sorted room n) → Midway I (levels - 1) len ms ss rs deepest values texts i)
    → i < get_or starts (n + 1) 0 → 1 ≤ levels → Turn p ws starts measures sorted room n levels after len ms ss rs deepest values texts i
turn o m c l = record { owns = o; midway = m; child = c; level = l }

module _ {p ws starts measures sorted room : List ℕ} {n levels : ℕ} {after : List ℕ} {len : ℕ} {ms ss rs : List ℕ} {deepest values texts i : ℕ} (T : Turn p ws starts measures sorted room n levels after len ms ss rs deepest values texts i) where
  module _ (o : Opens p ws starts measures sorted room n) where
    abbrev pub moves : Opens p ws starts after sorted room n
    moves = moved o after len T.owns

    abbrev pub into : LoopBegins p ws starts (set after n 1) sorted room n
    into = enter moves

    -- the child is a node, and its measure is in the room
    pub child_node : (get_or ss i 0 < length o.nodes) × (get_or ss i 0 < length ms)
    child_node = let e = child_at into (levels - 1) (T.midway into) T.child in (e, omega (arith, e, (T.midway into).holds.fits.noted.long))

  -- the turn is done, and the sums go by the word w
  abbrev pub Next : List ℕ → List ℕ → List ℕ → ℕ → Type 0
  Next ms' ss' rs' w = (I : LoopBegins p ws starts (set after n 1) sorted room n)
      → Midway I (levels - 1) len ms' ss' rs' (max deepest (deep_w w)) (values + values_w w) (texts + texts_w w) (i + 1)

  -- what was found of the child: its word, or that its place is to hold none
  abbrev pub Found : Option ℕ → List ℕ → List ℕ → List ℕ → Type 0
  Found (Some w) ms' ss' rs' = Next ms' ss' rs' w
  Found None ms' ss' rs' = Next ms' (set ss' i 4096) rs' 129

  -- what is learnt of the child, for which a level is left
  module _ (left : (1 ≤ levels - 1) × (levels - 1 ≤ 64)) (ms₁ : List ℕ) (a : Seen) (learns : Learns p ws ms ms₁ (get_or ss i 0) a) where
    learns_as : (b : Seen) → a ≡ b → Learns p ws ms ms₁ (get_or ss i 0) b
    learns_as b e = subst (Learns p ws ms ms₁ (get_or ss i 0)) e learns

    pub to_walk : a ≡ seen.Open → Opens p ws starts measures sorted room n → Opens p ws starts ms₁ ss rs (get_or ss i 0)
    to_walk e o = known_open (into o) (levels - 1) left (T.midway (into o)) T.child ms₁ (learns_as seen.Open e)

    pub word_found : (w : ℕ) → a ≡ seen.Word w → deep_w w < levels → Found (Some w) ms₁ ss rs
    word_found w e l = λ I. known_word I (levels - 1) left (T.midway I) T.child ms₁ w (learns_as (seen.Word w) e) (omega arith)

    pub empty_found : a ≡ seen.Empty → Found None ms₁ ss rs
    empty_found e = λ I. known_empty I (levels - 1) left (T.midway I) T.child ms₁ (learns_as seen.Empty e)

    -- the child is walked
    module _ (ms₂ ss₂ rs₂ : List ℕ) (r : Result (Option ℕ) Refusal) (walks : Walks p ws starts (levels - 1) (get_or ss i 0) ms₁ ss rs ms₂ ss₂ rs₂ r) (fresh : a ≡ seen.Open) where
      walked_as : (b : Result (Option ℕ) Refusal) → r ≡ b → Walks p ws starts (levels - 1) (get_or ss i 0) ms₁ ss rs ms₂ ss₂ rs₂ b
      walked_as b f = subst (Walks p ws starts (levels - 1) (get_or ss i 0) ms₁ ss rs ms₂ ss₂ rs₂) f walks

      pub walked_found : (found : Option ℕ) → r ≡ Ok found → Found found ms₂ ss₂ rs₂
      walked_found (Some w) q = λ I. walk-word I (levels - 1) left (T.midway I) T.child ms₁ (learns_as seen.Open fresh) ms₂ ss₂ rs₂ w (walked_as (Ok (Some w)) q)
      walked_found None q = λ I. walk_empty I (levels - 1) left (T.midway I) T.child ms₁ (learns_as seen.Open fresh) ms₂ ss₂ rs₂ (walked_as (Ok None) q)

      pub walked-why : Opens p ws starts measures sorted room n → (why : Refusal) → r ≡ Err why → why ≡ TooDeep
      unfolding Walks
      walked-why o why q = why_deep (walked_as (Err why) q (to_walk fresh o))

  -- the child is too deep
  module _ (o : Opens p ws starts measures sorted room n) (free : blocked o.nodes o.state.stages n ≡ false) (ms' ss' rs' : List ℕ) where
    abbrev pub Deep : Type 0
    Deep = WalkEnds o.nodes o.facts.beyond starts o.lent levels n (walk o.nodes 4096 levels n o.state) ms' ss' rs' (Err TooDeep)

    pub level_out : levels ≡ 1 → Deep
    level_out e = ends_too (moves o) levels T.level free (T.midway (into o)) ms' ss' rs' T.child (omega arith)

    module _ (left : (1 ≤ levels - 1) × (levels - 1 ≤ 64)) (ms₁ : List ℕ) (a : Seen) (learns : Learns p ws ms ms₁ (get_or ss i 0) a) where
      pub word-deep : (v : ℕ) → a ≡ seen.Word v → levels ≤ deep_w v → Deep
      word-deep v e l =
          let w = known_deep (into o) (levels - 1) left (T.midway (into o)) T.child ms₁ v (learns_as left ms₁ a learns (seen.Word v) e) in
          ends_too (moves o) levels T.level free (T.midway (into o)) ms' ss' rs' T.child (omega (arith, w))

      pub walk_too : (ms₂ ss₂ rs₂ : List ℕ) (r : Result (Option ℕ) Refusal) → Walks p ws starts (levels - 1) (get_or ss i 0) ms₁ ss rs ms₂ ss₂ rs₂ r → a ≡ seen.Open
          → r ≡ Err TooDeep → Deep
      walk_too ms₂ ss₂ rs₂ r b e q =
          let w = walk-deep (into o) (levels - 1) left (T.midway (into o)) T.child ms₁ (learns_as left ms₁ a learns seen.Open e) ms₂ ss₂ rs₂ (walked_as left ms₁ a learns ms₂ ss₂ rs₂ r b e (Err TooDeep) q) in
          ends_too (moves o) levels T.level free (T.midway (into o)) ms' ss' rs' T.child (omega (arith, w, left))

-- the sums so far stay small: w is a word, of which x and y are the higher parts
pub sums : (values x texts y i deepest w d : ℕ) → values ≤ 1 + 4096 * i → texts ≤ 131072 * (i + 1) → deepest ≤ 127 → d ≡ max deepest (w % 128)
    → (values + x % 4096 ≤ 1 + 4096 * (i + 1)) × (texts + y % 131072 ≤ 131072 * (i + 1 + 1)) × (d ≤ 127)
sums values x texts y i deepest w d a b e f = (omega arith, omega arith, omega arith)
