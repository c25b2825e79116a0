-- What `measure` asks and ensures: each answer says what the walk makes of the node. A law for each of its returns, and for each arm of a turn.
use Prim.Native.Nat.{ℕ, suc, zero, ◌+◌, ◌-◌, ◌*◌, ◌<◌, ◌≤◌, min, max}
use Rattle.std.specs.Prelude.{Bool, Option, None, Some, Result, Ok, Err, false, ◌≡◌, ◌≢◌, length, set, eqb}
use Rattle.std.proofs.Math.Bool.{true}
use mathlib.Core.List.{List, [], ◌∷◌}
use Rattle.std.proofs.Math.Path.{refl, sym}
use Rattle.std.proofs.Common.{◌∙◌, ap, ne_eqb, sub-one, arith}
use Rattle.std.proofs.Math.ListN.{get_or}
use Rattle.std.proofs.Math.Seq.{slice}
use Rattle.std.proofs.Math.Numerals.{add-one}
use Rattle.utf8.specs.Rows.{and_left}
use Rattle.value.specs.Value.{Value, text_of}
use Rattle.steps.specs.State.{Node}
use Rattle.reading.specs.Build.{Stage, fresh, taken, kept, stage, none, at, is_taken, first_taken, blocked}
use Rattle.reading.specs.Unfold.{In, here, Staged, same, other, staged}
use Rattle.reading.specs.Measures.{value_measure, measure}
use Rattle.resolve.specs.MeasureWord.{pack_w, deep_w, values_w, texts_w, deep_pack}
use Rattle.resolve.specs.Length.{text_bytes}
use Rattle.resolve.specs.Blocked.{arguments_taken, head_taken}
use Rattle.resolve.specs.Walk.{WalkState, WalkMade, stage_r, each_r, finish_r, walk}
use Rattle.resolve.specs.Resolves.{stage_own}
use Rattle.resolve.specs.Inside.{walk-within}
use Rattle.resolve.specs.Noted.{is_container, leaf_of, LeafNoted, unseen, early, reached, Noted, WordSays, is_fresh, is_taken_lem, is_gone, is_kept, reads}
use Rattle.resolve.specs.Ranges.{ListsLie}
use Rattle.resolve.specs.Resolving.{walk_resolves}
use Rattle.resolve.specs.Fits.{fits_take, fits_block}
use Rattle.resolve.specs.Facts.{value_word, kind_at, class_at, Shallow, HoldsWalk}
use Rattle.resolve.specs.DuesRoom.{Notes}
use Rattle.resolve.specs.Class.{OwnTextReadable, Owns}
use Rattle.resolve.specs.Known.{word_big, Yields, Knows, k_open, k_empty, k_word, Learns}
use Rattle.resolve.specs.Loop.{AtStage, LoopBegins, ChildWalked, Midway, mid_start, called, child_below, too_deep, mid_same, mid_none, mid_word, mid_shallow, mid_finish}
use Rattle.refusal.specs.declared.Refusal.{Refusal}
use Rattle.refusal.specs.declared.Refusal.TheVariants.{TooDeep}
use Rattle.resolve.specs.declared.Seen.{Seen}
use Rattle.resolve.specs.declared.Seen.TheVariants.{Open, Empty, Word}

-- node n is a container that the walk comes to for the first time
abbrev pub Opens : List ℕ → List ℕ → List ℕ → List ℕ → List ℕ → List ℕ → ℕ → Type 0
Opens = AtStage fresh

-- what an answer says of m, which the walk makes of n, and of the rooms after
pub data WalkEnds (t : List Node) (beyond : length t ≤ 4096) (starts lent : List ℕ) (levels n : ℕ) (m : WalkMade) (measures sorted room : List ℕ) : Result (Option ℕ) Refusal → Type 0 where
  ends_deep : levels < (value_measure m.value).deep → WalkEnds t beyond starts lent levels n m measures sorted room (Err TooDeep)
  ends_empty : m.slot ≡ 4096 → m.value ≡ none → HoldsWalk t beyond starts lent measures sorted room m.after
      → WalkEnds t beyond starts lent levels n m measures sorted room (Ok None)
  ends_word : (w : ℕ) → m.slot ≡ n → w ≡ value_word m.value → (value_measure m.value).deep ≤ levels
      → HoldsWalk t beyond starts lent measures sorted room m.after
      → WalkEnds t beyond starts lent levels n m measures sorted room (Ok (Some w))

-- a refusal is that it is too deep
pub why_deep : {t : List Node} {beyond : length t ≤ 4096} {starts lent : List ℕ} {levels n : ℕ} {m : WalkMade} {measures sorted room : List ℕ} {why : Refusal}
    → WalkEnds t beyond starts lent levels n m measures sorted room (Err why) → why ≡ TooDeep
why_deep (ends_deep d) = refl

-- whatever nodes and state they are
unfoldable pub Walks : List ℕ → List ℕ → List ℕ → ℕ → ℕ → List ℕ → List ℕ → List ℕ → List ℕ → List ℕ → List ℕ → Result (Option ℕ) Refusal → Type 0
Walks p ws starts levels n measures sorted room measures' sorted' room' r =
    (o : Opens p ws starts measures sorted room n) → WalkEnds o.nodes o.facts.beyond starts o.lent levels n (walk o.nodes 4096 levels n o.state) measures' sorted' room' r

-- ---- an Object's first child

head_taken_lem : (t : List Node) (measures : List ℕ) (s : WalkState) (l : List ℕ) → Noted t value_word measures s → ((j : ℕ) → In j l → j < length t)
    → head_taken measures l ≡ first_taken s.stages l
unfolding head_taken first_taken
head_taken_lem t measures s [] n b = refl
head_taken_lem t measures s (x ∷ l) n b = go (is_container (at t x).label) refl
  where
    go : (c : Bool) → is_container (at t x).label ≡ c → eqb (get_or measures x 0) 1 ≡ is_taken (s.stages x)
    go true c = box (reads t value_word measures s x n (b x here) c)
      where
        box : WordSays t value_word s x (get_or measures x 0) → eqb (get_or measures x 0) 1 ≡ is_taken (s.stages x)
        box (is_fresh e y) = rw (e, y)
        box (is_taken_lem e y) = rw (e, y)
        box (is_gone v e g y) = rw (e, y)
        box (is_kept v e g y) = rw e (ne_eqb (get_or measures x 0) 1 (λ q. omega (arith, word_big v, q)))
    go false c = leafy (n.leaf x (b x here) c) ∙ sym (calm (s.stages x) (n.calm x c))
      where
        leafy : LeafNoted t value_word s.done x (get_or measures x 0) → eqb (get_or measures x 0) 1 ≡ false
        leafy (unseen y f) = ne_eqb (get_or measures x 0) 1 (λ q. omega arith)
        leafy (early y f) = ne_eqb (get_or measures x 0) 1 (λ q. omega arith)
        leafy (reached y f) = ne_eqb (get_or measures x 0) 1 (λ q. omega (arith, word_big (leaf_of t x), q))

        calm : (m : Stage) → m ≢ taken → is_taken m ≡ false
        calm fresh e = refl
        calm taken e = absurd (e refl)
        calm (kept v) e = refl

-- ---- the returns

-- a node that is taken has no value yet
pub taken_apart : (v : Value) → taken ≡ kept v → ⊥
taken_apart v e = cc

module _ {p ws starts measures sorted room : List ℕ} {n : ℕ} (o : Opens p ws starts measures sorted room n) where
  kids_at : slice (get_or starts n 0) (get_or starts (suc n) 0) sorted ≡ (at o.nodes n).kids
  kids_at = o.holds.fits.lies.lists n o.below ∙ o.kids_are

  held_is : arguments_taken (kind_at ws n) (slice (get_or starts n 0) (get_or starts (n + 1) 0) sorted) measures ≡ blocked o.nodes o.state.stages n
  unfolding arguments_taken blocked
  held_is =
      let e = kids_at in
      let f = o.facts.objects n o.below in
      let h = head_taken_lem o.nodes measures o.state (at o.nodes n).kids o.holds.fits.noted (λ j m. o.facts.inside n j m) in
      rw (add-one, e, f, h)

  -- the code's test was false
  pub open_free : {r : Bool} → r ≡ arguments_taken (kind_at ws n) (slice (get_or starts n 0) (get_or starts (n + 1) 0) sorted) measures → r ≡ false
      → blocked o.nodes o.state.stages n ≡ false
  open_free e h = sym held_is ∙ (sym e ∙ h)

  -- measures[n] = 1
  abbrev pub enter : LoopBegins p ws starts (set measures n 1) sorted room n
  enter = record {
    nodes = o.nodes;
    facts = o.facts;
    state = stage_r n taken o.state;
    lent = o.lent;
    roomy = o.roomy;
    holds = record {
      fits = fits_take o.nodes 4096 o.facts.beyond value_word starts measures sorted o.state o.holds.fits n o.below o.container o.stage_is;
      small = λ j v x. small_taken j v x (staged n taken o.state.stages j);
      within = o.holds.within;
      listed = o.holds.listed;
    };
    below = o.below;
    container = o.container;
    stage_is = stage_own n taken o.state.stages;
    kids_are = o.kids_are;
  }
    where
      small_taken : (j : ℕ) (v : Value) → stage n taken o.state.stages j ≡ kept v → Staged n taken o.state.stages j → (value_measure v).deep ≤ 64
      small_taken j v x (same a d) = absurd (taken_apart v (sym d ∙ x))
      small_taken j v x (other a d) = o.holds.small j v (sym d ∙ x)

  module _ (levels : ℕ) (l : 1 ≤ levels) where
    -- the walk, by the test of the code
    walk_stuck : blocked o.nodes o.state.stages n ≡ true
        → walk o.nodes 4096 levels n o.state ≡ record { slot = 4096; value = none; after = stage_r n (kept none) o.state }
    unfolding walk
    walk_stuck b = go levels l
      where
        go : (k : ℕ) → 1 ≤ k → walk o.nodes 4096 k n o.state ≡ record { slot = 4096; value = none; after = stage_r n (kept none) o.state }
        go zero q = absurd (omega arith)
        go (suc k) q = let e = o.stage_is in rw (e, b, walk)

    walk_entered : blocked o.nodes o.state.stages n ≡ false
        → walk o.nodes 4096 levels n o.state ≡ finish_r o.nodes n (each_r (walk o.nodes 4096 (levels - 1)) n [] (at o.nodes n).kids (stage_r n taken o.state))
    unfolding walk
    walk_entered b = go levels l
      where
        go : (k : ℕ) → 1 ≤ k
            → walk o.nodes 4096 k n o.state ≡ finish_r o.nodes n (each_r (walk o.nodes 4096 (k - 1)) n [] (at o.nodes n).kids (stage_r n taken o.state))
        go zero q = absurd (omega arith)
        go (suc k) q = let e = o.stage_is in rw (e, b, walk, sub-one)

    -- measures[n] = 3
    pub ends_blocked : {r : Bool} → r ≡ arguments_taken (kind_at ws n) (slice (get_or starts n 0) (get_or starts (n + 1) 0) sorted) measures → r ≡ true
        → WalkEnds o.nodes o.facts.beyond starts o.lent levels n (walk o.nodes 4096 levels n o.state) (set measures n 3) sorted room (Ok None)
    unfolding blocked measure
    ends_blocked e h =
        let b : blocked o.nodes o.state.stages n ≡ true = sym held_is ∙ (sym e ∙ h) in
        let f = fits_block o.nodes 4096 o.facts.beyond value_word starts measures sorted o.state o.holds.fits n o.below o.container o.stage_is (and_left _ _ b) in
        rw (walk_stuck b) (ends_empty refl refl (record { fits = f; small = small-none; within = o.holds.within; listed = o.holds.listed }))
      where
        small-none : Shallow (stage_r n (kept none) o.state)
        small-none j v x = pick (staged n (kept none) o.state.stages j)
          where
            pick : Staged n (kept none) o.state.stages j → (value_measure v).deep ≤ 64
            pick (same a d) = let y : none ≡ v = cc in rw (← y) (omega arith)
            pick (other a d) = o.holds.small j v (sym d ∙ x)

    module _ (h : blocked o.nodes o.state.stages n ≡ false) {len : ℕ} {measures' sorted' room' : List ℕ} {deepest values texts i : ℕ} (T : Midway enter (levels - 1) len measures' sorted' room' deepest values texts i) where
      -- a child is too deep
      pub ends_too : (measures'' sorted'' room'' : List ℕ) → i < get_or starts (n + 1) 0 → levels ≤ (value_measure (called enter (levels - 1) T).value).deep
          → WalkEnds o.nodes o.facts.beyond starts o.lent levels n (walk o.nodes 4096 levels n o.state) measures'' sorted'' room'' (Err TooDeep)
      unfolding finish_r
      ends_too measures'' sorted'' room'' m q =
          let m' : i < get_or starts (suc n) 0 = rw add-one at m in
          let d = too_deep enter (levels - 1) T m' in
          rw (walk_entered h) (ends_deep (omega arith))

      -- all are done
      pub ends_done : (w : ℕ) (room'' : List ℕ) → levels ≤ 64 → get_or starts (n + 1) 0 ≤ i → Notes (kind_at ws n) n room' room''
          → len ≡ min (length (text_of (at o.nodes n).label)) 65537
          → w ≡ deepest + 1 + 128 * min values 2049 + 524288 * min texts 65537
          → WalkEnds o.nodes o.facts.beyond starts o.lent levels n (walk o.nodes 4096 levels n o.state) (set measures' n w) sorted' room'' (Ok (Some w))
      unfolding finish_r
      ends_done w room'' b m x q e =
          let m' : get_or starts (suc n) 0 ≤ i = rw add-one at m in
          let z = mid_word enter (levels - 1) T m' w q e in
          let y = mid_shallow enter (levels - 1) T m' in
          rw (walk_entered h) (ends_word w own_slot z (omega arith) (mid_finish enter (levels - 1) T m' w room'' (omega arith) x z))
        where
          own_slot : (finish_r o.nodes n (each_r (walk o.nodes 4096 (levels - 1)) n [] (at o.nodes n).kids (stage_r n taken o.state))).slot ≡ n
          own_slot = refl

-- ---- a turn, by the answers

module _ {p ws starts measures₀ sorted₀ room₀ : List ℕ} {n : ℕ} (I : LoopBegins p ws starts measures₀ sorted₀ room₀ n) (k : ℕ) (small : (1 ≤ k) × (k ≤ 64)) {len : ℕ} {measures sorted room : List ℕ} {deepest values texts i : ℕ}
    (T : Midway I k len measures sorted room deepest values texts i) (h : i < get_or starts (n + 1) 0) (measures' : List ℕ) where
  h' : i < get_or starts (suc n) 0
  h' = rw add-one at h

  learns : (r : Seen) → Learns p ws measures measures' (get_or sorted i 0) r → Knows I.nodes measures measures' T.state (get_or sorted i 0) r
  unfolding Learns
  learns r a = a starts I.nodes T.state I.facts T.holds.fits.resolves T.holds.fits.noted T.holds.small (child_below I k T h')

  yields : (slot w : ℕ) → ((j : ℕ) → Yields I.nodes measures' T.state (walk I.nodes 4096 (suc j) (get_or sorted i 0) T.state) slot w)
      → Yields I.nodes measures' T.state (called I k T) slot w
  yields slot w b = go k small.0
    where
      go : (m : ℕ) → 1 ≤ m → Yields I.nodes measures' T.state (walk I.nodes 4096 m (get_or sorted i 0) T.state) slot w
      go zero q = absurd (omega arith)
      go (suc m) q = b m

  yields_back : (slot w : ℕ) → Yields I.nodes measures' T.state (called I k T) slot w → (value_measure (called I k T).value).deep ≤ k
      → ChildWalked I.nodes I.facts.beyond starts I.lent k (called I k T) w measures' sorted room
  yields_back slot w b d =
      let e = b.kids in
      let f = b.dues_stay in
      let y : ListsLie starts (length I.nodes) sorted (called I k T).after.kids = rw e T.holds.fits.lies in
      record {
        is = b.is;
        shallow = d;
        holds = record {
          fits = record { resolves = (walk_resolves I.nodes 4096 I.facts.beyond k (get_or sorted i 0) T.state T.holds.fits.resolves).resolves; noted = b.noted_still; lies = y };
          small = b.small;
          within = walk-within I.nodes I.facts.inside 4096 k (get_or sorted i 0) T.state (child_below I k T h') T.holds.within;
          listed = rw f T.holds.listed;
        };
      }

  yields_deep : (slot w : ℕ) → Yields I.nodes measures' T.state (called I k T) slot w → deep_w w ≡ (value_measure (called I k T).value).deep
  yields_deep slot w b = let v = value_measure (called I k T).value in ap deep_w b.is ∙ deep_pack v.deep v.values v.texts (omega (arith, b.deep))

  -- a word that is known
  pub known_deep : (w : ℕ) → Learns p ws measures measures' (get_or sorted i 0) (Word w) → deep_w w ≡ (value_measure (called I k T).value).deep
  known_deep w a = go (learns (Word w) a)
    where
      go : Knows I.nodes measures measures' T.state (get_or sorted i 0) (Word w) → deep_w w ≡ (value_measure (called I k T).value).deep
      go (k_word w b) = yields_deep (get_or sorted i 0) w (yields (get_or sorted i 0) w b)

  pub known_word : (w : ℕ) → Learns p ws measures measures' (get_or sorted i 0) (Word w) → deep_w w ≤ k
      → Midway I k len measures' sorted room (max deepest (deep_w w)) (values + values_w w) (texts + texts_w w) (i + 1)
  known_word w a d = go (learns (Word w) a) (known_deep w a)
    where
      go : Knows I.nodes measures measures' T.state (get_or sorted i 0) (Word w) → deep_w w ≡ (value_measure (called I k T).value).deep
          → Midway I k len measures' sorted room (max deepest (deep_w w)) (values + values_w w) (texts + texts_w w) (i + 1)
      go (k_word w b) e = let c = yields (get_or sorted i 0) w b in mid_same I k T h' small.1 w measures' sorted room (yields_back (get_or sorted i 0) w c (omega arith)) c.slot_is

  pub known_empty : Learns p ws measures measures' (get_or sorted i 0) Empty
      → Midway I k len measures' (set sorted i 4096) room (max deepest (deep_w 129)) (values + values_w 129) (texts + texts_w 129) (i + 1)
  known_empty a = go (learns Empty a)
    where
      go : Knows I.nodes measures measures' T.state (get_or sorted i 0) Empty
          → Midway I k len measures' (set sorted i 4096) room (max deepest (deep_w 129)) (values + values_w 129) (texts + texts_w 129) (i + 1)
      go (k_empty b) = let c = yields 4096 129 b in let e = yields_deep 4096 129 c in mid_none I k T h' small.1 129 measures' sorted room (yields_back 4096 129 c (omega (arith, small.0))) c.slot_is

  -- a fresh container is walked
  same_holds : (m : List ℕ) → m ≡ measures → HoldsWalk I.nodes I.facts.beyond starts I.lent m sorted room T.state
  same_holds m e = rw e T.holds

  module _ (a : Learns p ws measures measures' (get_or sorted i 0) Open) where
    opened : Knows I.nodes measures measures' T.state (get_or sorted i 0) Open → Opens p ws starts measures' sorted room (get_or sorted i 0)
    opened (k_open c f e) =
        record { nodes = I.nodes; facts = I.facts; state = T.state; lent = I.lent; roomy = I.roomy; holds = same_holds measures' e; below = child_below I k T h'; container = c; stage_is = f; kids_are = T.holds.fits.resolves.fresh_is _ f }

    pub known_open : Opens p ws starts measures' sorted room (get_or sorted i 0)
    known_open = opened (learns Open a)

    module _ (measures'' sorted'' room'' : List ℕ) where
      walks : (r : Result (Option ℕ) Refusal) → Walks p ws starts k (get_or sorted i 0) measures' sorted room measures'' sorted'' room'' r
          → WalkEnds I.nodes I.facts.beyond starts I.lent k (get_or sorted i 0) (called I k T) measures'' sorted'' room'' r
      unfolding Walks opened
      walks r b = go (learns Open a)
        where
          go : Knows I.nodes measures measures' T.state (get_or sorted i 0) Open
              → WalkEnds I.nodes I.facts.beyond starts I.lent k (get_or sorted i 0) (called I k T) measures'' sorted'' room'' r
          go (k_open c f e) = b (opened (k_open c f e))

      pub walk-deep : Walks p ws starts k (get_or sorted i 0) measures' sorted room measures'' sorted'' room'' (Err TooDeep)
          → k < (value_measure (called I k T).value).deep
      walk-deep b = go (walks (Err TooDeep) b)
        where
          go : WalkEnds I.nodes I.facts.beyond starts I.lent k (get_or sorted i 0) (called I k T) measures'' sorted'' room'' (Err TooDeep)
              → k < (value_measure (called I k T).value).deep
          go (ends_deep d) = d

      pub walk-word : (w : ℕ) → Walks p ws starts k (get_or sorted i 0) measures' sorted room measures'' sorted'' room'' (Ok (Some w))
          → Midway I k len measures'' sorted'' room'' (max deepest (deep_w w)) (values + values_w w) (texts + texts_w w) (i + 1)
      walk-word w b = go (walks (Ok (Some w)) b)
        where
          go : WalkEnds I.nodes I.facts.beyond starts I.lent k (get_or sorted i 0) (called I k T) measures'' sorted'' room'' (Ok (Some w))
              → Midway I k len measures'' sorted'' room'' (max deepest (deep_w w)) (values + values_w w) (texts + texts_w w) (i + 1)
          go (ends_word w e q d f) = mid_same I k T h' small.1 w measures'' sorted'' room'' (record { is = q; shallow = d; holds = f }) e

      pub walk_empty : Walks p ws starts k (get_or sorted i 0) measures' sorted room measures'' sorted'' room'' (Ok None)
          → Midway I k len measures'' (set sorted'' i 4096) room'' (max deepest (deep_w 129)) (values + values_w 129) (texts + texts_w 129) (i + 1)
      unfolding measure pack_w
      walk_empty b = go (walks (Ok None) b)
        where
          go : WalkEnds I.nodes I.facts.beyond starts I.lent k (get_or sorted i 0) (called I k T) measures'' sorted'' room'' (Ok None)
              → Midway I k len measures'' (set sorted'' i 4096) room'' (max deepest (deep_w 129)) (values + values_w 129) (texts + texts_w 129) (i + 1)
          go (ends_empty e q f) = mid_none I k T h' small.1 129 measures'' sorted'' room'' (record { is = rw q; shallow = rw q (omega (arith, small.0)); holds = f }) e

-- where the arms of a turn meet
pub arms_meet : {p ws starts measures₀ sorted₀ room₀ : List ℕ} {n : ℕ} (I : LoopBegins p ws starts measures₀ sorted₀ room₀ n) (k len : ℕ) (measures sorted room measures' sorted' room' : List ℕ) (deepest values texts i w w' r : ℕ)
    → measures' ≡ measures → sorted' ≡ sorted → room' ≡ room → w' ≡ w → r ≡ max deepest (deep_w w')
    → Midway I k len measures sorted room (max deepest (deep_w w)) (values + values_w w) (texts + texts_w w) (i + 1)
    → Midway I k len measures' sorted' room' r (values + values_w w') (texts + texts_w w') (i + 1)
arms_meet I k len measures sorted room measures' sorted' room' deepest values texts i w w' r e f d g h t = rw (h, e, f, d, g) t

-- ---- what the code reads and writes

pub child_at : {p ws starts measures₀ sorted₀ room₀ : List ℕ} {n : ℕ} (I : LoopBegins p ws starts measures₀ sorted₀ room₀ n) (k : ℕ) {len : ℕ} {measures sorted room : List ℕ} {deepest values texts i : ℕ}
    (T : Midway I k len measures sorted room deepest values texts i) → i < get_or starts (n + 1) 0 → get_or sorted i 0 < length I.nodes
child_at {n = n} I k T h = child_below I k T (rw add-one at h)

module _ {p ws starts measures sorted room : List ℕ} {n : ℕ} (o : Opens p ws starts measures sorted room n) where
  pub open_words : 2 * n < length ws
  open_words = omega (arith, o.below, o.facts.words_long)

  pub open_starts : n + 1 < length starts
  open_starts = omega (arith, o.below, o.facts.starts_long)

  pub open_measured : n < length measures
  open_measured = omega (arith, o.below, o.holds.fits.noted.long)

  pub open_end : get_or starts (n + 1) 0 ≤ length sorted
  open_end = rw add-one (o.holds.fits.lies.bounds n o.below).1

  pub open_first : get_or starts n 0 < get_or starts (n + 1) 0 → get_or sorted (get_or starts n 0) 0 < length measures
  open_first h = let a = child_at (enter o) 0 (mid_start (enter o) 0 0) h in let b = o.holds.fits.noted.long in omega arith

  pub open_owned : OwnTextReadable p ws measures n (kind_at ws n)
  open_owned =
      let g = o.holds.fits.noted.long in
      record {
        kind_is = refl;
        container = sym (o.facts.containers n o.below) ∙ o.container;
        long = open_words;
        class_below = λ e. omega (arith, (o.facts.classes n o.below e).0, g);
        class_reads = λ e. o.facts.readable (class_at ws n) (o.facts.classes n o.below e).0;
      }

  -- the class is measured
  pub own_noted : (measures' : List ℕ) (r : ℕ) → Owns p ws measures measures' n r
      → (r ≡ min (text_bytes p ws n) 65537) × (Noted o.nodes value_word measures' o.state)
  unfolding Owns
  own_noted measures' r w = w starts o.nodes o.state o.facts o.holds.fits.noted o.below

  module _ (measures' : List ℕ) (r : ℕ) (w : Owns p ws measures measures' n r) where
    abbrev pub moved : Opens p ws starts measures' sorted room n
    moved = record {
      nodes = o.nodes;
      facts = o.facts;
      state = o.state;
      lent = o.lent;
      roomy = o.roomy;
      holds = record {
        fits = record { resolves = o.holds.fits.resolves; noted = (own_noted measures' r w).1; lies = o.holds.fits.lies };
        small = o.holds.small;
        within = o.holds.within;
        listed = o.holds.listed;
      };
      below = o.below;
      container = o.container;
      stage_is = o.stage_is;
      kids_are = o.kids_are;
    }

    pub own_len : r ≡ min (length (text_of (at o.nodes n).label)) 65537
    own_len = (own_noted measures' r w).0 ∙ ap (λ (x : ℕ). min x 65537) (o.facts.lens_are n o.below)
