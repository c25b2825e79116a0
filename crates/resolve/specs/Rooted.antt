-- The pass over the root's tree, from rooms in which nothing is noted: what its answer says of the tree that `Builder` makes, and what the rooms
-- hold for the passes behind it.
use Rattle.std.specs.Prelude.{ℕ, Option, Some, Result, Ok, Err, suc, ◌+◌, ◌*◌, ◌<◌, ◌≤◌, Bool, true, false, ◌&&◌, ◌||◌, List, ◌≡◌, refl, length, get_or, leb, ltb}
use Rattle.std.proofs.Common.{sym, ◌∙◌, ap, leb-true, ltb-true, arith}
use Rattle.std.proofs.Math.Decide.{dec_lt}
use Rattle.utf8.specs.Rows.{both}
use Rattle.value.specs.Value.{Value, one, size, depth, text}
use Rattle.steps.specs.State.{Node}
use Rattle.reading.specs.Build.{Stages, unbuilt, at, build, tree}
use Rattle.reading.specs.Graph.{Graph}
use Rattle.resolve.specs.Standing.{SaysNodes}
use Rattle.reading.specs.Unfold.{In, fresh_left-all}
use Rattle.reading.specs.Fuel.{build_fuel}
use Rattle.reading.specs.Shallow.{deep, levels}
use Rattle.reading.specs.Measures.{value_measure, measure, measure-deep, measure_values, measure-texts}
use Rattle.resolve.specs.Resolved.{StandsFor}
use Rattle.resolve.specs.Walk.{WalkState, walk_start, walk-build}
use Rattle.resolve.specs.Tree.{walked, tree_stands, levels_enough, root_slot}
use Rattle.resolve.specs.Inside.{walk-within}
use Rattle.resolve.specs.Dues.{dues}
use Rattle.resolve.specs.Ranges.{ListsLie}
use Rattle.resolve.specs.Resolving.{walk_resolves}
use Rattle.resolve.specs.DuesRoom.{lists_none}
use Rattle.resolve.specs.Sums.{up_to}
use Rattle.resolve.specs.Noted.{is_container, is_text_leaf, ahead, leaf_of, LeafNoted, unseen, early, reached, WordSays, is_fresh, is_taken_lem, is_gone, is_kept, reads}
use Rattle.resolve.specs.Reached.{text_if, container-done, leaf-done, done-leaf, done-container, texts-held}
use Rattle.resolve.specs.Fits.{fits_start}
use Rattle.resolve.specs.Length.{LengthReadable}
use Rattle.resolve.specs.MeasureWord.{pack_w}
use Rattle.resolve.specs.Facts.{value_word, Facts, Shallow, HoldsWalk}
use Rattle.resolve.specs.Known.{word_big, word_low, leaf-deep, Knows, k_open, k_empty, k_word, Learns}
use Rattle.resolve.specs.Ends.{Opens, WalkEnds, ends_deep, ends_empty, ends_word, Walks}
use Rattle.resolve.specs.Standing.{facts}
use Rattle.refusal.specs.declared.Refusal.{Refusal}
use Rattle.refusal.specs.declared.Refusal.TheVariants.{TooDeep}
use Rattle.resolve.specs.declared.Seen.{Seen}
use Rattle.resolve.specs.declared.Seen.TheVariants as seen

-- no node has a measure yet
abbrev pub Unmeasured : ℕ → List ℕ → Type 0
Unmeasured n d = (i : ℕ) → i < n → get_or d i 0 ≡ 0

-- w is the word of v, which is no deeper than 64
pub record MeasuresTo (v : Value) (w : ℕ) : Type 0 where
  pub shallow : depth (one v) ≤ 64
  pub is : w ≡ pack_w (depth (one v)) (size (one v)) (length (text (one v)))

-- a node table at STOP is what the rooms say, no node has a measure yet, and no due is noted in the room lent for them
pub record ReadyToResolve (p ws starts sorted measures room : List ℕ) (root : ℕ) : Type 0 where
  pub nodes : List Node
  pub stands : SaysNodes p ws nodes
  pub graph : Graph nodes starts sorted
  pub beyond : length nodes ≤ 4096
  pub many : length measures ≡ length nodes
  pub blank : Unmeasured (length nodes) measures
  pub roomy : length nodes < length room
  pub no_dues : get_or room 0 0 ≡ 0
  pub below : root < length nodes

-- what the answer says of the tree and of the rooms after; `lent` is the room of dues before
pub data RootEnds (t : List Node) (beyond : length t ≤ 4096) (starts lent measures sorted room : List ℕ) (root : ℕ) : Result (Option ℕ) Refusal → Type 0 where
  r_deep : 64 < depth (one (tree t root)) → RootEnds t beyond starts lent measures sorted room root (Err TooDeep)
  r_word : (w : ℕ)
      → MeasuresTo (tree t root) w
      → StandsFor t (walked t 4096 64 root).after.kids root (tree t root)
      → HoldsWalk t beyond starts lent measures sorted room (walked t 4096 64 root).after
      → RootEnds t beyond starts lent measures sorted room root (Ok (Some w))

unfoldable pub Roots : List ℕ → List ℕ → List ℕ → List ℕ → List ℕ → List ℕ → List ℕ → List ℕ → List ℕ → ℕ → Result (Option ℕ) Refusal → Type 0
Roots p ws starts sorted measures room sorted' measures' room' root r =
    (b : ReadyToResolve p ws starts sorted measures room root) → RootEnds b.nodes b.beyond starts room measures' sorted' room' root r

-- ---- depths and words

value-deep : (v : Value) → (value_measure v).deep ≡ depth (one v)
unfolding measure
value-deep v = sym (omega arith) ∙ measure-deep (one v)

value-word : (v : Value) → value_word v ≡ pack_w (depth (one v)) (size (one v)) (length (text (one v)))
unfolding measure
value-word v =
    let a : (value_measure v).deep ≡ depth (one v) = value-deep v in
    let b : (value_measure v).values ≡ size (one v) = sym (omega arith) ∙ measure_values (one v) in
    let c : (value_measure v).texts ≡ length (text (one v)) = sym (omega arith) ∙ measure-texts (one v) in
    rw (a, b, c)

-- made with 64 levels and no deeper, it is the tree
built-whole : (t : List Node) (root : ℕ) → depth (one (build t 64 root unbuilt).0) ≤ 64 → (build t 64 root unbuilt).0 ≡ tree t root
unfolding tree deep
built-whole t root h =
    let n = length t in
    let e : build t (suc n) root unbuilt ≡ build t (suc n + 64) root unbuilt = build_fuel t (suc n) (suc n + 64) root unbuilt (rw fresh_left-all (omega arith)) (rw fresh_left-all (omega arith)) in
    let f : build t 64 root unbuilt ≡ build t (suc n + 64) root unbuilt = levels t 64 (suc n) root unbuilt h in
    ap (λ (x : Value × Stages). x.0) (f ∙ sym e)

-- made within 64 levels, it is the tree that the walk makes
walked-tree : (t : List Node) (beyond : length t ≤ 4096) (root : ℕ) → depth (one (tree t root)) ≤ 64 → (walked t 4096 64 root).value ≡ tree t root
walked-tree t beyond root h = (walk-build t 4096 64 root (walk_start t)).value ∙ levels_enough t 4096 beyond 64 root h

-- ---- for the passes behind

-- the word of a finished node is there, unless it is a leaf without text; it is not one that was read ahead
pub root_words : {t : List Node} {beyond : length t ≤ 4096} {starts lent measures sorted room : List ℕ} {s : WalkState}
    → HoldsWalk t beyond starts lent measures sorted room s
    → (j : ℕ) → j < length t → In j s.done → (is_container (at t j).label || is_text_leaf (at t j).label) ≡ true
    → (128 ≤ get_or measures j 0) × (get_or measures j 0 < ahead)
root_words {t} {measures = measures} {s = s} h j l m c = go (is_container (at t j).label) refl c
  where
    worded : (v : Value) → get_or measures j 0 ≡ value_word v → (value_measure v).deep ≤ 64 → (128 ≤ get_or measures j 0) × (get_or measures j 0 < ahead)
    worded v e d = (omega (arith, word_big v), omega (arith, word_low v d))

    go : (b : Bool) → is_container (at t j).label ≡ b → (b || is_text_leaf (at t j).label) ≡ true → (128 ≤ get_or measures j 0) × (get_or measures j 0 < ahead)
    go true e d =
        let o = h.fits.resolves.done_stands j m in
        worded o.value (done-container t value_word 4096 measures s h.fits.resolves h.fits.noted j l e m) (h.small j o.value o.keeps)
    go false e d = worded (leaf_of t j) (done-leaf t value_word 4096 measures s h.fits.resolves h.fits.noted j l e d m) (leaf-deep t j)

-- and whose word is there, is finished
pub words-done : {t : List Node} {beyond : length t ≤ 4096} {starts lent measures sorted room : List ℕ} {s : WalkState}
    → HoldsWalk t beyond starts lent measures sorted room s
    → (j : ℕ) → j < length t → 128 ≤ get_or measures j 0 → (is_container (at t j).label ≡ false → get_or measures j 0 < ahead) → In j s.done
words-done {t} {measures = measures} {s = s} h j l w a = go (is_container (at t j).label) refl
  where
    go : (b : Bool) → is_container (at t j).label ≡ b → In j s.done
    go true e = container-done t value_word 4096 measures s h.fits.resolves h.fits.noted j l e (omega arith)
    go false e = leaf-done t value_word 4096 measures s h.fits.resolves h.fits.noted j l e (omega arith) (a e)

-- no measure reaches 2^42: what the passes behind put there is above all words
pub measures_low : {t : List Node} {beyond : length t ≤ 4096} {starts lent measures sorted room : List ℕ} {s : WalkState} → HoldsWalk t beyond starts lent measures sorted room s
    → (j : ℕ) → j < length t → get_or measures j 0 < 2 * ahead
measures_low {t} {measures = measures} {s = s} h j l = go (is_container (at t j).label) refl
  where
    box : WordSays t value_word s j (get_or measures j 0) → get_or measures j 0 < 2 * ahead
    box (is_fresh e y) = omega arith
    box (is_taken_lem e y) = omega arith
    box (is_gone v e g y) = omega arith
    box (is_kept v e g y) = omega (arith, word_low v (h.small j v e))

    leafy : LeafNoted t value_word s.done j (get_or measures j 0) → get_or measures j 0 < 2 * ahead
    leafy (unseen e f) = omega arith
    leafy (early e f) = omega (arith, word_low (leaf_of t j) (leaf-deep t j))
    leafy (reached e f) = omega (arith, word_low (leaf_of t j) (leaf-deep t j))

    go : (b : Bool) → is_container (at t j).label ≡ b → get_or measures j 0 < 2 * ahead
    go true e = box (reads t value_word measures s j h.fits.noted l e)
    go false e = leafy (h.fits.noted.leaf j l e)

-- the word of node j is there, and of a leaf not read ahead
abbrev pub has_word : List Node → List ℕ → ℕ → Bool
has_word t measures j = leb 128 (get_or measures j 0) && (is_container (at t j).label || ltb (get_or measures j 0) ahead)

-- the texts of nodes whose words are there are together no longer than the tree's; and so for any others that are finished
pub root_texts : (t : List Node) (beyond : length t ≤ 4096) (root : ℕ) → depth (one (tree t root)) ≤ 64
    → (due : ℕ → Bool) → ((j : ℕ) → j < length t → due j ≡ true → In j (walked t 4096 64 root).after.done)
    → up_to (text_if t due) (length t) ≤ length (text (one (tree t root)))
root_texts t beyond root h due d =
    let e = walked-tree t beyond root h in
    rw (← e) (texts-held t 4096 beyond 64 root due d)

pub worded-texts : {t : List Node} {beyond : length t ≤ 4096} {starts lent measures sorted room : List ℕ} (root : ℕ) → depth (one (tree t root)) ≤ 64
    → HoldsWalk t beyond starts lent measures sorted room (walked t 4096 64 root).after
    → up_to (text_if t (has_word t measures)) (length t) ≤ length (text (one (tree t root)))
worded-texts {t} {beyond = beyond} {measures = measures} root d h = root_texts t beyond root d (has_word t measures) go
  where
    low : (b : Bool) (w : ℕ) → (b || ltb w ahead) ≡ true → b ≡ false → w < ahead
    low true w e f = absurd (let z : ◌≡◌ {A = ℕ} 0 1 = cc in omega arith)
    low false w e f = ltb-true w ahead e

    go : (j : ℕ) → j < length t → has_word t measures j ≡ true → In j (walked t 4096 64 root).after.done
    go j l e =
        let a = both {a = leb 128 (get_or measures j 0)} e in
        words-done h j l (leb-true 128 (get_or measures j 0) a.0) (low (is_container (at t j).label) (get_or measures j 0) a.1)

-- ---- the answers

module _ {p ws starts sorted measures room : List ℕ} {root : ℕ} (b : ReadyToResolve p ws starts sorted measures room root) where
  facts_there : Facts p ws starts b.nodes
  facts_there = facts p ws b.nodes starts sorted b.stands b.graph b.beyond

  -- the same, with the bound that is given
  abbrev facts_at : Facts p ws starts b.nodes
  facts_at =
      let f = facts_there in
      record {
        beyond = b.beyond;
        words_long = f.words_long;
        starts_long = f.starts_long;
        readable = f.readable;
        lens_are = f.lens_are;
        objects = f.objects;
        containers = f.containers;
        due_are = f.due_are;
        textless = f.textless;
        classes = f.classes;
        leafless = f.leafless;
        inside = f.inside;
      }

  pub root_reads : LengthReadable p ws root
  root_reads = facts_there.readable root b.below

  small-start : Shallow (walk_start b.nodes)
  small-start j v e = absurd (let z : ◌≡◌ {A = ℕ} 0 1 = cc in omega arith)

  holds_start : HoldsWalk b.nodes b.beyond starts room measures sorted room (walk_start b.nodes)
  unfolding dues
  holds_start =
      record {
        fits = fits_start b.nodes 4096 b.beyond value_word starts measures sorted b.graph b.many b.blank;
        small = small-start;
        within = λ j m. elim m [ ];
        listed = lists_none room (omega (arith, b.roomy)) b.no_dues;
      }

  -- the root is never None
  root_own : (walked b.nodes 4096 64 root).slot ≡ root
  root_own = root_slot b.nodes 4096 b.beyond 63 root

  rooted : (w : ℕ) (measures' sorted' room' : List ℕ) → w ≡ value_word (walked b.nodes 4096 64 root).value
      → (value_measure (walked b.nodes 4096 64 root).value).deep ≤ 64
      → HoldsWalk b.nodes b.beyond starts room measures' sorted' room' (walked b.nodes 4096 64 root).after
      → RootEnds b.nodes b.beyond starts room measures' sorted' room' root (Ok (Some w))
  rooted w measures' sorted' room' e d h =
      let x = value-deep (walked b.nodes 4096 64 root).value in
      let y : depth (one (walked b.nodes 4096 64 root).value) ≤ 64 = omega arith in
      let v = (walk-build b.nodes 4096 64 root (walk_start b.nodes)).value in
      let u : (build b.nodes 64 root unbuilt).0 ≡ tree b.nodes root = built-whole b.nodes root (rw v at y) in
      let i : (walked b.nodes 4096 64 root).value ≡ tree b.nodes root = v ∙ u in
      let s : depth (one (tree b.nodes root)) ≤ 64 = rw i at y in
      r_word w (record { shallow = s; is = e ∙ (ap value_word i ∙ value-word (tree b.nodes root)) }) (tree_stands b.nodes 4096 b.beyond 63 root s) h

  rooted_deep : (measures' sorted' room' : List ℕ) → 64 < (value_measure (walked b.nodes 4096 64 root).value).deep
      → RootEnds b.nodes b.beyond starts room measures' sorted' room' root (Err TooDeep)
  rooted_deep measures' sorted' room' h = r_deep (go (dec_lt 64 (depth (one (tree b.nodes root)))))
    where
      go : Dec (64 < depth (one (tree b.nodes root))) → 64 < depth (one (tree b.nodes root))
      go (yes x) = x
      go (no x) =
          let i = walked-tree b.nodes b.beyond root (omega arith) in
          let y = value-deep (walked b.nodes 4096 64 root).value in
          let z : depth (one (walked b.nodes 4096 64 root).value) ≡ depth (one (tree b.nodes root)) = ap (λ (v : Value). depth (one v)) i in
          absurd (omega arith)

  module _ (measures' : List ℕ) where
    learns : (r : Seen) → Learns p ws measures measures' root r → Knows b.nodes measures measures' (walk_start b.nodes) root r
    unfolding Learns
    learns r a = a starts b.nodes (walk_start b.nodes) facts_at holds_start.fits.resolves holds_start.fits.noted small-start b.below

    same_holds : (m : List ℕ) → m ≡ measures → HoldsWalk b.nodes b.beyond starts room m sorted room (walk_start b.nodes)
    same_holds m e = rw e holds_start

    -- a container: it is walked
    opened : Knows b.nodes measures measures' (walk_start b.nodes) root seen.Open → Opens p ws starts measures' sorted room root
    opened (k_open c f e) =
        record { nodes = b.nodes; facts = facts_at; state = walk_start b.nodes; lent = room; roomy = b.roomy; holds = same_holds measures' e; below = b.below; container = c; stage_is = f; kids_are = holds_start.fits.resolves.fresh_is _ f }

    pub root_open : Learns p ws measures measures' root seen.Open → Opens p ws starts measures' sorted room root
    root_open a = opened (learns seen.Open a)

    -- a leaf
    pub root_word : (w : ℕ) → Learns p ws measures measures' root (seen.Word w)
        → RootEnds b.nodes b.beyond starts room measures' sorted room root (Ok (Some w))
    root_word w a = go (learns (seen.Word w) a)
      where
        go : Knows b.nodes measures measures' (walk_start b.nodes) root (seen.Word w)
            → RootEnds b.nodes b.beyond starts room measures' sorted room root (Ok (Some w))
        go (k_word w q) =
            let x = q 63 in
            let e = x.kids in
            let d = x.dues_stay in
            let y : ListsLie starts (length b.nodes) sorted (walked b.nodes 4096 64 root).after.kids = rw e holds_start.fits.lies in
            rooted w measures' sorted room x.is x.deep
            (record {
              fits = record { resolves = (walk_resolves b.nodes 4096 b.beyond 64 root (walk_start b.nodes) holds_start.fits.resolves).resolves; noted = x.noted_still; lies = y };
              small = x.small;
              within = walk-within b.nodes facts_at.inside 4096 64 root (walk_start b.nodes) b.below holds_start.within;
              listed = rw d holds_start.listed;
            })

    pub root_empty : Learns p ws measures measures' root seen.Empty → ⊥
    root_empty a = go (learns seen.Empty a)
      where
        go : Knows b.nodes measures measures' (walk_start b.nodes) root seen.Empty → ⊥
        go (k_empty q) = let x = (q 63).slot_is in omega (arith, root_own, b.below, b.beyond)

    pub root_walk : (a : Learns p ws measures measures' root seen.Open) (measures'' sorted'' room'' : List ℕ) (r : Result (Option ℕ) Refusal)
        → Walks p ws starts 64 root measures' sorted room measures'' sorted'' room'' r
        → RootEnds b.nodes b.beyond starts room measures'' sorted'' room'' root r
    unfolding Walks opened
    root_walk a measures'' sorted'' room'' r q = pick (learns seen.Open a)
      where
        go : (r : Result (Option ℕ) Refusal) → WalkEnds b.nodes b.beyond starts room 64 root (walked b.nodes 4096 64 root) measures'' sorted'' room'' r
            → RootEnds b.nodes b.beyond starts room measures'' sorted'' room'' root r
        go _ (ends_deep d) = rooted_deep measures'' sorted'' room'' d
        go _ (ends_empty e v h) = absurd (omega (arith, root_own, e, b.below, b.beyond))
        go _ (ends_word w e q d h) = rooted w measures'' sorted'' room'' q d h

        pick : Knows b.nodes measures measures' (walk_start b.nodes) root seen.Open
            → RootEnds b.nodes b.beyond starts room measures'' sorted'' room'' root r
        pick (k_open c f e) = go r (q (opened (k_open c f e)))
