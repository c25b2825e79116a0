-- What the settling asks for, from the walk's rooms with their texts decoded: the walk is over, its graph lies in the rooms, each finished
-- node's text is spelled, and the rooms have room.
use Rattle.std.specs.Prelude.{ℕ, ◌^◌, ◌<◌, ◌≤◌, Bool, true, false, cond, ◌&&◌, ◌||◌, List, [], ◌≡◌, refl, ◌⊎◌, length, get_or, ltb, leb}
use Rattle.std.proofs.Common.{◌∙◌, ap, inl, inr, le-leb, lt-ltb, arith}
use Rattle.std.proofs.Math.ListN.{get_or-eq_default}
use Rattle.std.proofs.Math.Decide.{dec_lt}
use Rattle.value.specs.Value.{Label, Value, one, size, NoneL, BoolL, I64L, F64L, BytesL, StringL, ListL, TupleL, SetL, FrozenSetL, DictL, GlobalL, ObjectL}
use Rattle.steps.specs.State.{Node}
use Rattle.reading.specs.Build.{at, tree}
use Rattle.reading.specs.Unfold.{In, outside-nodes}
use Rattle.resolve.specs.Ordered.{Final}
use Rattle.resolve.specs.Walk.{WalkState, walk_start, walk-build}
use Rattle.resolve.specs.Resolves.{resolves_empty}
use Rattle.resolve.specs.Tree.{walked, levels_enough}
use Rattle.resolve.specs.Noted.{is_container, is_text_leaf, ahead}
use Rattle.resolve.specs.Ranges.{graph_inside}
use Rattle.resolve.specs.Shown.{Shown, Spelled, label_has_text}
use Rattle.resolve.specs.Rooted.{root_words, measures_low}
use Rattle.resolve.specs.TextsDue.{text_due, Decodes}
use Rattle.emit.specs.Walked.{Walked}
use Rattle.emit.specs.Settling.{ReadyToSettle}
use Rattle.emit.specs.Enough.{walk-over, walk_fits}
use Rattle.de.specs.Measured.{Worded, Limited, MeasuredAs}
use Rattle.de.specs.Texts.{measures_many}

-- nodes and a root within the limits, the walk from it ready to be settled, and nothing written yet
pub record Spelt (p d ws starts sorted noted measures log list : List ℕ) (t : List Node) (root : ℕ) : Type 0 where
  pub limited : Limited p ws starts t root
  pub lent : List ℕ
  pub ready : ReadyToSettle t (walked t 4096 64 root).after lent noted p d ws starts sorted log measures list
  pub low : (j : ℕ) → get_or measures j 0 < 2 ^ 63

-- ---- labels with text

text-kinds : (l : Label) → label_has_text l ≡ true → (is_container l || is_text_leaf l) ≡ true
text-kinds NoneL h = h
text-kinds (BoolL b) h = h
text-kinds (I64L n) h = h
text-kinds (F64L n) h = h
text-kinds (BytesL s) h = refl
text-kinds (StringL s) h = refl
text-kinds ListL h = refl
text-kinds TupleL h = refl
text-kinds SetL h = refl
text-kinds FrozenSetL h = refl
text-kinds DictL h = refl
text-kinds (GlobalL m n) h = refl
text-kinds (ObjectL m n b) h = refl

-- a word below `ahead` of a label with text: it is wanted
word_wanted : (l : Label) (w : ℕ) → label_has_text l ≡ true → 128 ≤ w → w < ahead → (label_has_text l && (leb 128 w && ltb w (cond (is_container l) (2 ^ 42) (2 ^ 41)))) ≡ true
word_wanted l w h a b = rw (h, le-leb 128 w a) (low (is_container l))
  where
    low : (c : Bool) → ltb w (cond c (2 ^ 42) (2 ^ 41)) ≡ true
    low true = lt-ltb w (2 ^ 42) (omega arith)
    low false = lt-ltb w (2 ^ 41) (omega arith)

-- ---- the walk within the limits

module _ {p ws starts : List ℕ} {t : List Node} {root : ℕ} (x : Limited p ws starts t root) where
  pub inside : (i j : ℕ) → In j (at t i).kids → j < length t
  inside = graph_inside t starts x.before x.graph

  leaves : (i : ℕ) → is_container (at t i).label ≡ false → (at t i).kids ≡ []
  leaves i c = go (dec_lt i (length t))
    where
      go : Dec (i < length t) → (at t i).kids ≡ []
      go (yes l) = x.worded.leafless i l c
      go (no l) = outside-nodes t i l

  over : Walked t (walked t 4096 64 root).after
  over = walk-over t inside x.worded.beyond root x.below x.deep leaves

  is_tree : (walked t 4096 64 root).value ≡ tree t root
  is_tree = (walk-build t 4096 64 root (walk_start t)).value ∙ levels_enough t 4096 x.worded.beyond 64 root x.deep

  few_records : size (one (walked t 4096 64 root).value) ≤ 2048
  few_records = let e : size (one (walked t 4096 64 root).value) ≡ size (one (tree t root)) = ap (λ (v : Value). size (one v)) is_tree in omega (arith, x.records)

-- ---- decoded

module _ {p ws starts sorted noted measures₀ : List ℕ} {t : List Node} {root : ℕ} (m : MeasuredAs p ws starts sorted noted measures₀ t root) {d₀ d measures : List ℕ} {used : ℕ} (D : Decodes p ws d₀ measures₀ (length measures₀) d measures used) where
  abbrev after : WalkState
  after = (walked t 4096 64 root).after

  -- a finished node's text was wanted
  done_due : (i : ℕ) → i < length t → In i after.done → label_has_text (at t i).label ≡ true → text_due p ws i (get_or measures₀ i 0) ≡ true
  unfolding text_due
  done_due i l n h =
      let e = m.limited.worded.labels_are i l in
      let w = root_words m.holds i l n (text-kinds (at t i).label h) in
      rw (← e) (word_wanted (at t i).label (get_or measures₀ i 0) h w.0 w.1)

  spelled : (i : ℕ) → In i after.done → i < length t → label_has_text (at t i).label ≡ true → Spelled p d ws measures i (at t i).label
  spelled i n l h =
      let e = m.limited.worded.labels_are i l in
      let k : i < length measures₀ = omega (arith, measures_many m) in
      rw e (D.texts i k (done_due i l n h)).spelled

  low₀ : (j : ℕ) → get_or measures₀ j 0 < 2 ^ 63
  low₀ j = go (dec_lt j (length t))
    where
      go : Dec (j < length t) → get_or measures₀ j 0 < 2 ^ 63
      go (yes l) = omega (arith, measures_low m.holds j l)
      go (no l) = let k : length measures₀ ≤ j = omega (arith, measures_many m) in let e : get_or measures₀ j 0 ≡ 0 = get_or-eq_default measures₀ 0 k in omega arith

  low : (j : ℕ) → get_or measures j 0 < 2 ^ 63
  low j = go (D.changed j)
    where
      go : (get_or measures j 0 ≡ get_or measures₀ j 0) ⊎ ((2 ^ 62 ≤ get_or measures j 0) × (get_or measures j 0 < 2 ^ 63)) → get_or measures j 0 < 2 ^ 63
      go (inl e) = omega (arith, low₀ j)
      go (inr b) = b.1

  -- of the nodes themselves; none is final but the number of none
  bare : (log : List ℕ) → Shown t after.kids (Final 4096 []) p d ws starts sorted log measures
  bare log =
      record {
        beyond = w.beyond;
        short = w.short;
        words_long = w.words_long;
        starts_long = m.limited.graph.room;
        measures_long = omega (arith, measures_many m, D.same-measures);
        rising = λ i l. (m.limited.graph.bounds i l).0;
        labels_are = w.labels_are;
        classes = w.classes;
        nodes = nodes;
        closed = closed;
        none = empty;
        leaves = λ i n l. absurd (no_node i n l);
        inside = λ i n l. absurd (no_node i n l);
        lists = λ i n l. absurd (no_node i n l);
        spelled = λ i n l. absurd (no_node i n l);
      }
    where
      w : Worded p ws t
      w = m.limited.worded

      empty : after.kids 4096 ≡ []
      empty = resolves_empty t 4096 m.limited.worded.beyond m.holds.fits.resolves

      nodes : (i : ℕ) → Final 4096 [] i → (i ≡ 4096) ⊎ (i < length t)
      nodes i (inr x') = elim x' [ ]
      nodes i (inl e) = inl e

      closed : (i : ℕ) → Final 4096 [] i → (j : ℕ) → In j (after.kids i) → Final 4096 [] j
      closed i (inr x'') j n = elim x'' [ ]
      closed i (inl e) j n = let a : In j (after.kids 4096) = rw e at n in let b : In j [] = rw empty at a in elim b [ ]

      no_node : (i : ℕ) → Final 4096 [] i → i < length t → ⊥
      no_node i (inr x'') l = elim x'' [ ]
      no_node i (inl e) l = omega (arith, m.limited.worded.beyond)

  pub spelt : (log list : List ℕ) → 8192 ≤ length log → length list ≡ 2048 → Spelt p d ws starts sorted noted measures log list t root
  spelt log list a b =
      record {
        limited = m.limited;
        lent = m.lent;
        ready =
            record {
              walked = over m.limited;
              noted = m.holds.listed;
              bare = bare log;
              lies = m.holds.fits.lies;
              spelled = spelled;
              roomy = let k = few_records m.limited in walk_fits t (inside m.limited) m.limited.worded.beyond root m.limited.below log list (omega arith) (omega arith) (omega arith);
            };
        low = low;
      }
