-- The node table at STOP says what the walk's code wants to know.
use Rattle.std.specs.Prelude.{ℕ, suc, zero, ◌*◌, ◌<◌, ◌≤◌, true, false, List, [], ◌≡◌, refl, length, get_or}
use Rattle.std.proofs.Common.{sym, ◌∙◌, ap, arith}
use Rattle.std.proofs.Math.ListN.{get_or-map, get_or-eq_default}
use Rattle.value.specs.Value.{Label, NoneL, text_of}
use Rattle.value.specs.Shape.{kind_in}
use Rattle.steps.specs.State.{Node, kidless}
use Rattle.store.specs.declared.Counts.{Counts}
use Rattle.store.specs.Rooms.{Rooms, node_of, kids_of, state_of, Class, Classed}
use Rattle.steps.specs.NodeWords.{first, second, choices, node_is, class_in, object-kind}
use Rattle.store.specs.RoomReads.{node_at, nodes-length}
use Rattle.store.specs.Effects.{Firm, Sound}
use Rattle.reading.specs.Build.{at}
use Rattle.reading.specs.Graph.{Graph}
use Rattle.resolve.specs.Shown.{node_labels, node_label}
use Rattle.resolve.specs.Noted.{is_container, is_text_leaf}
use Rattle.resolve.specs.Dues.{is_due}
use Rattle.resolve.specs.Ranges.{graph_inside}
use Rattle.resolve.specs.Length.{text_bytes}
use Rattle.resolve.specs.Kinds.{by_kind, container_node, sorted_due}
use Rattle.resolve.specs.Facts.{Facts}

-- the nodes t are those that the pickle p and the words ws say
pub record SaysNodes (p ws : List ℕ) (t : List Node) : Type 0 where
  pub rooms : Rooms
  pub counts : Counts
  pub sound : Sound rooms counts
  pub pickle : rooms.pickle ≡ p
  pub words : rooms.nodes ≡ ws
  pub nodes : t ≡ (state_of rooms counts).nodes

-- kinds below 4 have no text
textless : (p ws : List ℕ) (a b k : ℕ) → k < 4 → is_text_leaf (get_or (node_labels p ws a b) k NoneL) ≡ false
textless p ws a b zero h = refl
textless p ws a b (suc zero) h = refl
textless p ws a b (suc (suc zero)) h = refl
textless p ws a b (suc (suc (suc zero))) h = refl
textless p ws a b (suc (suc (suc (suc k)))) h = absurd (omega arith)

contained : {A : Type 0} → true ≡ false → A
contained e = absurd (let z : ◌≡◌ {A = ℕ} 0 1 = cc in omega arith)

-- what is no container has no children
leafless : (p ws ks : List ℕ) (a b k : ℕ) → is_container (get_or (choices p ws ks a b) k (kidless NoneL)).label ≡ false → (get_or (choices p ws ks a b) k (kidless NoneL)).kids ≡ []
leafless p ws ks a b =
    by_kind (λ k. is_container (get_or (choices p ws ks a b) k (kidless NoneL)).label ≡ false → (get_or (choices p ws ks a b) k (kidless NoneL)).kids ≡ [])
    (λ e. refl) (λ e. refl) (λ e. refl) (λ e. refl) (λ e. refl) (λ e. refl) contained contained contained contained contained (λ e. refl) contained (λ e. refl) (λ e. refl)
    (λ k l e. rw (get_or-eq_default (choices p ws ks a b) (kidless NoneL) l))

module _ (p ws : List ℕ) (t : List Node) (s : SaysNodes p ws t) where
  many-nodes : s.counts.nodes ≡ length t
  many-nodes = sym (nodes-length s.rooms s.counts) ∙ sym (ap length s.nodes)

  module _ (i : ℕ) (l : i < length t) where
    pub node_is_lem : at t i ≡ node_of s.rooms s.counts i
    node_is_lem = ap (λ (n : List Node). get_or n i (kidless NoneL)) s.nodes ∙ node_at s.rooms s.counts i (omega (arith, many-nodes))

    -- a node's label is the one that its words say
    pub label_is : (at t i).label ≡ node_label p ws i
    unfolding node_label node_is
    label_is =
        rw (node_is_lem, ← s.pickle, ← s.words)
        (sym (get_or-map (λ (n : Node). n.label) (choices s.rooms.pickle s.rooms.nodes (kids_of s.rooms s.counts i) (first s.rooms.nodes i) (second s.rooms.nodes i)) (kind_in (first s.rooms.nodes i)) (kidless NoneL)))

pub facts : (p ws : List ℕ) (t : List Node) (starts sorted : List ℕ) → SaysNodes p ws t → Graph t starts sorted → length t ≤ 4096 → Facts p ws starts t
unfolding node_is node_label kind_in first class_in Classed Class text_bytes
facts p ws t starts sorted s g b =
    record {
      beyond = b;
      words_long = long;
      starts_long = g.room;
      readable = λ i l. record { short = omega (arith, f.lengths.pickle, ap length s.pickle); words = omega (arith, long); class = λ e. omega (arith, long, (classed i l e).0) };
      lens_are = λ i l. ap (λ (x : Label). length (text_of x)) (sym (label_is p ws t s i l));
      objects = λ i l. rw (node_is_lem p ws t s i l, ← s.words) (object-kind s.rooms.pickle s.rooms.nodes (kids_of s.rooms s.counts i) (first s.rooms.nodes i) (second s.rooms.nodes i));
      containers = λ i l. ap is_container (label_is p ws t s i l) ∙ container_node p ws i;
      due_are = λ i l. ap is_due (label_is p ws t s i l) ∙ sorted_due p ws i;
      textless = λ i l h. ap is_text_leaf (label_is p ws t s i l) ∙ textless p ws (first ws i) (second ws i) _ h;
      classes = λ i l e. classed i l e;
      leafless = bare;
      inside = λ i j m. graph_inside t starts sorted g i j m;
    }
  where
    f : Firm s.rooms s.counts
    f = s.sound.firm

    long : 2 * length t ≤ length ws
    long = omega (arith, f.lengths.nodes, f.nodes, many-nodes p ws t s, ap length s.words)

    classed : Classed ws (length t)
    classed = rw (s.words, many-nodes p ws t s) at f.kept.classed

    bare : (i : ℕ) → i < length t → is_container (at t i).label ≡ false → (at t i).kids ≡ []
    bare i l = rw (node_is_lem p ws t s i l) (leafless s.rooms.pickle s.rooms.nodes (kids_of s.rooms s.counts i) (first s.rooms.nodes i) (second s.rooms.nodes i) (kind_in (first s.rooms.nodes i)))
