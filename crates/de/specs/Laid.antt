-- From the measuring walk to the outputs: where nothing is due the rooms hold what the passes behind it ask for, and their outputs are what
-- building comes to.
use Rattle.std.specs.Prelude.{Option, Result, Ok, Err, ℕ, ◌/◌, ◌%◌, ◌^◌, ◌*◌, ◌<◌, ◌≤◌, Bool, true, false, cond, not, ◌≡◌, length, get_or}
use mathlib.Core.List.{List, [], ◌∷◌}
use Rattle.std.proofs.Math.Path.{refl, ap}
use Rattle.std.proofs.Common.{sym, ◌∙◌, arith}
use borrow.Author.Tests.{eqb-true}
use Rattle.refusal.specs.declared.Refusal.{Refusal}
use Rattle.refusal.specs.declared.Refusal.TheVariants.{TrailingData}
use Rattle.value.specs.Value.{Label, NoneL, BoolL, I64L, F64L, BytesL, StringL, ListL, TupleL, SetL, FrozenSetL, DictL, GlobalL, ObjectL, Forest, one, kind, size, depth, text}
use Rattle.value.specs.Shape.{kind_in, state_in}
use Rattle.steps.specs.State.{Res, ok, no, ◌>>=◌, need}
use Rattle.steps.specs.Opcodes.{is_object}
use Rattle.store.specs.Rooms.{kids_of}
use Rattle.steps.specs.NodeWords.{first, second, parts_of, node_is, class_in, node_kind}
use Rattle.reading.specs.Build.{at, tree}
use Rattle.reading.specs.Measure.{measured, measured-within}
use Rattle.resolve.specs.Facts.{Facts}
use Rattle.resolve.specs.Standing.{node_is_lem, label_is, facts}
use Rattle.resolve.specs.Rooted.{ReadyToResolve, RootEnds, r_word, Roots}
use Rattle.de.specs.Measured.{Worded, MeasuredAs, Measured, Produces}
use Rattle.de.specs.Building.{due_of, Comes, BuildsLaid}
use Rattle.de.specs.Limits.{said, Tells, due_deep}

-- ---- the nodes as their words say them

-- an Object's arguments and any state
object_few : (p ws ks : List ℕ) (a b : ℕ) → kind_in a ≡ 12 → length (node_is p ws ks a b).kids ≤ 2
unfolding parts_of
object_few p ws ks a b e = rw (node_kind p ws ks a b 12 e) (go (state_in a))
  where
    go : (s : Bool) → length (b % 2 ^ 32 ∷ cond s (b / 2 ^ 32 ∷ []) []) ≤ 2
    go true = omega arith
    go false = omega arith

is_object_lem : (l : Label) → kind l ≡ 12 → is_object l ≡ true
is_object_lem NoneL e = absurd (omega arith)
is_object_lem (BoolL b) e = absurd (omega arith)
is_object_lem (I64L n) e = absurd (omega arith)
is_object_lem (F64L n) e = absurd (omega arith)
is_object_lem (BytesL s) e = absurd (omega arith)
is_object_lem (StringL s) e = absurd (omega arith)
is_object_lem ListL e = absurd (omega arith)
is_object_lem TupleL e = absurd (omega arith)
is_object_lem SetL e = absurd (omega arith)
is_object_lem FrozenSetL e = absurd (omega arith)
is_object_lem DictL e = absurd (omega arith)
is_object_lem (GlobalL m n) e = absurd (omega arith)
is_object_lem (ObjectL m n b) e = refl

module _ {p ws starts sorted measures dues : List ℕ} {root : ℕ} (k : ReadyToResolve p ws starts sorted measures dues root) where
  facts_are : Facts p ws starts k.nodes
  facts_are = facts p ws k.nodes starts sorted k.stands k.graph k.beyond

  classes_are : (i : ℕ) → i < length k.nodes → kind_in (first ws i) ≡ 12 → (class_in (first ws i) < length k.nodes) × (kind_in (first ws (class_in (first ws i))) ≡ 11)
  unfolding kind_in first class_in
  classes_are i l e = facts_are.classes i l e

  objects_few : (i : ℕ) → i < length k.nodes → kind (at k.nodes i).label ≡ 12 → length (at k.nodes i).kids ≤ 2
  unfolding kind_in first
  objects_few i l e =
      let o : kind_in (first ws i) ≡ 12 = eqb-true (get_or ws (2 * i) 0 % 16) 12 (sym (facts_are.objects i l) ∙ is_object_lem (at k.nodes i).label e) in
      let o' : kind_in (first k.stands.rooms.nodes i) ≡ 12 = ap (λ (x : List ℕ). kind_in (first x i)) k.stands.words ∙ o in
      rw (node_is_lem p ws k.nodes k.stands i l)
      (object_few k.stands.rooms.pickle k.stands.rooms.nodes (kids_of k.stands.rooms k.stands.counts i) (first k.stands.rooms.nodes i) (second k.stands.rooms.nodes i) o')

  abbrev worded : Worded p ws k.nodes
  worded =
      record {
        beyond = k.beyond;
        short = omega (arith, k.stands.sound.firm.lengths.pickle, ap length k.stands.pickle);
        words_long = facts_are.words_long;
        labels_are = label_is p ws k.nodes k.stands;
        classes = classes_are;
        leafless = facts_are.leafless;
        few = objects_few;
      }

-- ---- what is due

due_within : (left : Bool) (f : Forest) → due_of left f ≡ ok tt → measured f ≡ ok tt
unfolding due_of ◌>>=◌
due_within left f e = go (measured f) refl e
  where
    go : (r : Res (Unit {0})) → measured f ≡ r → (r >>= λ x. need (not left) TrailingData) ≡ ok tt → measured f ≡ ok tt
    go (ok u) q e = q
    go (no why) q e = absurd (let z : ◌≡◌ {A = ℕ} 0 1 = cc in omega arith)

-- a tree that is too deep
pub laid_deep : (p ws starts sorted measures dues sorted' measures' dues' : List ℕ) (root : ℕ) (why : Refusal) → Roots p ws starts sorted measures dues sorted' measures' dues' root (Err why)
    → (left : Bool) (o q : List ℕ) → BuildsLaid p ws starts sorted measures dues root left (Err why) o q o q
unfolding BuildsLaid Comes Roots
laid_deep p ws starts sorted measures dues sorted' measures' dues' root why R left o q k = (due_deep left (R k), refl, refl)

module _ (p ws starts sorted measures dues sorted' measures' dues' : List ℕ) (root : ℕ) (a : Option ℕ) (R : Roots p ws starts sorted measures dues sorted' measures' dues' root (Ok a)) (left : Bool) (d : Result (Unit {0}) Refusal) (T : Tells a left d) where
  due_is : (k : ReadyToResolve p ws starts sorted measures dues root) → due_of left (one (tree k.nodes root)) ≡ said d
  unfolding Roots Tells
  due_is k = T k.nodes k.beyond starts dues measures' sorted' dues' root (R k)

  -- a refusal
  pub laid_refused : (why : Refusal) → d ≡ Err why → (o q : List ℕ) → BuildsLaid p ws starts sorted measures dues root left (Err why) o q o q
  unfolding BuildsLaid Comes said
  laid_refused why e o q k = (due_is k ∙ ap said e, refl, refl)

  -- nothing
  module _ (e : d ≡ Ok tt) where
    free : (k : ReadyToResolve p ws starts sorted measures dues root) → due_of left (one (tree k.nodes root)) ≡ ok tt
    unfolding said
    free k = due_is k ∙ ap said e

    measured_as : (k : ReadyToResolve p ws starts sorted measures dues root) → MeasuredAs p ws starts sorted' dues' measures' k.nodes root
    unfolding Roots
    measured_as k = go a (R k)
      where
        within : (depth (one (tree k.nodes root)) ≤ 64) × (size (one (tree k.nodes root)) ≤ 2048) × (length (text (one (tree k.nodes root))) ≤ 65536)
        within = measured-within (one (tree k.nodes root)) (due_within left (one (tree k.nodes root)) (free k))

        go : (a : Option ℕ) → RootEnds k.nodes k.beyond starts dues measures' sorted' dues' root (Ok a) → MeasuredAs p ws starts sorted' dues' measures' k.nodes root
        go _ (r_word w m x h) = record {
          limited = record { worded = worded k; before = sorted; graph = k.graph; below = k.below; deep = within.0; records = within.1; texts = within.2 };
          lent = dues;
          holds = h;
        }

    pub laid_measured : ReadyToResolve p ws starts sorted measures dues root → Measured p ws starts sorted' dues' measures' root
    laid_measured k = record { nodes = k.nodes; are = measured_as k }

    pub laid_made : (o q o' q' : List ℕ) (n : ℕ) → Produces p ws starts sorted' dues' measures' root o q o' q' n → BuildsLaid p ws starts sorted measures dues root left (Ok n) o q o' q'
    unfolding BuildsLaid Comes
    laid_made o q o' q' n P k = let x = P k.nodes (measured_as k) in (free k, x.counted, x.table_is, x.text_is)
