-- The walk from the root, in which every node is fresh: afterwards the root stands for `Builder`'s tree, if the levels suffice for it.
-- Two examples are computed.
use Rattle.std.specs.Prelude.{ℕ, suc, ◌+◌, ◌≤◌, Bool, ◌&&◌, ◌≡◌}
use Rattle.std.proofs.Math.Bool.{true, false}
use mathlib.Core.List.{List, [], ◌∷◌}
use Rattle.std.proofs.Math.Path.{refl, sym}
use Rattle.std.proofs.Common.{◌∙◌, ap, arith}
use Rattle.std.proofs.Math.ListN.{length}
use Rattle.value.specs.Value.{Value, one, depth, BytesL, ListL, TupleL, ObjectL}
use Rattle.steps.specs.State.{Node, kidless}
use Rattle.steps.specs.Opcodes.{is_object}
use Rattle.reading.specs.Build.{Stages, unbuilt, at, first_taken, blocked, build, tree}
use Rattle.reading.specs.Unfold.{fresh_left-all}
use Rattle.reading.specs.Fuel.{build_fuel}
use Rattle.reading.specs.Shallow.{deep, levels_back}
use Rattle.resolve.specs.Resolved.{StandsFor}
use Rattle.resolve.specs.Walk.{WalkState, WalkMade, walk_start, each_r, finish_r, walk, walk-build}
use Rattle.resolve.specs.Ordered.{Final, o_nil}
use Rattle.resolve.specs.Resolves.{Resolves, WalkCalled}
use Rattle.resolve.specs.Resolving.{walk_resolves}

-- from `root`, with k levels
abbrev pub walked : List Node → ℕ → ℕ → ℕ → WalkMade
walked t nowhere k root = walk t nowhere k root (walk_start t)

module _ (t : List Node) (nowhere : ℕ) (beyond : length t ≤ nowhere) where
  pub start_resolves : Resolves t nowhere (walk_start t)
  start_resolves =
      record {
        fresh_is = λ j e. refl;
        kept_done = λ j v e f. absurd (let z : ◌≡◌ {A = ℕ} 0 1 = cc in omega arith);
        kept_none = λ j v e f. absurd (let z : ◌≡◌ {A = ℕ} 0 1 = cc in omega arith);
        done_stands = λ j m. elim m [ ];
        ordered = o_nil;
        lengths = λ j. refl;
      }

  -- no node is taken yet, so the root cannot be blocked
  root_open : (root : ℕ) → blocked t unbuilt root ≡ false
  unfolding blocked first_taken
  root_open root = go (is_object (at t root).label) (at t root).kids
    where
      go : (b : Bool) (l : List ℕ) → (b && first_taken unbuilt l) ≡ false
      go true [] = refl
      go true (x ∷ l) = refl
      go false [] = refl
      go false (x ∷ l) = refl

  pub root_slot : (k root : ℕ) → (walked t nowhere (suc k) root).slot ≡ root
  unfolding walk finish_r
  root_slot k root = let b = root_open root in rw (b, walk)

  -- with too few levels the root stands for what `build` makes with them
  pub build_stands : (k root : ℕ) → StandsFor t (walked t nowhere (suc k) root).after.kids root (build t (suc k) root unbuilt).0
  build_stands k root =
      let c : WalkCalled t nowhere (walk_start t) (walked t nowhere (suc k) root) = walk_resolves t nowhere beyond (suc k) root (walk_start t) start_resolves in
      let a = c.stands in
      let v : (walked t nowhere (suc k) root).value ≡ (build t (suc k) root unbuilt).0 = (walk-build t nowhere (suc k) root (walk_start t)).value in
      rw (root_slot k root, v) at a

  pub root_final : (k root : ℕ) → Final nowhere (walked t nowhere (suc k) root).after.done root
  root_final k root =
      let a = (walk_resolves t nowhere beyond (suc k) root (walk_start t) start_resolves).final in
      rw (root_slot k root) at a

  -- as many levels as the tree is deep suffice
  pub levels_enough : (k root : ℕ) → depth (one (tree t root)) ≤ k → (build t k root unbuilt).0 ≡ tree t root
  unfolding tree deep
  levels_enough k root l =
      let n = length t in
      let e : build t (suc n) root unbuilt ≡ build t (suc n + k) root unbuilt = build_fuel t (suc n) (suc n + k) root unbuilt (omega (arith, fresh_left-all n)) (omega (arith, fresh_left-all n)) in
      let b : build t (suc n + k) root unbuilt ≡ build t k root unbuilt = levels_back t k (suc n) root unbuilt (rw (← e) l) in
      sym (ap (λ (x : Value × Stages). x.0) (e ∙ b))

  pub tree_stands : (k root : ℕ) → depth (one (tree t root)) ≤ suc k → StandsFor t (walked t nowhere (suc k) root).after.kids root (tree t root)
  tree_stands k root l = let a = build_stands k root in rw (levels_enough (suc k) root l) at a

-- ---- computed

-- two Lists, each with the other in it, in a Tuple: ([[None]], [None])
abbrev in_one_another : List Node
in_one_another = record { label = ListL; kids = 1 ∷ [] } ∷ record { label = ListL; kids = 0 ∷ [] } ∷ record { label = TupleL; kids = 0 ∷ 1 ∷ [] } ∷ []

pair_after : WalkState
pair_after = (walk in_one_another 4096 64 2 (walk_start in_one_another)).after

pair_resolved : (pair_after.kids 0 ≡ 1 ∷ []) × (pair_after.kids 1 ≡ 4096 ∷ []) × (pair_after.kids 2 ≡ 0 ∷ 1 ∷ []) × (pair_after.done ≡ 2 ∷ 0 ∷ 1 ∷ [])
unfolding pair_after walk each_r finish_r blocked first_taken
pair_resolved = (refl, refl, refl, refl)

-- a Tuple (l,) where l is a List of an Object whose arguments are that Tuple, paired with the Object: (([None],), None)
abbrev in_its_arguments : List Node
in_its_arguments =
    record { label = ListL; kids = 2 ∷ [] }
    ∷ record { label = TupleL; kids = 0 ∷ [] }
    ∷ record { label = ObjectL [] [] true; kids = 1 ∷ 3 ∷ [] }
    ∷ kidless (BytesL (97 ∷ []))
    ∷ record { label = TupleL; kids = 1 ∷ 2 ∷ [] }
    ∷ []

object-after : WalkState
object-after = (walk in_its_arguments 4096 64 4 (walk_start in_its_arguments)).after

object_resolved : (object-after.kids 0 ≡ 4096 ∷ []) × (object-after.kids 1 ≡ 0 ∷ []) × (object-after.kids 4 ≡ 1 ∷ 4096 ∷ []) × (object-after.done ≡ 4 ∷ 1 ∷ 0 ∷ [])
unfolding object-after walk each_r finish_r blocked first_taken
object_resolved = (refl, refl, refl, refl)
