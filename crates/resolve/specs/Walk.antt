-- The walk whose graph is used afterwards. It makes what `build` makes, with the same stages, and on the way puts into each node's list, from
-- the left, what the child came to there: its own number, or `nowhere`, which is no node's, for a None. Nodes are listed as they are finished.
use Prim.Native.Nat.{ℕ, suc, zero}
use Rattle.std.specs.Prelude.{Bool, cond, ◌&&◌, ◌≡◌, eqb}
use Rattle.std.proofs.Math.Bool.{true, false}
use mathlib.Core.List.{List, [], ◌∷◌, ◌++◌}
use Rattle.std.proofs.Math.Path.{refl, ap, ap₂}
use Rattle.std.proofs.Common.{◌∙◌}
use Rattle.value.specs.Value.{Forest, Value, kind, nil}
use Rattle.steps.specs.State.{Node}
use Rattle.steps.specs.Opcodes.{is_object}
use Rattle.reading.specs.Build.{Stage, Stages, fresh, taken, kept, unbuilt, stage, none, before, at, blocked, finish, each, build}
use Rattle.resolve.specs.Resolved.{Kids}

pub record WalkState : Type 0 where
  pub stages : Stages
  pub kids : Kids
  pub done : List ℕ

-- g, but for node i, whose list is l
abbrev pub with_list : ℕ → List ℕ → Kids → Kids
with_list i l g = λ j. cond (eqb j i) l (g j)

-- node i is an Object that can never be made: the value that it keeps is no Object
abbrev pub gone : List Node → ℕ → Value → Bool
gone t i v = is_object (at t i).label && eqb (kind v.label) 0

-- what a call comes to: the number for its owner's list, the value, the state that it leaves
pub record WalkMade : Type 0 where
  pub slot : ℕ
  pub value : Value
  pub after : WalkState

-- a new list for node n
abbrev pub overwrite : ℕ → List ℕ → WalkState → WalkState
overwrite n l s = record { stages = s.stages; kids = with_list n l s.kids; done = s.done }

-- a new stage for node i
abbrev pub stage_r : ℕ → Stage → WalkState → WalkState
stage_r i m s = record { stages = stage i m s.stages; kids = s.kids; done = s.done }

-- the children of node n from the first to the last, where `is` have come before: a number is replaced when its call has returned
unfoldable pub each_r : (ℕ → WalkState → WalkMade) → ℕ → List ℕ → List ℕ → WalkState → Forest × WalkState
each_r g n is [] s = (nil, s)
each_r g n is (i ∷ js) s =
    let p = g i s in
    let q = each_r g n (is ++ (p.slot ∷ [])) js (overwrite n (is ++ (p.slot ∷ js)) p.after) in
    (before p.value q.0, q.1)

unfoldable pub finish_r : List Node → ℕ → Forest × WalkState → WalkMade
finish_r t i p =
    let v : Value = record { label = (at t i).label; contents = p.0 } in
    record { slot = i; value = v; after = record { stages = stage i (kept v) p.1.stages; kids = p.1.kids; done = i ∷ p.1.done } }

unfoldable pub walk : List Node → ℕ → ℕ → ℕ → WalkState → WalkMade
walk t nowhere zero i s = record { slot = nowhere; value = none; after = s }
walk t nowhere (suc k) i s =
    elim (s.stages i) [
      | kept v ↦ record { slot = cond (gone t i v) nowhere i; value = v; after = s }
      | taken ↦ record { slot = nowhere; value = none; after = s }
      | fresh ↦
          elim (blocked t s.stages i) [
            | true ↦ record { slot = nowhere; value = none; after = stage_r i (kept none) s }
            | false ↦ finish_r t i (each_r (walk t nowhere k) i [] (at t i).kids (stage_r i taken s))
          ]
    ]

-- every node is fresh, lists are the nodes' own
abbrev pub walk_start : List Node → WalkState
walk_start t = record { stages = unbuilt; kids = λ i. (at t i).kids; done = [] }

-- ---- a call, by the stage that it finds

pub data WalkCase (t : List Node) (nowhere k i : ℕ) (s : WalkState) : Type 0 where
  copied : (v : Value) → s.stages i ≡ kept v → walk t nowhere (suc k) i s ≡ record { slot = cond (gone t i v) nowhere i; value = v; after = s }
      → WalkCase t nowhere k i s
  inside : s.stages i ≡ taken → walk t nowhere (suc k) i s ≡ record { slot = nowhere; value = none; after = s } → WalkCase t nowhere k i s
  stuck : s.stages i ≡ fresh → blocked t s.stages i ≡ true
      → walk t nowhere (suc k) i s ≡ record { slot = nowhere; value = none; after = stage_r i (kept none) s } → WalkCase t nowhere k i s
  entered : s.stages i ≡ fresh → blocked t s.stages i ≡ false
      → walk t nowhere (suc k) i s ≡ finish_r t i (each_r (walk t nowhere k) i [] (at t i).kids (stage_r i taken s)) → WalkCase t nowhere k i s

pub walk_case : (t : List Node) (nowhere k i : ℕ) (s : WalkState) → WalkCase t nowhere k i s
unfolding walk
walk_case t nowhere k i s = go (s.stages i) refl (blocked t s.stages i) refl
  where
    go : (m : Stage) → s.stages i ≡ m → (b : Bool) → blocked t s.stages i ≡ b → WalkCase t nowhere k i s
    go (kept v) e b f = copied v e (rw (e, walk))
    go taken e b f = inside e (rw (e, walk))
    go fresh e true f = stuck e f (rw (e, f, walk))
    go fresh e false f = entered e f (rw (e, f, walk))

-- ---- value and stages are those of `build`

pub record AsBuilt (p : WalkMade) (q : Value × Stages) : Type 0 where
  pub value : p.value ≡ q.0
  pub staged : p.after.stages ≡ q.1

record AsEach (p : Forest × WalkState) (q : Forest × Stages) : Type 0 where
  forest : p.0 ≡ q.0
  staged : p.1.stages ≡ q.1

module _ (t : List Node) (nowhere : ℕ) where
  each_as : (g : ℕ → WalkState → WalkMade) (b : ℕ → Stages → Value × Stages) → ((i : ℕ) (s : WalkState) → AsBuilt (g i s) (b i s.stages))
      → (n : ℕ) (is js : List ℕ) (s : WalkState) → AsEach (each_r g n is js s) (each b js s.stages)
  unfolding each each_r
  each_as g b h n is [] s = record { forest = refl; staged = refl }
  each_as g b h n is (i ∷ js) s =
      let p = g i s in
      let a : AsBuilt p (b i s.stages) = h i s in
      let e = each_as g b h n (is ++ (p.slot ∷ [])) js (overwrite n (is ++ (p.slot ∷ js)) p.after) in
      let m : each b js p.after.stages ≡ each b js (b i s.stages).1 = ap (each b js) a.staged in
      let x = e.forest in
      let y = e.staged in
      record { forest = ap₂ before a.value (x ∙ ap (λ (z : Forest × Stages). z.0) m); staged = y ∙ ap (λ (z : Forest × Stages). z.1) m }

  finish_as : (i : ℕ) (p : Forest × WalkState) (q : Forest × Stages) → AsEach p q → AsBuilt (finish_r t i p) (finish t i q)
  unfolding finish finish_r
  finish_as i p q a = let e = a.forest in let m = a.staged in record { value = rw e; staged = rw (e, m) }

  pub walk-build : (k i : ℕ) (s : WalkState) → AsBuilt (walk t nowhere k i s) (build t k i s.stages)
  unfolding walk build
  walk-build zero i s = record { value = refl; staged = refl }
  walk-build (suc k) i s = go (s.stages i) refl (blocked t s.stages i) refl (walk-build k)
    where
      go : (m : Stage) → s.stages i ≡ m → (b : Bool) → blocked t s.stages i ≡ b
          → ((j : ℕ) (r : WalkState) → AsBuilt (walk t nowhere k j r) (build t k j r.stages))
          → AsBuilt (walk t nowhere (suc k) i s) (build t (suc k) i s.stages)
      go (kept v) e b f ih = rw (e, walk, build) (record { value = refl; staged = refl })
      go taken e b f ih = rw (e, walk, build) (record { value = refl; staged = refl })
      go fresh e true f ih = rw (e, f, walk, build) (record { value = refl; staged = refl })
      go fresh e false f ih = rw (e, f, walk, build) (finish_as i _ _ (each_as (walk t nowhere k) (build t k) ih i [] (at t i).kids (stage_r i taken s)))
