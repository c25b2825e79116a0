-- Only nodes of the table are ever finished, since all children are nodes of it; `nowhere` is not.
use Prim.Native.Nat.{ℕ, suc, zero, ◌<◌, ◌≤◌}
use Rattle.std.specs.Prelude.{Bool, ◌≡◌}
use Rattle.std.proofs.Math.Bool.{true, false}
use mathlib.Core.List.{List, [], ◌∷◌, ◌++◌}
use Rattle.std.proofs.Math.Path.{refl}
use Rattle.std.proofs.Math.ListN.{length}
use Rattle.std.proofs.Common.{arith}
use Rattle.value.specs.Value.{Forest, one, depth}
use Rattle.steps.specs.State.{Node}
use Rattle.reading.specs.Build.{Stage, fresh, taken, kept, at, blocked, tree}
use Rattle.reading.specs.Settle.{settle}
use Rattle.reading.specs.Unfold.{In, here, there}
use Rattle.resolve.specs.Resolved.{Kids, Stand}
use Rattle.resolve.specs.Walk.{WalkState, WalkMade, overwrite, stage_r, each_r, finish_r, walk, walk_start}
use Rattle.resolve.specs.Ordered.{Final}
use Rattle.resolve.specs.Resolves.{WalkCalled, resolves_empty}
use Rattle.resolve.specs.Resolving.{walk_resolves}
use Rattle.resolve.specs.Tree.{walked, start_resolves, tree_stands, root_final}
use Rattle.resolve.specs.Settled.{Settling, settled_stands}

-- the finished nodes of s are nodes of t
abbrev pub DoneWithin : List Node → WalkState → Type 0
DoneWithin t s = (j : ℕ) → In j s.done → j < length t

module _ (t : List Node) (inside : (i j : ℕ) → In j (at t i).kids → j < length t) (nowhere : ℕ) where
  each_within : (g : ℕ → WalkState → WalkMade) → ((i : ℕ) (s : WalkState) → i < length t → DoneWithin t s → DoneWithin t (g i s).after)
      → (n : ℕ) (is js : List ℕ) (s : WalkState) → ((j : ℕ) → In j js → j < length t) → DoneWithin t s → DoneWithin t (each_r g n is js s).1
  unfolding each_r
  each_within g h n is [] s l w = w
  each_within g h n is (i ∷ js) s l w =
      let p = g i s in
      each_within g h n (is ++ (p.slot ∷ [])) js (overwrite n (is ++ (p.slot ∷ js)) p.after) (λ j m. l j (there m)) (h i s (l i here) w)

  finish-within : (i : ℕ) (p : Forest × WalkState) → i < length t → DoneWithin t p.1 → DoneWithin t (finish_r t i p).after
  unfolding finish_r
  finish-within i p l w j here = l
  finish-within i p l w j (there m) = w j m

  pub walk-within : (k i : ℕ) (s : WalkState) → i < length t → DoneWithin t s → DoneWithin t (walk t nowhere k i s).after
  unfolding walk
  walk-within zero i s l w = w
  walk-within (suc k) i s l w = go (s.stages i) refl (blocked t s.stages i) refl (walk-within k)
    where
      go : (m : Stage) → s.stages i ≡ m → (b : Bool) → blocked t s.stages i ≡ b
          → ((j : ℕ) (c : WalkState) → j < length t → DoneWithin t c → DoneWithin t (walk t nowhere k j c).after) → DoneWithin t (walk t nowhere (suc k) i s).after
      go (kept v) e b f ih = rw (e, walk) w
      go taken e b f ih = rw (e, walk) w
      go fresh e true f ih = rw (e, f, walk) w
      go fresh e false f ih = rw (e, f, walk) (finish-within i _ l (each_within (walk t nowhere k) ih i [] (at t i).kids (stage_r i taken s) (inside i) w))

  -- the walk's graph, settled: the root stands for the tree settled
  pub tree-settled : length t ≤ nowhere → (k root : ℕ) → root < length t → depth (one (tree t root)) ≤ suc k → (h : Kids)
      → let s : WalkState = (walked t nowhere (suc k) root).after in Settling t nowhere s.kids s.done h
      → Stand t h (root ∷ []) (settle (one (tree t root)))
  tree-settled beyond k root l d h x =
      let c : WalkCalled t nowhere (walk_start t) (walked t nowhere (suc k) root) = walk_resolves t nowhere beyond (suc k) root (walk_start t) (start_resolves t nowhere beyond) in
      let s : WalkState = (walked t nowhere (suc k) root).after in
      let w : DoneWithin t s = walk-within (suc k) root (walk_start t) l (λ j m. elim m [ ]) in
      settled_stands t nowhere beyond s.kids (resolves_empty t nowhere beyond c.resolves) c.resolves.ordered (λ m. let z = w nowhere m in omega arith) x (root ∷ []) (one (tree t root)) only (tree_stands t nowhere beyond k root d)
    where
      only : (j : ℕ) → In j (root ∷ []) → Final nowhere (walked t nowhere (suc k) root).after.done j
      only j (there x5) = elim x5 [ ]
      only j here = root_final t nowhere beyond k root
