-- All passes together: in the walk's graph with its dues put in order the root stands for the pickle's value, if its tree is within the
-- levels. For that no finished node may be deeper than the levels either (`walk_bounded`).
use Prim.Native.Nat.{ℕ, suc, zero, ◌<◌, ◌≤◌, Ordering}
use Rattle.std.specs.Prelude.{Bool, length}
use Rattle.std.proofs.Math.Bool.{true, false}
use mathlib.Core.List.{List, [], ◌∷◌, ◌++◌}
use Rattle.std.proofs.Math.Path.{◌≡◌, refl}
use Rattle.std.proofs.Common.{sym, ◌∙◌, arith}
use Rattle.value.specs.Value.{Forest, Value, one, depth}
use Rattle.steps.specs.State.{Node}
use Rattle.reading.specs.Build.{Stage, fresh, taken, kept, none, at, blocked, tree}
use Rattle.reading.specs.Settle.{settle}
use Rattle.reading.specs.Unfold.{In, Staged, same, other, staged}
use Rattle.resolve.specs.Resolved.{Kids, Stand}
use Rattle.resolve.specs.Ordered.{in_rest}
use Rattle.resolve.specs.Walk.{WalkState, WalkMade, overwrite, stage_r, each_r, finish_r, walk, walk_start, walk-build}
use Rattle.resolve.specs.Resolves.{WalkCalled, resolves_empty}
use Rattle.resolve.specs.Resolving.{walk_resolves}
use Rattle.resolve.specs.Tree.{walked, start_resolves, levels_enough}
use Rattle.resolve.specs.Inside.{DoneWithin, walk-within, tree-settled}
use Rattle.resolve.specs.Dues.{dues, settle_n, Orders, dues-settle, order_sorts}
use Rattle.resolve.specs.Compare.{compare_n, compare_nodes}

-- what finished nodes keep is at most m deep
abbrev pub Bounded : ℕ → WalkState → Type 0
Bounded m s = (j : ℕ) → In j s.done → (v : Value) → s.stages j ≡ kept v → depth (one v) ≤ m

module _ (t : List Node) (nowhere m : ℕ) where
  each_bounded : (g : ℕ → WalkState → WalkMade) → ((i : ℕ) (s : WalkState) → Bounded m s → depth (one (g i s).value) ≤ m → Bounded m (g i s).after)
      → (n : ℕ) (is js : List ℕ) (s : WalkState) → Bounded m s → depth (each_r g n is js s).0 ≤ m → Bounded m (each_r g n is js s).1
  unfolding each_r depth
  each_bounded g h n is [] s b l = b
  each_bounded g h n is (i ∷ js) s b l =
      let p = g i s in
      each_bounded g h n (is ++ (p.slot ∷ [])) js (overwrite n (is ++ (p.slot ∷ js)) p.after) (h i s b (omega arith)) (omega arith)

  stage_bounded : (s : WalkState) (i : ℕ) (x : Stage) → ((v : Value) → x ≡ kept v → depth (one v) ≤ m) → Bounded m s → Bounded m (stage_r i x s)
  stage_bounded s i x k b j h v e = go (staged i x s.stages j)
    where
      go : Staged i x s.stages j → depth (one v) ≤ m
      go (same p q) = k v (sym q ∙ e)
      go (other p q) = b j h v (sym q ∙ e)

  finish_bounded : (i : ℕ) (p : Forest × WalkState) → (depth p.0 ≤ m → Bounded m p.1) → depth (one (finish_r t i p).value) ≤ m
      → Bounded m (finish_r t i p).after
  unfolding finish_r depth
  finish_bounded i p b l j h v e = go (staged i (kept u) p.1.stages j)
    where
      u : Value
      u = record { label = (at t i).label; contents = p.0 }

      go : Staged i (kept u) p.1.stages j → depth (one v) ≤ m
      go (same x q) = let z : kept u ≡ kept v = sym q ∙ e in let w : u ≡ v = cc in rw (← w) l
      go (other x q) = b (omega arith) j (in_rest x h) v (sym q ∙ e)

  pub walk_bounded : (k i : ℕ) (s : WalkState) → Bounded m s → depth (one (walk t nowhere k i s).value) ≤ m → Bounded m (walk t nowhere k i s).after
  unfolding walk
  walk_bounded zero i s b l = b
  walk_bounded (suc k) i s b l = go (s.stages i) refl (blocked t s.stages i) refl (walk_bounded k) l
    where
      go : (x : Stage) → s.stages i ≡ x → (f : Bool) → blocked t s.stages i ≡ f
          → ((j : ℕ) (c : WalkState) → Bounded m c → depth (one (walk t nowhere k j c).value) ≤ m → Bounded m (walk t nowhere k j c).after)
          → depth (one (walk t nowhere (suc k) i s).value) ≤ m → Bounded m (walk t nowhere (suc k) i s).after
      go (kept v) e f q ih = rw (e, walk) (λ z. b)
      go taken e f q ih = rw (e, walk) (λ z. b)
      go fresh e true q ih = rw (e, q, walk) (λ z. stage_bounded s i (kept none) (λ v w. let y : none ≡ v = cc in rw (← y) z) b)
      go fresh e false q ih = rw (e, q, walk) (finish_bounded i _ (each_bounded (walk t nowhere k) ih i [] (at t i).kids (stage_r i taken s) (stage_bounded s i taken (λ v w. absurd (let y : ◌≡◌ {A = ℕ} 0 1 = cc in omega arith)) b)))

-- ---- the pickle's value

module _ (t : List Node) (inside : (i j : ℕ) → In j (at t i).kids → j < length t) (nowhere : ℕ) (beyond : length t ≤ nowhere) (root : ℕ) (is_node : root < length t) where
  -- what the walk with k + 1 levels leaves, and its graph with the dues put in order
  abbrev pub after_walk : ℕ → WalkState
  after_walk k = (walked t nowhere (suc k) root).after

  abbrev pub settled_graph : ℕ → (Kids → ℕ → ℕ → Ordering) → Kids
  settled_graph k cmp = settle_n t cmp (after_walk k).kids (dues t (after_walk k).done)

  pub value_stands : (k : ℕ) (cmp : Kids → ℕ → ℕ → Ordering) → Orders t k cmp → depth (one (tree t root)) ≤ suc k
      → Stand t (settled_graph k cmp) (root ∷ []) (settle (one (tree t root)))
  value_stands k cmp ord l =
      let c : WalkCalled t nowhere (walk_start t) (walked t nowhere (suc k) root) = walk_resolves t nowhere beyond (suc k) root (walk_start t) (start_resolves t nowhere beyond) in
      let w : DoneWithin t (after_walk k) = walk-within t inside nowhere (suc k) root (walk_start t) is_node (λ j m. elim m [ ]) in
      let n : ¬ In nowhere (after_walk k).done = λ m. let z = w nowhere m in omega arith in
      let e : (walked t nowhere (suc k) root).value ≡ tree t root = (walk-build t nowhere (suc k) root (walk_start t)).value ∙ levels_enough t nowhere beyond (suc k) root l in
      let b : Bounded (suc k) (after_walk k) = walk_bounded t nowhere (suc k) (suc k) root (walk_start t) (λ j m. elim m [ ]) (rw e l) in
      let r = c.resolves in
      let o = order_sorts t nowhere beyond k cmp ord (after_walk k).kids (resolves_empty t nowhere beyond r) (after_walk k).done n (λ i m. let x = r.done_stands i m in (x.value, x.stands, b i m x.value x.keeps)) in
      tree-settled t inside nowhere beyond k root is_node l (settled_graph k cmp)
      (dues-settle t nowhere beyond cmp (after_walk k).kids (resolves_empty t nowhere beyond r) o r.ordered n (λ i m. let x = r.done_stands i m in (x.value, x.stands)))

  -- with 64 levels, and nodes compared as the code does
  pub value_stands_64 : depth (one (tree t root)) ≤ 64 → Stand t (settled_graph 63 (λ h. compare_n t h 63)) (root ∷ []) (settle (one (tree t root)))
  value_stands_64 l = value_stands 63 (λ h. compare_n t h 63) (λ h P s. compare_nodes t h P 63 s) l
