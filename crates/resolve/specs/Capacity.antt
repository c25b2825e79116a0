-- Rooms of the later passes are large enough. Give each value a weight by its label and contents: each finished node is somewhere in the
-- value that the walk makes, and at one place of its own, so the finished nodes weigh no more than the value. Hence bounds for the texts, for
-- the Sets' items and for the number of finished nodes.
use Prim.Native.Nat.{ℕ, suc, zero, ◌+◌, ◌≤◌, Ordering}
use Rattle.std.specs.Prelude.{Bool, cond, ◌||◌, ◌≡◌, ◌≢◌}
use Rattle.std.proofs.Math.Bool.{true, false}
use mathlib.Core.List.{List, [], ◌∷◌, ◌++◌, append_assoc}
use Rattle.std.proofs.Math.Path.{refl}
use Rattle.std.proofs.Common.{◌∙◌, ap, length-append}
use Rattle.std.proofs.Math.ListN.{length}
use native.Mathlib.Omega.{arith}
use Rattle.value.specs.Value.{Label, Forest, Value, one, nil, node, text_of, text, count, size, NoneL, BoolL, I64L, F64L, BytesL, StringL, ListL, TupleL, SetL, FrozenSetL, DictL, GlobalL, ObjectL}
use Rattle.steps.specs.State.{Node}
use Rattle.steps.specs.Opcodes.{is_list, is_tuple}
use Rattle.reading.specs.Build.{Stage, Stages, fresh, taken, kept, stage, none, at, blocked}
use Rattle.reading.specs.Settle.{items}
use Rattle.reading.specs.Unfold.{In, here, there, Staged, same, other, staged}
use Rattle.resolve.specs.Resolved.{Kids, Stand, s_nil, s_node}
use Rattle.resolve.specs.Arrange.{by_n, insert_n, as_set_n, items_n}
use Rattle.resolve.specs.Moved.{stand_count}
use Rattle.resolve.specs.Walk.{WalkState, WalkMade, with_list, overwrite, stage_r, each_r, finish_r, walk, walk_start}
use Rattle.resolve.specs.Tree.{walked, start_resolves}
use Rattle.resolve.specs.Resolves.{Resolves, WalkCalled, open_not_done, overwrite_resolves, stage_own, with_list-same, old_taken}
use Rattle.resolve.specs.Resolving.{Resolved, take_resolves, each_resolves, walk_resolves}

module _ (weight : Label → Forest → ℕ) where
  -- of all values in a forest
  unfoldable pub weighs : Forest → ℕ
  weighs nil = 0
  weighs (node l c r) = weight l c + (weighs c + weighs r)

  abbrev pub weight_of : Stage → ℕ
  weight_of fresh = 0
  weight_of taken = 0
  weight_of (kept v) = weight v.label v.contents

  -- of the nodes of a list, by what they keep
  unfoldable pub spent : Stages → List ℕ → ℕ
  spent d [] = 0
  spent d (i ∷ l) = weight_of (d i) + spent d l

  abbrev pub used : WalkState → ℕ
  used s = spent s.stages s.done

  spent-stage : (d : Stages) (i : ℕ) (m : Stage) (l : List ℕ) → ((j : ℕ) → In j l → j ≢ i) → spent (stage i m d) l ≡ spent d l
  unfolding spent
  spent-stage d i m [] n = refl
  spent-stage d i m (j ∷ l) n = go (staged i m d j) (spent-stage d i m l (λ k x. n k (there x)))
    where
      go : Staged i m d j → spent (stage i m d) l ≡ spent d l → spent (stage i m d) (j ∷ l) ≡ spent d (j ∷ l)
      go (same p q) ih = absurd (n j here p)
      go (other p q) ih = rw (q, ih)

  module _ (t : List Node) (nowhere : ℕ) (beyond : length t ≤ nowhere) where
    each_spent : (g : ℕ → WalkState → WalkMade) → ((i : ℕ) (s : WalkState) → Resolves t nowhere s → WalkCalled t nowhere s (g i s))
        → ((i : ℕ) (s : WalkState) → Resolves t nowhere s → used (g i s).after ≤ used s + weighs (one (g i s).value))
        → (n : ℕ) (is js : List ℕ) (s : WalkState) → Resolves t nowhere s → s.stages n ≡ taken → s.kids n ≡ is ++ js
        → used (each_r g n is js s).1 ≤ used s + weighs (each_r g n is js s).0
    unfolding each_r weighs
    each_spent g h u n is [] s r e k = omega arith
    each_spent g h u n is (i ∷ js) s r e k =
        let p = g i s in
        let a : WalkCalled t nowhere s p = h i s r in
        let e₁ : p.after.stages n ≡ taken = a.later.stages_stay n (old_taken _ e) ∙ e in
        let l = is ++ (p.slot ∷ js) in
        let b : p.after.kids n ≡ is ++ (i ∷ js) = a.later.kids_stay n tt (old_taken _ e) ∙ k in
        let m : length l ≡ length (p.after.kids n) = rw b (simp length-append) in
        let r₂ : Resolves t nowhere (overwrite n l p.after) = overwrite_resolves t nowhere beyond p.after n l a.resolves e₁ m in
        let v : used p.after ≤ used s + weighs (one p.value) = u i s r in
        let k₂ : with_list n l p.after.kids n ≡ (is ++ (p.slot ∷ [])) ++ js = with_list-same n l p.after.kids ∙ simp append_assoc in
        let w = each_spent g h u n (is ++ (p.slot ∷ [])) js (overwrite n l p.after) r₂ e₁ k₂ in
        omega arith

    fresh_not_done : {s : WalkState} → Resolves t nowhere s → (i : ℕ) → s.stages i ≡ fresh → (j : ℕ) → In j s.done → j ≢ i
    fresh_not_done {s} r i e j m p = let o = r.done_stands j m in let a = o.keeps in let b : s.stages j ≡ fresh = ap s.stages p ∙ e in let z : ◌≡◌ {A = ℕ} 0 1 = cc in omega arith

    finish-spent : (i : ℕ) (p : Forest × WalkState) → Resolves t nowhere p.1 → p.1.stages i ≡ taken
        → used (finish_r t i p).after ≡ used p.1 + weight (at t i).label p.0
    unfolding finish_r spent
    finish-spent i p r e =
        let v : Value = record { label = (at t i).label; contents = p.0 } in
        let a = spent-stage p.1.stages i (kept v) p.1.done (open_not_done t nowhere beyond r i e) in
        let b : stage i (kept v) p.1.stages i ≡ kept v = stage_own i (kept v) p.1.stages in
        rw (b, a) (omega arith)

    enter-spent : (i : ℕ) (s : WalkState) (p : Forest × WalkState) → Resolves t nowhere s → s.stages i ≡ fresh
        → Resolved t nowhere beyond i [] (stage_r i taken s) p → used p.1 ≤ used (stage_r i taken s) + weighs p.0
        → used (finish_r t i p).after ≤ used s + weighs (one (finish_r t i p).value)
    unfolding finish_r weighs
    enter-spent i s p r e a u =
        let o : stage i taken s.stages i ≡ taken = stage_own i taken s.stages in
        let e₁ : p.1.stages i ≡ taken = a.later.stages_stay i (old_taken _ o) ∙ o in
        let b = spent-stage s.stages i taken s.done (fresh_not_done r i e) in
        let c = finish-spent i p a.resolves e₁ in
        omega arith

    pub walk-spent : (k i : ℕ) (s : WalkState) → Resolves t nowhere s
        → used (walk t nowhere k i s).after ≤ used s + weighs (one (walk t nowhere k i s).value)
    unfolding walk
    walk-spent zero i s r = omega arith
    walk-spent (suc k) i s r = go (s.stages i) refl (blocked t s.stages i) refl (walk-spent k)
      where
        go : (m : Stage) → s.stages i ≡ m → (b : Bool) → blocked t s.stages i ≡ b
            → ((j : ℕ) (c : WalkState) → Resolves t nowhere c → used (walk t nowhere k j c).after ≤ used c + weighs (one (walk t nowhere k j c).value))
            → used (walk t nowhere (suc k) i s).after ≤ used s + weighs (one (walk t nowhere (suc k) i s).value)
        go (kept v) e b f ih = rw (e, walk) (omega arith)
        go taken e b f ih = rw (e, walk) (omega arith)
        go fresh e true f ih = let a = spent-stage s.stages i (kept none) s.done (fresh_not_done r i e) in rw (e, f, walk) (omega arith)
        go fresh e false f ih =
            let r₀ = take_resolves t nowhere beyond s i r e in
            let o = stage_own i taken s.stages in
            rw (e, f, walk)
            (enter-spent i s _ r e (each_resolves t nowhere beyond (walk t nowhere k) (walk_resolves t nowhere beyond k) i [] (at t i).kids (stage_r i taken s) r₀ o (r.fresh_is i e))
            (each_spent (walk t nowhere k) (walk_resolves t nowhere beyond k) ih i [] (at t i).kids (stage_r i taken s) r₀ o (r.fresh_is i e)))

-- ---- the texts

abbrev pub own_text : Label → Forest → ℕ
own_text l c = length (text_of l)

pub text-weighs : (f : Forest) → weighs own_text f ≡ length (text f)
unfolding weighs text
text-weighs nil = refl
text-weighs (node l c r) = let a = text-weighs c in let b = text-weighs r in simp length-append (omega arith)

-- ---- the items of Sets

abbrev pub own_items : Label → Forest → ℕ
own_items NoneL c = 0
own_items (BoolL b) c = 0
own_items (I64L n) c = 0
own_items (F64L n) c = 0
own_items (BytesL t) c = 0
own_items (StringL t) c = 0
own_items ListL c = 0
own_items TupleL c = 0
own_items SetL c = count (items c)
own_items FrozenSetL c = count (items c)
own_items DictL c = 0
own_items (GlobalL m n) c = 0
own_items (ObjectL m n b) c = 0

-- a List or Tuple has none
listed : (l : Label) (c : Forest) → (is_list l || is_tuple l) ≡ true → own_items l c ≡ 0
listed NoneL c e = refl
listed (BoolL b) c e = refl
listed (I64L n) c e = refl
listed (F64L n) c e = refl
listed (BytesL t) c e = refl
listed (StringL t) c e = refl
listed ListL c e = refl
listed TupleL c e = refl
listed SetL c e = absurd (let z : ◌≡◌ {A = ℕ} 0 1 = cc in omega arith)
listed FrozenSetL c e = absurd (let z : ◌≡◌ {A = ℕ} 0 1 = cc in omega arith)
listed DictL c e = refl
listed (GlobalL m n) c e = refl
listed (ObjectL m n b) c e = refl

own_most : (l : Label) (c : Forest) → own_items l c ≤ count (items c)
own_most NoneL c = omega arith
own_most (BoolL b) c = omega arith
own_most (I64L n) c = omega arith
own_most (F64L n) c = omega arith
own_most (BytesL t) c = omega arith
own_most (StringL t) c = omega arith
own_most ListL c = omega arith
own_most TupleL c = omega arith
own_most SetL c = omega arith
own_most FrozenSetL c = omega arith
own_most DictL c = omega arith
own_most (GlobalL m n) c = omega arith
own_most (ObjectL m n b) c = omega arith

record WeightFits (f : Forest) : Type 0 where
  side : weighs own_items f + count f ≤ size f
  inner : weighs own_items f + count (items f) ≤ size f

room : (f : Forest) → WeightFits f
unfolding weighs count size items
room nil = record { side = omega arith; inner = omega arith }
room (node l c r) = go (is_list l || is_tuple l) refl (room c) (room r)
  where
    go : (b : Bool) → (is_list l || is_tuple l) ≡ b → WeightFits c → WeightFits r → WeightFits (node l c r)
    go true e a b = let z = listed l c e in let m = own_most l c in record { side = omega arith; inner = rw e (omega arith) }
    go false e a b = let m = own_most l c in record { side = omega arith; inner = rw e (omega arith) }

pub items_room : (f : Forest) → weighs own_items f + count f ≤ size f
items_room f = (room f).side

-- as many as its argument's list has, and put in order no more
pub items-count : {t : List Node} {g : Kids} {l : List ℕ} {f : Forest} → Stand t g l f → count (items f) ≡ length (items_n t g l)
unfolding items items_n count
items-count s_nil = refl
items-count {t = t} {g = g} (s_node {i = x} {c = c} a b) = go (is_list (at t x).label || is_tuple (at t x).label)
  where
    go : (k : Bool) → count (cond k c nil) ≡ length (cond k (g x) [])
    go true = stand_count a
    go false = refl

pub insert-length : (cmp : ℕ → ℕ → Ordering) (x : ℕ) (l : List ℕ) → length (insert_n cmp x l) ≤ suc (length l)
unfolding insert_n by_n
insert-length cmp x [] = omega arith
insert-length cmp x (y ∷ r) = go (cmp x y) (insert-length cmp x r)
  where
    go : (o : Ordering) → length (insert_n cmp x r) ≤ suc (length r) → length (by_n o (x ∷ y ∷ r) (y ∷ r) (y ∷ insert_n cmp x r)) ≤ suc (length (y ∷ r))
    go Ordering.lt h = omega arith
    go Ordering.eq h = omega arith
    go Ordering.gt h = omega arith

pub set-length : (cmp : ℕ → ℕ → Ordering) (l : List ℕ) → length (as_set_n cmp l) ≤ length l
unfolding as_set_n
set-length cmp [] = omega arith
set-length cmp (x ∷ r) = omega (arith, insert-length cmp x (as_set_n cmp r), set-length cmp r)

-- ---- the nodes

abbrev own_one : Label → Forest → ℕ
own_one l c = 1

one_weighs : (f : Forest) → weighs own_one f ≡ size f
unfolding weighs size
one_weighs nil = refl
one_weighs (node l c r) = let a = one_weighs c in let b = one_weighs r in omega arith

one_spent : (d : Stages) (l : List ℕ) → ((i : ℕ) → In i l → (v : Value) × (d i ≡ kept v)) → spent own_one d l ≡ length l
unfolding spent
one_spent d [] h = refl
one_spent d (i ∷ l) h = let a = one_spent d l (λ j m. h j (there m)) in let e = (h i here).1 in rw e (omega arith)

-- ---- after the walk from a root

module _ (t : List Node) (nowhere : ℕ) (beyond : length t ≤ nowhere) (k root : ℕ) where
  -- the items of finished Sets, and one for the root
  pub items-spent : spent own_items (walked t nowhere k root).after.stages (walked t nowhere k root).after.done + 1 ≤ size (one (walked t nowhere k root).value)
  unfolding spent count
  items-spent =
      let a = walk-spent own_items t nowhere beyond k root (walk_start t) (start_resolves t nowhere beyond) in
      let b = items_room (one (walked t nowhere k root).value) in
      omega arith

  -- the texts of finished nodes
  pub text-spent : spent own_text (walked t nowhere k root).after.stages (walked t nowhere k root).after.done ≤ length (text (one (walked t nowhere k root).value))
  unfolding spent
  text-spent =
      let a = walk-spent own_text t nowhere beyond k root (walk_start t) (start_resolves t nowhere beyond) in
      let b = text-weighs (one (walked t nowhere k root).value) in
      omega arith

  -- the number of finished nodes
  pub nodes-spent : length (walked t nowhere k root).after.done ≤ size (one (walked t nowhere k root).value)
  unfolding spent
  nodes-spent =
      let r = (walk_resolves t nowhere beyond k root (walk_start t) (start_resolves t nowhere beyond)).resolves in
      let a = walk-spent own_one t nowhere beyond k root (walk_start t) (start_resolves t nowhere beyond) in
      let b = one_weighs (one (walked t nowhere k root).value) in
      let c = one_spent (walked t nowhere k root).after.stages (walked t nowhere k root).after.done (λ i m. let o = r.done_stands i m in (o.value, o.keeps)) in
      omega arith
