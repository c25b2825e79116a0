-- A walk from a root whose tree is neither too deep nor too large leaves what the settling asks for: it is over, and the rooms have room.
use Rattle.std.specs.Prelude.{ℕ, ◌+◌, ◌<◌, ◌≤◌, Bool, ◌||◌, ◌≡◌, refl, length}
use Rattle.std.proofs.Math.Bool.{true, false, cond}
use mathlib.Core.List.{List, [], ◌∷◌}
use Rattle.std.proofs.Common.{◌∙◌, ap}
use native.Mathlib.Omega.{arith}
use Rattle.value.specs.Value.{Label, Forest, Value, one, nil, node, count, size, depth, NoneL, BoolL, I64L, F64L, BytesL, StringL, ListL, TupleL, SetL, FrozenSetL, DictL, GlobalL, ObjectL}
use Rattle.steps.specs.State.{Node}
use Rattle.steps.specs.Opcodes.{is_list, is_tuple, is_dict}
use Rattle.reading.specs.Build.{Stages, at, tree}
use Rattle.reading.specs.Settle.{items}
use Rattle.reading.specs.Unfold.{In, here, there}
use Rattle.resolve.specs.Resolved.{stand_label, stand_in}
use Rattle.resolve.specs.Walk.{WalkState, walk_start, walk-build}
use Rattle.resolve.specs.Resolves.{Resolves, childless}
use Rattle.resolve.specs.Resolving.{walk_resolves}
use Rattle.resolve.specs.Tree.{walked, start_resolves, levels_enough}
use Rattle.resolve.specs.Inside.{walk-within}
use Rattle.resolve.specs.Arrange.{items_n}
use Rattle.resolve.specs.Dues.{is_due, dues}
use Rattle.resolve.specs.Moved.{stand_count}
use Rattle.resolve.specs.Noted.{is_container}
use Rattle.resolve.specs.Whole.{walk_bounded}
use Rattle.resolve.specs.Capacity.{weighs, weight_of, spent, walk-spent, own_items, items-count, items-spent}
use Rattle.emit.specs.Walked.{Walked}
use Rattle.emit.specs.Standing.{set_items}
use Rattle.emit.specs.SettlingTurn.{Roomy}

-- ---- contents and items, each counted once

abbrev contents_count : Label → Forest → ℕ
contents_count l c = count c

abbrev content_items : Label → Forest → ℕ
content_items l c = count (items c)

contents-size : (f : Forest) → weighs contents_count f + count f ≡ size f
unfolding weighs count size
contents-size nil = refl
contents-size (node l c r) = let a = contents-size c in let b = contents-size r in omega arith

few_items : (l : Label) (c r : Forest) → count (items (node l c r)) ≤ count c
unfolding items count
few_items l c r = go (is_list l || is_tuple l)
  where
    go : (b : Bool) → count (cond b c nil) ≤ count c
    go true = omega arith
    go false = omega arith

items_fewer : (f : Forest) → weighs content_items f + count (items f) ≤ weighs contents_count f
unfolding weighs items count
items_fewer nil = omega arith
items_fewer (node l c r) =
    let a = items_fewer c in
    let b = items_fewer r in
    let d = few_items l c r in
    omega arith

-- a finished node weighs no more than all together
one_spent : (weight : Label → Forest → ℕ) (d : Stages) (l : List ℕ) (i : ℕ) → In i l → weight_of weight (d i) ≤ spent weight d l
unfolding spent
one_spent weight d [] i x' = elim x' [ ]
one_spent weight d (j ∷ l) i here = omega arith
one_spent weight d (j ∷ l) i (there m) = let a = one_spent weight d l i m in omega arith

-- ---- the Sets' items

module _ (t : List Node) (s : WalkState) (r : Resolves t 4096 s) where
  its_items : (i : ℕ) → In i s.done → cond (is_due (at t i).label) (cond (is_dict (at t i).label) 0 (length (items_n t s.kids (s.kids i)))) 0 ≤ weight_of own_items (s.stages i)
  its_items i m =
      let o = r.done_stands i m in
      let e : o.value.label ≡ (at t i).label = stand_label o.stands in
      let c : count (items o.value.contents) ≡ length (items_n t s.kids (s.kids i)) = items-count (stand_in o.stands) in
      rw o.keeps (rw (← e, ← c) (go o.value.label o.value.contents))
    where
      go : (l : Label) (f : Forest) → cond (is_due l) (cond (is_dict l) 0 (count (items f))) 0 ≤ own_items l f
      go NoneL f = omega arith
      go (BoolL b) f = omega arith
      go (I64L n) f = omega arith
      go (F64L n) f = omega arith
      go (BytesL x) f = omega arith
      go (StringL x) f = omega arith
      go ListL f = omega arith
      go TupleL f = omega arith
      go SetL f = omega arith
      go FrozenSetL f = omega arith
      go DictL f = omega arith
      go (GlobalL m n) f = omega arith
      go (ObjectL m n b) f = omega arith

  all-items : (l : List ℕ) → ((i : ℕ) → In i l → In i s.done) → set_items t s.kids (dues t l) ≤ spent own_items s.stages l
  unfolding dues set_items spent
  all-items [] h = omega arith
  all-items (i ∷ l) h = go (is_due (at t i).label) (its_items i (h i here)) (all-items l (λ j m. h j (there m)))
    where
      go : (b : Bool) → cond b (cond (is_dict (at t i).label) 0 (length (items_n t s.kids (s.kids i)))) 0 ≤ weight_of own_items (s.stages i) → set_items t s.kids (dues t l) ≤ spent own_items s.stages l
          → set_items t s.kids (cond b (i ∷ dues t l) (dues t l)) ≤ weight_of own_items (s.stages i) + spent own_items s.stages l
      go true a b = omega arith
      go false a b = omega arith

-- ---- the walk from a root

module _ (t : List Node) (inside : (i j : ℕ) → In j (at t i).kids → j < length t) (beyond : length t ≤ 4096) (root : ℕ) (is_node : root < length t) where
  abbrev after : WalkState
  after = (walked t 4096 64 root).after

  resolves : Resolves t 4096 after
  resolves = (walk_resolves t 4096 beyond 64 root (walk_start t) (start_resolves t 4096 beyond)).resolves

  -- it is over, where the tree is not too deep; leaves have no children
  pub walk-over : depth (one (tree t root)) ≤ 64 → ((i : ℕ) → is_container (at t i).label ≡ false → (at t i).kids ≡ []) → Walked t after
  walk-over l k =
      let e : (walked t 4096 64 root).value ≡ tree t root = (walk-build t 4096 64 root (walk_start t)).value ∙ levels_enough t 4096 beyond 64 root l in
      record {
        beyond = beyond;
        resolves = resolves;
        within = walk-within t inside 4096 64 root (walk_start t) is_node (λ j m. elim m [ ]);
        deep = walk_bounded t 4096 64 64 root (walk_start t) (λ j m. elim m [ ]) (rw e l);
        leaves = λ i m c. childless t 4096 beyond resolves i (k i c);
      }

  -- and what it made fits
  pub walk_fits : (log list : List ℕ) → size (one (walked t 4096 64 root).value) ≤ length list → size (one (walked t 4096 64 root).value) ≤ 8192 → 8192 ≤ length log → Roomy t after log list
  unfolding spent
  walk_fits log list h k l =
      record {
        listed = λ i m. (let a = its_contents i m in omega arith, let a = its_content_items i m in omega arith);
        log_long = l;
        few = let a = all-items t after resolves after.done (λ i m. m) in let b = items-spent t 4096 beyond 64 root in omega arith;
      }
    where
      v : Value
      v = (walked t 4096 64 root).value

      its_contents : (i : ℕ) → In i after.done → length (after.kids i) ≤ size (one v)
      its_contents i m =
          let o = resolves.done_stands i m in
          let a = one_spent contents_count after.stages after.done i m in
          let b = walk-spent contents_count t 4096 beyond 64 root (walk_start t) (start_resolves t 4096 beyond) in
          let c = contents-size (one v) in
          let d : count o.value.contents ≡ length (after.kids i) = stand_count (stand_in o.stands) in
          let e : weight_of contents_count (after.stages i) ≡ count o.value.contents = ap (weight_of contents_count) o.keeps in
          omega arith

      its_content_items : (i : ℕ) → In i after.done → length (items_n t after.kids (after.kids i)) ≤ size (one v)
      its_content_items i m =
          let o = resolves.done_stands i m in
          let a = one_spent content_items after.stages after.done i m in
          let b = walk-spent content_items t 4096 beyond 64 root (walk_start t) (start_resolves t 4096 beyond) in
          let c = contents-size (one v) in
          let g = items_fewer (one v) in
          let d : count (items o.value.contents) ≡ length (items_n t after.kids (after.kids i)) = items-count (stand_in o.stands) in
          let e : weight_of content_items (after.stages i) ≡ count (items o.value.contents) = ap (weight_of content_items) o.keeps in
          omega arith
