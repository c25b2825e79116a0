-- Every node has the contents that its label asks for: a dict's come in pairs, a set has its argument, an Object its arguments, which
-- are a tuple for good, and at most one state; a value has none.
use Rattle.std.specs.Prelude.{ℕ, ◌+◌, ◌%◌, ◌<◌, ◌≤◌, ◌⊎◌, List, [], ◌∷◌, ◌++◌, ◌≡◌, length, get_or, T}
use Rattle.std.proofs.Common.{inl, inr, ⊎_elim, length-set}
use Rattle.std.proofs.Math.ListN.{length-append}
use Rattle.std.proofs.Math.Seq.{get_or-append_seam}
use Rattle.std.proofs.Math.Nat.{add-mod}
use native.Mathlib.Omega.{arith}
use Rattle.op.specs.declared.Edition.{Edition}
use Rattle.input.specs.Bytes.{lt_or_le}
use Rattle.value.specs.Value.{Label, NoneL, BoolL, I64L, F64L, BytesL, StringL, ListL, TupleL, SetL, FrozenSetL, DictL, GlobalL, ObjectL}
use Rattle.steps.specs.State.{Node, State, kidless}
use Rattle.steps.specs.Opcodes.{is_tuple, is_object}
use Rattle.steps.specs.Run.{start, run}
use Rattle.steps.specs.Out.{Out}
use Rattle.steps.specs.Effect.{Right, labelled, TakesItems, StateEffect, same, marked, cut, again, new, grown, state_set_lem, noted}
use Rattle.steps.specs.Keeps.{run_keeps}
use Rattle.steps.specs.Changes.{Changed, stays, longer, stated, changed_label, Changes, effect_changes}

unfoldable pub Shaped : List Node → Type 0
Shaped l = (i : ℕ) → i < length l → Right l (get_or l i (kidless NoneL)).label (get_or l i (kidless NoneL)).kids

-- a tuple is a tuple for good
tuple_stays : (l m : List Node) (i : ℕ) → Changes l m → T (is_tuple (get_or l i (kidless NoneL)).label) → T (is_tuple (get_or m i (kidless NoneL)).label)
tuple_stays l m i c h = rw (changed_label _ (get_or m i (kidless NoneL)) (c.each i (labelled (λ (x : Label). T (is_tuple x)) l i (λ u. u) h))) h

-- only lists and dicts grow
never : {A B : Type 0} → ⊥ ⊎ (⊥ × B) → A
never (inl h) = absurd h
never (inr h) = absurd h.0

module _ (l m : List Node) (c : Changes l m) where
  right_later : (x : Label) (ks : List ℕ) → Right l x ks → Right m x ks
  unfolding Right
  right_later NoneL ks r = r
  right_later (BoolL b) ks r = r
  right_later (I64L v) ks r = r
  right_later (F64L v) ks r = r
  right_later (BytesL v) ks r = r
  right_later (StringL v) ks r = r
  right_later ListL ks r = r
  right_later TupleL ks r = r
  right_later SetL ks r = r
  right_later FrozenSetL ks r = r
  right_later DictL ks r = r
  right_later (GlobalL v w) ks r = r
  right_later (ObjectL v w b) ks r = (r.0, r.1, tuple_stays l m (get_or ks 0 0) c r.2)

  -- two lengths in pairs are one
  in_pairs : (a b : ℕ) → a % 2 ≡ 0 → b % 2 ≡ 0 → (a + b) % 2 ≡ 0
  in_pairs a b h u = rw (add-mod a b 2, h, u)

  right_longer : (x : Label) (ks is : List ℕ) → TakesItems x (length is) → Right l x ks → Right m x (ks ++ is)
  unfolding Right TakesItems
  right_longer NoneL ks is g r = never g
  right_longer (BoolL b) ks is g r = never g
  right_longer (I64L v) ks is g r = never g
  right_longer (F64L v) ks is g r = never g
  right_longer (BytesL v) ks is g r = never g
  right_longer (StringL v) ks is g r = never g
  right_longer ListL ks is g r = tt
  right_longer TupleL ks is g r = never g
  right_longer SetL ks is g r = never g
  right_longer FrozenSetL ks is g r = never g
  right_longer DictL ks is g r = rw length-append (in_pairs (length ks) (length is) r (⊎_elim (λ u. absurd u) (λ u. u.1) g))
  right_longer (GlobalL v w) ks is g r = never g
  right_longer (ObjectL v w b) ks is g r = never g

  right_stated : (x : Label) (ks : List ℕ) (i : ℕ) → T (is_object x) → Right l x ks → Right m x (get_or ks 0 0 ∷ i ∷ [])
  unfolding Right
  right_stated NoneL ks i h r = absurd h
  right_stated (BoolL b) ks i h r = absurd h
  right_stated (I64L v) ks i h r = absurd h
  right_stated (F64L v) ks i h r = absurd h
  right_stated (BytesL v) ks i h r = absurd h
  right_stated (StringL v) ks i h r = absurd h
  right_stated ListL ks i h r = absurd h
  right_stated TupleL ks i h r = absurd h
  right_stated SetL ks i h r = absurd h
  right_stated FrozenSetL ks i h r = absurd h
  right_stated DictL ks i h r = absurd h
  right_stated (GlobalL v w) ks i h r = absurd h
  right_stated (ObjectL v w b) ks i h r = (omega arith, omega arith, tuple_stays l m (get_or ks 0 0) c r.2)

  right_changed : (n k : Node) → Changed n k → Right l n.label n.kids → Right m k.label k.kids
  right_changed n k stays r = right_later n.label n.kids r
  right_changed n k (longer is g) r = right_longer n.label n.kids is g r
  right_changed n k (stated i h) r = right_stated n.label n.kids i h r

  -- the nodes that there were
  shaped_old : Shaped l → (i : ℕ) → i < length l → Right m (get_or m i (kidless NoneL)).label (get_or m i (kidless NoneL)).kids
  unfolding Shaped
  shaped_old s i h = right_changed (get_or l i (kidless NoneL)) (get_or m i (kidless NoneL)) (c.each i h) (s i h)

  -- and no more than there were
  shaped-all : length m ≡ length l → Shaped l → Shaped m
  unfolding Shaped
  shaped-all e s i h = shaped_old s i (omega arith)

-- one more
shaped_more : (l : List Node) (n : Node) → Changes l (l ++ (n ∷ [])) → Right l n.label n.kids → Shaped l → Shaped (l ++ (n ∷ []))
unfolding Shaped
shaped_more l n c r s i h = ⊎_elim (λ u. shaped_old l (l ++ (n ∷ [])) c s i u) last (lt_or_le i (length l))
  where
    last : length l ≤ i → Right (l ++ (n ∷ [])) (get_or (l ++ (n ∷ [])) i (kidless NoneL)).label (get_or (l ++ (n ∷ [])) i (kidless NoneL)).kids
    last u = let e : i ≡ length l = let z = rw length-append at h in omega arith in rw (e, get_or-append_seam l n [] (kidless NoneL)) (right_later l (l ++ (n ∷ [])) c n.label n.kids r)

pub shaped_effect : (s t : State) → Shaped s.nodes → StateEffect s t → Shaped t.nodes
shaped_effect s t h same = h
shaped_effect s t h (marked a) = h
shaped_effect s t h (cut st ms a b) = h
shaped_effect s t h (again i k a) = h
shaped_effect s t h (new n st ms lk a b k r d e f g) = shaped_more s.nodes n (effect_changes s t (new n st ms lk a b k r d e f g)) r h
shaped_effect s t h (grown o is st ms a b k g d e) = shaped-all s.nodes _ (effect_changes s t (grown o is st ms a b k g d e)) (simp length-set) h
shaped_effect s t h (state_set_lem o i st a b c d) = shaped-all s.nodes _ (effect_changes s t (state_set_lem o i st a b c d)) (simp length-set) h
shaped_effect s t h (noted k i a b) = h

pub run_shaped : (ed : Edition) (p : List ℕ) → Out (λ (t : State). Shaped t.nodes) (run ed p)
unfolding start Shaped
run_shaped ed p = run_keeps (λ (s : State). Shaped s.nodes) (λ s i h. h) shaped_effect ed p (λ i u. absurd (omega arith))
