-- Lists and dicts only grow, and at their end: what one contains after some steps is, in the same order, the beginning of what it contains
-- after any more steps, and at STOP.
use Prim.Native.Nat.{ℕ, suc, zero, ◌+◌, ◌<◌, ◌≤◌}
use Rattle.std.specs.Prelude.{List, ◌⊎◌, ◌≡◌, refl, length, take, T}
use Rattle.std.proofs.Common.{inl, inr, ◌∙◌, ap, length-take}
use Rattle.std.proofs.lemmas.List.{take-append-le}
use native.Mathlib.Omega.{arith}
use Rattle.op.specs.declared.Edition.{Edition}
use Rattle.input.specs.Bytes.{lt_or_le}
use Rattle.value.specs.Value.{Label, NoneL, BoolL, I64L, F64L, BytesL, StringL, ListL, TupleL, SetL, FrozenSetL, DictL, GlobalL, ObjectL}
use Rattle.steps.specs.State.{Node, State, ok, node_by}
use Rattle.steps.specs.Opcodes.{is_object}
use Rattle.steps.specs.Run.{Next, goes, stops, step, run}
use Rattle.steps.specs.Out.{Out, out, of_out, bind}
use Rattle.steps.specs.Effect.{labelled, StateEffect}
use Rattle.steps.specs.Keeps.{state_after, step_keeps}
use Rattle.steps.specs.Changes.{Changed, stays, longer, stated, effect_changes}
use Rattle.machine.specs.Ran.{onward, after_steps}
use Rattle.run_laws.specs.Steps.{at_end, in_steps, from_then_on}
use Rattle.run_laws.specs.Carried.{list_or_dict, BeginsWith, begins_itself}

-- ---- one step

-- BUILD, which replaces a state, is for Objects alone
no_object : (l : Label) → T (list_or_dict l) → T (is_object l) → ⊥
no_object NoneL g h = h
no_object (BoolL b) g h = h
no_object (I64L n) g h = h
no_object (F64L n) g h = h
no_object (BytesL t) g h = h
no_object (StringL t) g h = h
no_object ListL g h = h
no_object TupleL g h = h
no_object SetL g h = h
no_object FrozenSetL g h = h
no_object DictL g h = h
no_object (GlobalL m n) g h = h
no_object (ObjectL m n b) g h = g

changed_begins : (n m : Node) (ks : List ℕ) → T (list_or_dict n.label) → take (length ks) n.kids ≡ ks → Changed n m → (m.label ≡ n.label) × (take (length ks) m.kids ≡ ks)
changed_begins n m ks g e stays = (refl, e)
changed_begins n m ks g e (longer is h) =
    let z = rw length-take at (ap length e) in
    (refl, take-append-le (length ks) n.kids is (omega arith) ∙ e)
changed_begins n m ks g e (stated i h) = absurd (no_object n.label g h)

module _ (i : ℕ) (l : Label) (ks : List ℕ) (g : T (list_or_dict l)) where
  effect_begins : (s t : State) → BeginsWith i l ks s → StateEffect s t → BeginsWith i l ks t
  effect_begins s t b e =
      let h : T (list_or_dict (node_by s i).label) = rw b.label g in
      let c = changed_begins (node_by s i) (node_by t i) ks h b.kids ((effect_changes s t e).each i (labelled (λ (x : Label). T (list_or_dict x)) s.nodes i (λ u. u) h)) in
      record { label = c.0 ∙ b.label; kids = c.1 }

  pub step-begins : (ed : Edition) (s : State) → BeginsWith i l ks s → Out (λ (n : Next). BeginsWith i l ks (state_after n)) (step ed s)
  step-begins = step_keeps (BeginsWith i l ks) (λ s j b. record { label = b.label; kids = b.kids }) effect_begins

  onward-begins : (ed : Edition) (x : Next) → BeginsWith i l ks (state_after x) → Out (λ (n : Next). BeginsWith i l ks (state_after n)) (onward ed x)
  unfolding onward state_after Out
  onward-begins ed (goes s) b = step-begins ed s b
  onward-begins ed (stops s) b = b

  -- ---- any number of steps

  begun : (ed : Edition) (p : List ℕ) (k : ℕ) (x : Next) → after_steps ed k p ≡ ok x → BeginsWith i l ks (state_after x) → (m : ℕ) → k ≡ m → Out (λ (n : Next). BeginsWith i l ks (state_after n)) (after_steps ed m p)
  begun ed p k x e b m q = rw (← q, e) (out (λ (n : Next). BeginsWith i l ks (state_after n)) x b)

  begins_later : (ed : Edition) (p : List ℕ) (k : ℕ) (x : Next) → after_steps ed k p ≡ ok x → BeginsWith i l ks (state_after x) → (m : ℕ) → k ≤ m → Out (λ (n : Next). BeginsWith i l ks (state_after n)) (after_steps ed m p)
  unfolding after_steps
  begins_later ed p k x e b zero h = let q : k ≡ 0 = omega arith in begun ed p k x e b 0 q
  begins_later ed p k x e b (suc m) h = go (lt_or_le m k) (begins_later ed p k x e b m)
    where
      go : (m < k) ⊎ (k ≤ m) → (k ≤ m → Out (λ (n : Next). BeginsWith i l ks (state_after n)) (after_steps ed m p)) → Out (λ (n : Next). BeginsWith i l ks (state_after n)) (after_steps ed (suc m) p)
      go (inl u) more = begun ed p k x e b (suc m) (omega arith)
      go (inr u) more = bind _ _ (after_steps ed m p) (onward ed) (more (omega arith)) (onward-begins ed)

-- x after k steps, y after as many or more: a list or dict of x has its label in y, and begins there with all that it contains in x
pub contents_stay : (ed : Edition) (p : List ℕ) (k m : ℕ) (x y : Next) → k ≤ m → after_steps ed k p ≡ ok x → after_steps ed m p ≡ ok y → (i : ℕ) → T (list_or_dict (node_by (state_after x) i).label) → BeginsWith i (node_by (state_after x) i).label (node_by (state_after x) i).kids (state_after y)
contents_stay ed p k m x y h e f i g = of_out _ (after_steps ed m p) y (begins_later i (node_by (state_after x) i).label (node_by (state_after x) i).kids g ed p k x e (begins_itself (state_after x) i) m h) f

-- the same of the machine at STOP
pub contents_at_stop : (ed : Edition) (p : List ℕ) (k : ℕ) (x : Next) (z : State) → after_steps ed k p ≡ ok x → run ed p ≡ ok z → (i : ℕ) → T (list_or_dict (node_by (state_after x) i).label) → BeginsWith i (node_by (state_after x) i).label (node_by (state_after x) i).kids z
unfolding state_after at_end
contents_at_stop ed p k x z e stop i g =
    let t = in_steps ed p in
    let m = k + t.steps in
    let f : after_steps ed m p ≡ ok (stops z) = from_then_on ed p t.steps m t.takes (omega arith) ∙ ap at_end stop in
    contents_stay ed p k m x (stops z) (omega arith) e f i g
