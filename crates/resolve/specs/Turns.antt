-- The walk over a node's children as a loop: what is true between two turns, of the state, of the children done and to come, and of what the
-- values made so far measure.
use Rattle.std.specs.Prelude.{ℕ, ◌≤◌, List, [], ◌∷◌, ◌++◌, ◌≡◌}
use Rattle.std.proofs.Common.{append_assoc, ◌∙◌, ap₂, length-append}
use Rattle.std.proofs.Math.Path.{ap}
use Rattle.std.proofs.Math.ListN.{length}
use native.Mathlib.Omega.{arith}
use Rattle.steps.specs.State.{Node}
use Rattle.reading.specs.Build.{taken, at}
use Rattle.reading.specs.Measures.{Measure, nil_m, push_m, measure, value_measure}
use Rattle.resolve.specs.Walk.{WalkState, WalkMade, overwrite, each_r}
use Rattle.resolve.specs.Resolves.{Resolves, WalkCalled, overwrite_resolves, with_list-same, old_taken}

-- ---- measures of values one behind the other

same-measure : (a b : Measure) → a.deep ≡ b.deep → a.values ≡ b.values → a.texts ≡ b.texts → a ≡ b
same-measure a b p q r =
    ap₂ (λ (x y : ℕ). let m : Measure = record { deep = x; values = y; texts = a.texts } in m) p q
    ∙ ap (λ (x : ℕ). let m : Measure = record { deep = b.deep; values = b.values; texts = x } in m) r

pub push_nil : (m : Measure) → push_m nil_m m ≡ m
push_nil m = same-measure (push_m nil_m m) m (omega arith) (omega arith) (omega arith)

nil_push : (m : Measure) → push_m m nil_m ≡ m
nil_push m = same-measure (push_m m nil_m) m (omega arith) (omega arith) (omega arith)

push-push : (a b c : Measure) → push_m a (push_m b c) ≡ push_m (push_m a b) c
push-push a b c = same-measure (push_m a (push_m b c)) (push_m (push_m a b) c) (omega arith) (omega arith) (omega arith)

-- ---- between turns

module _ (t : List Node) (nowhere : ℕ) (beyond : length t ≤ nowhere) (g : ℕ → WalkState → WalkMade) where
  -- Node n was entered in the state s₀; now the state is s, `is` are in place of the children done, `js` are to come, m is measured so far.
  pub record Turn (n : ℕ) (s₀ : WalkState) (is js : List ℕ) (s : WalkState) (m : Measure) : Type 0 where
    pub resolves : Resolves t nowhere s
    pub open_still : s.stages n ≡ taken
    pub held : s.kids n ≡ is ++ js
    pub rest : (each_r g n [] (at t n).kids s₀).1 ≡ (each_r g n is js s).1
    pub sum : measure (each_r g n [] (at t n).kids s₀).0 ≡ push_m m (measure (each_r g n is js s).0)

  -- one turn: a call, and the number in the child's place
  pub turn_next : (n : ℕ) (s₀ : WalkState) (is : List ℕ) (i : ℕ) (js : List ℕ) (s : WalkState) (m : Measure) → Turn n s₀ is (i ∷ js) s m
      → WalkCalled t nowhere s (g i s)
      → Turn n s₀ (is ++ ((g i s).slot ∷ [])) js (overwrite n (is ++ ((g i s).slot ∷ js)) (g i s).after) (push_m m (value_measure (g i s).value))
  unfolding each_r measure
  turn_next n s₀ is i js s m x a =
      let p = g i s in
      let l = is ++ (p.slot ∷ js) in
      let old = old_taken _ x.open_still in
      let e₁ : p.after.stages n ≡ taken = a.later.stages_stay n old ∙ x.open_still in
      let b : p.after.kids n ≡ is ++ (i ∷ js) = a.later.kids_stay n tt old ∙ x.held in
      let k : length l ≡ length (p.after.kids n) = rw b (simp length-append) in
      record {
        resolves = overwrite_resolves t nowhere beyond p.after n l a.resolves e₁ k;
        open_still = e₁;
        held = with_list-same n l p.after.kids ∙ simp append_assoc;
        rest = x.rest;
        sum = x.sum ∙ push-push m (value_measure p.value) _;
      }

  pub turn_end : (n : ℕ) (s₀ : WalkState) (is : List ℕ) (s : WalkState) (m : Measure) → Turn n s₀ is [] s m
      → ((each_r g n [] (at t n).kids s₀).1 ≡ s) × (measure (each_r g n [] (at t n).kids s₀).0 ≡ m)
  unfolding each_r measure
  turn_end n s₀ is s m x = (x.rest, x.sum ∙ nil_push m)

  -- no child, and none before it, is deeper than all together
  pub turn_deep : (n : ℕ) (s₀ : WalkState) (is : List ℕ) (i : ℕ) (js : List ℕ) (s : WalkState) (m : Measure) → Turn n s₀ is (i ∷ js) s m
      → ((value_measure (g i s).value).deep ≤ (measure (each_r g n [] (at t n).kids s₀).0).deep) × (m.deep ≤ (measure (each_r g n [] (at t n).kids s₀).0).deep)
  unfolding each_r measure
  turn_deep n s₀ is i js s m x = let e = ap (λ (y : Measure). y.deep) x.sum in (omega arith, omega arith)
