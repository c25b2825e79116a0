-- What a step can change in the nodes: none is removed and no label changes; a list and a dict may have items more at their end, an
-- Object another state. So a tuple's contents, a set's and a value's never change.
use Rattle.std.specs.Prelude.{ℕ, ◌<◌, ◌≤◌, Bool, true, false, List, [], ◌∷◌, ◌++◌, ◌≡◌, refl, length, get_or, set, eqb, T}
use Rattle.std.proofs.Common.{length-append, length-set, get_or-set_same, get_or-set_other, arith, eqb-true}
use Rattle.std.proofs.Math.ListN.{get_or-append}
use Rattle.std.proofs.lemmas.Bool.{eqb-false}
use Rattle.op.specs.declared.Edition.{Edition}
use Rattle.value.specs.Value.{NoneL}
use Rattle.steps.specs.State.{Node, State, kidless}
use Rattle.steps.specs.Opcodes.{is_object}
use Rattle.steps.specs.Run.{Next, step}
use Rattle.steps.specs.Out.{Out, weaken}
use Rattle.steps.specs.Effect.{TakesItems, grows_inside, object_inside, StateEffect, same, marked, cut, again, new, grown, state_set_lem, noted}
use Rattle.steps.specs.Keeps.{state_after, step_effected}

-- from the node n to the node m
pub data Changed (n : Node) : Node → Type 0 where
  stays : Changed n n
  longer : (is : List ℕ) → TakesItems n.label (length is) → Changed n (record { label = n.label; kids = n.kids ++ is })
  stated : (i : ℕ) → T (is_object n.label) → Changed n (record { label = n.label; kids = get_or n.kids 0 0 ∷ i ∷ [] })

pub record Changes (l m : List Node) : Type 0 where
  pub more : length l ≤ length m
  pub each : (i : ℕ) → i < length l → Changed (get_or l i (kidless NoneL)) (get_or m i (kidless NoneL))

no_change : (l : List Node) → Changes l l
no_change l = record { more = omega arith; each = λ i h. stays }

set_change : (l : List Node) (o : ℕ) (x : Node) → o < length l → Changed (get_or l o (kidless NoneL)) x → Changes l (set l o x)
set_change l o x h c = record { more = rw length-set (omega arith); each = λ i u. go i (eqb i o) refl }
  where
    go : (i : ℕ) (b : Bool) → eqb i o ≡ b → Changed (get_or l i (kidless NoneL)) (get_or (set l o x) i (kidless NoneL))
    go i true q = let e = eqb-true i o q in rw (e, get_or-set_same l o x (kidless NoneL) h) c
    go i false q = rw (get_or-set_other l o i x (kidless NoneL) (eqb-false i o q)) stays

pub effect_changes : (s t : State) → StateEffect s t → Changes s.nodes t.nodes
effect_changes s t same = no_change s.nodes
effect_changes s t (marked h) = no_change s.nodes
effect_changes s t (cut st ms a b) = no_change s.nodes
effect_changes s t (again i k h) = no_change s.nodes
effect_changes s t (new n st ms lk a b c d e f g h) = record { more = rw length-append (omega arith); each = λ i u. rw (get_or-append s.nodes (n ∷ []) (kidless NoneL) i u) stays }
effect_changes s t (grown o is st ms a b c d e f) = set_change s.nodes o _ (grows_inside s.nodes o (length is) d) (longer is d)
effect_changes s t (state_set_lem o i st a b c d) = set_change s.nodes o _ (object_inside s.nodes o d) (stated i d)
effect_changes s t (noted k i a b) = no_change s.nodes

pub step_changes : (ed : Edition) (s : State) → Out (λ (n : Next). Changes s.nodes (state_after n).nodes) (step ed s)
step_changes ed s = weaken _ _ _ (step_effected ed s) (λ n e. effect_changes _ (state_after n) e.effect)

-- ---- what stays for good

pub changed_label : (n m : Node) → Changed n m → m.label ≡ n.label
changed_label n m stays = refl
changed_label n m (longer is g) = refl
changed_label n m (stated i h) = refl
