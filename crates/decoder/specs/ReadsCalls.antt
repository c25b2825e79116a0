-- What REDUCE, NEWOBJ and BUILD take off the stack, over rooms and counts, and what REDUCE makes of a class by its name.
use Prim.Native.Nat.{ℕ, suc, zero, ◌-◌, ◌<◌, ◌≤◌}
use Rattle.std.specs.Prelude.{Result, Ok, Err, Bool, true, false, cond, ◌&&◌, ◌≡◌, ◌≢◌, length, get_or, leb, ltb}
use mathlib.Core.List.{List, [], ◌∷◌, ◌++◌, map, flatten}
use Rattle.std.proofs.Math.Path.{refl}
use Rattle.std.proofs.Common.{sym, ◌∙◌, ap, arith}
use borrow.Author.Tests.{eq-eqb, ne_eqb}
use Rattle.refusal.specs.declared.Refusal.{Refusal}
use Rattle.store.specs.declared.NodeId.{NodeId}
use Rattle.refusal.specs.declared.Refusal.TheVariants.{StackUnderflow, Invalid}
use Rattle.refusal.specs.declared.Wanted.TheVariants.{Class as AClass, Arguments, Object}
use Rattle.utf8.specs.Utf8.{well_formed, pieces, fffd, mend, repair, evaluates}
use Rattle.utf8.specs.Laws.{flatten-pieces}
use Rattle.number.specs.Space.{same}
use Rattle.number.specs.Trims.{same_is}
use Rattle.value.specs.Value.{SetL, FrozenSetL}
use Rattle.value.specs.Shape.{kind_in}
use Rattle.steps.specs.State.{Node, ok, no, ◌>>=◌, need, pop, top, push_node}
use Rattle.steps.specs.Opcodes.{is_tuple, is_object, class_of, builtin, set_name, frozenset_name, object, set_of, reduced, called, build_state}
use Rattle.store.specs.declared.Counts.{Counts}
use Rattle.store.specs.Rooms.{Rooms, kids_of, node_of, state_of}
use Rattle.steps.specs.NodeWords.{first, second, module_of, name_of, node_is, tuple-kind, object-kind, class_kind}
use Rattle.store.specs.RoomReads.{node_at}
use Rattle.store.specs.Effects.{Firm, Sound, with_state}
use Rattle.decoder.specs.Reads.{cut_to, firm_cut, pop_none, pop_got, top_none, top_got}
use Rattle.decoder.specs.StackSteps.{on_stack}

-- ---- a class and its arguments

-- what a call makes of a class, its arguments and their items
abbrev pub MadeByCall : Type 0
MadeByCall = List ℕ × List ℕ → ℕ → List ℕ → Node

-- in the rooms r with the counts c a Global and above it a Tuple are on top
pub record CallOnTop (c : Counts) (r : Rooms) (class args : ℕ) : Type 0 where
  pub two : 2 ≤ c.stack
  pub class_node : class < c.nodes
  pub class_kind : kind_in (first r.nodes class) ≡ 11
  pub args_node : args < c.nodes
  pub args_kind : kind_in (first r.nodes args) ≡ 7
  pub step : (makes : MadeByCall) → called makes (state_of r c)
      ≡ push_node (makes (module_of r.pickle (first r.nodes class), name_of r.pickle (second r.nodes class)) args (kids_of r c args)) (state_of r (cut_to c c.at (c.stack - 2) c.marks))

-- what the code answers: no call, or the two nodes
unfoldable pub CallSaid : Counts → Rooms → Result (NodeId × NodeId) Refusal → Type 0
CallSaid c r (Err why) = (makes : MadeByCall) → called makes (state_of r c) ≡ no why
CallSaid c r (Ok e) = CallOnTop c r e.0.0 e.1.0

-- the same in all rooms with these nodes and this stack
unfoldable pub ReadsCall : Counts → List ℕ → List ℕ → Result (NodeId × NodeId) Refusal → Type 0
ReadsCall c ws st k = (r : Rooms) → Sound r c → r.nodes ≡ ws → r.stack ≡ st → CallSaid c r k

-- one value taken
abbrev below : Counts → Counts
below c = cut_to c c.at (c.stack - 1) c.marks

module _ (r : Rooms) (c : Counts) (s : Sound r c) where
  firm_below : Firm r (below c)
  firm_below = firm_cut r c c.at (c.stack - 1) c.marks s.firm (omega arith) s.firm.at (omega arith) (omega arith)

  pub call-short : c.stack < 2 → (makes : MadeByCall) → called makes (state_of r c) ≡ no StackUnderflow
  unfolding called ◌>>=◌
  call-short h makes = go c.stack refl
    where
      go : (n : ℕ) → c.stack ≡ n → called makes (state_of r c) ≡ no StackUnderflow
      go zero e = rw (pop_none r c s.firm e)
      go (suc n) e = rw (pop_got r c s.firm (omega arith), pop_none r (below c) firm_below (omega arith))

  pub build-short : c.stack < 2 → build_state (state_of r c) ≡ no StackUnderflow
  unfolding build_state ◌>>=◌
  build-short h = go c.stack refl
    where
      go : (n : ℕ) → c.stack ≡ n → build_state (state_of r c) ≡ no StackUnderflow
      go zero e = rw (pop_none r c s.firm e)
      go (suc n) e = rw (pop_got r c s.firm (omega arith), top_none r (below c) firm_below (omega arith))

-- two values at least, of which i is the upper and o the lower
module _ (r : Rooms) (c : Counts) (s : Sound r c) (two : 2 ≤ c.stack) (o i : ℕ) (lower : get_or r.stack (c.stack - 2) 0 ≡ o) (upper : get_or r.stack (c.stack - 1) 0 ≡ i) where
  pub lower_node : o < c.nodes
  lower_node = rw lower at (on_stack r c s (c.stack - 2) (omega arith))

  pub upper_node : i < c.nodes
  upper_node = rw upper at (on_stack r c s (c.stack - 1) (omega arith))

  first_pop : pop (state_of r c) ≡ ok (i, state_of r (below c))
  first_pop = rw upper at (pop_got r c s.firm (omega arith))

  place : c.stack - 1 - 1 ≡ c.stack - 2
  place = omega arith

  second_pop : pop (state_of r (below c)) ≡ ok (o, state_of r (cut_to c c.at (c.stack - 2) c.marks))
  second_pop = rw (place, lower) at (pop_got r (below c) (firm_below r c s) (omega arith))

  taken : (makes : MadeByCall) → called makes (state_of r c)
      ≡ (class_of (node_of r c o).label >>= λ (k : List ℕ × List ℕ). need (is_tuple (node_of r c i).label) (Invalid Arguments) >>= λ (u : Unit {0}). push_node (makes k i (node_of r c i).kids) (state_of r (cut_to c c.at (c.stack - 2) c.marks)))
  unfolding called ◌>>=◌
  taken makes = rw (first_pop, second_pop, node_at r (cut_to c c.at (c.stack - 2) c.marks) o lower_node, node_at r (cut_to c c.at (c.stack - 2) c.marks) i upper_node)

  -- the class comes before the arguments
  pub call_no_class : kind_in (first r.nodes o) ≢ 11 → (makes : MadeByCall) → called makes (state_of r c) ≡ no (Invalid AClass)
  unfolding ◌>>=◌
  call_no_class d makes = taken makes ∙ rw (class_kind r.pickle r.nodes (kids_of r c o) (first r.nodes o) (second r.nodes o), ne_eqb (kind_in (first r.nodes o)) 11 d)

  module _ (global : kind_in (first r.nodes o) ≡ 11) where
    named : class_of (node_of r c o).label ≡ ok (module_of r.pickle (first r.nodes o), name_of r.pickle (second r.nodes o))
    named = class_kind r.pickle r.nodes (kids_of r c o) (first r.nodes o) (second r.nodes o) ∙ rw (eq-eqb (kind_in (first r.nodes o)) 11 global)

    pub call_no_arguments : kind_in (first r.nodes i) ≢ 7 → (makes : MadeByCall) → called makes (state_of r c) ≡ no (Invalid Arguments)
    unfolding ◌>>=◌ need
    call_no_arguments d makes = taken makes ∙ rw (named, tuple-kind r.pickle r.nodes (kids_of r c i) (first r.nodes i) (second r.nodes i), ne_eqb (kind_in (first r.nodes i)) 7 d)

    pub call-both : kind_in (first r.nodes i) ≡ 7 → CallOnTop c r o i
    unfolding ◌>>=◌ need node_is
    call-both e = record {
      two = two;
      class_node = lower_node;
      class_kind = global;
      args_node = upper_node;
      args_kind = e;
      step = λ makes. taken makes ∙ rw (named, tuple-kind r.pickle r.nodes (kids_of r c i) (first r.nodes i) (second r.nodes i), e);
    }

  -- ---- BUILD

  on_top : top (state_of r (below c)) ≡ ok o
  on_top = rw (place, lower) at (top_got r (below c) (firm_below r c s) (omega arith))

  building : build_state (state_of r c) ≡ (need (is_object (node_of r c o).label) (Invalid Object) >>= λ (u : Unit {0}). ok (with_state o i (state_of r (below c))))
  unfolding build_state with_state ◌>>=◌
  building = rw (first_pop, on_top, ← node_at r (below c) o lower_node)

  pub build_no_object : kind_in (first r.nodes o) ≢ 12 → build_state (state_of r c) ≡ no (Invalid Object)
  unfolding ◌>>=◌ need
  build_no_object d = building ∙ rw (object-kind r.pickle r.nodes (kids_of r c o) (first r.nodes o) (second r.nodes o), ne_eqb (kind_in (first r.nodes o)) 12 d)

  pub build-object : kind_in (first r.nodes o) ≡ 12 → build_state (state_of r c) ≡ ok (with_state o i (state_of r (cut_to c c.at (c.stack - 1) c.marks)))
  unfolding ◌>>=◌ need
  build-object e = building ∙ rw (object-kind r.pickle r.nodes (kids_of r c o) (first r.nodes o) (second r.nodes o), eq-eqb (kind_in (first r.nodes o)) 12 e)

-- ---- what REDUCE makes of a class

-- the kind of it, for a class of the module m and the name n with k arguments
unfoldable pub made_kind : List ℕ → List ℕ → ℕ → ℕ
made_kind m n k = cond (same m builtin && leb k 1) (cond (same n set_name) 8 (cond (same n frozenset_name) 9 12)) 12

pub data CallMakes (c : List ℕ × List ℕ) (args : ℕ) (is : List ℕ) (x : Node) (k : ℕ) : Type 0 where
  a_set : k ≡ 8 → x ≡ set_of SetL args is → CallMakes c args is x k
  a_frozen_set : k ≡ 9 → x ≡ set_of FrozenSetL args is → CallMakes c args is x k
  an_object : k ≡ 12 → x ≡ object c false args → CallMakes c args is x k

pub made_of : (c : List ℕ × List ℕ) (args : ℕ) (is : List ℕ) → CallMakes c args is (reduced c args is) (made_kind c.0 c.1 (length is))
unfolding reduced made_kind
made_of c args is = go (same c.0 builtin && leb (length is) 1) (same c.1 set_name) (same c.1 frozenset_name)
  where
    go : (x y z : Bool) → CallMakes c args is (cond x (cond y (set_of SetL args is) (cond z (set_of FrozenSetL args is) (object c false args))) (object c false args)) (cond x (cond y 8 (cond z 9 12)) 12)
    go true true z = a_set refl refl
    go true false true = a_frozen_set refl refl
    go true false false = an_object refl refl
    go false y z = an_object refl refl

-- ---- a repaired text that is ASCII is the text itself

-- every byte is below 128
unfoldable pub ascii : List ℕ → Bool
ascii [] = true
ascii (b ∷ t) = ltb b 128 && ascii t

ascii_right : (a b : List ℕ) → ascii (a ++ b) ≡ true → ascii b ≡ true
unfolding ascii
ascii_right [] b h = h
ascii_right (x ∷ a) b h = go (ltb x 128) h (ascii_right a b)
  where
    go : (t : Bool) → (t && ascii (a ++ b)) ≡ true → (ascii (a ++ b) ≡ true → ascii b ≡ true) → ascii b ≡ true
    go true e f = f e
    go false e f = let z : ◌≡◌ {A = ℕ} 0 1 = cc in absurd (omega arith)

-- nothing was replaced
unmended : (ps : List (List ℕ)) → ascii (flatten (map mend ps)) ≡ true → map mend ps ≡ ps
unfolding flatten mend ascii
unmended [] h = refl
unmended (p ∷ ps) h = go (well_formed p) h (unmended ps)
  where
    go : (t : Bool) → ascii (cond t p fffd ++ flatten (map mend ps)) ≡ true → (ascii (flatten (map mend ps)) ≡ true → map mend ps ≡ ps) → cond t p fffd ∷ map mend ps ≡ p ∷ ps
    go true e f = ap (p ∷◌) (f (ascii_right p (flatten (map mend ps)) e))
    go false e f = let z : ◌≡◌ {A = ℕ} 0 1 = cc in absurd (omega arith)

repair-ascii : (s : List ℕ) → ascii (repair s) ≡ true → repair s ≡ s
unfolding repair
repair-ascii s h = ap flatten (unmended (pieces s) h) ∙ flatten-pieces s

pub same-repair : (s t : List ℕ) → ascii t ≡ true → repair t ≡ t → same (repair s) t ≡ same s t
same-repair s t h k = go (same s t) refl (same (repair s) t) refl
  where
    go : (x : Bool) → same s t ≡ x → (y : Bool) → same (repair s) t ≡ y → same (repair s) t ≡ same s t
    go true e y f = ap (λ (l : List ℕ). same l t) (ap repair (same_is s t e) ∙ k ∙ sym (same_is s t e))
    go false e false f = f ∙ sym e
    go false e true f = ap (λ (l : List ℕ). same l t) (repair-ascii s (rw (same_is (repair s) t f) h))

-- the words that REDUCE knows
module _ (s : List ℕ) where
  pub same-builtin : same (repair s) builtin ≡ same s builtin
  unfolding ascii evaluates
  same-builtin = same-repair s builtin refl refl

  pub same_set : same (repair s) set_name ≡ same s set_name
  unfolding ascii evaluates
  same_set = same-repair s set_name refl refl

  pub same-frozenset : same (repair s) frozenset_name ≡ same s frozenset_name
  unfolding ascii evaluates
  same-frozenset = same-repair s frozenset_name refl refl
