-- The opcodes that add values to the list or dict below them: APPEND, APPENDS, SETITEM, SETITEMS; and MARK before two of them.
use Rattle.std.specs.Prelude.{ℕ, ◌+◌, ◌%◌, Bool, ◌≡◌, set}
use Rattle.std.proofs.Math.Bool.{true}
use mathlib.Core.List.{List, [], ◌∷◌, ◌++◌, append_assoc}
use Rattle.std.proofs.Math.Path.{refl, sym}
use Rattle.std.proofs.Common.{◌∙◌, ap, arith}
use Rattle.std.proofs.Math.ListN.{length}
use Rattle.std.proofs.Math.Dec.{eqb}
use borrow.Author.Tests.{eq-eqb}
use Rattle.refusal.specs.declared.Refusal.{Refusal}
use Rattle.refusal.specs.declared.Refusal.TheVariants.{Invalid}
use Rattle.refusal.specs.declared.Wanted.TheVariants.{List as AList, Dict as ADict}
use Rattle.op.specs.Table.{code_of}
use Rattle.op.specs.declared.Opcode.{Opcode}
use Rattle.op.specs.declared.Opcode.TheVariants.{MARK, APPEND, APPENDS, SETITEM, SETITEMS}
use Rattle.value.specs.Value.{Label, Forest, ListL, DictL, count}
use Rattle.value.specs.Stands.{◌⊕◌}
use Rattle.steps.specs.State.{Node, State, ◌>>=◌, need, with_input, with_nodes, with_stack, with_marks, with_links, extend}
use Rattle.steps.specs.Opcodes.{mark, add_items, append, appends, setitem, setitems, pairs, is_list, is_dict}
use Rattle.steps.specs.Run.{going, does}
use Rattle.reading.specs.Build.{at}
use Rattle.outback.specs.WriteOut.{writes_count}
use Rattle.outback.specs.Outcome.{LeadsTo, leads_on, OneMore, ManyMore, many-added}
use Rattle.outback.specs.Steps.{After, by_op, after-mark, after-link, pop_ok, top_ok, pop_mark_ok}

-- ---- MARK

abbrev pub marked_of : State → List ℕ → State
marked_of t r = with_marks (with_input t r) (t.marks ++ (length t.stack ∷ []))

pub mark_then : {Q : State → Type 0} (t : State) (r : List ℕ) → t.input ≡ code_of MARK ∷ r → LeadsTo (marked_of t r) Q → LeadsTo t Q
unfolding does
mark_then {Q} t r e k = leads_on (by_op {R = λ (x : State). x ≡ marked_of t r} MARK t r e (mark (with_input t r)) refl (after-mark (λ (x : State). x ≡ marked_of t r) (with_input t r) refl)) (λ x q. rw q k)

-- ---- what the four have in common

after-added : (R : State → Type 0) (right : Label → Bool) (why : Refusal) (is : List ℕ) (v : State) (b : List ℕ) (i : ℕ) (l : Label) (ks : List ℕ)
    → v.stack ≡ b ++ (i ∷ []) → at v.nodes i ≡ record { label = l; kids = ks } → right l ≡ true
    → R (with_nodes (with_links v (v.links + length is)) (set v.nodes i (record { label = l; kids = ks ++ is })))
    → After R (add_items right why is v)
unfolding add_items need ◌>>=◌ extend After
after-added R right why is v b i l ks e n r h = rw (top_ok v b i e, n, r) (after-link R (length is) v _ (rw n h))

module _ {s t u : State} {mid rest : List ℕ} {l : Label} {c g : Forest} (x : OneMore s mid l c t) (marked : State) (same : marked.nodes ≡ t.nodes) where
  module _ (o : Opcode) (y : ManyMore marked (code_of o ∷ rest) g u) (right : Label → Bool) (why : Refusal) (r : right l ≡ true) (ms : List ℕ) (w : ms ≡ s.marks) where
    -- an opcode that has taken the values off and adds them to the node below
    add_on : does 2 o (with_input u rest) ≡ going (add_items right why y.ids (with_marks (with_stack (with_input u rest) (s.stack ++ (x.id ∷ []))) ms)) → LeadsTo u (OneMore s rest l (c ⊕ g))
    add_on d =
        let n : at u.nodes x.id ≡ record { label = l; kids = x.kids } = y.old x.id (rw same x.high) ∙ ap (λ (v : List Node). at v x.id) same ∙ x.here in
        by_op o u rest y.input _ d
        (after-added (OneMore s rest l (c ⊕ g)) right why y.ids (with_marks (with_stack (with_input u rest) (s.stack ++ (x.id ∷ []))) ms) s.stack x.id l x.kids refl n r
        (many-added rest x marked same y (u.links + length y.ids) ms w))

-- ---- each of them

-- what the stack and the marks are in terms of those before the container
pub stack_above : {s t : State} {mid : List ℕ} {c : Forest} {l : Label} (x : OneMore s mid l c t) (st : List ℕ) (is : List ℕ) → st ≡ t.stack ++ is → st ≡ (s.stack ++ (x.id ∷ [])) ++ is
stack_above x st is e = e ∙ rw x.stack

below : {s t : State} {mid : List ℕ} {c : Forest} {l : Label} (x : OneMore s mid l c t) (m : List ℕ) → m ≡ t.marks ++ (length t.stack ∷ []) → m ≡ s.marks ++ (length (s.stack ++ (x.id ∷ [])) ∷ [])
below x m e = e ∙ rw (x.stack, x.marks)

module _ {s t u : State} {mid rest : List ℕ} {c g : Forest} where
  pub appends_on : (r : List ℕ) (x : OneMore s mid ListL c t) → ManyMore (marked_of t r) (code_of APPENDS ∷ rest) g u → LeadsTo u (OneMore s rest ListL (c ⊕ g))
  unfolding does appends ◌>>=◌
  appends_on r x y =
      add_on x (marked_of t r) refl APPENDS y is_list (Invalid AList) refl s.marks refl
      (rw (pop_mark_ok (with_input u rest) (s.stack ++ (x.id ∷ [])) y.ids s.marks (stack_above x u.stack y.ids y.stack) (below x u.marks y.marks)))

  pub setitems_on : (r : List ℕ) (x : OneMore s mid DictL c t) → count g % 2 ≡ 0 → ManyMore (marked_of t r) (code_of SETITEMS ∷ rest) g u → LeadsTo u (OneMore s rest DictL (c ⊕ g))
  unfolding does setitems pairs need ◌>>=◌
  setitems_on r x h y =
      let p : eqb (length y.ids % 2) 0 ≡ true = eq-eqb (length y.ids % 2) 0 (rw (writes_count y.values) h) in
      add_on x (marked_of t r) refl SETITEMS y is_dict (Invalid ADict) refl s.marks refl
      (rw (pop_mark_ok (with_input u rest) (s.stack ++ (x.id ∷ [])) y.ids s.marks (stack_above x u.stack y.ids y.stack) (below x u.marks y.marks), p))

  pub append_on : (x : OneMore s mid ListL c t) → count g ≡ 1 → ManyMore t (code_of APPEND ∷ rest) g u → LeadsTo u (OneMore s rest ListL (c ⊕ g))
  unfolding does append ◌>>=◌
  append_on x h y = go y.ids refl (writes_count y.values ∙ h)
    where
      go : (is : List ℕ) → y.ids ≡ is → length is ≡ 1 → LeadsTo u (OneMore s rest ListL (c ⊕ g))
      go [] q e = absurd (omega arith)
      go (i ∷ j ∷ is) q e = absurd (omega arith)
      go (i ∷ []) q e =
          add_on x t refl APPEND y is_list (Invalid AList) refl u.marks (y.marks ∙ x.marks)
          (rw (q, pop_ok (with_input u rest) (s.stack ++ (x.id ∷ [])) i (stack_above x u.stack (i ∷ []) (y.stack ∙ rw q))))

  pub setitem_on : (x : OneMore s mid DictL c t) → count g ≡ 2 → ManyMore t (code_of SETITEM ∷ rest) g u → LeadsTo u (OneMore s rest DictL (c ⊕ g))
  unfolding does setitem ◌>>=◌
  setitem_on x h y = go y.ids refl (writes_count y.values ∙ h)
    where
      go : (is : List ℕ) → y.ids ≡ is → length is ≡ 2 → LeadsTo u (OneMore s rest DictL (c ⊕ g))
      go [] q e = absurd (omega arith)
      go (i ∷ []) q e = absurd (omega arith)
      go (i ∷ j ∷ k ∷ is) q e = absurd (omega arith)
      go (i ∷ j ∷ []) q e =
          let b = s.stack ++ (x.id ∷ []) in
          let z : u.stack ≡ (b ++ (i ∷ [])) ++ (j ∷ []) = stack_above x u.stack (i ∷ j ∷ []) (y.stack ∙ rw q) ∙ sym (append_assoc b (i ∷ []) (j ∷ [])) in
          add_on x t refl SETITEM y is_dict (Invalid ADict) refl u.marks (y.marks ∙ x.marks)
          (rw (q, pop_ok (with_input u rest) (b ++ (i ∷ [])) j z, pop_ok (with_stack (with_input u rest) (b ++ (i ∷ []))) b i refl))
