-- The opcodes that make a node of values on the stack: TUPLE1 to TUPLE3 and TUPLE, REDUCE and NEWOBJ of a class and its arguments; and BUILD,
-- which gives an Object its state.
use Rattle.std.specs.Prelude.{ℕ, ◌+◌, Bool, List, [], ◌∷◌, ◌++◌, ◌≡◌, set}
use Rattle.std.proofs.Math.Path.{refl}
use Rattle.std.proofs.Common.{◌∙◌, arith}
use Rattle.std.proofs.Math.ListN.{length}
use Rattle.op.specs.Table.{code_of}
use Rattle.op.specs.declared.Opcode.{Opcode}
use Rattle.op.specs.declared.Opcode.TheVariants.{TUPLE, BUILD}
use Rattle.value.specs.Value.{Label, Forest, count, TupleL, GlobalL, ObjectL, nil, node}
use Rattle.value.specs.Stands.{◌⊕◌}
use Rattle.steps.specs.State.{Node, State, ok, ◌>>=◌, need, with_input, with_nodes, with_stack, with_marks}
use Rattle.steps.specs.Opcodes.{tuple, tuple_n, made, called, reduced, object, build_state}
use Rattle.steps.specs.Run.{going, does}
use Rattle.reading.specs.Build.{at}
use Rattle.outback.specs.WriteOut.{WritesIn, none, more, writes_moved, writes_count}
use Rattle.outback.specs.Outcome.{LeadsTo, Between, OneMore, ManyMore, node_more, many-added}
use Rattle.outback.specs.Steps.{After, by_op, after-made, after_push, pop_ok, top_ok, pop_mark_ok, pop_many_ok}
use Rattle.outback.specs.Adding.{marked_of, stack_above}

-- ---- tuples

module _ {s u : State} {g : Forest} (rest : List ℕ) where
  -- one to three items
  pub tuple_few : (n : ℕ) (o : Opcode) → ((v : State) → does 2 o v ≡ going (tuple_n n v)) → count g ≡ n → ManyMore s (code_of o ∷ rest) g u → LeadsTo u (OneMore s rest TupleL g)
  unfolding tuple_n ◌>>=◌
  tuple_few n o d h y =
      by_op o u rest y.input (made TupleL y.ids (with_stack (with_input u rest) s.stack))
      (d (with_input u rest) ∙ rw (pop_many_ok n (with_input u rest) s.stack y.ids y.stack (writes_count y.values ∙ h)))
      (after-made (OneMore s rest TupleL g) TupleL y.ids (with_stack (with_input u rest) s.stack)
      (node_more s u rest TupleL g (u.links + length y.ids) u.marks y.ids y.marks y.more y.old y.values))

  pub tuple-many : (r : List ℕ) → ManyMore (marked_of s r) (code_of TUPLE ∷ rest) g u → LeadsTo u (OneMore s rest TupleL g)
  unfolding does tuple ◌>>=◌
  tuple-many r y =
      by_op TUPLE u rest y.input (made TupleL y.ids (with_marks (with_stack (with_input u rest) s.stack) s.marks))
      (rw (pop_mark_ok (with_input u rest) s.stack y.ids s.marks y.stack y.marks))
      (after-made (OneMore s rest TupleL g) TupleL y.ids (with_marks (with_stack (with_input u rest) s.stack) s.marks)
      (node_more s u rest TupleL g (u.links + length y.ids) s.marks y.ids refl y.more y.old y.values))

-- ---- a class and its arguments

module _ {s t u : State} {mid : List ℕ} {m k : List ℕ} {a : Forest} (rest : List ℕ) (o : Opcode) (x : OneMore s mid (GlobalL m k) nil t) (z : OneMore t (code_of o ∷ rest) TupleL a u) where
  called_on : (makes : List ℕ × List ℕ → ℕ → List ℕ → Node) (l : Label) (ks : List ℕ) (f : Forest) → ((v : State) → does 2 o v ≡ going (called makes v))
      → makes (m, k) z.id z.kids ≡ record { label = l; kids = ks } → WritesIn u.nodes (Between (length s.nodes) (length u.nodes)) ks f → LeadsTo u (OneMore s rest l f)
  unfolding called need ◌>>=◌
  called_on makes l ks f d q w =
      let b = s.stack ++ (x.id ∷ []) in
      let e : u.stack ≡ b ++ (z.id ∷ []) = stack_above x u.stack (z.id ∷ []) z.stack in
      let c : at u.nodes x.id ≡ record { label = GlobalL m k; kids = x.kids } = z.old x.id x.high ∙ x.here in
      let v = with_stack (with_stack (with_input u rest) b) s.stack in
      by_op o u rest z.input _
      (d (with_input u rest) ∙ rw (pop_ok (with_input u rest) b z.id e, pop_ok (with_stack (with_input u rest) b) s.stack x.id refl, c, z.here, q))
      (after_push (OneMore s rest l f) (record { label = l; kids = ks }) v
      (node_more s u rest l f u.links u.marks ks (z.marks ∙ x.marks) (omega (arith, x.low, x.high, z.low, z.high)) (λ i h. z.old i (omega (arith, x.low, x.high)) ∙ x.old i h) w))

  -- an Object holds the Tuple
  pub object_on : (new : Bool) (makes : List ℕ × List ℕ → ℕ → List ℕ → Node) → ((v : State) → does 2 o v ≡ going (called makes v)) → makes (m, k) z.id z.kids ≡ object (m, k) new z.id → LeadsTo u (OneMore s rest (ObjectL m k new) (node TupleL a nil))
  object_on new makes d q =
      called_on makes (ObjectL m k new) (z.id ∷ []) (node TupleL a nil) d q
      (more (record { low = omega (arith, x.low, x.high, z.low); high = z.high }) z.here (writes_moved (λ j p. record { low = omega (arith, x.low, x.high, p.low); high = p.high }) (λ j p. refl) z.inside) none)

  -- a set holds the Tuple's one item
  pub set_on : (l : Label) → ((v : State) → does 2 o v ≡ going (called reduced v)) → count a ≡ 1 → ((i j : ℕ) → reduced (m, k) i (j ∷ []) ≡ record { label = l; kids = j ∷ [] }) → LeadsTo u (OneMore s rest l a)
  set_on l d n q = go z.kids refl (writes_count z.inside ∙ n)
    where
      go : (ks : List ℕ) → z.kids ≡ ks → length ks ≡ 1 → LeadsTo u (OneMore s rest l a)
      go [] e h = absurd (omega arith)
      go (i ∷ j ∷ ks) e h = absurd (omega arith)
      go (j ∷ []) e h =
          let w : WritesIn u.nodes (Between (length s.nodes) (length u.nodes)) z.kids a = writes_moved (λ i p. record { low = omega (arith, x.low, x.high, p.low); high = p.high }) (λ i p. refl) z.inside in
          called_on reduced l (j ∷ []) a d (rw e (q z.id j)) (rw e at w)

-- ---- the state

pub build_on : {s t u : State} {mid : List ℕ} {m k : List ℕ} {b : Bool} {c g : Forest} (rest : List ℕ) → OneMore s mid (ObjectL m k b) c t → count c ≡ 1 → count g ≡ 1 → ManyMore t (code_of BUILD ∷ rest) g u → LeadsTo u (OneMore s rest (ObjectL m k b) (c ⊕ g))
unfolding does build_state need ◌>>=◌ After
build_on {s} {t} {u} {mid} {m} {k} {b} {c} {g} rest x p q y = go x.kids refl (writes_count x.inside ∙ p) y.ids refl (writes_count y.values ∙ q)
  where
    go : (ks : List ℕ) → x.kids ≡ ks → length ks ≡ 1 → (is : List ℕ) → y.ids ≡ is → length is ≡ 1 → LeadsTo u (OneMore s rest (ObjectL m k b) (c ⊕ g))
    go [] e h is f w = absurd (omega arith)
    go (i ∷ j ∷ ks) e h is f w = absurd (omega arith)
    go (i ∷ []) e h [] f w = absurd (omega arith)
    go (i ∷ []) e h (j ∷ n ∷ is) f w = absurd (omega arith)
    go (i ∷ []) e h (j ∷ []) f w =
        let st = s.stack ++ (x.id ∷ []) in
        let v = with_stack (with_input u rest) st in
        let z : u.stack ≡ st ++ (j ∷ []) = stack_above x u.stack (j ∷ []) (y.stack ∙ rw f) in
        let n : at u.nodes x.id ≡ record { label = ObjectL m k b; kids = x.kids } = y.old x.id x.high ∙ x.here in
        let r : OneMore s rest (ObjectL m k b) (c ⊕ g) (with_nodes v (set u.nodes x.id (record { label = ObjectL m k b; kids = x.kids ++ y.ids }))) = many-added rest x t refl y u.links u.marks (y.marks ∙ x.marks) in
        by_op BUILD u rest y.input (ok (with_nodes v (set u.nodes x.id (record { label = ObjectL m k b; kids = i ∷ j ∷ [] }))))
        (rw (pop_ok (with_input u rest) st j z, top_ok v s.stack x.id refl, n, e)) (rw (e, f) at r)
