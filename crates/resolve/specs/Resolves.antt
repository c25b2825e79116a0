-- What is true of every state of the walk: fresh nodes have the lists of the node table, finished ones stand for the values that they keep,
-- with lists of what was finished earlier. And what no call changes: stages and lists of nodes that are taken or finished. Step by step.
use Rattle.std.specs.Prelude.{ℕ, ◌≤◌, Bool, true, false, cond, ◌&&◌, List, [], ◌∷◌, ◌≡◌, refl, ◌≢◌, length, eqb, T}
use Rattle.std.proofs.Common.{sym, ◌∙◌, ap, inl, inr, eqb→eq, arith}
use Rattle.std.proofs.Math.ListN.{get_or-eq_default}
use Rattle.std.proofs.Math.Dec.{eqb_refl}
use Rattle.std.proofs.Math.Decide.{ℕ_discrete}
use Rattle.value.specs.Value.{Label, Forest, Value, nil, node, kind, NoneL, BoolL, I64L, F64L, BytesL, StringL, ListL, TupleL, SetL, FrozenSetL, DictL, GlobalL, ObjectL}
use Rattle.steps.specs.State.{Node, kidless}
use Rattle.steps.specs.Opcodes.{is_object}
use Rattle.reading.specs.Build.{Stage, Stages, fresh, taken, kept, stage, none, at}
use Rattle.reading.specs.Unfold.{In, here, there, Staged, same, other, staged, freshness, outside-nodes}
use Rattle.resolve.specs.Resolved.{Kids, Stand, s_nil, s_node, StandsFor, Frame, frame}
use Rattle.resolve.specs.Ordered.{Final, ChildrenFirst, o_next, ordered_closed, ordered_same}
use Rattle.resolve.specs.Walk.{WalkState, WalkMade, with_list, gone, overwrite, stage_r, finish_r}

-- ---- the invariant

-- what is known of a finished node
pub record Stood (t : List Node) (s : WalkState) (j : ℕ) : Type 0 where
  pub value : Value
  pub keeps : s.stages j ≡ kept value
  pub stays : gone t j value ≡ false
  pub stands : StandsFor t s.kids j value

pub record Resolves (t : List Node) (nowhere : ℕ) (s : WalkState) : Type 0 where
  pub fresh_is : (j : ℕ) → s.stages j ≡ fresh → s.kids j ≡ (at t j).kids
  pub kept_done : (j : ℕ) (v : Value) → s.stages j ≡ kept v → gone t j v ≡ false → In j s.done
  pub kept_none : (j : ℕ) (v : Value) → s.stages j ≡ kept v → gone t j v ≡ true → v ≡ none
  pub done_stands : (j : ℕ) → In j s.done → Stood t s j
  pub ordered : ChildrenFirst nowhere s.kids s.done
  pub lengths : (j : ℕ) → length (s.kids j) ≡ length (at t j).kids

-- s' comes after s: of the nodes Q, those taken or finished in s keep their lists, and all such nodes their stages
pub record WalkLater (Q : ℕ → Type 0) (s s' : WalkState) : Type 0 where
  pub stages_stay : (j : ℕ) → freshness (s.stages j) ≡ 0 → s'.stages j ≡ s.stages j
  pub kids_stay : (j : ℕ) → Q j → freshness (s.stages j) ≡ 0 → s'.kids j ≡ s.kids j
  pub more : (j : ℕ) → In j s.done → In j s'.done

abbrev pub Any : ℕ → Type 0
Any j = Unit {0}

-- what is known of a call from the state s
pub record WalkCalled (t : List Node) (nowhere : ℕ) (s : WalkState) (m : WalkMade) : Type 0 where
  pub resolves : Resolves t nowhere m.after
  pub later : WalkLater Any s m.after
  pub stands : StandsFor t m.after.kids m.slot m.value
  pub final : Final nowhere m.after.done m.slot

-- ---- stages, lists and labels

apart : (m : Stage) (v : Value) → m ≡ kept v → m ≡ taken → ⊥
apart m v p q = let z : ◌≡◌ {A = ℕ} 0 1 = cc in omega arith

old_kept : (m : Stage) (v : Value) → m ≡ kept v → freshness m ≡ 0
unfolding freshness
old_kept m v e = rw e

pub old_taken : (m : Stage) → m ≡ taken → freshness m ≡ 0
unfolding freshness
old_taken m e = rw e

pub not_old : (m : Stage) → m ≡ fresh → freshness m ≡ 0 → ⊥
unfolding freshness
not_old m e z = let o : freshness m ≡ 1 = rw e in omega arith

pub with_list-same : (i : ℕ) (l : List ℕ) (g : Kids) → with_list i l g i ≡ l
with_list-same i l g = go (eqb i i) (eqb_refl i)
  where
    go : (b : Bool) → T b → cond b l (g i) ≡ l
    go true h = refl
    go false h = absurd h

pub put_other : (i : ℕ) (l : List ℕ) (g : Kids) (j : ℕ) → j ≢ i → with_list i l g j ≡ g j
put_other i l g j n = go (eqb j i) refl
  where
    go : (b : Bool) → eqb j i ≡ b → cond b l (g j) ≡ g j
    go true e = absurd (n (eqb→eq j i (rw e tt)))
    go false e = refl

no_length : (l : List ℕ) → length l ≡ 0 → l ≡ []
no_length [] h = refl
no_length (x ∷ l) h = absurd (omega arith)

pub stage_own : (i : ℕ) (m : Stage) (d : Stages) → stage i m d i ≡ m
stage_own i m d = pick (staged i m d i)
  where
    pick : Staged i m d i → stage i m d i ≡ m
    pick (same p q) = q
    pick (other p q) = absurd (p refl)

-- a node that keeps its own label can be made
pub own_stays : (l : Label) → (is_object l && eqb (kind l) 0) ≡ false
own_stays NoneL = refl
own_stays (BoolL b) = refl
own_stays (I64L n) = refl
own_stays (F64L n) = refl
own_stays (BytesL t) = refl
own_stays (StringL t) = refl
own_stays ListL = refl
own_stays TupleL = refl
own_stays SetL = refl
own_stays FrozenSetL = refl
own_stays DictL = refl
own_stays (GlobalL m n) = refl
own_stays (ObjectL m n b) = refl

module _ (t : List Node) (nowhere : ℕ) (beyond : length t ≤ nowhere) where
  -- a node without children has an empty list
  pub childless : {s : WalkState} → Resolves t nowhere s → (j : ℕ) → (at t j).kids ≡ [] → s.kids j ≡ []
  childless {s} r j e = no_length (s.kids j) (r.lengths j ∙ ap length e)

  pub resolves_empty : {s : WalkState} → Resolves t nowhere s → s.kids nowhere ≡ []
  resolves_empty r = childless r nowhere (outside-nodes t nowhere (omega arith))

  -- `nowhere` stands for None
  pub nowhere_none : (g : Kids) → g nowhere ≡ [] → StandsFor t g nowhere none
  nowhere_none g e =
      let a : (at t nowhere).label ≡ NoneL = rw (get_or-eq_default t (kidless NoneL) beyond) in
      let c : Stand t g (g nowhere) nil = rw e s_nil in
      let x : Stand t g (nowhere ∷ []) (node (at t nowhere).label nil nil) = s_node c s_nil in
      rw a at x

  -- what finished nodes stand for is the same later
  pub later_frame : {Q : ℕ → Type 0} {s s' : WalkState} → Resolves t nowhere s → WalkLater Q s s' → s'.kids nowhere ≡ [] → ((j : ℕ) → In j s.done → Q j)
      → Frame (Final nowhere s.done) s.kids s'.kids
  later_frame {Q} {s} {s'} r l z q = record { same = go; closed = go2 }
    where
      go : (i : ℕ) → Final nowhere s.done i → s'.kids i ≡ s.kids i
      go i (inl e) = let a = resolves_empty r in rw e (z ∙ sym a)
      go i (inr m) = let o = r.done_stands i m in l.kids_stay i (q i m) (old_kept _ o.value o.keeps)

      go2 : (i : ℕ) → Final nowhere s.done i → (j : ℕ) → In j (s.kids i) → Final nowhere s.done j
      go2 i (inl e) j h = let k : In j (s.kids nowhere) = rw e at h in let k2 : In j [] = rw (resolves_empty r) at k in elim k2 [ ]
      go2 i (inr m) j h = ordered_closed r.ordered i m j h

  -- ---- each step keeps it

  pub open_not_done : {s : WalkState} → Resolves t nowhere s → (n : ℕ) → s.stages n ≡ taken → (j : ℕ) → In j s.done → j ≢ n
  open_not_done {s} r n e j m p = let o = r.done_stands j m in apart (s.stages j) o.value o.keeps (ap s.stages p ∙ e)

  pub overwrite_later : (s : WalkState) (n : ℕ) (l : List ℕ) → WalkLater (λ j. j ≢ n) s (overwrite n l s)
  overwrite_later s n l = record { stages_stay = λ j z. refl; kids_stay = λ j q z. put_other n l s.kids j q; more = λ j m. m }

  put_length : (s : WalkState) (n : ℕ) (l : List ℕ) → Resolves t nowhere s → length l ≡ length (s.kids n) → (j : ℕ)
      → length (with_list n l s.kids j) ≡ length (at t j).kids
  put_length s n l r e j = go (ℕ_discrete j n)
    where
      go : Dec (j ≡ n) → length (with_list n l s.kids j) ≡ length (at t j).kids
      go (yes p) = let a = r.lengths n in rw (p, with_list-same n l s.kids) (e ∙ a)
      go (no p) = rw (put_other n l s.kids j p) (r.lengths j)

  -- a new list, as long as the old, for a node that is taken
  pub overwrite_resolves : (s : WalkState) (n : ℕ) (l : List ℕ) → Resolves t nowhere s → s.stages n ≡ taken → length l ≡ length (s.kids n)
      → Resolves t nowhere (overwrite n l s)
  overwrite_resolves s n l r e k =
      record { fresh_is = go; kept_done = r.kept_done; kept_none = r.kept_none; done_stands = go2; ordered = ordered_same (λ i m. put_other n l s.kids i (open_not_done r n e i m)) r.ordered; lengths = put_length s n l r k }
    where
      z : with_list n l s.kids nowhere ≡ []
      z = no_length (with_list n l s.kids nowhere) (put_length s n l r k nowhere ∙ ap length (outside-nodes t nowhere (omega arith)))

      go : (j : ℕ) → s.stages j ≡ fresh → with_list n l s.kids j ≡ (at t j).kids
      go j f = put_other n l s.kids j (λ p. let a : s.stages j ≡ taken = ap s.stages p ∙ e in let q : ◌≡◌ {A = ℕ} 0 1 = cc in omega arith) ∙ r.fresh_is j f

      go2 : (j : ℕ) → In j s.done → Stood t (overwrite n l s) j
      go2 j m =
          let o = r.done_stands j m in
          record { value = o.value; keeps = o.keeps; stays = o.stays; stands = frame (later_frame r (overwrite_later s n l) z (open_not_done r n e)) only o.stands }
        where
          only : (i : ℕ) → In i (j ∷ []) → Final nowhere s.done i
          only i (there x4) = elim x4 [ ]
          only i here = inr m

  -- a stage for a fresh node: taken, or None for good
  pub stage_later : (s : WalkState) (i : ℕ) (m : Stage) → s.stages i ≡ fresh → WalkLater Any s (stage_r i m s)
  stage_later s i m e = record { stages_stay = go; kids_stay = λ j q z. refl; more = λ j h. h }
    where
      go : (j : ℕ) → freshness (s.stages j) ≡ 0 → stage i m s.stages j ≡ s.stages j
      go j z = go2 (staged i m s.stages j)
        where
          go2 : Staged i m s.stages j → stage i m s.stages j ≡ s.stages j
          go2 (same p q) = absurd (not_old (s.stages j) (ap s.stages p ∙ e) z)
          go2 (other p q) = q

  pub stage_resolves : (s : WalkState) (i : ℕ) (m : Stage) → Resolves t nowhere s → s.stages i ≡ fresh → freshness m ≡ 0
      → ((v : Value) → m ≡ kept v → (gone t i v ≡ true) × (v ≡ none))
      → Resolves t nowhere (stage_r i m s)
  stage_resolves s i m r e z g = record { fresh_is = go; kept_done = go2; kept_none = go3; done_stands = go4; ordered = r.ordered; lengths = r.lengths }
    where
      go : (j : ℕ) → stage i m s.stages j ≡ fresh → s.kids j ≡ (at t j).kids
      go j f = pick (staged i m s.stages j)
        where
          pick : Staged i m s.stages j → s.kids j ≡ (at t j).kids
          pick (same p q) = absurd (not_old m (sym q ∙ f) z)
          pick (other p q) = r.fresh_is j (sym q ∙ f)

      go2 : (j : ℕ) (v : Value) → stage i m s.stages j ≡ kept v → gone t j v ≡ false → In j s.done
      go2 j v f h = pick (staged i m s.stages j)
        where
          pick : Staged i m s.stages j → In j s.done
          pick (same p q) = let a : gone t i v ≡ true = (g v (sym q ∙ f)).0 in let b : gone t i v ≡ false = rw p at h in absurd (let c : ◌≡◌ {A = ℕ} 0 1 = cc in omega arith)
          pick (other p q) = r.kept_done j v (sym q ∙ f) h

      go3 : (j : ℕ) (v : Value) → stage i m s.stages j ≡ kept v → gone t j v ≡ true → v ≡ none
      go3 j v f h = pick (staged i m s.stages j)
        where
          pick : Staged i m s.stages j → v ≡ none
          pick (same p q) = (g v (sym q ∙ f)).1
          pick (other p q) = r.kept_none j v (sym q ∙ f) h

      go4 : (j : ℕ) → In j s.done → Stood t (stage_r i m s) j
      go4 j h = let o = r.done_stands j h in record { value = o.value; keeps = (stage_later s i m e).stages_stay j (old_kept _ o.value o.keeps) ∙ o.keeps; stays = o.stays; stands = o.stands }

  -- a taken node is finished when its list is final
  pub finish_resolves : (s : WalkState) (i : ℕ) (c : Forest) → Resolves t nowhere s → s.stages i ≡ taken → Stand t s.kids (s.kids i) c
      → ((j : ℕ) → In j (s.kids i) → Final nowhere s.done j)
      → Resolves t nowhere (finish_r t i (c, s)).after
  unfolding finish_r
  finish_resolves s i c r e w f = record { fresh_is = go; kept_done = go2; kept_none = go3; done_stands = go4; ordered = o_next (λ m. open_not_done r i e i m refl) f r.ordered; lengths = r.lengths }
    where
      v : Value
      v = record { label = (at t i).label; contents = c }

      d : Stages
      d = stage i (kept v) s.stages

      go : (j : ℕ) → d j ≡ fresh → s.kids j ≡ (at t j).kids
      go j h = pick (staged i (kept v) s.stages j)
        where
          pick : Staged i (kept v) s.stages j → s.kids j ≡ (at t j).kids
          pick (same p q) = absurd (let a : ◌≡◌ {A = ℕ} 0 1 = cc in omega arith)
          pick (other p q) = r.fresh_is j (sym q ∙ h)

      go2 : (j : ℕ) (u : Value) → d j ≡ kept u → gone t j u ≡ false → In j (i ∷ s.done)
      go2 j u h z = pick (staged i (kept v) s.stages j)
        where
          pick : Staged i (kept v) s.stages j → In j (i ∷ s.done)
          pick (same p q) = rw p here
          pick (other p q) = there (r.kept_done j u (sym q ∙ h) z)

      go3 : (j : ℕ) (u : Value) → d j ≡ kept u → gone t j u ≡ true → u ≡ none
      go3 j u h z = pick (staged i (kept v) s.stages j)
        where
          pick : Staged i (kept v) s.stages j → u ≡ none
          pick (same p q) =
              let a : kept v ≡ kept u = sym q ∙ h in
              let b : v ≡ u = cc in
              let x : gone t i v ≡ true = rw (p, ← b) at z in
              let y : gone t i v ≡ false = own_stays (at t i).label in
              absurd (let k : ◌≡◌ {A = ℕ} 0 1 = cc in omega arith)
          pick (other p q) = r.kept_none j u (sym q ∙ h) z

      go4 : (j : ℕ) → In j (i ∷ s.done) → Stood t (finish_r t i (c, s)).after j
      go4 j here = record { value = v; keeps = stage_own i (kept v) s.stages; stays = own_stays (at t i).label; stands = s_node w s_nil }
      go4 j (there m) = let o = r.done_stands j m in record { value = o.value; keeps = pick o (staged i (kept v) s.stages j); stays = o.stays; stands = o.stands }
        where
          pick : (o : Stood t s j) → Staged i (kept v) s.stages j → d j ≡ kept o.value
          pick o (same p q) = absurd (open_not_done r i e j m p)
          pick o (other p q) = q ∙ o.keeps
