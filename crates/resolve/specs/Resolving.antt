-- Every call of the walk, with however many levels, keeps to `Resolves`, and the number that it gives its owner stands for its value.
use Prim.Native.Nat.{ℕ, suc, zero, ◌≤◌}
use Rattle.std.specs.Prelude.{Bool, true, false, cond, ◌≢◌}
use mathlib.Core.List.{List, [], ◌∷◌, ◌++◌, append_assoc}
use Rattle.std.proofs.Math.Path.{◌≡◌, refl}
use Rattle.std.proofs.Common.{sym, ◌∙◌, ap, length-append, arith}
use Rattle.std.proofs.Math.Logic.{inl, inr}
use Rattle.std.proofs.Math.ListN.{length}
use Rattle.utf8.specs.Rows.{and_left}
use Rattle.value.specs.Value.{Forest, Value}
use Rattle.steps.specs.State.{Node}
use Rattle.steps.specs.Opcodes.{is_object}
use Rattle.reading.specs.Build.{Stage, Stages, fresh, taken, kept, stage, none, at, first_taken, blocked}
use Rattle.reading.specs.Unfold.{In, here, there, Staged, same, other, staged, freshness}
use Rattle.resolve.specs.Resolved.{Stand, s_nil, s_node, StandsFor, frame, stand_before}
use Rattle.resolve.specs.Ordered.{Final}
use Rattle.resolve.specs.Walk.{WalkState, WalkMade, gone, overwrite, stage_r, each_r, finish_r, walk}
use Rattle.resolve.specs.Resolves.{Resolves, WalkLater, Any, WalkCalled, old_taken, not_old, with_list-same, stage_own, nowhere_none, resolves_empty, later_frame, open_not_done, overwrite_later, overwrite_resolves, stage_later, stage_resolves, finish_resolves}

-- an Object that is left as None is gone
pub object-gone : (t : List Node) (i : ℕ) → is_object (at t i).label ≡ true → (v : Value) → kept none ≡ kept v → (gone t i v ≡ true) × (v ≡ none)
object-gone t i o v q = let z : none ≡ v = cc in let o' = o in (rw (← z, o'), sym z)

module _ (t : List Node) (nowhere : ℕ) (beyond : length t ≤ nowhere) where
  -- ---- over a list of children

  pub later_all : {s s' : WalkState} (Q : ℕ → Type 0) → WalkLater Any s s' → WalkLater Q s s'
  later_all Q l = record { stages_stay = l.stages_stay; kids_stay = λ j q z. l.kids_stay j tt z; more = l.more }

  pub later_then : {Q : ℕ → Type 0} {s s' s'' : WalkState} → WalkLater Q s s' → WalkLater Q s' s'' → WalkLater Q s s''
  later_then {Q} {s} {s'} {s''} a b =
      record { stages_stay = λ j z. b.stages_stay j (old j z) ∙ a.stages_stay j z; kids_stay = λ j q z. b.kids_stay j q (old j z) ∙ a.kids_stay j q z; more = λ j m. b.more j (a.more j m) }
    where
      old : (j : ℕ) → freshness (s.stages j) ≡ 0 → freshness (s'.stages j) ≡ 0
      old j z = rw (a.stages_stay j z) z

  -- when the children of node n behind `is` are done: the numbers now in their places, and what these stand for
  pub record Resolved (n : ℕ) (is : List ℕ) (s : WalkState) (p : Forest × WalkState) : Type 0 where
    pub news : List ℕ
    pub resolves : Resolves t nowhere p.1
    pub later : WalkLater (λ j. j ≢ n) s p.1
    pub held : p.1.kids n ≡ is ++ news
    pub stands : Stand t p.1.kids news p.0
    pub final : (j : ℕ) → In j news → Final nowhere p.1.done j

  pub each_resolves : (g : ℕ → WalkState → WalkMade) → ((i : ℕ) (s : WalkState) → Resolves t nowhere s → WalkCalled t nowhere s (g i s))
      → (n : ℕ) (is js : List ℕ) (s : WalkState) → Resolves t nowhere s → s.stages n ≡ taken → s.kids n ≡ is ++ js → Resolved n is s (each_r g n is js s)
  unfolding each_r
  each_resolves g h n is [] s r e k = record { news = []; resolves = r; later = record { stages_stay = λ j z. refl; kids_stay = λ j q z. refl; more = λ j m. m }; held = k; stands = s_nil; final = λ j m. elim m [ ] }
  each_resolves g h n is (i ∷ js) s r e k =
      let p = g i s in
      let a : WalkCalled t nowhere s p = h i s r in
      let e₁ : p.after.stages n ≡ taken = a.later.stages_stay n (old_taken _ e) ∙ e in
      let l = is ++ (p.slot ∷ js) in
      let s₂ = overwrite n l p.after in
      let r₂ : Resolves t nowhere s₂ = overwrite_resolves t nowhere beyond p.after n l a.resolves e₁ (same_length a) in
      let k₂ : s₂.kids n ≡ (is ++ (p.slot ∷ [])) ++ js = with_list-same n l p.after.kids ∙ simp append_assoc in
      let b : Resolved n (is ++ (p.slot ∷ [])) s₂ (each_r g n (is ++ (p.slot ∷ [])) js s₂) = each_resolves g h n (is ++ (p.slot ∷ [])) js s₂ r₂ e₁ k₂ in
      let s₃ = (each_r g n (is ++ (p.slot ∷ [])) js s₂).1 in
      let l₃ : WalkLater (λ j. j ≢ n) p.after s₃ = later_then (overwrite_later t nowhere beyond p.after n l) b.later in
      let w : StandsFor t s₃.kids p.slot p.value = frame (later_frame t nowhere beyond a.resolves l₃ (resolves_empty t nowhere beyond b.resolves) (open_not_done t nowhere beyond a.resolves n e₁)) (only a) a.stands in
      record {
        news = p.slot ∷ b.news;
        resolves = b.resolves;
        later = later_then (later_all (λ j. j ≢ n) a.later) l₃;
        held = b.held ∙ append_assoc is (p.slot ∷ []) b.news;
        stands = stand_before w b.stands;
        final = fin a l₃ b;
      }
    where
      -- one number takes the place of one
      same_length : {m : WalkMade} → WalkCalled t nowhere s m → length (is ++ (m.slot ∷ js)) ≡ length (m.after.kids n)
      same_length {m} a = let b : m.after.kids n ≡ is ++ (i ∷ js) = a.later.kids_stay n tt (old_taken _ e) ∙ k in rw b (simp length-append)

      only : {m : WalkMade} → WalkCalled t nowhere s m → (j : ℕ) → In j (m.slot ∷ []) → Final nowhere m.after.done j
      only {m = m} a j (there x7) = elim x7 [ ]
      only a j here = a.final

      fin : {m : WalkMade} {is' : List ℕ} {s₂ : WalkState} {q : Forest × WalkState} → WalkCalled t nowhere s m → WalkLater (λ j. j ≢ n) m.after q.1
          → (b : Resolved n is' s₂ q) → (j : ℕ) → In j (m.slot ∷ b.news) → Final nowhere q.1.done j
      fin {m = m} {q = q} a l b j here = up a.final
        where
          up : Final nowhere m.after.done j → Final nowhere q.1.done j
          up (inl z) = inl z
          up (inr z) = inr (l.more j z)
      fin a l b j (there y) = b.final j y

  -- the node is finished
  pub finish-called : (s : WalkState) (i : ℕ) (p : Forest × WalkState) → Resolves t nowhere s → s.stages i ≡ fresh → Resolved i [] (stage_r i taken s) p
      → WalkCalled t nowhere s (finish_r t i p)
  unfolding finish_r
  finish-called s i p r e a =
      let o : stage i taken s.stages i ≡ taken = stage_own i taken s.stages in
      let e₁ : p.1.stages i ≡ taken = a.later.stages_stay i (old_taken _ o) ∙ o in
      let h : p.1.kids i ≡ a.news = a.held in
      let w : Stand t p.1.kids (p.1.kids i) p.0 = rw h a.stands in
      record {
        resolves = finish_resolves t nowhere beyond p.1 i p.0 a.resolves e₁ w (λ j m. a.final j (rw h at m));
        later = record { stages_stay = go; kids_stay = λ j q z. a.later.kids_stay j (λ x. fresh_not j z x) (still j z); more = λ j m. there (a.later.more j m) };
        stands = s_node w s_nil;
        final = inr here;
      }
    where
      fresh_not : (j : ℕ) → freshness (s.stages j) ≡ 0 → j ≢ i
      fresh_not j z x = not_old (s.stages j) (ap s.stages x ∙ e) z

      unmoved : (m : Stage) (d : Stages) (j : ℕ) → j ≢ i → stage i m d j ≡ d j
      unmoved m d j n = pick (staged i m d j)
        where
          pick : Staged i m d j → stage i m d j ≡ d j
          pick (same x q) = absurd (n x)
          pick (other x q) = q

      still : (j : ℕ) → freshness (s.stages j) ≡ 0 → freshness (stage i taken s.stages j) ≡ 0
      still j z = let q = unmoved taken s.stages j (fresh_not j z) in rw q z

      go : (j : ℕ) → freshness (s.stages j) ≡ 0 → (finish_r t i p).after.stages j ≡ s.stages j
      go j z = unmoved _ p.1.stages j (fresh_not j z) ∙ (a.later.stages_stay j (still j z) ∙ unmoved taken s.stages j (fresh_not j z))

  pub take_resolves : (s : WalkState) (i : ℕ) → Resolves t nowhere s → s.stages i ≡ fresh → Resolves t nowhere (stage_r i taken s)
  unfolding freshness
  take_resolves s i r e = stage_resolves t nowhere beyond s i taken r e refl (λ v q. absurd (let z : ◌≡◌ {A = ℕ} 0 1 = cc in omega arith))

  -- ---- a call

  pub walk_resolves : (k i : ℕ) (s : WalkState) → Resolves t nowhere s → WalkCalled t nowhere s (walk t nowhere k i s)
  unfolding walk blocked freshness
  walk_resolves zero i s r = record { resolves = r; later = record { stages_stay = λ j z. refl; kids_stay = λ j q z. refl; more = λ j m. m }; stands = nowhere_none t nowhere beyond s.kids (resolves_empty t nowhere beyond r); final = inl refl }
  walk_resolves (suc k) i s r = go (s.stages i) refl (blocked t s.stages i) refl (walk_resolves k)
    where
      stay : WalkLater Any s s
      stay = record { stages_stay = λ j z. refl; kids_stay = λ j q z. refl; more = λ j m. m }

      has : (v : Value) → s.stages i ≡ kept v → (b : Bool) → gone t i v ≡ b
          → WalkCalled t nowhere s (record { slot = cond b nowhere i; value = v; after = s })
      has v e true f = record { resolves = r; later = stay; stands = let n : v ≡ none = r.kept_none i v e f in rw n (nowhere_none t nowhere beyond s.kids (resolves_empty t nowhere beyond r)); final = inl refl }
      has v e false f =
          let m : In i s.done = r.kept_done i v e f in
          let o = r.done_stands i m in
          let q : kept o.value ≡ kept v = sym o.keeps ∙ e in
          let q' : o.value ≡ v = cc in
          record { resolves = r; later = stay; stands = rw q' at o.stands; final = inr m }

      object : blocked t s.stages i ≡ true → is_object (at t i).label ≡ true
      object f = and_left (is_object (at t i).label) (first_taken s.stages (at t i).kids) f

      go : (m : Stage) → s.stages i ≡ m → (b : Bool) → blocked t s.stages i ≡ b
          → ((j : ℕ) (c : WalkState) → Resolves t nowhere c → WalkCalled t nowhere c (walk t nowhere k j c)) → WalkCalled t nowhere s (walk t nowhere (suc k) i s)
      go (kept v) e b f ih = rw (e, walk) (has v e (gone t i v) refl)
      go taken e b f ih = rw (e, walk) (record { resolves = r; later = stay; stands = nowhere_none t nowhere beyond s.kids (resolves_empty t nowhere beyond r); final = inl refl })
      go fresh e true f ih =
          rw (e, f, walk) (record { resolves = stage_resolves t nowhere beyond s i (kept none) r e refl (object-gone t i (object f)); later = stage_later t nowhere beyond s i (kept none) e; stands = nowhere_none t nowhere beyond s.kids (resolves_empty t nowhere beyond r); final = inl refl })
      go fresh e false f ih = rw (e, f, walk) (finish-called s i _ r e (each_resolves (walk t nowhere k) ih i [] (at t i).kids (stage_r i taken s) (take_resolves s i r e) (stage_own i taken s.stages) (r.fresh_is i e)))
