-- The order in which a walk finishes nodes, kept as a list with the newest in front: a node comes after all that its list has.
use Rattle.std.specs.Prelude.{ℕ, List, [], ◌∷◌, ◌≡◌, refl, ◌≢◌, ◌⊎◌}
use Rattle.std.proofs.Common.{inl, inr}
use Rattle.reading.specs.Unfold.{In, here, there}
use Rattle.resolve.specs.Resolved.{Kids}

-- a member that is not the first is one of the others
pub in_rest : {i j : ℕ} {l : List ℕ} → j ≢ i → In j (i ∷ l) → In j l
in_rest n here = absurd (n refl)
in_rest n (there x) = x

-- a number that no longer changes its meaning: that of no node, or a finished node's
abbrev pub Final : ℕ → List ℕ → ℕ → Type 0
Final nowhere done i = (i ≡ nowhere) ⊎ In i done

-- no node is there twice, and what its list has is final before it
pub data ChildrenFirst (nowhere : ℕ) (g : Kids) : List ℕ → Type 0 where
  o_nil : ChildrenFirst nowhere g []
  o_next : {i : ℕ} {done : List ℕ} → ¬ In i done → ((j : ℕ) → In j (g i) → Final nowhere done j) → ChildrenFirst nowhere g done
      → ChildrenFirst nowhere g (i ∷ done)

pub final_more : {nowhere : ℕ} {done : List ℕ} {i j : ℕ} → Final nowhere done j → Final nowhere (i ∷ done) j
final_more (inl e) = inl e
final_more (inr m) = inr (there m)

pub ordered_closed : {nowhere : ℕ} {g : Kids} {done : List ℕ} → ChildrenFirst nowhere g done → (i : ℕ) → In i done → (j : ℕ) → In j (g i)
    → Final nowhere done j
ordered_closed {nowhere = nowhere} {g = g} o_nil i x5 j h = elim x5 [ ]
ordered_closed (o_next f c o) i here j h = final_more (c j h)
ordered_closed (o_next f c o) i (there m) j h = final_more (ordered_closed o i m j h)

pub ordered_same : {nowhere : ℕ} {g h : Kids} {done : List ℕ} → ((i : ℕ) → In i done → h i ≡ g i) → ChildrenFirst nowhere g done → ChildrenFirst nowhere h done
ordered_same e o_nil = o_nil
ordered_same e (o_next {i} {done} f c o) = o_next f (λ j m. c j (rw (e i here) at m)) (ordered_same (λ j m. e j (there m)) o)
