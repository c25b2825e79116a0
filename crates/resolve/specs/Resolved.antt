-- What a node of a graph stands for. A graph gives each node a list of node numbers; `Builder` leaves None where a node is inside itself or
-- an Object can never be made, and there the list has the number of no node. `at` reads that as an empty None, so it is no case of its own.
use Rattle.std.specs.Prelude.{ℕ, List, [], ◌∷◌, ◌≡◌, refl}
use Rattle.std.proofs.Common.{ap₂}
use Rattle.value.specs.Value.{Label, Forest, Value, one, nil, node}
use Rattle.steps.specs.State.{Node}
use Rattle.reading.specs.Build.{at}
use Rattle.reading.specs.Unfold.{In, here, there}

abbrev pub Kids : Type 0
Kids = ℕ → List ℕ

-- A list of nodes stands for as many values: each node for its label, with what its list stands for as contents.
pub data Stand (t : List Node) (g : Kids) : List ℕ → Forest → Type 0 where
  s_nil : Stand t g [] nil
  s_node : {i : ℕ} {is : List ℕ} {c r : Forest} → Stand t g (g i) c → Stand t g is r → Stand t g (i ∷ is) (node (at t i).label c r)

-- one node, one value
abbrev pub StandsFor : List Node → Kids → ℕ → Value → Type 0
StandsFor t g i v = Stand t g (i ∷ []) (one v)

-- ---- no node stands for two values

pub stand_unique : {t : List Node} {g : Kids} {is : List ℕ} {f h : Forest} → Stand t g is f → Stand t g is h → f ≡ h
stand_unique s_nil s_nil = refl
stand_unique (s_node a b) (s_node c d) = let p = stand_unique a c in let q = stand_unique b d in cc

pub value_unique : {t : List Node} {g : Kids} {i : ℕ} {v w : Value} → StandsFor t g i v → StandsFor t g i w → v ≡ w
value_unique {v = v} {w = w} a b =
    let p : one v ≡ one w = stand_unique a b in
    let l : v.label ≡ w.label = cc in
    let c : v.contents ≡ w.contents = cc in
    ap₂ (λ (x : Label) (y : Forest). let u : Value = record { label = x; contents = y } in u) l c

-- ---- changes elsewhere

-- h has the lists of g for the nodes P, and these lead to no others: what P stand for is the same in both (`frame`)
pub record Frame (P : ℕ → Type 0) (g h : Kids) : Type 0 where
  pub same : (i : ℕ) → P i → h i ≡ g i
  pub closed : (i : ℕ) → P i → (j : ℕ) → In j (g i) → P j

pub frame : {t : List Node} {P : ℕ → Type 0} {g h : Kids} {is : List ℕ} {f : Forest} → Frame P g h → ((i : ℕ) → In i is → P i) → Stand t g is f
    → Stand t h is f
frame k p s_nil = s_nil
frame {t = t} {P = P} {h = h} k p (s_node {i} {is} {c} {r} a b) =
    let q : P i = p i here in
    let x : Stand t h (h i) c = rw (k.same i q) (frame k (k.closed i q) a) in
    s_node x (frame k (λ j m. p j (there m)) b)

-- ---- put together and taken apart

pub stand_before : {t : List Node} {g : Kids} {i : ℕ} {is : List ℕ} {l : Label} {c r : Forest} → Stand t g (i ∷ []) (node l c nil) → Stand t g is r
    → Stand t g (i ∷ is) (node l c r)
stand_before (s_node a s_nil) b = s_node a b

pub stand_label : {t : List Node} {g : Kids} {i : ℕ} {is : List ℕ} {l : Label} {c r : Forest} → Stand t g (i ∷ is) (node l c r) → l ≡ (at t i).label
stand_label (s_node a b) = refl

pub stand_in : {t : List Node} {g : Kids} {i : ℕ} {is : List ℕ} {l : Label} {c r : Forest} → Stand t g (i ∷ is) (node l c r) → Stand t g (g i) c
stand_in (s_node a b) = a
