-- The plain write-out of demand 3 (`WritesOut` of crate reading) with a property of every node in it: it stays as long as those nodes do.
-- And a node that has a write-out, which is finite, does not contain itself.
use Rattle.std.specs.Prelude.{ℕ, suc, ◌≤◌, ◌<◌, List, [], ◌∷◌, ◌++◌, ◌≡◌, refl, length}
use Rattle.std.proofs.Common.{◌∙◌, ap, inl, inr, arith}
use Rattle.value.specs.Value.{Label, Forest, count, size, nil, node}
use Rattle.value.specs.Stands.{◌⊕◌}
use Rattle.steps.specs.State.{Node}
use Rattle.reading.specs.Build.{at}
use Rattle.reading.specs.Unfold.{WritesOut, nothing, afresh, In, here, there, Contains, direct, through, Reachable, NothingContainsItself, write_out_unique}

pub data WritesIn (t : List Node) (P : ℕ → Type 0) : List ℕ → Forest → Type 0 where
  none : WritesIn t P [] nil
  more : {i : ℕ} {is ks : List ℕ} {l : Label} {c r : Forest} → P i → at t i ≡ record { label = l; kids = ks } → WritesIn t P ks c → WritesIn t P is r → WritesIn t P (i ∷ is) (node l c r)

-- it stays where the nodes with the property do
pub writes_moved : {t u : List Node} {P Q : ℕ → Type 0} {is : List ℕ} {f : Forest} → ((j : ℕ) → P j → Q j) → ((j : ℕ) → P j → at u j ≡ at t j) → WritesIn t P is f → WritesIn u Q is f
writes_moved h e none = none
writes_moved h e (more p q a b) = more (h _ p) (e _ p ∙ q) (writes_moved h e a) (writes_moved h e b)

pub append_nothing : (f : Forest) → f ⊕ nil ≡ f
unfolding ◌⊕◌
append_nothing nil = refl
append_nothing (node l c r) = ap (node l c) (append_nothing r)

pub writes_append : {t : List Node} {P : ℕ → Type 0} {is js : List ℕ} {f g : Forest} → WritesIn t P is f → WritesIn t P js g → WritesIn t P (is ++ js) (f ⊕ g)
unfolding ◌⊕◌
writes_append none b = b
writes_append (more p q a r) b = more p q a (writes_append r b)

-- a value for each node
pub writes_count : {t : List Node} {P : ℕ → Type 0} {is : List ℕ} {f : Forest} → WritesIn t P is f → length is ≡ count f
unfolding count
writes_count none = refl
writes_count (more p q a b) = ap suc (writes_count b)

pub writes_out : {t : List Node} {P : ℕ → Type 0} {is : List ℕ} {f : Forest} → WritesIn t P is f → WritesOut t is f
writes_out none = nothing
writes_out {t} (more {i} {is} {ks} {l} {c} {r} p q a b) = let k : WritesOut t (at t i).kids c = rw q (writes_out a) in rw (← ap (λ (n : Node). n.label) q) (afresh k (writes_out b))

-- ---- nothing written out contains itself

-- the write-out of one node of several, no larger than all of it
record WriteOutOfOne (t : List Node) (i : ℕ) (n : ℕ) : Type 0 where
  pub forest : Forest
  pub out : WritesOut t (i ∷ []) forest
  pub less : size forest ≤ n

part_of : {t : List Node} {i : ℕ} {is : List ℕ} {f : Forest} → WritesOut t is f → In i is → WriteOutOfOne t i (size f)
unfolding size
part_of {t = t} {i = i} nothing x4 = elim x4 [ ]
part_of (afresh a b) here = record { forest = node _ _ nil; out = afresh a nothing; less = omega arith }
part_of (afresh a b) (there m) = let x = part_of b m in record { forest = x.forest; out = x.out; less = omega (arith, x.less) }

contained : {t : List Node} {i j : ℕ} {f : Forest} → WritesOut t (i ∷ []) f → Contains t i j → (g : Forest) × WritesOut t (j ∷ []) g × (size g < size f)
unfolding size
contained (afresh a nothing) (direct m) = let x = part_of a m in (x.forest, x.out, omega (arith, x.less))
contained (afresh a nothing) (through m c) =
    let x = part_of a m in
    let y = contained x.out c in
    (y.0, y.1, omega (arith, x.less, y.2))

itself : {t : List Node} {i : ℕ} {f : Forest} → WritesOut t (i ∷ []) f → Contains t i i → ⊥
itself w c = let y = contained w c in let e = ap size (write_out_unique w y.1) in omega (arith, y.2)

pub written_nothing_itself : {t : List Node} {root : ℕ} {f : Forest} → WritesOut t (root ∷ []) f → NothingContainsItself t root
unfolding NothingContainsItself Reachable
written_nothing_itself {t} {root} w i (inl q) c = itself w (rw q at c)
written_nothing_itself w i (inr r) c = itself (contained w r).1 c
