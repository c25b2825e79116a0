-- Demand 3: sharing never shows. Where nothing reachable from the root contains itself, the tree that `Builder` makes is the value
-- written out plainly from the nodes, afresh at every reference and keeping no finished part.
use Prim.Native.Nat.{ℕ, suc, zero, ◌+◌, ◌<◌, ◌≤◌}
use Rattle.std.specs.Prelude.{Bool, false, ◌≢◌, ◌⊎◌, eqb, T}
use Rattle.std.proofs.Math.Bool.{true}
use mathlib.Core.List.{List, [], ◌∷◌}
use Rattle.std.proofs.Math.Path.{◌≡◌, refl}
use Rattle.std.proofs.Common.{sym, ◌∙◌, ap, eqb→eq}
use Rattle.std.proofs.Math.Logic.{inl, inr}
use Rattle.std.proofs.Math.ListN.{length, get_or-eq_default}
use Rattle.std.proofs.Math.Dec.{eqb_refl}
use native.Mathlib.Omega.{arith}
use Rattle.std.proofs.Math.Decide.{dec_lt}
use Rattle.utf8.specs.Rows.{and_right}
use Rattle.value.specs.Value.{Label, Forest, Value, NoneL, one, nil, node}
use Rattle.steps.specs.State.{Node, kidless}
use Rattle.steps.specs.Opcodes.{is_object}
use Rattle.reading.specs.Build.{Stage, Stages, fresh, taken, kept, unbuilt, stage, is_taken, at, first_taken, blocked, finish, each, build, tree}

-- The plain write-out of nodes one after the other: for each its label over the write-out of its children, whatever has been written
-- before. A Set's child is its argument, a Dict's are all its keys and values, an Object's its arguments and its last state.
pub data WritesOut (t : List Node) : List ℕ → Forest → Type 0 where
  nothing : WritesOut t [] nil
  afresh : {i : ℕ} {is : List ℕ} {c r : Forest} → WritesOut t (at t i).kids c → WritesOut t is r → WritesOut t (i ∷ is) (node (at t i).label c r)

pub data In : ℕ → List ℕ → Type 0 where
  here : {i : ℕ} {is : List ℕ} → In i (i ∷ is)
  there : {i j : ℕ} {is : List ℕ} → In i is → In i (j ∷ is)

-- a node contains its children, and what they contain: directly or through others
pub data Contains (t : List Node) : ℕ → ℕ → Type 0 where
  direct : {i j : ℕ} → In j (at t i).kids → Contains t i j
  through : {i j k : ℕ} → In k (at t i).kids → Contains t k j → Contains t i j

-- reachable from the root: the root, and what it contains
unfoldable pub Reachable : List Node → ℕ → ℕ → Type 0
Reachable t root i = (i ≡ root) ⊎ Contains t root i

-- nothing reachable from the root contains itself
unfoldable pub NothingContainsItself : List Node → ℕ → Type 0
NothingContainsItself t root = (i : ℕ) → Reachable t root i → ¬ Contains t i i

pub contains_in : {t : List Node} {i j k : ℕ} → Contains t i j → In k (at t j).kids → Contains t i k
contains_in (direct m) h = through m (direct h)
contains_in (through m c) h = through m (contains_in c h)

-- ---- stages

-- what stands at j after i is staged: at i the stage, elsewhere what stood there
pub data Staged (i : ℕ) (m : Stage) (d : Stages) (j : ℕ) : Type 0 where
  same : j ≡ i → stage i m d j ≡ m → Staged i m d j
  other : j ≢ i → stage i m d j ≡ d j → Staged i m d j

pub staged : (i : ℕ) (m : Stage) (d : Stages) (j : ℕ) → Staged i m d j
staged i m d j = go (eqb j i) refl
  where
    go : (b : Bool) → eqb j i ≡ b → Staged i m d j
    go true e = same (eqb→eq j i (rw e tt)) (rw e)
    go false e = other (λ p. let t : T (eqb j i) = rw p (eqb_refl i) in rw e at t) (rw e)

-- how many nodes below n are fresh
unfoldable pub freshness : Stage → ℕ
freshness fresh = 1
freshness taken = 0
freshness (kept v) = 0

unfoldable pub fresh_left : Stages → ℕ → ℕ
fresh_left d zero = 0
fresh_left d (suc n) = freshness (d n) + fresh_left d n

pub left_stage : (d : Stages) (i : ℕ) (m : Stage) (n : ℕ) → freshness m ≡ 0 → fresh_left (stage i m d) n ≤ fresh_left d n
unfolding fresh_left
left_stage d i m zero z = omega arith
left_stage d i m (suc n) z = go (staged i m d n) (left_stage d i m n z)
  where
    go : Staged i m d n → fresh_left (stage i m d) n ≤ fresh_left d n → fresh_left (stage i m d) (suc n) ≤ fresh_left d (suc n)
    go (same p e) h = rw e (omega arith)
    go (other p e) h = rw e (omega arith)

pub left_less : (d : Stages) (i : ℕ) (m : Stage) (n : ℕ) → freshness m ≡ 0 → d i ≡ fresh → i < n → fresh_left (stage i m d) n < fresh_left d n
unfolding fresh_left freshness
left_less d i m zero z f h = omega arith
left_less d i m (suc n) z f h = go (staged i m d n) (left_less d i m n z f)
  where
    go : Staged i m d n → (i < n → fresh_left (stage i m d) n < fresh_left d n) → fresh_left (stage i m d) (suc n) < fresh_left d (suc n)
    go (same p e) k = let q : d n ≡ fresh = ap d p ∙ f in let l = left_stage d i m n z in rw (e, q) (omega arith)
    go (other p e) k = rw e (let l = k (omega arith) in omega arith)

-- ---- the theorem

-- a number with no node has nothing in it
pub outside-nodes : (t : List Node) (i : ℕ) → ¬ (i < length t) → (at t i).kids ≡ []
outside-nodes t i h = rw (get_or-eq_default t (kidless NoneL) (let l : length t ≤ i = omega arith in l))

-- what is known while the nodes P are being built: a taken node is one of them, and a kept node has its write-out
record KnownStages (t : List Node) (P : ℕ → Type 0) (d : Stages) : Type 0 where
  open_in : (j : ℕ) → d j ≡ taken → P j
  kept_is : (j : ℕ) (v : Value) → d j ≡ kept v → WritesOut t (j ∷ []) (one v)

-- what a call makes of nodes `is` below the nodes P
record BuiltBelow (t : List Node) (P : ℕ → Type 0) (d : Stages) (is : List ℕ) (f : Forest) (d' : Stages) : Type 0 where
  written : WritesOut t is f
  known : KnownStages t P d'
  less : fresh_left d' (length t) ≤ fresh_left d (length t)

join : {t : List Node} {i : ℕ} {is : List ℕ} {l : Label} {c r : Forest} → WritesOut t (i ∷ []) (node l c nil) → WritesOut t is r → WritesOut t (i ∷ is) (node l c r)
join (afresh a nothing) b = afresh a b

module _ (t : List Node) (Good : ℕ → Type 0) (good-in : (i j : ℕ) → Good i → In j (at t i).kids → Good j) (acyclic : (i : ℕ) → Good i → ¬ Contains t i i) where
  -- the node i may be built now
  record Ready (P : ℕ → Type 0) (i : ℕ) : Type 0 where
    good : Good i
    below : (j : ℕ) → P j → Contains t j i

  each-made : (P : ℕ → Type 0) (k : ℕ) (g : ℕ → Stages → Value × Stages)
      → ((i : ℕ) (d : Stages) → fresh_left d (length t) < k → Ready P i → KnownStages t P d → BuiltBelow t P d (i ∷ []) (one (g i d).0) (g i d).1)
      → (is : List ℕ) (d : Stages) → fresh_left d (length t) < k → ((i : ℕ) → In i is → Ready P i) → KnownStages t P d
      → BuiltBelow t P d is (each g is d).0 (each g is d).1
  unfolding each
  each-made P k g h [] d l r kn = record { written = nothing; known = kn; less = omega arith }
  each-made P k g h (i ∷ is) d l r kn =
      let a : BuiltBelow t P d (i ∷ []) (one (g i d).0) (g i d).1 = h i d l (r i here) kn in
      let b : BuiltBelow t P (g i d).1 is (each g is (g i d).1).0 (each g is (g i d).1).1 =
      each-made P k g h is (g i d).1 (omega arith) (λ j m. r j (there m)) a.known in
      record { written = join a.written b.written; known = b.known; less = omega arith }

  -- i is being built too
  With : (ℕ → Type 0) → ℕ → ℕ → Type 0
  With P i j = P j ⊎ (j ≡ i)

  taken_known : (P : ℕ → Type 0) (i : ℕ) (d : Stages) → KnownStages t P d → KnownStages t (With P i) (stage i taken d)
  unfolding With
  taken_known P i d kn = record { open_in = λ j e. go j (staged i taken d j) e; kept_is = λ j v e. go2 j v (staged i taken d j) e }
    where
      go : (j : ℕ) → Staged i taken d j → stage i taken d j ≡ taken → P j ⊎ (j ≡ i)
      go j (same p q) e = inr p
      go j (other p q) e = inl (kn.open_in j (sym q ∙ e))

      go2 : (j : ℕ) (v : Value) → Staged i taken d j → stage i taken d j ≡ kept v → WritesOut t (j ∷ []) (one v)
      go2 j v (same p q) e = absurd (let z : ◌≡◌ {A = ℕ} 0 1 = cc in omega arith)
      go2 j v (other p q) e = kn.kept_is j v (sym q ∙ e)

  kept_known : (P : ℕ → Type 0) (i : ℕ) (v : Value) (d : Stages) → WritesOut t (i ∷ []) (one v) → KnownStages t (With P i) d → KnownStages t P (stage i (kept v) d)
  unfolding With
  kept_known P i v d u kn = record { open_in = λ j e. go j (staged i (kept v) d j) e; kept_is = λ j w e. go2 j w (staged i (kept v) d j) e }
    where
      go : (j : ℕ) → Staged i (kept v) d j → stage i (kept v) d j ≡ taken → P j
      go j (same p q) e = absurd (let z : ◌≡◌ {A = ℕ} 0 1 = cc in omega arith)
      go j (other p q) e = pick_p (kn.open_in j (sym q ∙ e))
        where
          pick_p : P j ⊎ (j ≡ i) → P j
          pick_p (inl h) = h
          pick_p (inr h) = absurd (p h)

      go2 : (j : ℕ) (w : Value) → Staged i (kept v) d j → stage i (kept v) d j ≡ kept w → WritesOut t (j ∷ []) (one w)
      go2 j w (same p q) e = let s : v ≡ w = cc in rw (p, ← s) u
      go2 j w (other p q) e = kn.kept_is j w (sym q ∙ e)

  not_blocked : (P : ℕ → Type 0) (i : ℕ) (d : Stages) → Ready P i → KnownStages t P d → blocked t d i ≡ true → ⊥
  unfolding blocked first_taken
  not_blocked P i d r kn e = go (at t i).kids refl (and_right (is_object (at t i).label) (first_taken d (at t i).kids) e)
    where
      bad : (j : ℕ) → In j (at t i).kids → (m : Stage) → d j ≡ m → is_taken m ≡ true → ⊥
      bad j h fresh q f = let z : ◌≡◌ {A = ℕ} 0 1 = cc in omega arith
      bad j h taken q f = acyclic j (good-in i j r.good h) (contains_in (r.below j (kn.open_in j q)) h)
      bad j h (kept v) q f = let z : ◌≡◌ {A = ℕ} 0 1 = cc in omega arith

      go : (l : List ℕ) → (at t i).kids ≡ l → first_taken d l ≡ true → ⊥
      go [] q f = let z : ◌≡◌ {A = ℕ} 0 1 = cc in omega arith
      go (x ∷ l) q f = bad x (rw q here) (d x) refl f

  blocked_no : (P : ℕ → Type 0) (i : ℕ) (d : Stages) → Ready P i → KnownStages t P d → blocked t d i ≡ false
  blocked_no P i d r kn = go (blocked t d i) refl
    where
      go : (b : Bool) → blocked t d i ≡ b → blocked t d i ≡ false
      go true e = absurd (not_blocked P i d r kn e)
      go false e = e

  ready_in : (P : ℕ → Type 0) (i : ℕ) → Ready P i → (j : ℕ) → In j (at t i).kids → Ready (With P i) j
  unfolding With
  ready_in P i r j h = record { good = good-in i j r.good h; below = go }
    where
      go : (m : ℕ) → P m ⊎ (m ≡ i) → Contains t m j
      go m (inl x) = contains_in (r.below m x) h
      go m (inr q) = rw q (direct h)

  -- the contents of i are made: so is i
  finish-made : (P : ℕ → Type 0) (i : ℕ) (d : Stages) (p : Forest × Stages) → BuiltBelow t (With P i) (stage i taken d) (at t i).kids p.0 p.1
      → BuiltBelow t P d (i ∷ []) (one (finish t i p).0) (finish t i p).1
  unfolding finish freshness
  finish-made P i d p m =
      let v : Value = record { label = (at t i).label; contents = p.0 } in
      let u : WritesOut t (i ∷ []) (one v) = afresh m.written nothing in
      record { written = u; known = kept_known P i v p.1 u m.known; less = omega (arith, m.less, left_stage p.1 i (kept v) (length t) refl, left_stage d i taken (length t) refl) }

  build-made : (k : ℕ) (P : ℕ → Type 0) (i : ℕ) (d : Stages) → fresh_left d (length t) < k → Ready P i → KnownStages t P d
      → BuiltBelow t P d (i ∷ []) (one (build t k i d).0) (build t k i d).1
  unfolding build each freshness
  build-made zero P i d l r kn = absurd (omega arith)
  build-made (suc k) P i d l r kn = go (d i) refl (build-made k)
    where
      go : (m : Stage) → d i ≡ m
          → ((Q : ℕ → Type 0) (j : ℕ) (c : Stages) → fresh_left c (length t) < k → Ready Q j → KnownStages t Q c → BuiltBelow t Q c (j ∷ []) (one (build t k j c).0) (build t k j c).1)
          → BuiltBelow t P d (i ∷ []) (one (build t (suc k) i d).0) (build t (suc k) i d).1
      go (kept v) e ih = rw (e, build) (record { written = kn.kept_is i v e; known = kn; less = omega arith })
      go taken e ih = absurd (acyclic i r.good (r.below i (kn.open_in i e)))
      go fresh e ih = rw (e, build, blocked_no P i d r kn) (finish-made P i d _ (inside (dec_lt i (length t))))
        where
          inside : Dec (i < length t) → BuiltBelow t (With P i) (stage i taken d) (at t i).kids (each (build t k) (at t i).kids (stage i taken d)).0 (each (build t k) (at t i).kids (stage i taken d)).1
          inside (yes h) =
              each-made (With P i) k (build t k) (ih (With P i)) (at t i).kids (stage i taken d) (let l₀ = left_less d i taken (length t) refl e h in omega arith) (ready_in P i r) (taken_known P i d kn)
          inside (no h) = rw (outside-nodes t i h) (record { written = nothing; known = taken_known P i d kn; less = omega arith })

-- ---- demand 3

none_known : (t : List Node) → KnownStages t (λ (j : ℕ). ⊥) unbuilt
none_known t = record { open_in = λ j e. let z : ◌≡◌ {A = ℕ} 0 1 = cc in omega arith; kept_is = λ j v e. absurd (let z : ◌≡◌ {A = ℕ} 0 1 = cc in omega arith) }

pub fresh_left-all : (n : ℕ) → fresh_left unbuilt n ≡ n
unfolding fresh_left freshness
fresh_left-all zero = refl
fresh_left-all (suc n) = let h : fresh_left unbuilt n ≡ n = fresh_left-all n in omega arith

pub tree_writes_out : (t : List Node) (root : ℕ) → NothingContainsItself t root → WritesOut t (root ∷ []) (one (tree t root))
unfolding tree NothingContainsItself Reachable
tree_writes_out t root h =
    (build-made t (Reachable t root) into h (suc (length t)) (λ (j : ℕ). ⊥) root unbuilt (omega (arith, fresh_left-all (length t))) (record { good = inl refl; below = λ j x. absurd x }) (none_known t)).written
  where
    into : (i j : ℕ) → Reachable t root i → In j (at t i).kids → Reachable t root j
    into i j (inl q) m = inr (rw (← q) (direct m))
    into i j (inr c) m = inr (contains_in c m)

-- nodes have one plain write-out at most
pub write_out_unique : {t : List Node} {is : List ℕ} {f g : Forest} → WritesOut t is f → WritesOut t is g → f ≡ g
write_out_unique nothing nothing = refl
write_out_unique (afresh a b) (afresh c d) = let p = write_out_unique a c in let q = write_out_unique b d in cc

-- so the tree is the plain write-out
pub tree_is_write_out : (t : List Node) (root : ℕ) (f : Forest) → NothingContainsItself t root → WritesOut t (root ∷ []) f → one (tree t root) ≡ f
tree_is_write_out t root f h w = write_out_unique (tree_writes_out t root h) w

-- a plain write-out there is, and one alone
pub write_out : (t : List Node) (root : ℕ) → NothingContainsItself t root → (f : Forest) × WritesOut t (root ∷ []) f × ((g : Forest) → WritesOut t (root ∷ []) g → g ≡ f)
write_out t root h = (one (tree t root), tree_writes_out t root h, λ g w. write_out_unique w (tree_writes_out t root h))
