-- RULES A3.1, of depth: each descent spends one of the 64 levels. The remaining levels are `build`'s fuel: where k levels are enough, or where the
-- tree is no deeper than k, k levels make the tree. Out of levels there stands one None more, so that a tree which is cut is deeper than
-- k; hence TooDeep exactly where the tree itself is deeper than 64.
use Rattle.std.specs.Prelude.{ℕ, suc, zero, ◌+◌, ◌≤◌, List, [], ◌∷◌, ◌≡◌, refl}
use Rattle.std.proofs.Common.{zero-add, suc-add, arith}
use Rattle.value.specs.Value.{Forest, Value, one, depth}
use Rattle.steps.specs.State.{Node}
use Rattle.reading.specs.Build.{Stages, stage, taken, at, finish, each, build}
use Rattle.reading.specs.Fuel.{BuildCase, build_case, copied, inside, stuck, entered}

-- a value's depth is one more than its contents'
unfoldable pub deep : Value → ℕ
deep v = depth (one v)

each_shallow : (m : ℕ) (g h : ℕ → Stages → Value × Stages) → ((i : ℕ) (d : Stages) → deep (g i d).0 ≤ m → g i d ≡ h i d) → (is : List ℕ) (d : Stages) → depth (each g is d).0 ≤ m → each g is d ≡ each h is d
unfolding each depth deep
each_shallow m g h e [] d l = refl
each_shallow m g h e (i ∷ is) d l =
    let p : g i d ≡ h i d = e i d (omega arith) in
    let q : each g is (g i d).1 ≡ each h is (g i d).1 = each_shallow m g h e is (g i d).1 (omega arith) in
    rw (← p, q)

finish-deep : (t : List Node) (i m : ℕ) (p : Forest × Stages) → deep (finish t i p).0 ≤ suc m → depth p.0 ≤ m
unfolding finish deep depth
finish-deep t i m p h = omega arith

-- k levels were enough
pub enough : (t : List Node) (k i : ℕ) (d : Stages) → deep (build t k i d).0 ≤ k → build t k i d ≡ build t (suc k) i d
unfolding build deep depth
enough t zero i d h = absurd (omega arith)
enough t (suc k) i d h = go (build_case t i d) (enough t k)
  where
    go : BuildCase t i d → ((j : ℕ) (c : Stages) → deep (build t k j c).0 ≤ k → build t k j c ≡ build t (suc k) j c) → build t (suc k) i d ≡ build t (suc (suc k)) i d
    go (copied v e f) ih = rw (f k, f (suc k))
    go (inside e f) ih = rw (f k, f (suc k))
    go (stuck e b f) ih = rw (f k, f (suc k))
    go (entered e b f) ih =
        let p = each (build t k) (at t i).kids (stage i taken d) in
        let s : deep (finish t i p).0 ≤ suc k = rw (f k) at h in
        rw (f k, f (suc k), each_shallow k (build t k) (build t (suc k)) ih (at t i).kids (stage i taken d) (finish-deep t i k p s))

-- a tree no deeper than k, made with one level more
pub no_deeper : (t : List Node) (k i : ℕ) (d : Stages) → deep (build t (suc k) i d).0 ≤ k → build t (suc k) i d ≡ build t k i d
unfolding deep depth
no_deeper t zero i d h = absurd (omega arith)
no_deeper t (suc k) i d h = go (build_case t i d) (no_deeper t k)
  where
    go : BuildCase t i d → ((j : ℕ) (c : Stages) → deep (build t (suc k) j c).0 ≤ k → build t (suc k) j c ≡ build t k j c) → build t (suc (suc k)) i d ≡ build t (suc k) i d
    go (copied v e f) ih = rw (f k, f (suc k))
    go (inside e f) ih = rw (f k, f (suc k))
    go (stuck e b f) ih = rw (f k, f (suc k))
    go (entered e b f) ih =
        let s : deep (finish t i (each (build t (suc k)) (at t i).kids (stage i taken d))).0 ≤ suc k = rw (f (suc k)) at h in
        rw (f (suc k), f k, each_shallow k (build t (suc k)) (build t k) ih (at t i).kids (stage i taken d) (finish-deep t i k _ s))

-- so with any number of levels above k
pub levels : (t : List Node) (k j i : ℕ) (d : Stages) → deep (build t k i d).0 ≤ k → build t k i d ≡ build t (j + k) i d
levels t k zero i d h = rw zero-add
levels t k (suc j) i d h =
    let e : build t k i d ≡ build t (j + k) i d = levels t k j i d h in
    let l : deep (build t (j + k) i d).0 ≤ k = rw e at h in
    rw (e, suc-add) (enough t (j + k) i d (omega arith))

-- and with any number above k that makes a tree no deeper than k
pub levels_back : (t : List Node) (k j i : ℕ) (d : Stages) → deep (build t (j + k) i d).0 ≤ k → build t (j + k) i d ≡ build t k i d
levels_back t k zero i d h = rw zero-add
levels_back t k (suc j) i d h =
    let h' : deep (build t (suc (j + k)) i d).0 ≤ k = rw suc-add at h in
    let e : build t (suc (j + k)) i d ≡ build t (j + k) i d = no_deeper t (j + k) i d (omega arith) in
    rw (suc-add, e) (levels_back t k j i d (rw e at h'))
