-- The fuel of `build` never shows: with more of it than there are fresh nodes, `build` keeps the Rust's equations, and no fuel stands in
-- them. The code is proved against these.
use Rattle.std.specs.Prelude.{ℕ, suc, zero, ◌<◌, ◌≤◌, Bool, true, false, List, [], ◌∷◌, ◌≡◌, refl, length}
use Rattle.std.proofs.Math.Decide.{dec_lt}
use Rattle.std.proofs.Common.{arith}
use Rattle.value.specs.Value.{Forest, Value}
use Rattle.steps.specs.State.{Node}
use Rattle.reading.specs.Build.{Stage, Stages, fresh, taken, kept, stage, none, at, blocked, finish, each, build}
use Rattle.reading.specs.Unfold.{In, here, there, fresh_left, freshness, left_stage, left_less, outside-nodes}

each_left : (n : ℕ) (g : ℕ → Stages → Value × Stages) → ((j : ℕ) (c : Stages) → fresh_left (g j c).1 n ≤ fresh_left c n) → (is : List ℕ) (d : Stages) → fresh_left (each g is d).1 n ≤ fresh_left d n
unfolding each
each_left n g h [] d = omega arith
each_left n g h (i ∷ is) d = omega (arith, h i d, each_left n g h is (g i d).1)

-- two calls that agree where no more than m nodes are fresh
each_same : (n m : ℕ) (g h : ℕ → Stages → Value × Stages) → ((j : ℕ) (c : Stages) → fresh_left (g j c).1 n ≤ fresh_left c n) → (is : List ℕ) (d : Stages) → fresh_left d n ≤ m
    → ((j : ℕ) → In j is → (c : Stages) → fresh_left c n ≤ m → g j c ≡ h j c) → each g is d ≡ each h is d
unfolding each
each_same n m g h down [] d l e = refl
each_same n m g h down (i ∷ is) d l e =
    let p : g i d ≡ h i d = e i here d l in
    let q : each g is (g i d).1 ≡ each h is (g i d).1 = each_same n m g h down is (g i d).1 (omega (arith, down i d)) (λ j x. e j (there x)) in
    rw (← p, q)

finish_left : (t : List Node) (n i : ℕ) (p : Forest × Stages) → fresh_left (finish t i p).1 n ≤ fresh_left p.1 n
unfolding finish freshness
finish_left t n i p = left_stage p.1 i _ n refl

-- the four cases of a call, each with what it makes whatever the fuel
pub data BuildCase (t : List Node) (i : ℕ) (d : Stages) : Type 0 where
  copied : (v : Value) → d i ≡ kept v → ((k : ℕ) → build t (suc k) i d ≡ (v, d)) → BuildCase t i d
  inside : d i ≡ taken → ((k : ℕ) → build t (suc k) i d ≡ (none, d)) → BuildCase t i d
  stuck : d i ≡ fresh → blocked t d i ≡ true → ((k : ℕ) → build t (suc k) i d ≡ (none, stage i (kept none) d)) → BuildCase t i d
  entered : d i ≡ fresh → blocked t d i ≡ false → ((k : ℕ) → build t (suc k) i d ≡ finish t i (each (build t k) (at t i).kids (stage i taken d))) → BuildCase t i d

pub build_case : (t : List Node) (i : ℕ) (d : Stages) → BuildCase t i d
unfolding build
build_case t i d = go (d i) refl (blocked t d i) refl
  where
    go : (m : Stage) → d i ≡ m → (b : Bool) → blocked t d i ≡ b → BuildCase t i d
    go (kept v) e b f = copied v e (λ k. rw (e, build))
    go taken e b f = inside e (λ k. rw (e, build))
    go fresh e true f = stuck e f (λ k. rw (e, f, build))
    go fresh e false f = entered e f (λ k. rw (e, f, build))

build_left : (t : List Node) (n k i : ℕ) (d : Stages) → fresh_left (build t k i d).1 n ≤ fresh_left d n
unfolding build freshness
build_left t n zero i d = omega arith
build_left t n (suc k) i d = go (build_case t i d) (build_left t n k)
  where
    go : BuildCase t i d → ((j : ℕ) (c : Stages) → fresh_left (build t k j c).1 n ≤ fresh_left c n) → fresh_left (build t (suc k) i d).1 n ≤ fresh_left d n
    go (copied v e f) ih = rw (f k) (omega arith)
    go (inside e f) ih = rw (f k) (omega arith)
    go (stuck e b f) ih = rw (f k) (left_stage d i (kept none) n refl)
    go (entered e b f) ih =
        let p = each (build t k) (at t i).kids (stage i taken d) in
        rw (f k) (omega (arith, finish_left t n i p, each_left n (build t k) ih (at t i).kids (stage i taken d), left_stage d i taken n refl))

-- two calls that agree wherever fewer nodes are fresh agree on the contents of a fresh node
kids_same : (t : List Node) (g h : ℕ → Stages → Value × Stages) (i : ℕ) (d : Stages) → ((j : ℕ) (c : Stages) → fresh_left (g j c).1 (length t) ≤ fresh_left c (length t)) → d i ≡ fresh
    → ((j : ℕ) (c : Stages) → fresh_left c (length t) < fresh_left d (length t) → g j c ≡ h j c) → each g (at t i).kids (stage i taken d) ≡ each h (at t i).kids (stage i taken d)
unfolding freshness each
kids_same t g h i d down e same = go (dec_lt i (length t))
  where
    go : Dec (i < length t) → each g (at t i).kids (stage i taken d) ≡ each h (at t i).kids (stage i taken d)
    go (yes l) =
        let n = length t in
        let l₀ : fresh_left (stage i taken d) n < fresh_left d n = left_less d i taken n refl e l in
        each_same n (fresh_left (stage i taken d) n) g h down (at t i).kids (stage i taken d) (omega arith) (λ j x c y. same j c (omega arith))
    go (no l) = rw (outside-nodes t i l)

-- as much fuel as there are fresh nodes, and one more, is enough
pub build_fuel : (t : List Node) (k k' i : ℕ) (d : Stages) → fresh_left d (length t) < k → fresh_left d (length t) < k' → build t k i d ≡ build t k' i d
build_fuel t zero k' i d l l' = absurd (omega arith)
build_fuel t (suc k) zero i d l l' = absurd (omega arith)
build_fuel t (suc k) (suc k') i d l l' = go (build_case t i d) (build_fuel t k k')
  where
    go : BuildCase t i d → ((j : ℕ) (c : Stages) → fresh_left c (length t) < k → fresh_left c (length t) < k' → build t k j c ≡ build t k' j c) → build t (suc k) i d ≡ build t (suc k') i d
    go (copied v e f) ih = rw (f k, f k')
    go (inside e f) ih = rw (f k, f k')
    go (stuck e b f) ih = rw (f k, f k')
    go (entered e b f) ih = rw (f k, f k', kids_same t (build t k) (build t k') i d (build_left t (length t) k) e (λ j c m. ih j c (omega arith) (omega arith)))
