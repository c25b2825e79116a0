-- Sums over all numbers below a bound, and over a list of them: a list of different numbers is no longer than its bound, and what counts only
-- where a list has the number comes to no more than over the list.
use Rattle.std.specs.Prelude.{ℕ, suc, zero, ◌+◌, ◌<◌, ◌≤◌, Bool, true, false, cond, List, [], ◌∷◌, ◌≡◌, refl, ◌≢◌, length, eqb}
use Rattle.std.proofs.Common.{ap, eq-eqb, ne_eqb, arith}
use Rattle.std.proofs.Math.Decide.{ℕ_discrete}
use Rattle.reading.specs.Unfold.{In, here, there}
use Rattle.resolve.specs.Resolved.{Kids}
use Rattle.resolve.specs.Ordered.{ChildrenFirst, o_nil, o_next, in_rest}

-- of f at each number below n
unfoldable pub up_to : (ℕ → ℕ) → ℕ → ℕ
up_to f zero = 0
up_to f (suc n) = up_to f n + f n

-- of f at each number of a list
unfoldable pub sum_over : (ℕ → ℕ) → List ℕ → ℕ
sum_over f [] = 0
sum_over f (i ∷ l) = f i + sum_over f l

pub up_to_least : (f g : ℕ → ℕ) (n : ℕ) → ((j : ℕ) → f j ≤ g j) → up_to f n ≤ up_to g n
unfolding up_to
up_to_least f g zero h = omega arith
up_to_least f g (suc n) h = omega (arith, up_to_least f g n h, h n)

pub over_least : (f g : ℕ → ℕ) (l : List ℕ) → ((j : ℕ) → In j l → f j ≤ g j) → sum_over f l ≤ sum_over g l
unfolding sum_over
over_least f g [] h = omega arith
over_least f g (i ∷ l) h = omega (arith, over_least f g l (λ j m. h j (there m)), h i here)

-- ---- different numbers

pub data Apart : List ℕ → Type 0 where
  apart_nil : Apart []
  apart_next : {i : ℕ} {l : List ℕ} → ¬ In i l → Apart l → Apart (i ∷ l)

pub ordered-apart : {nowhere : ℕ} {g : Kids} {done : List ℕ} → ChildrenFirst nowhere g done → Apart done
ordered-apart o_nil = apart_nil
ordered-apart (o_next f c o) = apart_next f (ordered-apart o)

-- 1 where the list has it
abbrev one_if_in : List ℕ → ℕ → ℕ
one_if_in [] j = 0
one_if_in (i ∷ l) j = cond (eqb j i) 1 (one_if_in l j)

has_most : (l : List ℕ) (j : ℕ) → one_if_in l j ≤ 1
has_most [] j = omega arith
has_most (i ∷ l) j = go (eqb j i) (has_most l j)
  where
    go : (b : Bool) → one_if_in l j ≤ 1 → cond b 1 (one_if_in l j) ≤ 1
    go true h = omega arith
    go false h = h

has_not : (l : List ℕ) (j : ℕ) → ¬ In j l → one_if_in l j ≡ 0
has_not [] j n = refl
has_not (i ∷ l) j n =
    let d : j ≢ i = λ p. n (rw p here) in
    rw (ne_eqb j i d) (has_not l j (λ m. n (there m)))

-- f is below g, and less at i
up_to_more : (f g : ℕ → ℕ) (i n : ℕ) → ((j : ℕ) → f j ≤ g j) → f i + 1 ≤ g i → i < n → up_to f n + 1 ≤ up_to g n
unfolding up_to
up_to_more f g i zero h k l = absurd (omega arith)
up_to_more f g i (suc n) h k l = go (ℕ_discrete i n) (up_to_more f g i n h k)
  where
    go : Dec (i ≡ n) → (i < n → up_to f n + 1 ≤ up_to g n) → up_to f n + f n + 1 ≤ up_to g n + g n
    go (yes p) ih = let k' : f n + 1 ≤ g n = rw p at k in omega (arith, up_to_least f g n h)
    go (no p) ih = omega (arith, ih (omega arith), h n)

up_to_ones : (f : ℕ → ℕ) (n : ℕ) → ((j : ℕ) → f j ≤ 1) → up_to f n ≤ n
unfolding up_to
up_to_ones f zero h = omega arith
up_to_ones f (suc n) h = omega (arith, up_to_ones f n h, h n)

counted : (n : ℕ) {l : List ℕ} → Apart l → ((j : ℕ) → In j l → j < n) → length l ≤ up_to (one_if_in l) n
counted n apart_nil b = omega arith
counted n (apart_next {i} {l} d a) b =
    let ih = counted n a (λ j m. b j (there m)) in
    let z = has_not l i d in
    let e : one_if_in (i ∷ l) i ≡ 1 = rw (eq-eqb i i refl) in
    omega (arith, up_to_more (one_if_in l) (one_if_in (i ∷ l)) i n more (omega arith) (b i here))
  where
    more : (j : ℕ) → one_if_in l j ≤ one_if_in (i ∷ l) j
    more j = go (eqb j i) (has_most l j)
      where
        go : (c : Bool) → one_if_in l j ≤ 1 → one_if_in l j ≤ cond c 1 (one_if_in l j)
        go true h = h
        go false h = omega arith

pub apart-short : (n : ℕ) {l : List ℕ} → Apart l → ((j : ℕ) → In j l → j < n) → length l ≤ n
apart-short n {l} a b = omega (arith, counted n a b, up_to_ones (one_if_in l) n (has_most l))

-- ---- what counts only where a list has the number

-- f but for i
abbrev without : ℕ → (ℕ → ℕ) → ℕ → ℕ
without i f j = cond (eqb j i) 0 (f j)

without_one : (f : ℕ → ℕ) (i n : ℕ) → (n ≤ i → up_to f n ≤ up_to (without i f) n) × (up_to f n ≤ f i + up_to (without i f) n)
unfolding up_to
without_one f i zero = (λ h. omega arith, omega arith)
without_one f i (suc n) = go (ℕ_discrete n i) (without_one f i n)
  where
    go : Dec (n ≡ i) → (n ≤ i → up_to f n ≤ up_to (without i f) n) × (up_to f n ≤ f i + up_to (without i f) n)
        → (suc n ≤ i → up_to f n + f n ≤ up_to (without i f) n + without i f n) × (up_to f n + f n ≤ f i + (up_to (without i f) n + without i f n))
    go (yes p) ih = let e : f n ≡ f i = ap f p in (λ h. absurd (omega arith), omega (arith, ih.0 (omega arith)))
    go (no p) ih = let e = ne_eqb n i p in rw e (λ h. omega (arith, ih.0 (omega arith)), omega (arith, ih.1))

pub up_to-over : (f : ℕ → ℕ) (n : ℕ) (l : List ℕ) → ((j : ℕ) → j < n → f j ≢ 0 → In j l) → up_to f n ≤ sum_over f l
unfolding sum_over up_to
up_to-over f n [] h = none n h
  where
    none : (n : ℕ) → ((j : ℕ) → j < n → f j ≢ 0 → In j []) → up_to f n ≤ 0
    none zero h = omega arith
    none (suc n) h = zip (ℕ_discrete (f n) 0) (none n (λ j k d. h j (omega arith) d))
      where
        zip : Dec (f n ≡ 0) → up_to f n ≤ 0 → up_to f n + f n ≤ 0
        zip (yes p) ih = omega arith
        zip (no p) ih = elim (h n (omega arith) p) [ ]
up_to-over f n (i ∷ l) h =
    let ih : up_to (without i f) n ≤ sum_over (without i f) l = up_to-over (without i f) n l less in
    omega (arith, (without_one f i n).1, over_least (without i f) f l (λ j m. part j))
  where
    part : (j : ℕ) → without i f j ≤ f j
    part j = go (eqb j i)
      where
        go : (b : Bool) → cond b 0 (f j) ≤ f j
        go true = omega arith
        go false = omega arith

    less : (j : ℕ) → j < n → without i f j ≢ 0 → In j l
    less j k d = go (ℕ_discrete j i)
      where
        go : Dec (j ≡ i) → In j l
        go (yes p) = absurd (d (rw (eq-eqb j i p)))
        go (no p) = let e = ne_eqb j i p in in_rest p (h j k (λ z. d (rw e z)))
