-- RULES A7.1: the search for a line runs to the first newline, or to the end; one CR before the newline is dropped.
use Rattle.std.specs.Prelude.{ℕ, zero, suc, ◌+◌, ◌-◌, ◌<◌, ◌≤◌, ◌≡◌, refl, Bool, cond, List, [], ◌∷◌, eqb, length, get_or, take, drop}
use Rattle.std.proofs.Math.Path.{ap}
use Rattle.std.proofs.Common.{◌∙◌, get_or-drop, eq-eqb, ne_eqb, eqb-true}
use Rattle.std.proofs.Math.Bool.{true, false}
use native.Mathlib.Omega.{arith}
use Rattle.std.proofs.Math.ListN.{length-take, length-drop}
use Rattle.std.proofs.lemmas.Bool.{eqb-false}
use Rattle.refusal.specs.Read.{Read, got, refused}
use Rattle.refusal.specs.declared.Refusal.TheVariants.{EndOfInput}
use Rattle.input.specs.Bytes.{last_byte}

-- the place of the first newline of a list whose first byte stands at k
unfoldable pub first_from : List ℕ → ℕ → Read ℕ
first_from [] k = refused EndOfInput 0
first_from (b ∷ t) k = cond (eqb b 10) (got k) (first_from t (suc k))

-- the place of the first newline at or after `from`
unfoldable pub newline_of : List ℕ → ℕ → Read ℕ
newline_of p from = first_from (drop from p) from

-- a list less one CR at its end
unfoldable pub less_cr : List ℕ → List ℕ
less_cr l = cond (eqb (last_byte l) 13) (take (length l - 1) l) l

-- the line from `from` to the newline at `at`
unfoldable pub line_of : List ℕ → ℕ → ℕ → List ℕ
line_of p from at = less_cr (take (at - from) (drop from p))

-- the text of 49 30 31 0D 0D 0A loses one of its two CRs
example_cr : line_of (0x49 ∷ 0x30 ∷ 0x31 ∷ 0x0D ∷ 0x0D ∷ 0x0A ∷ []) 1 5 ≡ 0x30 ∷ 0x31 ∷ 0x0D ∷ []
unfolding line_of less_cr last_byte
example_cr = refl

-- ---- `newline_of` is the first newline, in both directions

-- i is the least place from `from` on with a newline
pub record First (p : List ℕ) (from i : ℕ) : Type 0 where
  pub low : from ≤ i
  pub inside : i < length p
  pub newline : get_or p i 0 ≡ 10
  pub before : (k : ℕ) → from ≤ k → k < i → get_or p k 0 ≡ 10 → ⊥

-- the same of a list from its start
pub record Hit (l : List ℕ) (j : ℕ) : Type 0 where
  pub inside : j < length l
  pub newline : get_or l j 0 ≡ 10
  pub before : (k : ℕ) → k < j → get_or l k 0 ≡ 10 → ⊥

later : (b : ℕ) (t : List ℕ) (j : ℕ) → (b ≡ 10 → ⊥) → Hit t j → Hit (b ∷ t) (suc j)
later b t j n h = record { inside = let z = h.inside in omega arith; newline = h.newline; before = prior }
  where
    prior : (k : ℕ) → k < suc j → get_or (b ∷ t) k 0 ≡ 10 → ⊥
    prior zero l e = n e
    prior (suc k) l e = h.before k (omega arith) e

hit_of : (l : List ℕ) (k i : ℕ) → first_from l k ≡ got i → (k ≤ i) × Hit l (i - k)
unfolding first_from
hit_of [] k i e = let z : ◌≡◌ {A = ℕ} 0 1 = cc in absurd (omega arith)
hit_of (b ∷ t) k i e = go (eqb b 10) refl e (hit_of t (suc k) i)
  where
    go : (c : Bool) → eqb b 10 ≡ c → cond c (got k) (first_from t (suc k)) ≡ got i → (first_from t (suc k) ≡ got i → (suc k ≤ i) × Hit t (i - suc k)) → (k ≤ i) × Hit (b ∷ t) (i - k)
    go true q f more =
        let z : k ≡ i = cc in
        let y : i - k ≡ 0 = omega arith in
        (omega arith, rw y (record { inside = omega arith; newline = eqb-true b 10 q; before = λ j l. absurd (omega arith) }))
    go false q f more =
        let m = more f in
        let l = m.0 in
        let y : i - k ≡ suc (i - suc k) = omega arith in
        (omega arith, rw y (later b t (i - suc k) (eqb-false b 10 q) m.1))

pub of_hit : (l : List ℕ) (k j : ℕ) → Hit l j → first_from l k ≡ got (k + j)
unfolding first_from
of_hit [] k j h = let z = h.inside in absurd (omega arith)
of_hit (b ∷ t) k zero h = simp (eq-eqb b 10 h.newline) (ap got (omega arith))
of_hit (b ∷ t) k (suc j) h =
    let r : Hit t j = record { inside = let z = h.inside in omega arith; newline = h.newline; before = λ m l. h.before (suc m) (omega arith) } in
    let e : suc k + j ≡ k + suc j = omega arith in
    simp (ne_eqb b 10 (h.before 0 (omega arith))) (of_hit t (suc k) j r ∙ ap got e)

pub of_none : (l : List ℕ) (k : ℕ) → ((j : ℕ) → get_or l j 0 ≡ 10 → ⊥) → first_from l k ≡ refused EndOfInput 0
unfolding first_from
of_none [] k h = refl
of_none (b ∷ t) k h = simp (ne_eqb b 10 (h 0)) (of_none t (suc k) (λ j. h (suc j)))

none_of : (l : List ℕ) (k : ℕ) → first_from l k ≡ refused EndOfInput 0 → (j : ℕ) → get_or l j 0 ≡ 10 → ⊥
unfolding first_from
none_of [] k e j q = omega arith
none_of (b ∷ t) k e j q = go (eqb b 10) refl e j q (none_of t (suc k))
  where
    go : (c : Bool) → eqb b 10 ≡ c → cond c (got k) (first_from t (suc k)) ≡ refused EndOfInput 0 → (j : ℕ) → get_or (b ∷ t) j 0 ≡ 10 → (first_from t (suc k) ≡ refused EndOfInput 0 → (j : ℕ) → get_or t j 0 ≡ 10 → ⊥) → ⊥
    go true q f j g more = let z : ◌≡◌ {A = ℕ} 0 1 = cc in omega arith
    go false q f zero g more = eqb-false b 10 q g
    go false q f (suc j) g more = more f j g

module _ (p : List ℕ) (from : ℕ) where
  pub newline_first : (i : ℕ) → newline_of p from ≡ got i → First p from i
  unfolding newline_of
  newline_first i e =
      let h = hit_of (drop from p) from i e in
      let l = h.0 in
      let b = h.1.inside in
      let s : from + (i - from) ≡ i = omega arith in
      record {
        low = l;
        inside = let c = rw length-drop at b in omega arith;
        newline = rw (get_or-drop from p (i - from) 0, s) at h.1.newline;
        before = λ k f u q. let t : from + (k - from) ≡ k = omega arith in h.1.before (k - from) (omega arith) (rw (get_or-drop from p (k - from) 0, t) q);
      }

  pub first_newline : (i : ℕ) → First p from i → newline_of p from ≡ got i
  unfolding newline_of
  first_newline i h =
      let l = h.low in
      let b = h.inside in
      let s : from + (i - from) ≡ i = omega arith in
      of_hit (drop from p) from (i - from)
      (record {
        inside = simp length-drop (omega arith);
        newline = rw (get_or-drop from p (i - from) 0, s) h.newline;
        before = λ k u q. h.before (from + k) (omega arith) (omega arith) (rw (get_or-drop from p k 0) at q);
      })
      ∙ ap got s

  -- number 3 exactly where no newline is left
  pub newline_none : newline_of p from ≡ refused EndOfInput 0 → (k : ℕ) → from ≤ k → get_or p k 0 ≡ 10 → ⊥
  unfolding newline_of
  newline_none e k f q = let t : from + (k - from) ≡ k = omega arith in none_of (drop from p) from e (k - from) (rw (get_or-drop from p (k - from) 0, t) q)

  pub none_newline : ((k : ℕ) → from ≤ k → get_or p k 0 ≡ 10 → ⊥) → newline_of p from ≡ refused EndOfInput 0
  unfolding newline_of
  none_newline h = of_none (drop from p) from (λ j q. h (from + j) (omega arith) (rw (get_or-drop from p j 0) at q))

-- ---- a line is a part of the pickle that starts at `from`

module _ (p : List ℕ) (from at : ℕ) where
  part : Bool → List ℕ
  part c = cond c (take (length (take (at - from) (drop from p)) - 1) (take (at - from) (drop from p))) (take (at - from) (drop from p))

  part_length : (c : Bool) → length (part c) ≤ at - from
  unfolding part
  part_length true = simp length-take (omega arith)
  part_length false = simp length-take (omega arith)

  pub line-length : length (line_of p from at) ≤ at - from
  unfolding line_of less_cr part
  line-length = part_length (eqb (last_byte (take (at - from) (drop from p))) 13)
