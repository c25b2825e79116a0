-- The numbers 1, 2 and 11 of the two readings in any edition, exactly: 2 for a pickle over the limit; 11, of the whole reading alone, where the prefix
-- reading succeeds and leaves bytes; never 1, and never 23 or 24.
use Rattle.std.specs.Prelude.{ℕ, ◌<◌, ◌≤◌, Bool, true, false, not, List, ◌↔◌, ◌≡◌, refl, length, T, leb}
use Rattle.std.proofs.Common.{sym, ◌∙◌, ap, arith, le-leb, leb-true, leb-false, lt-ltb, ltb-true, eq-eqb, eqb-true}
use Rattle.refusal.specs.declared.Refusal.{Refusal}
use Rattle.refusal.specs.declared.Refusal.TheVariants.{TooLong}
use Rattle.op.specs.declared.Edition.{Edition}
use Rattle.utf8.specs.Rows.{both}
use Rattle.value.specs.Value.{Forest, one}
use Rattle.steps.specs.State.{State, Res, ok, no, ◌>>=◌, need}
use Rattle.reading.specs.Build.{tree}
use Rattle.reading.specs.Measure.{measured}
use Rattle.reading.specs.Reading.{Reading, reading_of, pickle_limit, stopped, consumed, prefix_in, leaves, whole_in, stopped-long, prefix_refused, whole-trailing, whole-prefix}
use Rattle.run_laws.specs.Inner.{outer}
use Rattle.run_laws.proofs.InnerSteps.{inner-joined, fine, pop_inner, run_inner, measured-inner}
use Rattle.run_laws.specs.InnerSteps.{InnerOnly}
use Rattle.run_laws.specs.Numbers.{LeavesBytes}

-- the number of a reading is none of these
abbrev InnerNumber : Reading → Type 0
InnerNumber r = T (not (outer r.answer.number))

told-inner : (n : ℕ) (f : Forest) → InnerNumber (reading_of n f)
unfolding reading_of InnerOnly
told-inner n f = go (measured f) refl (measured-inner f)
  where
    go : (r : Res (Unit {0})) → measured f ≡ r → InnerOnly r → InnerNumber (reading_of n f)
    go (no why) e h = rw (e, reading_of) h
    go (ok u) e h = rw (e, reading_of) tt

-- a check that is passed
passed : {A : Type 0} (b : Bool) (why : Refusal) (f : Unit {0} → Res A) → b ≡ true → InnerOnly (f tt) → InnerOnly (need b why >>= f)
unfolding need ◌>>=◌
passed true why f e h = h
passed false why f e h = absurd (let z : ◌≡◌ {A = ℕ} 0 1 = cc in omega arith)

stopped-inner : (ed : Edition) (p : List ℕ) → length p ≤ pickle_limit → InnerOnly (stopped ed p)
unfolding stopped
stopped-inner ed p h = passed _ TooLong _ (le-leb (length p) pickle_limit h) (inner-joined _ _ (run_inner ed p) λ s. inner-joined _ _ (pop_inner s) λ q. fine _)

-- within the limit no reading up to STOP has one of these
prefix-inner : (ed : Edition) (p : List ℕ) → length p ≤ pickle_limit → InnerNumber (prefix_in ed p)
unfolding prefix_in InnerOnly
prefix-inner ed p l = go (stopped ed p) refl (stopped-inner ed p l)
  where
    go : (r : Res (State × ℕ)) → stopped ed p ≡ r → InnerOnly r → InnerNumber (prefix_in ed p)
    go (no why) e h = rw (e, prefix_in) h
    go (ok x) e h = rw (e, prefix_in) (told-inner (consumed p x.0) (one (tree x.0.nodes x.1)))

-- so a number that is one of these is another reading's
not_inner : (r : Reading) (n : ℕ) → T (outer n) → InnerNumber r → r.answer.number ≡ n → ⊥
not_inner r n o h e = both (outer n) o (rw e at h)
  where
    both : (b : Bool) → T b → T (not b) → ⊥
    both true x y = y
    both false x y = x

-- ---- the prefix reading

module _ (ed : Edition) (p : List ℕ) where
  too_long : pickle_limit < length p → (prefix_in ed p).answer.number ≡ 2
  too_long h = ap (λ (r : Reading). r.answer.number) (prefix_refused ed p TooLong (stopped-long ed p h))

  -- one of these means that the pickle is too long
  prefix-outer : (n : ℕ) → T (outer n) → (prefix_in ed p).answer.number ≡ n → pickle_limit < length p
  prefix-outer n o e = go (leb (length p) pickle_limit) refl
    where
      go : (b : Bool) → leb (length p) pickle_limit ≡ b → pickle_limit < length p
      go true q = absurd (not_inner (prefix_in ed p) n o (prefix-inner ed p (leb-true (length p) pickle_limit q)) e)
      go false q = leb-false (length p) pickle_limit q

  pub prefix_two : ((prefix_in ed p).answer.number ≡ 2) ↔ (pickle_limit < length p)
  prefix_two = (prefix-outer 2 tt, too_long)

  pub prefix_never_one : ¬ ((prefix_in ed p).answer.number ≡ 1)
  prefix_never_one e = let x = too_long (prefix-outer 1 tt e) in omega arith

  pub prefix_never_eleven : ¬ ((prefix_in ed p).answer.number ≡ 11)
  prefix_never_eleven e = let x = too_long (prefix-outer 11 tt e) in omega arith

  -- BadLengths and SheetShape are no reading's
  pub prefix_never_lengths : ¬ ((prefix_in ed p).answer.number ≡ 23)
  prefix_never_lengths e = let x = too_long (prefix-outer 23 tt e) in omega arith

  pub prefix_never_shape : ¬ ((prefix_in ed p).answer.number ≡ 24)
  prefix_never_shape e = let x = too_long (prefix-outer 24 tt e) in omega arith

-- ---- the whole reading

leaves-bytes : (ed : Edition) (p : List ℕ) → leaves p (prefix_in ed p) ≡ true → LeavesBytes ed p
unfolding leaves
leaves-bytes ed p e = let x = both e in record { succeeds = eqb-true _ 0 x.0; left = ltb-true _ (length p) x.1 }

bytes_leave : (ed : Edition) (p : List ℕ) → LeavesBytes ed p → leaves p (prefix_in ed p) ≡ true
unfolding leaves
bytes_leave ed p h = rw (eq-eqb (prefix_in ed p).answer.number 0 h.succeeds, lt-ltb (prefix_in ed p).answer.length (length p) h.left)

module _ (ed : Edition) (p : List ℕ) where
  trailing : leaves p (prefix_in ed p) ≡ true → (whole_in ed p).answer.number ≡ 11
  trailing e = ap (λ (r : Reading). r.answer.number) (whole-trailing ed p e)

  -- a number other than 11 is the prefix reading's
  by_prefix : (n : ℕ) → ¬ (n ≡ 11) → (whole_in ed p).answer.number ≡ n → (prefix_in ed p).answer.number ≡ n
  by_prefix n o e = go (leaves p (prefix_in ed p)) refl
    where
      go : (b : Bool) → leaves p (prefix_in ed p) ≡ b → (prefix_in ed p).answer.number ≡ n
      go true q = absurd (o (sym e ∙ trailing q))
      go false q = ap (λ (r : Reading). r.answer.number) (sym (whole-prefix ed p q)) ∙ e

  pub whole_eleven : ((whole_in ed p).answer.number ≡ 11) ↔ LeavesBytes ed p
  whole_eleven = (λ e. go (leaves p (prefix_in ed p)) refl e, λ h. trailing (bytes_leave ed p h))
    where
      go : (b : Bool) → leaves p (prefix_in ed p) ≡ b → (whole_in ed p).answer.number ≡ 11 → LeavesBytes ed p
      go true q e = leaves-bytes ed p q
      go false q e = absurd (prefix_never_eleven ed p (ap (λ (r : Reading). r.answer.number) (sym (whole-prefix ed p q)) ∙ e))

  pub whole_two : ((whole_in ed p).answer.number ≡ 2) ↔ (pickle_limit < length p)
  whole_two = (λ e. (prefix_two ed p).0 (by_prefix 2 (λ q. omega arith) e), λ h. go h (leaves p (prefix_in ed p)) refl)
    where
      go : pickle_limit < length p → (b : Bool) → leaves p (prefix_in ed p) ≡ b → (whole_in ed p).answer.number ≡ 2
      go h true q = absurd (let x = (leaves-bytes ed p q).succeeds in let y = (prefix_two ed p).1 h in omega arith)
      go h false q = ap (λ (r : Reading). r.answer.number) (whole-prefix ed p q) ∙ (prefix_two ed p).1 h

  pub whole_never_one : ¬ ((whole_in ed p).answer.number ≡ 1)
  whole_never_one e = prefix_never_one ed p (by_prefix 1 (λ q. omega arith) e)

  pub whole_never_lengths : ¬ ((whole_in ed p).answer.number ≡ 23)
  whole_never_lengths e = prefix_never_lengths ed p (by_prefix 23 (λ q. omega arith) e)

  pub whole_never_shape : ¬ ((whole_in ed p).answer.number ≡ 24)
  whole_never_shape e = prefix_never_shape ed p (by_prefix 24 (λ q. omega arith) e)
