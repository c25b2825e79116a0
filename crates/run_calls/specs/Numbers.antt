-- The numbers 1, 2 and 11 of the two public readings, exactly: 1 where a slice is short; where none is, 2 for a pickle over the limit, and
-- 11, of the whole reading alone, where the prefix reading succeeds and leaves bytes. Never 23 or 24, which are the batch's and the score's.
use Rattle.std.specs.Prelude.{ℕ, ◌<◌, Bool, true, false, cond, List, ◌↔◌, ◌≡◌, refl, length}
use mathlib.Core.Logic as Logic
use Rattle.std.proofs.Common.{sym, ◌∙◌, ap, arith}
use Rattle.refusal.specs.declared.Answer.{Answer}
use Rattle.op.specs.declared.Edition.{Edition}
use Rattle.reading.specs.Reading.{Reading, pickle_limit, prefix_in, whole_in}
use Rattle.rooms.specs.Stated.{Slices, stated, short}
use Rattle.de.specs.Call.{Left, reading, ReadCall}
use Rattle.run_laws.specs.Numbers.{LeavesBytes}
use Rattle.run_laws.proofs.Numbers.{prefix_two, prefix_never_one, prefix_never_eleven, prefix_never_lengths, prefix_never_shape, whole_two, whole_eleven, whole_never_one, whole_never_lengths, whole_never_shape}

number_of : (b : Bool) (x y : Left) → (cond b x y).answer.number ≡ cond b x.answer.number y.answer.number
number_of true x y = refl
number_of false x y = refl

-- all that is used of a call's contract: its number is 1 where a slice is short, and else its reading's
answered : (x : Reading) (l l' : Slices) (a : Answer) → ReadCall x l l' a → a.number ≡ cond (short stated l) 1 x.answer.number
unfolding reading
answered x l l' a c = ap (λ (y : Left). y.answer.number) c ∙ number_of (short stated l) _ _

-- ---- a number that is 1 where b, and else n

is_one : (b : Bool) (n m : ℕ) → m ≡ cond b 1 n → ¬ (n ≡ 1) → (m ≡ 1) ↔ (b ≡ true)
is_one true n m e h = (λ q. refl, λ q. e)
is_one false n m e h = (λ q. absurd (h (sym e ∙ q)), λ q. absurd (let z : ◌≡◌ {A = ℕ} 0 1 = cc in omega arith))

is_other : (b : Bool) (n m : ℕ) → m ≡ cond b 1 n → (k : ℕ) → ¬ (k ≡ 1) → (m ≡ k) ↔ ((b ≡ false) × (n ≡ k))
is_other true n m e k h = (λ q. absurd (h (sym q ∙ e)), λ q. absurd (let y = q.0 in let z : ◌≡◌ {A = ℕ} 0 1 = cc in omega arith))
is_other false n m e k h = (λ q. (refl, sym e ∙ q), λ q. e ∙ q.1)

module _ (x : Reading) (l l' : Slices) (a : Answer) (c : ReadCall x l l' a) where
  call_one : ¬ (x.answer.number ≡ 1) → (a.number ≡ 1) ↔ (short stated l ≡ true)
  call_one h = is_one (short stated l) x.answer.number a.number (answered x l l' a c) h

  -- any other number is the reading's, under its rule
  call_other : (k : ℕ) → ¬ (k ≡ 1) → (Rule : Type 0) → (x.answer.number ≡ k) ↔ Rule → (a.number ≡ k) ↔ ((short stated l ≡ false) × Rule)
  call_other k h Rule r = Logic.Iff.trans (is_other (short stated l) x.answer.number a.number (answered x l l' a c) k h) (Logic.Iff.and Logic.Iff.rfl r)

  -- nor has the call one that is never the reading's
  call_never : (k : ℕ) → ¬ (k ≡ 1) → ¬ (x.answer.number ≡ k) → ¬ (a.number ≡ k)
  call_never k o h e = h ((is_other (short stated l) x.answer.number a.number (answered x l l' a c) k o).0 e).1

-- ---- the two calls, in any edition

module _ (ed : Edition) (p : List ℕ) (l l' : Slices) (a : Answer) (c : ReadCall (prefix_in ed p) l l' a) where
  pub prefix-call_one : (a.number ≡ 1) ↔ (short stated l ≡ true)
  prefix-call_one = call_one (prefix_in ed p) l l' a c (prefix_never_one ed p)

  pub prefix_call_two : (a.number ≡ 2) ↔ ((short stated l ≡ false) × (pickle_limit < length p))
  prefix_call_two = call_other (prefix_in ed p) l l' a c 2 (λ q. omega arith) (pickle_limit < length p) (prefix_two ed p)

  pub prefix_call_never_eleven : ¬ (a.number ≡ 11)
  prefix_call_never_eleven = call_never (prefix_in ed p) l l' a c 11 (λ q. omega arith) (prefix_never_eleven ed p)

  pub prefix_call_never_lengths : ¬ (a.number ≡ 23)
  prefix_call_never_lengths = call_never (prefix_in ed p) l l' a c 23 (λ q. omega arith) (prefix_never_lengths ed p)

  pub prefix_call_never_shape : ¬ (a.number ≡ 24)
  prefix_call_never_shape = call_never (prefix_in ed p) l l' a c 24 (λ q. omega arith) (prefix_never_shape ed p)

module _ (ed : Edition) (p : List ℕ) (l l' : Slices) (a : Answer) (c : ReadCall (whole_in ed p) l l' a) where
  pub whole-call_one : (a.number ≡ 1) ↔ (short stated l ≡ true)
  whole-call_one = call_one (whole_in ed p) l l' a c (whole_never_one ed p)

  pub whole_call_two : (a.number ≡ 2) ↔ ((short stated l ≡ false) × (pickle_limit < length p))
  whole_call_two = call_other (whole_in ed p) l l' a c 2 (λ q. omega arith) (pickle_limit < length p) (whole_two ed p)

  pub whole_call_eleven : (a.number ≡ 11) ↔ ((short stated l ≡ false) × LeavesBytes ed p)
  whole_call_eleven = call_other (whole_in ed p) l l' a c 11 (λ q. omega arith) (LeavesBytes ed p) (whole_eleven ed p)

  pub whole_call_never_lengths : ¬ (a.number ≡ 23)
  whole_call_never_lengths = call_never (whole_in ed p) l l' a c 23 (λ q. omega arith) (whole_never_lengths ed p)

  pub whole_call_never_shape : ¬ (a.number ≡ 24)
  whole_call_never_shape = call_never (whole_in ed p) l l' a c 24 (λ q. omega arith) (whole_never_shape ed p)
