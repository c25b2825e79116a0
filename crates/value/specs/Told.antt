-- What the comparison's answers mean, and the laws of numbers and keys that its leaves rest on.
use Prim.Native.Nat.{ℕ, suc, ◌+◌, ◌-◌, ◌^◌, ◌/◌, ◌%◌, ◌≤◌, ◌<◌, compare, Ordering}
use Rattle.std.specs.Prelude.{Bool, true, false, cond, not, List, [], ◌∷◌, ◌≡◌, ◌≢◌, refl, ◌⊎◌, T, ltb}
use Rattle.std.proofs.Common.{sym, ◌∙◌, ap, inl, inr, eqb→eq, ltb→lt, nltb→le, lit<, arith}
use Rattle.std.proofs.lemmas.Bool.Decides.{nat_tests}
use Rattle.std.proofs.Math.Dec.{is_le, compare_is_eq, nleb→lt}
use borrow.Author.Tests.{lt-ltb, le-ltb}
use Rattle.std.specs.declared.cmp.Ordering.{Ordering as Answer}
use Rattle.std.specs.declared.cmp.Ordering.TheVariants.{Less, Equal, Greater}
use Rattle.std.specs.Ordering.{nat_cmp, int_cmp, bool_cmp, ordering_then, is_ne, MatchOrdering}
use Rattle.std.specs.Cmp.Lexicographic.{slice_cmp}
use Rattle.std.specs.Int.{cast_signed}
use Rattle.std.proofs.lemmas.Int.{ints}
use lib.IntN.{pos, negsuc}
use mir.Syntax.{w64}
use Rattle.value.specs.Value.{bit}
use Rattle.value.specs.Order.{◌then◌, lex, by_value, total_order}
use Rattle.value.specs.OrderLaws.{compare_swap, lex_swap, swap}
use Rattle.value.specs.Walk.{compare_same, eq_then, lt_then, gt_then, then_end}

unfoldable pub told : Answer → Ordering
told Less = Ordering.lt
told Equal = Ordering.eq
told Greater = Ordering.gt

pub told_unequal : (o : Answer) → is_ne o ≡ true → told o ≢ Ordering.eq
unfolding told
told_unequal Less e h = cc
told_unequal Equal e h = cc
told_unequal Greater e h = cc

pub told_equal : (o : Answer) → is_ne o ≡ false → told o ≡ Ordering.eq
unfolding told
told_equal Less e = cc
told_equal Equal e = refl
told_equal Greater e = cc

-- ---- numbers

pub compare_less : (x y : ℕ) → x < y → compare x y ≡ Ordering.lt
compare_less x y h = go (compare x y) (nleb→lt x y) (eqb→eq x y)
  where
    go : (o : Ordering) → (T (not (is_le o)) → y < x) → (T (compare_is_eq o) → x ≡ y) → o ≡ Ordering.lt
    go Ordering.lt a b = refl
    go Ordering.eq a b = let e = b tt in absurd (omega arith)
    go Ordering.gt a b = let e = a tt in absurd (omega arith)

pub compare_more : (x y : ℕ) → y < x → compare x y ≡ Ordering.gt
compare_more x y h = compare_swap y x ∙ ap swap (compare_less y x h)

pub three : (x y : ℕ) → (x < y) ⊎ ((x ≡ y) ⊎ (y < x))
three x y = go (ltb x y) (ltb y x) refl refl
  where
    go : (a b : Bool) → ltb x y ≡ a → ltb y x ≡ b → (x < y) ⊎ ((x ≡ y) ⊎ (y < x))
    go true b p q = inl (ltb→lt x y (rw p tt))
    go false true p q = inr (inr (ltb→lt y x (rw q tt)))
    go false false p q = let l = nltb→le x y (rw p tt) in let m = nltb→le y x (rw q tt) in inr (inl (omega arith))

module _ (x y : ℕ) where
  pub told_numbers : told (nat_cmp x y) ≡ compare x y
  unfolding told
  told_numbers = go (three x y)
    where
      go : (x < y) ⊎ ((x ≡ y) ⊎ (y < x)) → told (nat_cmp x y) ≡ compare x y
      go (inl l) = rw (compare_less x y l) (grind (arith, nat_tests))
      go (inr (inl e)) = rw (e, compare_same y) (grind (arith, nat_tests))
      go (inr (inr l)) = rw (compare_more x y l) (grind (arith, nat_tests))

pub told_then : (a b : Answer) → told (ordering_then a b) ≡ (told a then told b)
unfolding told ◌then◌
told_then Less b = refl
told_then Equal b = refl
told_then Greater b = refl

-- what `then_with` answers, where P is what the second is known to meet
pub told_then_with : (o r : Answer) (P : Type 0) (x y : Ordering) → MatchOrdering o (r ≡ Less) P (r ≡ Greater) → told o ≡ x → (P → told r ≡ y) → told r ≡ (x then y)
unfolding told ◌then◌
told_then_with Less r P x y h e f = rw (h, ← e)
told_then_with Equal r P x y h e f = rw (← e) (f h)
told_then_with Greater r P x y h e f = rw (h, ← e)

pub told_bits : (a b : Bool) → told (bool_cmp a b) ≡ compare (bit a) (bit b)
unfolding told
told_bits false false = refl
told_bits false true = refl
told_bits true false = refl
told_bits true true = refl

-- texts by their bytes
pub told_texts : (a b : List ℕ) → told (slice_cmp nat_cmp a b) ≡ lex a b
unfolding told lex
told_texts [] [] = refl
told_texts [] (y ∷ b) = refl
told_texts (x ∷ a) [] = refl
told_texts (x ∷ a) (y ∷ b) = told_then (nat_cmp x y) (slice_cmp nat_cmp a b) ∙ rw (told_numbers x y, told_texts a b)

-- ---- integers and floats by their keys

pub lex_same : (s : List ℕ) → lex s s ≡ Ordering.eq
unfolding lex
lex_same [] = refl
lex_same (x ∷ s) = rw (compare_same x) (eq_then _ ∙ lex_same s)

same_sign : (k x y : ℕ) → lex (k ∷ x ∷ []) (k ∷ y ∷ []) ≡ compare x y
unfolding lex
same_sign k x y = rw (compare_same k) (simp (eq_then, then_end))

-- a float's key by exponent and significand, then by the number itself
fields-less : (k e s x f u y : ℕ) → (e < f) ⊎ ((e ≡ f) × (s < u)) → lex (k ∷ e ∷ s ∷ x ∷ []) (k ∷ f ∷ u ∷ y ∷ []) ≡ Ordering.lt
unfolding lex
fields-less k e s x f u y (inl h) = rw (compare_same k, compare_less e f h) (simp (eq_then, lt_then))
fields-less k e s x f u y (inr h) = rw (h.0, compare_same k, compare_same f, compare_less s u h.1) (simp (eq_then, lt_then))

exponent : ℕ → ℕ
exponent x = x / 2 ^ 52 % 2 ^ 11

significand : ℕ → ℕ
significand x = x % 2 ^ 52

-- patterns of one sign are ordered as exponent and significand are
fields : (x y : ℕ) → x / 2 ^ 63 ≡ y / 2 ^ 63 → x < y → (exponent x < exponent y) ⊎ ((exponent x ≡ exponent y) × (significand x < significand y))
unfolding exponent significand
fields x y e h = go (ltb (exponent x) (exponent y)) refl
  where
    go : (b : Bool) → ltb (exponent x) (exponent y) ≡ b → (exponent x < exponent y) ⊎ ((exponent x ≡ exponent y) × (significand x < significand y))
    go true t = inl (ltb→lt (exponent x) (exponent y) (rw t tt))
    go false t = let l = nltb→le (exponent x) (exponent y) (rw t tt) in inr (omega arith, omega arith)

-- a key that is less where x is below y is ordered as the numbers are
by_numbers : (f : ℕ → List ℕ) (P : ℕ → Type 0) → ((x y : ℕ) → P x → P y → x < y → lex (f x) (f y) ≡ Ordering.lt) → (x y : ℕ) → P x → P y → lex (f x) (f y) ≡ compare x y
by_numbers f P h x y p q = go (three x y)
  where
    go : (x < y) ⊎ ((x ≡ y) ⊎ (y < x)) → lex (f x) (f y) ≡ compare x y
    go (inl l) = h x y p q l ∙ sym (compare_less x y l)
    go (inr (inl e)) = rw e (lex_same (f y) ∙ sym (compare_same y))
    go (inr (inr l)) = lex_swap (f y) (f x) ∙ ap swap (h y x q p l) ∙ sym (compare_more x y l)

-- and where it is the other way round
by_numbers_back : (f : ℕ → List ℕ) (P : ℕ → Type 0) → ((x y : ℕ) → P x → P y → x < y → lex (f y) (f x) ≡ Ordering.lt) → (x y : ℕ) → P x → P y → lex (f x) (f y) ≡ compare y x
by_numbers_back f P h x y p q = go (three x y)
  where
    go : (x < y) ⊎ ((x ≡ y) ⊎ (y < x)) → lex (f x) (f y) ≡ compare y x
    go (inl l) = lex_swap (f y) (f x) ∙ ap swap (h x y p q l) ∙ sym (compare_more y x l)
    go (inr (inl e)) = rw e (lex_same (f y) ∙ sym (compare_same y))
    go (inr (inr l)) = h y x q p l ∙ sym (compare_less y x l)

module _ (x y : ℕ) where
  low_key : (z : ℕ) → z < 2 ^ 63 → total_order z ≡ 1 ∷ exponent z ∷ significand z ∷ z ∷ []
  unfolding exponent significand
  low_key z h = rw (lt-ltb z (2 ^ 63) h)

  high_key : (z : ℕ) → 2 ^ 63 ≤ z → total_order z ≡ 0 ∷ (2 ^ 11 - 1 - exponent z) ∷ (2 ^ 52 - 1 - significand z) ∷ z ∷ []
  unfolding exponent significand
  high_key z h = rw (le-ltb z (2 ^ 63) h)

  pub floats_low : x < 2 ^ 63 → y < 2 ^ 63 → lex (total_order x) (total_order y) ≡ compare x y
  floats_low = by_numbers total_order (λ z. z < 2 ^ 63) (λ a b p q l. rw (low_key a p, low_key b q) (fields-less 1 _ _ _ _ _ _ (fields a b (omega arith) l))) x y

  pub floats_mixed : x < 2 ^ 63 → 2 ^ 63 ≤ y → lex (total_order x) (total_order y) ≡ Ordering.gt
  unfolding lex
  floats_mixed p q = rw (low_key x p, high_key y q, compare_more 1 0 (lit< tt)) (gt_then _)

  pub ints_low : x < 2 ^ 63 → y < 2 ^ 63 → lex (by_value x) (by_value y) ≡ compare x y
  ints_low p q = rw (lt-ltb x (2 ^ 63) p, lt-ltb y (2 ^ 63) q) (same_sign 1 x y)

  pub ints_high : 2 ^ 63 ≤ x → 2 ^ 63 ≤ y → lex (by_value x) (by_value y) ≡ compare x y
  ints_high p q = rw (le-ltb x (2 ^ 63) p, le-ltb y (2 ^ 63) q) (same_sign 0 x y)

  pub ints_mixed : x < 2 ^ 63 → 2 ^ 63 ≤ y → lex (by_value x) (by_value y) ≡ Ordering.gt
  unfolding lex
  ints_mixed p q = rw (lt-ltb x (2 ^ 63) p, le-ltb y (2 ^ 63) q, compare_more 1 0 (lit< tt)) (gt_then _)

-- the pattern of a negative float
unfoldable pub Negative : ℕ → Type 0
Negative z = (2 ^ 63 ≤ z) × (z < 2 ^ 64)

back : (e s f u : ℕ) → e < 2 ^ 11 → f < 2 ^ 11 → s < 2 ^ 52 → u < 2 ^ 52 → (e < f) ⊎ ((e ≡ f) × (s < u)) → (2 ^ 11 - 1 - f < 2 ^ 11 - 1 - e) ⊎ ((2 ^ 11 - 1 - f ≡ 2 ^ 11 - 1 - e) × (2 ^ 52 - 1 - u < 2 ^ 52 - 1 - s))
back e s f u a b c d (inl h) = inl (omega arith)
back e s f u a b c d (inr h) = inr (omega arith, omega arith)

pub floats_high : (x y : ℕ) → Negative x → Negative y → lex (total_order x) (total_order y) ≡ compare y x
unfolding Negative exponent significand
floats_high = by_numbers_back total_order Negative (λ a b p q l.
    rw (high_key 0 0 a p.0, high_key 0 0 b q.0) (fields-less 0 _ _ _ _ _ _ (back (exponent a) (significand a) (exponent b) (significand b) (omega arith) (omega arith) (omega arith) (omega arith) (fields a b (omega arith) l))))

-- numbers that are moved by one sum stay in order, and turn where they are taken from one number
shifted : (x y k : ℕ) → compare (x + k) (y + k) ≡ compare x y
shifted x y k = go (three x y)
  where
    go : (x < y) ⊎ ((x ≡ y) ⊎ (y < x)) → compare (x + k) (y + k) ≡ compare x y
    go (inl l) = compare_less _ _ (omega arith) ∙ sym (compare_less x y l)
    go (inr (inl e)) = rw e (compare_same _ ∙ sym (compare_same y))
    go (inr (inr l)) = compare_more _ _ (omega arith) ∙ sym (compare_more x y l)

turned : (x y k : ℕ) → x ≤ k → y ≤ k → compare (k - x) (k - y) ≡ compare y x
turned x y k p q = go (three x y)
  where
    go : (x < y) ⊎ ((x ≡ y) ⊎ (y < x)) → compare (k - x) (k - y) ≡ compare y x
    go (inl l) = compare_more _ _ (omega arith) ∙ sym (compare_more y x l)
    go (inr (inl e)) = rw e (compare_same _ ∙ sym (compare_same y))
    go (inr (inr l)) = compare_less _ _ (omega arith) ∙ sym (compare_less y x l)

-- where a float stands among all patterns
abbrev pub float_rank : ℕ → ℕ
float_rank n = cond (ltb n (2 ^ 63)) (n + 2 ^ 63) (2 ^ 64 - 1 - n)

-- what stands the other way round
pub lex_turned : (f : ℕ → List ℕ) (x y : ℕ) → lex (f y) (f x) ≡ Ordering.gt → lex (f x) (f y) ≡ Ordering.lt
lex_turned f x y e = lex_swap (f y) (f x) ∙ ap swap e

is_low : (n : ℕ) → (n < 2 ^ 63) ⊎ (2 ^ 63 ≤ n)
is_low n = go (ltb n (2 ^ 63)) refl
  where
    go : (b : Bool) → ltb n (2 ^ 63) ≡ b → (n < 2 ^ 63) ⊎ (2 ^ 63 ≤ n)
    go true e = inl (ltb→lt n (2 ^ 63) (rw e tt))
    go false e = inr (nltb→le n (2 ^ 63) (rw e tt))

module _ (x y : ℕ) (p : x < 2 ^ 64) (q : y < 2 ^ 64) where
  low_rank : (n : ℕ) → n < 2 ^ 63 → float_rank n ≡ n + 2 ^ 63
  low_rank n h = rw (lt-ltb n (2 ^ 63) h)

  high_rank : (n : ℕ) → 2 ^ 63 ≤ n → float_rank n ≡ 2 ^ 64 - 1 - n
  high_rank n h = rw (le-ltb n (2 ^ 63) h)

  -- floats are in the order of their ranks
  pub told_floats : told (nat_cmp (float_rank x) (float_rank y)) ≡ lex (total_order x) (total_order y)
  unfolding Negative
  told_floats = told_numbers (float_rank x) (float_rank y) ∙ go (is_low x) (is_low y)
    where
      go : (x < 2 ^ 63) ⊎ (2 ^ 63 ≤ x) → (y < 2 ^ 63) ⊎ (2 ^ 63 ≤ y) → compare (float_rank x) (float_rank y) ≡ lex (total_order x) (total_order y)
      go (inl a) (inl b) = rw (low_rank x a, low_rank y b) (shifted x y (2 ^ 63) ∙ sym (floats_low x y a b))
      go (inl a) (inr b) = rw (low_rank x a, high_rank y b) (compare_more _ _ (omega arith) ∙ sym (floats_mixed x y a b))
      go (inr a) (inl b) = rw (high_rank x a, low_rank y b) (compare_less _ _ (omega arith) ∙ sym (lex_turned total_order x y (floats_mixed y x b a)))
      go (inr a) (inr b) = rw (high_rank x a, high_rank y b) (turned x y (2 ^ 64 - 1) (omega arith) (omega arith) ∙ sym (floats_high x y (a, p) (b, q)))

  low_int : (n : ℕ) → n < 2 ^ 63 → cast_signed w64 n ≡ pos n
  low_int n h = rw (lt-ltb n (2 ^ 63) h)

  high_int : (n : ℕ) → 2 ^ 63 ≤ n → cast_signed w64 n ≡ negsuc (2 ^ 64 - suc n)
  high_int n h = rw (le-ltb n (2 ^ 63) h)

  -- integers are in the order of what their bits say
  pub told_ints : told (int_cmp (cast_signed w64 x) (cast_signed w64 y)) ≡ lex (by_value x) (by_value y)
  unfolding told
  told_ints = go (is_low x) (is_low y)
    where
      low : (x < y) ⊎ ((x ≡ y) ⊎ (y < x)) → told (int_cmp (pos x) (pos y)) ≡ compare x y
      low (inl l) = rw (compare_less x y l) (grind (arith, ints, nat_tests))
      low (inr (inl e)) = rw (e, compare_same y) (grind (arith, ints, nat_tests))
      low (inr (inr l)) = rw (compare_more x y l) (grind (arith, ints, nat_tests))

      high : (x < y) ⊎ ((x ≡ y) ⊎ (y < x)) → told (int_cmp (negsuc (2 ^ 64 - suc x)) (negsuc (2 ^ 64 - suc y))) ≡ compare x y
      high (inl l) = rw (compare_less x y l) (grind (arith, ints, nat_tests))
      high (inr (inl e)) = rw (e, compare_same y) (grind (arith, ints, nat_tests))
      high (inr (inr l)) = rw (compare_more x y l) (grind (arith, ints, nat_tests))

      go : (x < 2 ^ 63) ⊎ (2 ^ 63 ≤ x) → (y < 2 ^ 63) ⊎ (2 ^ 63 ≤ y) → told (int_cmp (cast_signed w64 x) (cast_signed w64 y)) ≡ lex (by_value x) (by_value y)
      go (inl a) (inl b) = rw (low_int x a, low_int y b) (low (three x y) ∙ sym (ints_low x y a b))
      go (inl a) (inr b) = rw (low_int x a, high_int y b) (sym (ints_mixed x y a b))
      go (inr a) (inl b) = rw (high_int x a, low_int y b) (sym (lex_turned by_value x y (ints_mixed y x b a)))
      go (inr a) (inr b) = rw (high_int x a, high_int y b) (high (three x y) ∙ sym (ints_high x y a b))
