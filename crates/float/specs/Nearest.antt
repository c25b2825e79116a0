-- The nearest double to a fraction, ties to even, over whole numbers; and that the account of IEEE 754 in lib.Ieee gives it,
-- by `round` and so by one multiplication or division of two exact doubles.
use Prim.Native.Nat.{ℕ, zero, suc, ◌+◌, ◌-◌, ◌*◌, ◌/◌, ◌%◌, ◌^◌, ◌≤◌, ◌<◌, compare, Ordering}
use Rattle.std.specs.Prelude.{◌≡◌, refl, ◌⊎◌, true, not, eqb, Float, pos}
use Rattle.std.proofs.Common.{sym, ap, ◌∙◌, subst, inl, inr, le-div_iff_mul-le, div-lt_iff_lt-mul, div-add-mod', mul_assoc, mul_comm, mul_right_comm, mul-pos, le_trans, le_of_eq, lt_of_lt_of_le, lt_of_le_of_lt, mul-le-mul_right, mul-one, suc-mul, one-mul, mul-le-mul_left, zero-add, suc-add, add-suc, pow-suc, mod-lt, mul-div_cancel, eq-or-lt_of_le, lt_of_not-le, not-le_of_lt, mul-lt-mul_of_pos_right, le_antisymm, le_of_suc-le-suc, arith, leb→le, eqb→eq, lit≤, lit<, ltb→lt, le→leb, pow-add, pow_pos, pow_mono, shl_lt}
use Rattle.std.proofs.Math.Bool.{false}
use Rattle.std.proofs.Math.Nat.{mul-mul-mul_comm, one-le-pow, pow-le-pow_right}
use Rattle.std.proofs.Math.Dec.{T, is_le, compare_is_eq, nleb→lt, eqb_refl, not_T}
use Rattle.std.proofs.Math.Arith.{lt_of_le-ne}
use Rattle.std.proofs.Math.Pow.{pow-lt}
use Rattle.std.proofs.lemmas.Nat.{shl-shr}
use Rattle.std.specs.Float.Ieee.{nan, binary64, prec, emax, low, up, down, size, nearest, round, mul, div, of_int, to_bits, in_float, is_nan}
use Rattle.std.specs.Float.{inf, fin}
use Rattle.std.specs.Float.Ieee.Digits.{size-lt, size-le, size_reaches}
use Rattle.std.specs.Float.Ieee.Bits.{cond_no}
use Rattle.std.specs.Float.Ieee.Fits.{up_pos, down_pos, nearest-le}
use Rattle.std.specs.Float.Ieee.Order.{drop, kept}
use Rattle.std.specs.Float.Ieee.Nearest.{closest, nearest-ge}
use Rattle.std.specs.Float.Ieee.Positive.{num, den, positive, den_pos, value→cross, mul_at, positive_of_value}
use Rattle.std.specs.Float.Ieee.Back.{round_whole}
use Rattle.std.specs.Float.Ieee.Scale.{round_same, grid, overflow, round_val, normal_of_fraction}
use Rattle.std.specs.Float.Ieee.Exact.{HasValue}

-- In a format of p binary digits whose smallest value is 1 / 2 ^ l (IEEE 754's doubles: 53 and 1074), the value m * 2 ^ k / 2 ^ l,
-- whose pattern is k * 2 ^ (p - 1) + m, is the nearest to a / c. With the powers multiplied out, n = a * 2 ^ l and u = c * 2 ^ k:
-- n / u has p binary digits before its point, m is the whole number nearest to it, and at a tie the even one.
pub record Nearest (p l a c bits : ℕ) : Type 0 where
  pub m : ℕ
  pub k : ℕ
  pub digits : 2 ^ (p - 1) * (c * 2 ^ k) ≤ a * 2 ^ l
  pub no_more : a * 2 ^ l < 2 ^ p * (c * 2 ^ k)
  pub above : 2 * (a * 2 ^ l) ≤ 2 * (m * (c * 2 ^ k)) + c * 2 ^ k
  pub below : 2 * (m * (c * 2 ^ k)) ≤ 2 * (a * 2 ^ l) + c * 2 ^ k
  pub tie_up : 2 * (a * 2 ^ l) ≡ 2 * (m * (c * 2 ^ k)) + c * 2 ^ k → m % 2 ≡ 0
  pub tie_down : 2 * (m * (c * 2 ^ k)) ≡ 2 * (a * 2 ^ l) + c * 2 ^ k → m % 2 ≡ 0
  pub pattern : bits ≡ k * 2 ^ (p - 1) + m

-- ---- the whole number nearest to a fraction

abbrev Cmp : Ordering → ℕ → ℕ → Type 0
Cmp Ordering.lt a b = a < b
Cmp Ordering.eq a b = a ≡ b
Cmp Ordering.gt a b = b < a

cmp : (a b : ℕ) → Cmp (compare a b) a b
cmp a b = go (compare a b) (leb→le a b) (nleb→lt a b) (eqb→eq a b) (λ (e : a ≡ b). subst (λ (x : ℕ). T (eqb a x)) e (eqb_refl a))
  where
    go : (o : Ordering) → (T (is_le o) → a ≤ b) → (T (not (is_le o)) → b < a) → (T (compare_is_eq o) → a ≡ b) → (a ≡ b → T (compare_is_eq o)) → Cmp o a b
    go Ordering.lt h k e n = lt_of_le-ne (h tt) n
    go Ordering.eq h k e n = e tt
    go Ordering.gt h k e n = k tt

-- q is nearest to n / u, at a tie the even one
record Closest (n u q : ℕ) : Type 0 where
  above : 2 * n ≤ 2 * (q * u) + u
  below : 2 * (q * u) ≤ 2 * n + u
  tie_up : 2 * n ≡ 2 * (q * u) + u → q % 2 ≡ 0
  tie_down : 2 * (q * u) ≡ 2 * n + u → q % 2 ≡ 0

closest_is : (n u : ℕ) → 0 < u → Closest n u (closest n u)
closest_is n u U = go (n / u) (n % u) (compare (n % u * 2) u) (div-add-mod' n u) (mod-lt n U) (cmp (n % u * 2) u)
  where
    even : (x r y : ℕ) → y ≡ x % 2 → x * u + r ≡ n → r * 2 ≡ u → Closest n u (x + y)
    even x r zero f e c = record { above = omega arith; below = omega arith; tie_up = λ h. omega arith; tie_down = λ h. omega arith }
    even x r (suc zero) f e c = record { above = omega arith; below = omega arith; tie_up = λ h. omega arith; tie_down = λ h. omega arith }
    even x r (suc (suc y)) f e c = absurd (omega arith)

    go : (x r : ℕ) (o : Ordering) → x * u + r ≡ n → r < u → Cmp o (r * 2) u → Closest n u (nearest x o)
    go x r Ordering.lt e l c = record { above = omega arith; below = omega arith; tie_up = λ h. absurd (omega arith); tie_down = λ h. absurd (omega arith) }
    go x r Ordering.eq e l c = even x r (x % 2) refl e c
    go x r Ordering.gt e l c =
        let s : suc x * u ≡ x * u + u = suc-mul x u in
        record { above = omega arith; below = omega arith; tie_up = λ h. absurd (omega arith); tie_down = λ h. absurd (omega arith) }

closest_lo : (n u j : ℕ) → 0 < u → j * u ≤ n → j ≤ closest n u
closest_lo n u j U h = le_trans ((le-div_iff_mul-le U).1 h) (nearest-ge (n / u) (compare (n % u * 2) u))

closest_hi : (n u j : ℕ) → 0 < u → n < j * u → closest n u ≤ j
closest_hi n u j U h = le_trans (nearest-le (n / u) (compare (n % u * 2) u)) ((div-lt_iff_lt-mul U).1 h)

-- ---- how many digits are dropped

power-over : (p c k : ℕ) → 2 ^ p * (c * 2 ^ k) ≡ 2 ^ (p + k) * c
power-over p c k = rw (pow-add 2 p k) (ap (λ (z : ℕ). 2 ^ p * z) (mul_comm c (2 ^ k)) ∙ sym (mul_assoc (2 ^ p) (2 ^ k) c))

digits_are : (p n c : ℕ) → 0 < p → 0 < c → p ≤ size (n / c) → 2 ^ (p - 1) * (c * 2 ^ drop p n c) ≤ n
digits_are p n c P C N =
    let k = drop p n c in
    le_trans (le_of_eq (power-over (p - 1) c k)) ((le-div_iff_mul-le C).0 (size_reaches (n / c) (p - 1 + k) (omega arith)))

no_more_are : (p n c : ℕ) → 0 < c → p ≤ size (n / c) → n < 2 ^ p * (c * 2 ^ drop p n c)
no_more_are p n c C N =
    let k = drop p n c in
    let j : size (n / c) ≡ p + k = omega arith in
    lt_of_lt_of_le ((div-lt_iff_lt-mul C).0 (rw (← j) (size-lt (n / c)))) (le_of_eq (sym (power-over p c k)))

-- ---- the pattern

size_is : (n j : ℕ) → 2 ^ j ≤ n → n < 2 ^ suc j → size n ≡ suc j
size_is n j a b =
    let u : size n ≤ suc j = size-le n (suc j) b in
    let d : j < size n = lt_of_not-le (λ (g : size n ≤ j). not-le_of_lt (lt_of_lt_of_le (size-lt n) (pow_mono g)) a) in
    omega arith

-- the digits' part of a pattern
abbrev body : ℕ → ℕ → ℕ
body r n = (size n - suc r) * 2 ^ r + n / 2 ^ (size n - suc r)

body_is : (r q k : ℕ) → 2 ^ r ≤ q → q ≤ 2 ^ suc r → body r (q * 2 ^ k) ≡ k * 2 ^ r + q
body_is r q k a b = go (eq-or-lt_of_le b)
  where
    go : (q ≡ 2 ^ suc r) ⊎ (q < 2 ^ suc r) → body r (q * 2 ^ k) ≡ k * 2 ^ r + q
    go (inr l) =
        let lo : 2 ^ (r + k) ≤ q * 2 ^ k = rw (pow-add 2 r k) (mul-le-mul_right (2 ^ k) a) in
        let hi : q * 2 ^ k < 2 ^ suc (r + k) = rw suc-add at (shl_lt (suc r) k l) in
        let z = size_is (q * 2 ^ k) (r + k) lo hi in
        let d : size (q * 2 ^ k) - suc r ≡ k = omega arith in
        rw (d, shl-shr q k)
    go (inl e) =
        let t : q * 2 ^ k ≡ 2 ^ r * 2 ^ suc k = rw e (rw (pow-suc 2 r, pow-suc 2 k) (mul_right_comm (2 ^ r) 2 (2 ^ k) ∙ mul_assoc (2 ^ r) (2 ^ k) 2)) in
        let s : 2 ^ r * 2 ^ suc k ≡ 2 ^ suc (r + k) = sym (pow-add 2 r (suc k)) ∙ rw add-suc in
        let hi : 2 ^ suc (r + k) < 2 ^ suc (suc (r + k)) = pow-lt (omega arith) in
        let z : size (2 ^ suc (r + k)) ≡ suc (suc (r + k)) = size_is (2 ^ suc (r + k)) (suc (r + k)) (omega arith) hi in
        let z' : size (q * 2 ^ k) ≡ suc (suc (r + k)) = rw (t, s) z in
        let d : size (q * 2 ^ k) - suc r ≡ suc k = omega arith in
        rw (d, t, shl-shr (2 ^ r) (suc k)) (let w : 2 ^ suc r ≡ 2 * 2 ^ r = pow-suc 2 r ∙ mul_comm (2 ^ r) 2 in omega arith)

-- a double of the value q * 2 ^ k / 2 ^ 1074
bits_are : (x : Float) (q k : ℕ) → HasValue x false (q * 2 ^ k) (2 ^ low binary64) → 2 ^ 52 ≤ q → q ≤ 2 ^ 53
    → to_bits binary64 x ≡ k * 2 ^ 52 + q
unfolding to_bits
bits_are nan q k h a b = absurd h
bits_are (inf t) q k h a b = absurd h
bits_are (fin t m e) q k h a b =
    let n : m * up e * 2 ^ low binary64 / down e ≡ q * 2 ^ k = ap (λ (z : ℕ). z / down e) h.1 ∙ mul-div_cancel (q * 2 ^ k) (down_pos e) in
    rw (h.0, n, zero-add) (body_is 52 q k a b)

-- ---- `round` gives the nearest double

-- a / c is as large as the smallest normal double, and far below the infinities
pub record Middle (a c : ℕ) : Type 0 where
  pub real : 0 < c
  pub least : 2 ^ 52 * c ≤ a * 2 ^ 1074
  pub most : a < 2 ^ 128 * c

module _ (a c : ℕ) (h : Middle a c) where
  normal : prec binary64 ≤ size (a * 2 ^ 1074 / c)
  normal = normal_of_fraction binary64 a c h.real h.least

  unit : 0 < c * 2 ^ drop 53 (a * 2 ^ 1074) c
  unit = mul-pos h.real (pow_pos (drop 53 (a * 2 ^ 1074) c))

  kept_most : kept 53 (a * 2 ^ 1074) c ≤ 2 ^ 53
  kept_most = closest_hi (a * 2 ^ 1074) (c * 2 ^ drop 53 (a * 2 ^ 1074) c) (2 ^ 53) unit (no_more_are 53 (a * 2 ^ 1074) c h.real normal)

  -- 1202 = 128 + 1074
  drop_most : 53 + drop 53 (a * 2 ^ 1074) c ≤ 1202
  drop_most =
      let l = 2 ^ 1074 in
      let m : a * l < 2 ^ 1202 * c = lt_of_lt_of_le (mul-lt-mul_of_pos_right h.most (pow_pos (low binary64))) (le_of_eq (mul_right_comm (2 ^ 128) c l ∙ ap (λ (z : ℕ). z * c) (sym (pow-add 2 128 (low binary64))))) in
      let z : size (a * l / c) ≤ 1202 = size-le (a * l / c) 1202 ((div-lt_iff_lt-mul h.real).1 m) in
      let n = normal in
      omega arith

  no_overflow : grid binary64 a c < overflow binary64
  no_overflow =
      let k = drop 53 (a * 2 ^ 1074) c in
      lt_of_le_of_lt (le_trans (mul-le-mul_right (2 ^ k) kept_most) (le_trans (le_of_eq (sym (pow-add 2 53 k))) (pow_mono drop_most)))
      (pow-lt {i = 1202} {j = low binary64 + suc (emax binary64)} (lit< tt))

  pattern_is : to_bits binary64 (round binary64 false a c) ≡ drop 53 (a * 2 ^ 1074) c * 2 ^ 52 + kept 53 (a * 2 ^ 1074) c
  pattern_is =
      let n = a * 2 ^ 1074 in
      bits_are (round binary64 false a c) (kept 53 n c) (drop 53 n c) (round_val binary64 a c no_overflow)
      (closest_lo n (c * 2 ^ drop 53 n c) (2 ^ 52) unit (digits_are 53 n c (lit< tt) h.real normal))
      kept_most

  pub round_nearest : Nearest 53 1074 a c (to_bits binary64 (round binary64 false a c))
  round_nearest =
      let n = a * 2 ^ 1074 in
      let k = drop 53 n c in
      let z : Closest n (c * 2 ^ k) (kept 53 n c) = closest_is n (c * 2 ^ k) unit in
      record {
        m = kept 53 n c;
        k = k;
        digits = digits_are 53 n c (lit< tt) h.real normal;
        no_more = no_more_are 53 n c h.real normal;
        above = z.above;
        below = z.below;
        tie_up = z.tie_up;
        tie_down = z.tie_down;
        pattern = pattern_is;
      }

  -- its sign's bit is clear
  pub round_below : to_bits binary64 (round binary64 false a c) < 2 ^ 63
  round_below =
      let d = drop_most in
      let q = kept_most in
      rw pattern_is (omega arith)

  pub round_number : T (not (is_nan (round binary64 false a c)))
  unfolding is_nan
  round_number = go (round binary64 false a c) (round_val binary64 a c no_overflow)
    where
      go : (x : Float) → HasValue x false (grid binary64 a c) (2 ^ 1074) → T (not (is_nan x))
      go nan v = absurd v
      go (inf s) v = absurd v
      go (fin s m e) v = tt

-- ---- there is one nearest double

-- the next exponent's 2 ^ (p - 1) is this one's 2 ^ p
power_next : (p c k j : ℕ) → 0 < p → k < j → 2 ^ p * (c * 2 ^ k) ≤ 2 ^ (p - 1) * (c * 2 ^ j)
power_next p c k j P h =
    le_trans (le_of_eq (power-over p c k))
    (le_trans (mul-le-mul_right c (pow_mono {i = p + k} {j = p - 1 + j} (omega arith))) (le_of_eq (sym (power-over (p - 1) c j))))

module _ (p l a c : ℕ) (P : 0 < p) (C : 0 < c) where
  exponent_most : {b b' : ℕ} (x : Nearest p l a c b) (y : Nearest p l a c b') → x.k ≤ y.k
  exponent_most x y =
      le_of_suc-le-suc (lt_of_not-le (λ (h : suc y.k ≤ x.k).
      not-le_of_lt y.no_more (le_trans (power_next p c y.k x.k P h) x.digits)))

  digits_most : (u m n : ℕ) → 0 < u → 2 * (m * u) ≤ 2 * (a * 2 ^ l) + u → 2 * (a * 2 ^ l) ≤ 2 * (n * u) + u
      → (2 * (m * u) ≡ 2 * (a * 2 ^ l) + u → m % 2 ≡ 0) → (2 * (a * 2 ^ l) ≡ 2 * (n * u) + u → n % 2 ≡ 0) → m ≤ n
  digits_most u m n h b t e f =
      le_of_suc-le-suc (lt_of_not-le (λ (g : suc n ≤ m).
      let s : suc n * u ≡ n * u + u = suc-mul n u in
      let o : suc n * u ≤ m * u = mul-le-mul_right u g in
      let q : m % 2 ≡ 0 = e (omega arith) in
      let r : n % 2 ≡ 0 = f (omega arith) in
      let z : suc (suc n) * u ≤ m * u → ⊥ = λ k. (let w : suc (suc n) * u ≡ suc n * u + u = suc-mul (suc n) u in omega arith) in
      let y : suc (suc n) ≤ m → ⊥ = λ k. z (mul-le-mul_right u k) in
      omega arith))

  pub nearest_one : {b b' : ℕ} → Nearest p l a c b → Nearest p l a c b' → b ≡ b'
  nearest_one x y =
      let e : x.k ≡ y.k = le_antisymm (exponent_most x y) (exponent_most y x) in
      let u = c * 2 ^ x.k in
      let h : 0 < u = mul-pos C (pow_pos x.k) in
      let y_above : 2 * (a * 2 ^ l) ≤ 2 * (y.m * u) + u = rw e y.above in
      let y_below : 2 * (y.m * u) ≤ 2 * (a * 2 ^ l) + u = rw e y.below in
      let f : x.m ≡ y.m = le_antisymm
      (digits_most u x.m y.m h x.below y_above x.tie_down (rw e y.tie_up))
      (digits_most u y.m x.m h y_below x.above (rw e y.tie_down) x.tie_up) in
      x.pattern ∙ rw (e, f) (sym y.pattern)

-- ---- w * 10 ^ e for 1 ≤ w ≤ 2 ^ 53 and e ≤ 22, either way

pub ten_pos : (e : ℕ) → 0 < 10 ^ e
ten_pos e = one-le-pow e 10 (lit< tt)

module _ (w e : ℕ) (W : 0 < w) (H : w ≤ 2 ^ 53) (E : e ≤ 22) where
  ten_most : 10 ^ e ≤ 10 ^ 22
  ten_most = pow-le-pow_right (lit< tt) E

  pub middle_up : Middle (w * 10 ^ e) 1
  middle_up = record {
    real = lit< tt;
    least = le_trans (lit≤ tt) (le_trans (le_of_eq (sym (one-mul (2 ^ 1074)))) (mul-le-mul_right (2 ^ 1074) (mul-pos W (ten_pos e))));
    most = lt_of_le_of_lt (le_trans (mul-le-mul_right (10 ^ e) H) (mul-le-mul_left (2 ^ 53) ten_most)) (lit< tt);
  }

  pub middle_down : Middle w (10 ^ e)
  middle_down = record {
    real = ten_pos e;
    least = le_trans (mul-le-mul_left (2 ^ 52) ten_most) (le_trans (lit≤ tt) (le_trans (le_of_eq (sym (one-mul (2 ^ 1074)))) (mul-le-mul_right (2 ^ 1074) W)));
    most = lt_of_le_of_lt H (lt_of_lt_of_le (lit< tt) (le_trans (le_of_eq (sym (mul-one (2 ^ 128)))) (mul-le-mul_left (2 ^ 128) (ten_pos e))));
  }

-- ---- a product and a quotient of two exact doubles

num_pos : (x : Float) → T (positive x) → 0 < num x
num_pos nan p = absurd p
num_pos (inf s) p = absurd p
num_pos (fin true m e) p = absurd p
num_pos (fin false m e) p = mul-pos (ltb→lt 0 m p) (up_pos e)

div_is : (x y : Float) → T (positive x) → T (positive y) → div binary64 x y ≡ round binary64 false (num x * den y) (num y * den x)
unfolding div
div_is nan y p q = absurd p
div_is (inf s) y p q = absurd p
div_is (fin true m e) y p q = absurd p
div_is (fin false m e) nan p q = absurd q
div_is (fin false m e) (inf t) p q = absurd q
div_is (fin false m e) (fin true n d) p q = absurd q
div_is (fin false m e) (fin false n d) p q =
    cond_no (eqb n 0) _ _ (not_T (eqb n 0) (λ t. let z : n ≡ 0 = eqb→eq n 0 t in let h = ltb→lt 0 n q in omega arith))

-- x is a / c and y is b / d
div_at : (x y : Float) (a c b d : ℕ) → T (positive x) → T (positive y) → 0 < b → 0 < c → HasValue x false a c
    → HasValue y false b d → div binary64 x y ≡ round binary64 false (a * d) (b * c)
div_at x y a c b d p q B C h k =
    div_is x y p q
    ∙ round_same binary64 false (num x * den y) (num y * den x) (a * d) (b * c) (mul-pos (num_pos y q) (den_pos x)) (mul-pos B C)
    (ap (λ (z : ℕ). num x * den y * z) (mul_comm b c)
    ∙ mul-mul-mul_comm (num x) (den y) c b
    ∙ ap (λ (z : ℕ). z * (den y * b)) (value→cross x a c h)
    ∙ ap (λ (z : ℕ). a * den x * z) (mul_comm (den y) b ∙ sym (value→cross y b d k) ∙ mul_comm (num y) d)
    ∙ mul-mul-mul_comm a (den x) d (num y)
    ∙ ap (λ (z : ℕ). a * d * z) (mul_comm (den x) (num y)))

-- t is 10 ^ e, exactly
pub record Ten (t : Float) (e : ℕ) : Type 0 where
  pub more : T (positive t)
  pub is : HasValue t false (10 ^ e) 1

-- `w as f64` is defined
pub whole_fits : (w : ℕ) → w ≤ 2 ^ 53 → T (in_float binary64 (pos w))
unfolding in_float
whole_fits w h = le→leb w (2 ^ 53) h

module _ (w e : ℕ) (t : Float) (W : 0 < w) (H : w ≤ 2 ^ 53) (ten : Ten t e) where
  whole-value : HasValue (of_int binary64 (pos w)) false w 1
  unfolding of_int
  whole-value = round_whole binary64 false w H

  whole_positive : T (positive (of_int binary64 (pos w)))
  whole_positive = positive_of_value (of_int binary64 (pos w)) w 1 whole-value W

  -- `(w as f64) * t` and `(w as f64) / t`
  pub product : mul binary64 (of_int binary64 (pos w)) t ≡ round binary64 false (w * 10 ^ e) 1
  product = mul_at binary64 (of_int binary64 (pos w)) t w 1 (10 ^ e) 1 whole_positive ten.more (lit< tt) (lit< tt) whole-value ten.is

  pub quotient : div binary64 (of_int binary64 (pos w)) t ≡ round binary64 false w (10 ^ e)
  quotient = div_at (of_int binary64 (pos w)) t w 1 (10 ^ e) 1 whole_positive ten.more (ten_pos e) (lit< tt) whole-value ten.is ∙ rw (mul-one, mul-one)
