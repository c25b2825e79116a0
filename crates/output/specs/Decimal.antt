-- The text of numbers: digits to a base, decimal text without leading zeros, the decimal text of an i64. Read back by crate
-- `number`, each gives its number again.
use Rattle.std.specs.Prelude.{ℕ, suc, zero, ◌+◌, ◌-◌, ◌*◌, ◌^◌, ◌/◌, ◌%◌, ◌≤◌, ◌<◌, Bool, true, false, cond, ◌&&◌, List, [], ◌∷◌, ◌++◌, ◌≡◌, refl, eqb, ltb, leb, ℤ, pos, negsuc, length}
use Rattle.std.proofs.Math.Bool.{and-true}
use Rattle.std.proofs.Common.{append_assoc, sym, ◌∙◌, ap, pow-suc, mul_assoc, add-one, arith, lit<, length-append, ltb-true, leb-true, lt-ltb, le-ltb, le-leb, ne_eqb}
use Rattle.refusal.specs.Read.{got}
use Rattle.utf8.specs.Encode.{by_lt}
use Rattle.input.specs.Long.{in_i64, bits64}
use Rattle.number.specs.Number.{digits, decimal, natural, turned, plus, integer}

-- a digit: 0 to 9, a to f
unfoldable pub figure : ℕ → ℕ
figure d = cond (ltb d 10) (0x30 + d) (0x57 + d)

-- the last k digits of a number to a base, highest first
unfoldable pub figures : ℕ → ℕ → ℕ → List ℕ
figures base zero n = []
figures base (suc k) n = figures base k (n / base) ++ (figure (n % base) ∷ [])

-- without leading zeros, but for the last digit
unfoldable pub no_zeros : List ℕ → List ℕ
no_zeros [] = []
no_zeros (b ∷ []) = b ∷ []
no_zeros (b ∷ c ∷ s) = cond (eqb b 0x30) (no_zeros (c ∷ s)) (b ∷ c ∷ s)

-- the decimal text of a number below 10 ^ 20
unfoldable pub decimal_text : ℕ → List ℕ
decimal_text n = no_zeros (figures 10 20 n)

-- the decimal text of an i64, from its 64 bits
unfoldable pub signed_text : ℕ → List ℕ
signed_text b = cond (ltb b (2 ^ 63)) (decimal_text b) (0x2D ∷ decimal_text (2 ^ 64 - b))

-- ---- digits

pub figures-length : (base k n : ℕ) → length (figures base k n) ≡ k
unfolding figures
figures-length base zero n = refl
figures-length base (suc k) n = rw (length-append (figures base k (n / base)), figures-length base k (n / base)) (omega arith)

pub figure_low : (d : ℕ) → d < 10 → figure d ≡ 0x30 + d
unfolding figure
figure_low d h = rw (lt-ltb d 10 h)

zeros_front : (j c : ℕ) (s : List ℕ) → no_zeros (figures 10 j 0 ++ (c ∷ s)) ≡ no_zeros (c ∷ s)
unfolding no_zeros figures figure
zeros_front zero c s = refl
zeros_front (suc j) c s = rw (append_assoc (figures 10 j 0)) (zeros_front j 0x30 (c ∷ s))

no_zero : (c : ℕ) (s : List ℕ) → (c ≡ 0x30 → ⊥) → no_zeros (c ∷ s) ≡ c ∷ s
unfolding no_zeros
no_zero c [] h = refl
no_zero c (d ∷ s) h = rw (ne_eqb c 0x30 h)

pow_next : (n j : ℕ) → n < 10 ^ suc j → n / 10 < 10 ^ j
pow_next n j h = omega (arith, pow-suc 10 j)

-- a number's digits, not all of them zero, keep what stands behind them
front : (j m : ℕ) (s : List ℕ) → 0 < m → m < 10 ^ j → no_zeros (figures 10 j m ++ s) ≡ no_zeros (figures 10 j m) ++ s
unfolding figures
front zero m s p h = absurd (omega arith)
front (suc j) m s p h =
    let x = figures 10 j (m / 10) in
    let c = figure (m % 10) in
    rw (append_assoc x)
    (by_lt m 10
    (λ l.
    let e : m / 10 ≡ 0 = omega arith in
    let n : c ≡ 0x30 → ⊥ = λ q. let f = figure_low (m % 10) (omega arith) in omega arith in
    rw (e, zeros_front j c s, zeros_front j c [], no_zero c s n, no_zero c [] n))
    (λ l.
    let q : m / 10 < 10 ^ j = pow_next m j h in
    rw (front j (m / 10) (c ∷ s) (omega arith) q, front j (m / 10) (c ∷ []) (omega arith) q, append_assoc (no_zeros x))))

-- a number below ten is its digit; any other ends in its last digit
pub decimal_one : (j n : ℕ) → n < 10 → no_zeros (figures 10 (suc j) n) ≡ figure n ∷ []
unfolding figures no_zeros
decimal_one j n h =
    let e : n / 10 ≡ 0 = omega arith in
    let f : n % 10 ≡ n = omega arith in
    rw (e, f, zeros_front j (figure n) [])

pub decimal_more : (j n : ℕ) → 10 ≤ n → n < 10 ^ suc j → no_zeros (figures 10 (suc j) n) ≡ no_zeros (figures 10 j (n / 10)) ++ (figure (n % 10) ∷ [])
unfolding figures
decimal_more j n h l = front j (n / 10) (figure (n % 10) ∷ []) (omega arith) (pow_next n j l)

-- ---- how long the text is

pub either_way : {A : Type 0} (P : A → Type 0) (t : Bool) (x y : A) → P x → P y → P (cond t x y)
either_way P true x y p q = p
either_way P false x y p q = q

zeros_short : (s : List ℕ) → length (no_zeros s) ≤ length s
unfolding no_zeros
zeros_short [] = omega arith
zeros_short (b ∷ []) = omega arith
zeros_short (b ∷ c ∷ s) =
    let h = zeros_short (c ∷ s) in
    either_way (λ (u : List ℕ). length u ≤ length (b ∷ c ∷ s)) (eqb b 0x30) (no_zeros (c ∷ s)) (b ∷ c ∷ s) (omega arith) (omega arith)

zeros_some : (s : List ℕ) → 0 < length s → 0 < length (no_zeros s)
unfolding no_zeros
zeros_some [] h = h
zeros_some (b ∷ []) h = omega arith
zeros_some (b ∷ c ∷ s) h =
    either_way (λ (u : List ℕ). 0 < length u) (eqb b 0x30) (no_zeros (c ∷ s)) (b ∷ c ∷ s) (zeros_some (c ∷ s) (omega arith)) (omega arith)

pub decimal-short : (n : ℕ) → length (decimal_text n) ≤ 20
unfolding decimal_text
decimal-short n = rw (figures-length 10 20 n) at (zeros_short (figures 10 20 n))

pub decimal-some : (n : ℕ) → 0 < length (decimal_text n)
unfolding decimal_text
decimal-some n = zeros_some (figures 10 20 n) (rw (figures-length 10 20 n) (lit< tt))

pub signed-short : (b : ℕ) → length (signed_text b) ≤ 21
unfolding signed_text
signed-short b =
    let n = 2 ^ 64 - b in
    either_way (λ (u : List ℕ). length u ≤ 21) (ltb b (2 ^ 63)) (decimal_text b) (0x2D ∷ decimal_text n) (omega (arith, decimal-short b)) (omega (arith, decimal-short n))

-- ---- the text is that many digits of the number

module _ (n : ℕ) where
  pub length_one : (j : ℕ) → 0 < j → n < 10 → length (no_zeros (figures 10 j n)) ≡ 1
  length_one zero h l = absurd (omega arith)
  length_one (suc j) h l = ap length (decimal_one j n l)

  pub places : (j : ℕ) → 10 ≤ n → n < 10 ^ j → 1 < j
  places zero h l = absurd (omega arith)
  places (suc zero) h l = absurd (omega arith)
  places (suc (suc j)) h l = omega arith

  pub below_more : (j : ℕ) → 10 ≤ n → n < 10 ^ j → n / 10 < 10 ^ (j - 1)
  below_more zero h l = absurd (omega arith)
  below_more (suc j) h l = let e : suc j - 1 ≡ j = omega arith in rw e (pow_next n j l)

  pub length_more : (j : ℕ) → 10 ≤ n → n < 10 ^ j → length (no_zeros (figures 10 j n)) ≡ length (no_zeros (figures 10 (j - 1) (n / 10))) + 1
  length_more zero h l = absurd (omega arith)
  length_more (suc j) h l = let e : suc j - 1 ≡ j = omega arith in rw (decimal_more j n h l, e) (length-append (no_zeros (figures 10 j (n / 10))) _)

few_figures : (j n : ℕ) → n < 10 → figures 10 (length (no_zeros (figures 10 (suc j) n))) n ≡ no_zeros (figures 10 (suc j) n)
unfolding figures
few_figures j n l = let e : n % 10 ≡ n = omega arith in rw (decimal_one j n l, e)

text-figures : (j n : ℕ) → n < 10 ^ suc j → figures 10 (length (no_zeros (figures 10 (suc j) n))) n ≡ no_zeros (figures 10 (suc j) n)
unfolding figures
text-figures zero n h = few_figures 0 n (omega arith)
text-figures (suc j) n h =
    by_lt n 10 (few_figures (suc j) n)
    (λ l.
    let x = no_zeros (figures 10 (suc j) (n / 10)) in
    let e : length (x ++ (figure (n % 10) ∷ [])) ≡ suc (length x) = length-append x _ ∙ add-one (length x) in
    rw (decimal_more (suc j) n l h, e, text-figures j (n / 10) (pow_next n (suc j) h)))

pub decimal-figures : (n k : ℕ) → n < 2 ^ 64 → k ≡ length (decimal_text n) → figures 10 k n ≡ decimal_text n
unfolding decimal_text
decimal-figures n k h e = rw e (text-figures 19 n (omega arith))

-- ---- read back

decimal_end : (s : List ℕ) (d : ℕ) → decimal (s ++ (d ∷ [])) ≡ 10 * decimal s + (d - 0x30)
unfolding decimal
decimal_end [] d = omega arith
decimal_end (b ∷ s) d =
    let e : 10 ^ length (s ++ (d ∷ [])) ≡ 10 ^ length s * 10 = rw (length-append s, add-one, pow-suc) in
    let f : (b - 0x30) * (10 ^ length s * 10) ≡ (b - 0x30) * 10 ^ length s * 10 = sym (mul_assoc (b - 0x30) (10 ^ length s) 10) in
    rw (e, f, decimal_end s d) (omega arith)

and_assoc : (a b c : Bool) → ((a && b) && c) ≡ (a && (b && c))
and_assoc true b c = refl
and_assoc false b c = refl

digits_append : (s t : List ℕ) → digits (s ++ t) ≡ (digits s && digits t)
unfolding digits
digits_append [] t = refl
digits_append (b ∷ s) t = rw (digits_append s t) (sym (and_assoc (leb 0x30 b && leb b 0x39) (digits s) (digits t)))

digit-figure : (d : ℕ) → d < 10 → digits (figure d ∷ []) ≡ true
unfolding digits
digit-figure d h =
    let e = figure_low d h in
    rw (e, le-leb 0x30 (0x30 + d) (omega arith), le-leb (0x30 + d) 0x39 (omega arith))

record Back (n : ℕ) (s : List ℕ) : Type 0 where
  pub number : decimal s ≡ n
  pub all : digits s ≡ true

back_one : (j n : ℕ) → n < 10 → Back n (no_zeros (figures 10 (suc j) n))
unfolding decimal
back_one j n l = let e = figure_low n l in rw (decimal_one j n l) (record { number = omega arith; all = digit-figure n l })

back : (j n : ℕ) → n < 10 ^ suc j → Back n (no_zeros (figures 10 (suc j) n))
back zero n h = back_one 0 n (omega arith)
back (suc j) n h =
    by_lt n 10 (back_one (suc j) n)
    (λ l.
    let x = no_zeros (figures 10 (suc j) (n / 10)) in
    let q = back j (n / 10) (pow_next n (suc j) h) in
    let e = figure_low (n % 10) (omega arith) in
    rw (decimal_more (suc j) n l h)
    (record {
      number = decimal_end x (figure (n % 10)) ∙ omega arith;
      all = rw (digits_append x, q.all) (digit-figure (n % 10) (omega arith));
    }))

-- the sum of the digits times their powers of ten is the number
pub decimal_back : (n : ℕ) → n < 10 ^ 20 → decimal (decimal_text n) ≡ n
unfolding decimal_text
decimal_back n h = (back 19 n h).number

pub decimal-digits : (n : ℕ) → n < 10 ^ 20 → digits (decimal_text n) ≡ true
unfolding decimal_text
decimal-digits n h = (back 19 n h).all

natural_got : (s : List ℕ) → 0 < length s → digits s ≡ true → natural s ≡ got (decimal s)
unfolding natural
natural_got [] h e = absurd (omega arith)
natural_got (b ∷ s) h e = rw e

-- what de.rs's `parse` reads it as
pub natural_back : (n : ℕ) → n < 10 ^ 20 → natural (decimal_text n) ≡ got n
natural_back n h = natural_got (decimal_text n) (decimal-some n) (decimal-digits n h) ∙ ap got (decimal_back n h)

pub digit-first : (b : ℕ) (s : List ℕ) → digits (b ∷ s) ≡ true → 0x30 ≤ b
unfolding digits
digit-first b s e = go (leb 0x30 b) refl e
  where
    go : (t : Bool) → leb 0x30 b ≡ t → ((t && leb b 0x39) && digits s) ≡ true → 0x30 ≤ b
    go true l e = leb-true 0x30 b l
    go false l e = let z : ◌≡◌ {A = Bool} false true = e in absurd (let w : ◌≡◌ {A = ℕ} 0 1 = cc in omega arith)

integer_got : (s : List ℕ) → 0 < length s → digits s ≡ true → integer s ≡ got (pos (decimal s))
unfolding integer plus turned
integer_got [] h e = absurd (omega arith)
integer_got (b ∷ s) h e =
    let l = digit-first b s e in
    rw (ne_eqb b 0x2D (λ q. omega arith), ne_eqb b 0x2B (λ q. omega arith), natural_got (b ∷ s) h e)

-- an i64's text is read as that integer
pub signed_back : (z : ℤ) → in_i64 z ≡ true → integer (signed_text (bits64 z)) ≡ got z
unfolding signed_text bits64 in_i64 integer turned
signed_back (pos n) h =
    let l : n < 2 ^ 63 = ltb-true n (2 ^ 63) h in
    rw (lt-ltb n (2 ^ 63) l) (integer_got (decimal_text n) (decimal-some n) (decimal-digits n (omega arith)) ∙ ap (λ (k : ℕ). got (pos k)) (decimal_back n (omega arith)))
signed_back (negsuc n) h =
    let l : n ≤ 2 ^ 63 - 1 = leb-true n (2 ^ 63 - 1) (rw and-true at h) in
    let e : 2 ^ 64 - (2 ^ 64 - suc n) ≡ suc n = omega arith in
    rw (le-ltb (2 ^ 64 - suc n) (2 ^ 63) (omega arith), e, natural_back (suc n) (omega arith))
