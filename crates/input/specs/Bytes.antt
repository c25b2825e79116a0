-- Whole numbers from bytes, low byte first and high byte first, at any width.
use Rattle.std.specs.Prelude.{ℕ, zero, suc, ◌+◌, ◌-◌, ◌*◌, ◌^◌, ◌<◌, ◌≤◌, ◌≡◌, refl, ◌⊎◌, Bool, true, false, ltb, take, drop}
use Rattle.std.proofs.Common.{sym, ◌∙◌, inl, inr, ⊎_elim, pow-suc, mul_right_comm, ltb-true, ltb-false, length-take, get_or-take, get_or-drop, get_or-append-add, take_all}
use mathlib.Core.List.{List, [], ◌∷◌, ◌++◌, reverse, append-nil}
use native.Mathlib.Omega.{arith}
use Rattle.std.proofs.Math.ListN.{length, get_or, replicate, length-append, get_or-replicate, get_or-eq_default, get_or-append}
use Rattle.std.proofs.lemmas.List.{length-replicate}

-- every byte is below 256, as in a slice of u8
abbrev pub Bytes : List ℕ → Type 0
Bytes l = (i : ℕ) → get_or l i 0 < 256

-- the sum of b * 256 ^ i over the bytes b, i the place of b counted from 0
unfoldable pub low_first : List ℕ → ℕ
low_first [] = 0
low_first (b ∷ t) = b + 256 * low_first t

-- the same with the high byte first
unfoldable pub high_first : List ℕ → ℕ
high_first l = low_first (reverse l)

-- the last byte; 0 where there is none
unfoldable pub last_byte : List ℕ → ℕ
last_byte l = get_or l (length l - 1) 0

-- the first w bytes, filled up to w by the byte x
unfoldable pub padded_to : ℕ → ℕ → List ℕ → List ℕ
padded_to w x l = take w (l ++ replicate (w - length l) x)

example_low : low_first (0x34 ∷ 0x12 ∷ []) ≡ 0x1234
unfolding low_first
example_low = refl

example_high : high_first (0x3F ∷ 0xF0 ∷ 0 ∷ 0 ∷ 0 ∷ 0 ∷ 0 ∷ 0 ∷ []) ≡ 0x3FF0_0000_0000_0000
unfolding low_first high_first
example_high = refl

-- ---- laws

pub lt_or_le : (a b : ℕ) → (a < b) ⊎ (b ≤ a)
lt_or_le a b = go (ltb a b) refl
  where
    go : (t : Bool) → ltb a b ≡ t → (a < b) ⊎ (b ≤ a)
    go true e = inl (ltb-true a b e)
    go false e = inr (ltb-false a b e)

-- inside a list the default does not show
pub get_d_any : (l : List ℕ) (i d e : ℕ) → i < length l → get_or l i d ≡ get_or l i e
get_d_any [] i d e h = absurd (omega arith)
get_d_any (x ∷ t) zero d e h = refl
get_d_any (x ∷ t) (suc i) d e h = get_d_any t i d e (omega arith)

-- inside a part, and past a part's end (where `get_or` says 0), a byte is a byte
pub bytes_take : (n : ℕ) (l : List ℕ) → Bytes l → Bytes (take n l)
bytes_take n l B i = ⊎_elim inside past (lt_or_le i n)
  where
    inside : i < n → get_or (take n l) i 0 < 256
    inside h = rw (get_or-take n l i 0 h) (B i)

    past : n ≤ i → get_or (take n l) i 0 < 256
    past h = let k : length (take n l) ≤ i = simp length-take (omega arith) in rw (get_or-eq_default (take n l) 0 k) (omega arith)

pub bytes_drop : (n : ℕ) (l : List ℕ) → Bytes l → Bytes (drop n l)
bytes_drop n l B i = rw (get_or-drop n l i 0) (B (n + i))

pub bytes-append : (a b : List ℕ) → Bytes a → Bytes b → Bytes (a ++ b)
bytes-append [] b A B i = B i
bytes-append (x ∷ a) b A B zero = A 0
bytes-append (x ∷ a) b A B (suc i) = bytes-append a b (λ j. A (suc j)) B i

pub bytes-replicate : (k x : ℕ) → x < 256 → Bytes (replicate k x)
bytes-replicate zero x h i = omega arith
bytes-replicate (suc k) x h zero = h
bytes-replicate (suc k) x h (suc i) = bytes-replicate k x h i

pub low_append : (a b : List ℕ) → low_first (a ++ b) ≡ low_first a + 256 ^ length a * low_first b
unfolding low_first
low_append [] b = omega arith
low_append (x ∷ t) b =
    let P = 256 ^ length t in
    let e : P * 256 * low_first b ≡ P * low_first b * 256 = mul_right_comm P 256 (low_first b) in
    rw (low_append t b, pow-suc 256 (length t)) (omega arith)

pub low_below : (l : List ℕ) → Bytes l → low_first l < 256 ^ length l
unfolding low_first
low_below [] h = omega arith
low_below (x ∷ t) h =
    let v = low_below t (λ i. h (suc i)) in
    let z = h 0 in
    rw (pow-suc 256 (length t)) (omega arith)

pub low_zeros : (k : ℕ) → low_first (replicate k 0) ≡ 0
unfolding low_first
low_zeros zero = refl
low_zeros (suc k) = rw (low_zeros k)

pub low_ones : (k : ℕ) → low_first (replicate k 255) + 1 ≡ 256 ^ k
unfolding low_first
low_ones zero = refl
low_ones (suc k) = let e = low_ones k in rw (pow-suc 256 k) (omega arith)

module _ (w x : ℕ) (l : List ℕ) where
  pub filled-length : length (padded_to w x l) ≡ w
  unfolding padded_to
  filled-length = simp (length-take, length-append, length-replicate) (omega arith)

  pub filled_at : (i : ℕ) → i < w → get_or (padded_to w x l) i 0 ≡ get_or l i x
  unfolding padded_to
  filled_at i h = rw (get_or-take w (l ++ replicate (w - length l) x) i 0 h) (⊎_elim inside past (lt_or_le i (length l)))
    where
      past : length l ≤ i → get_or (l ++ replicate (w - length l) x) i 0 ≡ get_or l i x
      past k =
          let e : length l + (i - length l) ≡ i = omega arith in
          let m : i - length l < w - length l = omega arith in
          rw (← e) (get_or-append-add l (replicate (w - length l) x) (i - length l) 0 ∙ get_or-replicate (w - length l) (i - length l) x 0 m ∙ rw e (sym (get_or-eq_default l x k)))

      inside : i < length l → get_or (l ++ replicate (w - length l) x) i 0 ≡ get_or l i x
      inside k = get_or-append l (replicate (w - length l) x) 0 i k ∙ get_d_any l i 0 x k

  pub filled-same : length l ≡ w → padded_to w x l ≡ l
  unfolding padded_to
  filled-same h = let e : w - length l ≡ 0 = omega arith in rw e (simp append-nil (take_all w l (omega arith)))
