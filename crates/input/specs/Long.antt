-- The integers of LONG1 and LONG4, from PEP 307: two's complement, low byte first, at any length; no bytes at all are 0.
use Rattle.std.specs.Prelude.{ℕ, zero, suc, ◌+◌, ◌-◌, ◌*◌, ◌^◌, ◌<◌, ◌≤◌, ◌≡◌, refl, Bool, cond, ◌&&◌, List, [], ◌∷◌, ◌++◌, ltb, ℤ, pos, negsuc, neg_ℤ, ◌-ℤ◌, get_or}
use Rattle.std.proofs.Math.Path.{sym, ap}
use Rattle.std.proofs.Common.{◌∙◌, pow-suc, length-take}
use Rattle.std.proofs.Math.Logic.{⊎_elim}
use Rattle.std.proofs.Math.Bool.{true, and-true}
use Rattle.std.specs.Int.Signed.{le_z, lt_z, non_neg}
use Rattle.std.proofs.Math.Nat.{pow-le-pow_right, mul-le-mul_left}
use native.Mathlib.Omega.{arith}
use Rattle.std.proofs.Math.ListN.{length, take}
use Rattle.std.proofs.Math.Seq.{take-suc, take-length}
use borrow.Author.Tests.{lt-ltb, le-ltb, le-leb, leb-true}
use Rattle.refusal.specs.Read.{Read, got, refused}
use Rattle.refusal.specs.declared.Refusal.TheVariants.{IntegerTooLarge}
use Rattle.input.specs.Bytes.{Bytes, low_first, last_byte, lt_or_le, low_append, low_below, bytes_take}

-- PEP 307: the bytes as a whole number, less 256 ^ length where the last byte has its top bit set
unfoldable pub denotes : List ℕ → ℤ
denotes l = cond (ltb (last_byte l) 128) (pos (low_first l)) (pos (low_first l) -ℤ pos (256 ^ length l))

-- i64: from -2^63 to 2^63 - 1
unfoldable pub in_i64 : ℤ → Bool
in_i64 z = le_z (neg_ℤ (pos (2 ^ 63))) z && lt_z z (pos (2 ^ 63))

-- the 64 bits of an i64
unfoldable pub bits64 : ℤ → ℕ
bits64 (pos n) = n
bits64 (negsuc n) = 2 ^ 64 - suc n

-- an integer within i64 is its 64 bits, any other number 9
unfoldable pub long_of : List ℕ → Read ℕ
long_of l = cond (in_i64 (denotes l)) (got (bits64 (denotes l))) (refused IntegerTooLarge 0)

-- opens the definitions for the examples
unfoldable pub evaluates : Unit {0}
unfolding low_first last_byte denotes in_i64 bits64 long_of
evaluates = tt

-- the examples that Python's pickle.decode_long gives of this encoding
pep_0 : denotes [] ≡ pos 0
unfolding evaluates
pep_0 = refl

pep_255 : denotes (0xFF ∷ 0x00 ∷ []) ≡ pos 255
unfolding evaluates
pep_255 = refl

pep_32767 : denotes (0xFF ∷ 0x7F ∷ []) ≡ pos 32767
unfolding evaluates
pep_32767 = refl

pep_minus_256 : denotes (0x00 ∷ 0xFF ∷ []) ≡ neg_ℤ (pos 256)
unfolding evaluates
pep_minus_256 = refl

pep_minus_32768 : denotes (0x00 ∷ 0x80 ∷ []) ≡ neg_ℤ (pos 32768)
unfolding evaluates
pep_minus_32768 = refl

pep_minus_128 : denotes (0x80 ∷ []) ≡ neg_ℤ (pos 128)
unfolding evaluates
pep_minus_128 = refl

pep_127 : denotes (0x7F ∷ []) ≡ pos 127
unfolding evaluates
pep_127 = refl

-- the bench's 8A 09 00 00 00 00 00 00 00 80 00: 2^63 in nine bytes; the least i64 in nine; and the i32 -1
bench_large : long_of (0 ∷ 0 ∷ 0 ∷ 0 ∷ 0 ∷ 0 ∷ 0 ∷ 0x80 ∷ 0 ∷ []) ≡ refused IntegerTooLarge 0
unfolding evaluates
bench_large = refl

least_nine : long_of (0 ∷ 0 ∷ 0 ∷ 0 ∷ 0 ∷ 0 ∷ 0 ∷ 0x80 ∷ 0xFF ∷ []) ≡ got (2 ^ 63)
unfolding evaluates
least_nine = refl

minus_one : bits64 (denotes (0xFF ∷ 0xFF ∷ 0xFF ∷ 0xFF ∷ [])) ≡ 0xFFFF_FFFF_FFFF_FFFF
unfolding evaluates
minus_one = refl

-- ---- laws

-- the top bit of an i64's bits is its sign
pub bits_sign : (z : ℤ) → in_i64 z ≡ true → ltb (bits64 z) (2 ^ 63) ≡ non_neg z
unfolding in_i64 bits64
bits_sign (pos n) h = h
bits_sign (negsuc n) h = let k = leb-true n (2 ^ 63 - 1) (rw and-true at h) in le-ltb (2 ^ 64 - suc n) (2 ^ 63) (omega arith)

-- a number less a greater one
pub less_greater : (a b : ℕ) → a < b → pos a -ℤ pos b ≡ negsuc (b - suc a)
less_greater a zero h = absurd (omega arith)
less_greater a (suc b) h = simp (lt-ltb a (suc b) h)

-- the last byte counts most
module _ (l : List ℕ) (B : Bytes l) (n : ℕ) (h : length l ≡ suc n) where
  front : length (take n l) ≡ n
  front = simp length-take (omega arith)

  top : low_first l ≡ low_first (take n l) + 256 ^ n * last_byte l
  unfolding low_first last_byte
  top =
      let k : n < length l = omega arith in
      let m : length l - 1 ≡ n = omega arith in
      let q : l ≡ take n l ++ (get_or l n 0 ∷ []) = sym (take-length l) ∙ ap (λ (k : ℕ). take k l) h ∙ take-suc l n 0 k in
      ap low_first q ∙ low_append (take n l) (get_or l n 0 ∷ []) ∙ rw (front, m) (omega arith)

  power : n < 8 → 256 ^ n ≤ 256 ^ 7
  power N =
      let z : 0 < 256 = omega arith in
      let k : n ≤ 7 = omega arith in
      pow-le-pow_right z k

  some_in : n < 8 → in_i64 (denotes l) ≡ true
  unfolding in_i64 denotes
  some_in N = ⊎_elim not_negative negative (lt_or_le (last_byte l) 128)
    where
      not_negative : last_byte l < 128 → in_i64 (denotes l) ≡ true
      not_negative s =
          let p = power N in
          let t = top in
          let u : low_first (take n l) < 256 ^ n = rw front at (low_below (take n l) (bytes_take n l B)) in
          let s' : last_byte l ≤ 127 = omega arith in
          let w = mul-le-mul_left (256 ^ n) s' in
          simp (lt-ltb (last_byte l) 128 s, lt-ltb (low_first l) (2 ^ 63) (omega arith))

      negative : 128 ≤ last_byte l → in_i64 (denotes l) ≡ true
      negative s =
          let p = power N in
          let t = top in
          let e : 256 ^ length l ≡ 256 ^ n * 256 = ap (λ (m : ℕ). 256 ^ m) h ∙ pow-suc 256 n in
          let w = mul-le-mul_left (256 ^ n) s in
          let v = low_below l B in
          rw (le-ltb (last_byte l) 128 s, less_greater (low_first l) (256 ^ length l) v, le-leb (256 ^ length l - suc (low_first l)) (2 ^ 63 - 1) (omega arith))

-- eight bytes and fewer are never too large
pub short_in : (l : List ℕ) → Bytes l → length l ≤ 8 → in_i64 (denotes l) ≡ true
unfolding evaluates
short_in [] B h = refl
short_in (x ∷ t) B h = some_in (x ∷ t) B (length t) refl (omega arith)
