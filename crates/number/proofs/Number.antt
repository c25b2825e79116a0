-- Laws of numbers: digits that are read from the left, and what signs and bounds do to a reading. Assumes nothing.
use Prim.Native.Nat.{ℕ, zero, suc, ◌+◌, ◌-◌, ◌*◌, ◌%◌, ◌^◌, ◌≤◌, ◌<◌}
use mathlib.Core.Bool.{Bool, true, false, cond, ◌&&◌, and-false, and-true}
use mathlib.Core.List.{List, [], ◌∷◌}
use mathlib.Core.Logic.{◌⊎◌, ⊎_elim}
use mathlib.Core.Path.{◌≡◌, refl, sym, ◌∙◌}
use native.Mathlib.Nat as Nat
use native.Mathlib.Numerals.{add-one}
use native.Mathlib.Omega.{arith}
use borrow.Author.Tests.{le-leb, lt-leb, eq-eqb, ne_eqb}
use lib.Dec.{leb, leb-suc-suc}
use lib.IntN.{ℤ, pos, neg_ℤ}
use lib.ListN.{length, get_or, take, drop, drop_of_length-le}
use lib.Seq.{drop-cons, take_all}
use Rattle.refusal.specs.Read.{Read, got, refused}
use Rattle.number.specs.Literal.{negated}
use Rattle.number.specs.Number.{invalid, turned, only, digits, decimal, natural, plus, integer, in_u32}
use Rattle.input.specs.Long.{in_i64, bits64}

-- what is read when digits that say n stand before s
unfoldable pub after : ℕ → List ℕ → Read ℕ
after n s = cond (digits s) (got (n * 10 ^ length s + decimal s)) invalid

pub natural-after : (b : ℕ) (s : List ℕ) → after 0 (b ∷ s) ≡ natural (b ∷ s)
unfolding after natural
natural-after b s = simp (Nat.zero-mul, Nat.zero-add)

-- a digit more, from either side
shift : (n d l r : ℕ) → n * 10 ^ suc l + (d * 10 ^ l + r) ≡ (n * 10 + d) * 10 ^ l + r
shift n d l r = rw (Nat.pow-succ' 10 l, Nat.add-mul (n * 10) d (10 ^ l), Nat.mul_assoc n 10 (10 ^ l), Nat.add_assoc)

module _ (n b : ℕ) (s : List ℕ) where
  pub after_more : 0x30 ≤ b → b ≤ 0x39 → after (n * 10 + (b - 0x30)) s ≡ after n (b ∷ s)
  unfolding after digits decimal
  after_more h l = simp (le-leb _ _ h, le-leb _ _ l, shift n (b - 0x30) (length s) (decimal s))

  pub after_bad : (leb 0x30 b && leb b 0x39) ≡ false → after n (b ∷ s) ≡ invalid
  unfolding after digits
  after_bad h = rw h refl

module _ (most n : ℕ) where
  -- digits only make a number larger
  pub after-over : most < n → (s : List ℕ) → only (λ k. leb k most) (after n s) ≡ invalid
  unfolding after only invalid
  after-over h s = go (digits s)
    where
      larger : most < n * 10 ^ length s + decimal s
      larger = omega (arith, Nat.le-mul_of_pos_right n (Nat.one-le-pow (length s) 10 (omega arith)))

      go : (x : Bool) → only (λ k. leb k most) (cond x (got (n * 10 ^ length s + decimal s)) invalid) ≡ invalid
      go true = simp (lt-leb _ _ larger)
      go false = refl

  pub after_end : n ≤ most → got n ≡ only (λ k. leb k most) (after n [])
  unfolding after only digits decimal
  after_end h = simp (Nat.mul-one, Nat.add-zero, le-leb _ _ h)

pub only_same : {A : Type 0} (q p : A → Bool) → ((a : A) → q a ≡ p a) → (x : Read A) → only q x ≡ only p x
unfolding only
only_same q p e (got a) = rw (e a)
only_same q p e (refused why at) = refl

-- a sign and a bound may change places
pub only-turned : {A B : Type 0} (f : A → B) (p : B → Bool) (q : A → Bool) → ((a : A) → q a ≡ p (f a)) → (x : Read A) → turned f (only q x) ≡ only p (turned f x)
unfolding only turned invalid
only-turned f p q e (got a) = rw (e a) (go (p (f a)))
  where
    go : (t : Bool) → turned f (cond t (got a) invalid) ≡ cond t (got (f a)) invalid
    go true = refl
    go false = refl
only-turned f p q e (refused why at) = refl

-- a turn of `natural`'s loop, which reads the byte at i
module _ (s : List ℕ) (i n most : ℕ) (h : i < length s) where
  pub turn_bad : (get_or s i 0 < 0x30) ⊎ (0x39 < get_or s i 0) → invalid ≡ only (λ k. leb k most) (after n (drop i s))
  unfolding only invalid
  turn_bad q = rw (drop-cons s i 0 h, after_bad n (get_or s i 0) (drop (suc i) s) (⊎_elim (λ l. simp (lt-leb 0x30 (get_or s i 0) l)) (λ l. simp (lt-leb (get_or s i 0) 0x39 l, and-false)) q))

  module _ (l : 0x30 ≤ get_or s i 0) (u : get_or s i 0 ≤ 0x39) where
    pub turn_more : only (λ k. leb k most) (after (n * 10 + (get_or s i 0 - 0x30)) (drop (i + 1) s)) ≡ only (λ k. leb k most) (after n (drop i s))
    turn_more = rw (add-one i, drop-cons s i 0 h, after_more n (get_or s i 0) (drop (suc i) s) l u)

    pub turn_over : most < n * 10 + (get_or s i 0 - 0x30) → invalid ≡ only (λ k. leb k most) (after n (drop i s))
    turn_over q = sym (after-over most _ q (drop (i + 1) s)) ∙ turn_more

pub start_none : (s : List ℕ) (most : ℕ) → length s ≡ 0 → invalid ≡ only (λ k. leb k most) (natural s)
unfolding natural only invalid
start_none [] most h = refl
start_none (b ∷ s) most h = absurd (Nat.suc-ne-zero _ h)

pub start_some : (s : List ℕ) → (length s ≡ 0 → ⊥) → after 0 s ≡ natural s
start_some [] h = absurd (h refl)
start_some (b ∷ s) h = natural-after b s

pub end_some : (s : List ℕ) (i n most : ℕ) → length s ≤ i → n ≤ most → got n ≡ only (λ k. leb k most) (after n (drop i s))
end_some s i n most h l = rw (drop_of_length-le s h) (after_end most n l)

-- the bounds as the code has them
pub below_i64 : (n : ℕ) → leb n 0x7FFF_FFFF_FFFF_FFFF ≡ in_i64 (pos n)
unfolding in_i64
below_i64 n = sym (leb-suc-suc n 0x7FFF_FFFF_FFFF_FFFF)

pub above_i64 : (n : ℕ) → leb n 0x8000_0000_0000_0000 ≡ in_i64 (neg_ℤ (pos n))
unfolding in_i64
above_i64 zero = refl
above_i64 (suc n) = leb-suc-suc n 0x7FFF_FFFF_FFFF_FFFF ∙ sym (and-true _)

pub below_u32 : (n : ℕ) → leb n 0xFFFF_FFFF ≡ in_u32 n
unfolding in_u32
below_u32 n = sym (leb-suc-suc n 0xFFFF_FFFF)

-- what `wrapping_neg` gives
pub negated_is : (n r : ℕ) → n < 2 ^ 64 → r < 2 ^ 64 → (r + n) % 2 ^ 64 ≡ 0 → r ≡ negated n
unfolding negated bits64
negated_is zero r h l e = omega arith
negated_is (suc n) r h l e = omega arith

-- a text by its first byte
pub plus_sign : (s : List ℕ) → 1 ≤ length s → get_or s 0 0 ≡ 0x2B → natural (take (length s - 1) (drop 1 s)) ≡ plus s
unfolding plus
plus_sign [] h e = absurd (omega arith)
plus_sign (b ∷ s) h e = simp (eq-eqb _ _ e, take_all (length (b ∷ s) - 1) s (omega arith))

pub plus_plain : (s : List ℕ) → (1 ≤ length s → get_or s 0 0 ≡ 0x2B → ⊥) → natural s ≡ plus s
unfolding plus natural
plus_plain [] e = refl
plus_plain (b ∷ s) e = simp (ne_eqb _ _ (e (omega arith)))

pub integer-minus : (s : List ℕ) → 1 ≤ length s → get_or s 0 0 ≡ 0x2D → turned (λ n. neg_ℤ (pos n)) (natural (take (length s - 1) (drop 1 s))) ≡ integer s
unfolding integer
integer-minus [] h e = absurd (omega arith)
integer-minus (b ∷ s) h e = simp (eq-eqb _ _ e, take_all (length (b ∷ s) - 1) s (omega arith))

pub integer_plain : (s : List ℕ) → (1 ≤ length s → get_or s 0 0 ≡ 0x2D → ⊥) → turned pos (plus s) ≡ integer s
unfolding integer plus turned invalid
integer_plain [] e = refl
integer_plain (b ∷ s) e = simp (ne_eqb _ _ (e (omega arith)))

turned-turned : {A B C : Type 0} (f : A → B) (g : B → C) (x : Read A) → turned g (turned f x) ≡ turned (λ a. g (f a)) x
unfolding turned
turned-turned f g (got a) = refl
turned-turned f g (refused why at) = refl

turned_id : (x : Read ℕ) → turned (λ n. n) x ≡ x
unfolding turned
turned_id (got n) = refl
turned_id (refused why at) = refl

-- the bits of a magnitude with its sign are those of the integer, within the same bounds
pub signed-read : (f : ℕ → ℤ) (q : ℕ → Bool) → ((n : ℕ) → q n ≡ in_i64 (f n)) → (x : Read ℕ) (m : Read ℕ) → m ≡ only q x
    → (z : Read ℤ) → turned f x ≡ z → turned (λ n. bits64 (f n)) m ≡ turned bits64 (only in_i64 z)
signed-read f q e x m h z l = rw (h, ← l, ← only-turned f in_i64 q e x, turned-turned f bits64 (only q x))

-- a magnitude and its sign
module _ (s : List ℕ) where
  pub below_read : 1 ≤ length s → get_or s 0 0 ≡ 0x2D → (m : Read ℕ) → m ≡ only (λ n. leb n 0x8000_0000_0000_0000) (natural (take (length s - 1) (drop 1 s))) → turned negated m ≡ turned bits64 (only in_i64 (integer s))
  unfolding negated
  below_read l e m h = signed-read (λ n. neg_ℤ (pos n)) (λ n. leb n 0x8000_0000_0000_0000) above_i64 _ m h _ (integer-minus s l e)

  pub above_read : (1 ≤ length s → get_or s 0 0 ≡ 0x2D → ⊥) → (m : Read ℕ) → m ≡ only (λ n. leb n 0x7FFF_FFFF_FFFF_FFFF) (plus s) → m ≡ turned bits64 (only in_i64 (integer s))
  unfolding bits64
  above_read e m h = sym (turned_id m) ∙ signed-read pos (λ n. leb n 0x7FFF_FFFF_FFFF_FFFF) below_i64 _ m h _ (integer_plain s e)
