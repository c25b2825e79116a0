-- What each turn of a loop and each way out says of the definitions. Assumes nothing.
use mathlib.Core.Path.{◌≡◌, refl, sym, ap, ◌∙◌}
use mathlib.Core.Bool.{Bool, true, false, cond, ◌&&◌, beq}
use mathlib.Core.List.{List, [], ◌∷◌}
use Prim.Native.Nat.{ℕ, zero, suc, ◌+◌, ◌-◌, ◌*◌, ◌^◌, ◌<◌, ◌≤◌}
use native.Mathlib.Nat.{pow-suc, pow-le-pow_right}
use native.Mathlib.Numerals.{add-one}
use native.Mathlib.Omega.{arith}
use Rattle.std.specs.List.{list_all}
use lib.Dec.{eqb, ltb}
use borrow.Author.Tests.{eq-eqb, ne_eqb}
use lib.ListN.{length, get_or, take, drop, length-take, length-drop, drop_of_length-le}
use Rattle.std.specs.Int.{from_le_bytes, from_be_bytes, w16, w32, w64}
use lib.Seq.{drop-cons, take_all}
use Rattle.refusal.specs.Read.{got, refused}
use Rattle.refusal.specs.declared.Refusal.TheVariants.{EndOfInput, IntegerTooLarge}
use Rattle.input.specs.Bytes.{Bytes, bytes_take, bytes_drop, low_first, high_first, last_byte, padded_to, filled-same, filled-length, filled_at}
use Rattle.input.specs.Line.{first_from, newline_of}
use Rattle.input.specs.Long.{denotes, bits64, long_of}
use Rattle.input.specs.Rule01.{all_are, fill_of, sign_filled, rule01, long_by01, word-short, long_is_01}

-- a test of every byte tells what `all_are` says
pub all_is : (x : ℕ) (l : List ℕ) → list_all (λ b. eqb b x) l ≡ all_are x l
unfolding all_are
all_is x [] = refl
all_is x (b ∷ t) = ap (λ (c : Bool). eqb b x && c) (all_is x t)

pub all-none : (x n : ℕ) (l : List ℕ) → length l ≤ n → all_are x (drop n l) ≡ true
unfolding all_are
all-none x n l h = simp (drop_of_length-le l h)

-- the loop of `newline`: at the end, at a newline, at any other byte
module _ (p : List ℕ) (i : ℕ) where
  pub newline_end : length p ≤ i → newline_of p i ≡ refused EndOfInput 0
  unfolding first_from newline_of
  newline_end h = simp (drop_of_length-le p h)

  pub newline_hit : i < length p → get_or p i 0 ≡ 10 → newline_of p i ≡ got i
  unfolding first_from newline_of
  newline_hit h e = simp (drop-cons p i 0 h, eq-eqb _ _ e)

  pub newline_more : i < length p → (get_or p i 0 ≡ 10 → ⊥) → newline_of p (i + 1) ≡ newline_of p i
  unfolding first_from newline_of
  newline_more h e = simp (drop-cons p i 0 h, ne_eqb _ _ e, add-one)

-- one more byte: the number stays below the next power, and in a u64
pub grows : (k v b : ℕ) → v < 256 ^ k → b < 256 → v * 256 + b < 256 ^ (k + 1)
grows k v b h z = rw (add-one, pow-suc 256 k) (omega arith)

pub room : (k v : ℕ) → k < 8 → v < 256 ^ k → v * 256 + 255 < 2 ^ 64
room k v h b =
    let z : 0 < 256 = omega arith in
    let m : 256 ^ suc k ≤ 256 ^ 8 = pow-le-pow_right z h in
    let e = pow-suc 256 k in
    omega arith

-- the loop of `low_first`, which goes down
pub record Above (w x : ℕ) (l : List ℕ) (i v : ℕ) : Type 0 where
  pub left : i ≤ w
  pub is : v ≡ low_first (drop i (padded_to w x l))
  pub small : v < 256 ^ (w - i)

module _ (w x : ℕ) (l : List ℕ) where
  pub above-none : Above w x l w 0
  unfolding low_first
  above-none =
      let n : length (padded_to w x l) ≤ w = omega (arith, filled-length w x l) in
      let z : w - w ≡ 0 = omega arith in
      record { left = omega arith; is = rw (drop_of_length-le (padded_to w x l) n); small = rw z (omega arith) }

  pub above_more : (i v b : ℕ) → 0 < i → b < 256 → b ≡ get_or l (i - 1) x → Above w x l i v → Above w x l (i - 1) (v * 256 + b)
  unfolding low_first
  above_more i v b z s e a =
      let h = a.left in
      let f = a.is in
      let k : i - 1 < length (padded_to w x l) = omega (arith, filled-length w x l) in
      let j : suc (i - 1) ≡ i = omega arith in
      let g : b ≡ get_or (padded_to w x l) (i - 1) 0 = e ∙ sym (filled_at w x l (i - 1) (omega arith)) in
      let d : low_first (drop (i - 1) (padded_to w x l)) ≡ get_or (padded_to w x l) (i - 1) 0 + 256 * low_first (drop i (padded_to w x l)) = ap low_first (drop-cons (padded_to w x l) (i - 1) 0 k ∙ ap (λ (n : ℕ). get_or (padded_to w x l) (i - 1) 0 ∷ drop n (padded_to w x l)) j) in
      let m : w - (i - 1) ≡ w - i + 1 = omega arith in
      record { left = omega arith; is = omega arith; small = rw m (grows (w - i) v b a.small s) }

  pub above-all : (i v : ℕ) → i ≤ 0 → Above w x l i v → (v ≡ low_first (padded_to w x l)) × (v < 256 ^ w)
  above-all zero v h a = let z : w - 0 ≡ w = omega arith in (a.is, rw z at a.small)
  above-all (suc i) v h a = absurd (omega arith)

-- the library's numbers of two, four and eight bytes
pub low_two : (l : List ℕ) → length l ≡ 2 → from_le_bytes w16 l ≡ low_first l
unfolding low_first
low_two [] h = absurd (omega arith)
low_two (a ∷ []) h = absurd (omega arith)
low_two (a ∷ b ∷ []) h = omega arith
low_two (a ∷ b ∷ c ∷ l) h = absurd (omega arith)

pub low_four : (l : List ℕ) → length l ≡ 4 → from_le_bytes w32 l ≡ low_first l
unfolding low_first
low_four [] h = absurd (omega arith)
low_four (a ∷ []) h = absurd (omega arith)
low_four (a ∷ b ∷ []) h = absurd (omega arith)
low_four (a ∷ b ∷ c ∷ []) h = absurd (omega arith)
low_four (a ∷ b ∷ c ∷ d ∷ []) h = omega arith
low_four (a ∷ b ∷ c ∷ d ∷ e ∷ l) h = absurd (omega arith)

pub high_eight : (l : List ℕ) → length l ≡ 8 → from_be_bytes w64 l ≡ high_first l
unfolding low_first high_first
high_eight (a ∷ b ∷ c ∷ d ∷ e ∷ f ∷ g ∷ h ∷ []) k = omega arith
high_eight (a ∷ b ∷ c ∷ d ∷ e ∷ f ∷ g ∷ h ∷ i ∷ l) k = absurd (omega arith)
high_eight [] k = absurd (omega arith)
high_eight (a ∷ []) k = absurd (omega arith)
high_eight (a ∷ b ∷ []) k = absurd (omega arith)
high_eight (a ∷ b ∷ c ∷ []) k = absurd (omega arith)
high_eight (a ∷ b ∷ c ∷ d ∷ []) k = absurd (omega arith)
high_eight (a ∷ b ∷ c ∷ d ∷ e ∷ []) k = absurd (omega arith)
high_eight (a ∷ b ∷ c ∷ d ∷ e ∷ f ∷ []) k = absurd (omega arith)
high_eight (a ∷ b ∷ c ∷ d ∷ e ∷ f ∷ g ∷ []) k = absurd (omega arith)

-- the first n bytes of what is left of p
module _ (p : List ℕ) (at n : ℕ) (l : List ℕ) (h : at + n ≤ length p) (e : l ≡ take n (take (length p - at) (drop at p))) where
  pub chunk_is : l ≡ take n (drop at p)
  chunk_is = e ∙ ap (take n) (take_all (length p - at) (drop at p) (omega (arith, length-drop at p)))

  pub chunk_length : length l ≡ n
  chunk_length = rw chunk_is (simp (length-take, length-drop) (omega arith))

-- a width's bytes as a part
module _ (w : ℕ) (p : List ℕ) (at : ℕ) where
  pub part_is : take (at + w - at) (drop at p) ≡ take w (drop at p)
  part_is = let e : at + w - at ≡ w = omega arith in rw e

  pub part_filled : (x : ℕ) → at + w ≤ length p → padded_to w x (take (at + w - at) (drop at p)) ≡ take w (drop at p)
  part_filled x h = rw part_is (filled-same w x (take w (drop at p)) (simp (length-take, length-drop) (omega arith)))

-- the four bytes of an i32
pub i32_is : (p : List ℕ) (at x v : ℕ) → at + 4 ≤ length p → Bytes p → x ≡ fill_of (take (at + 4 - at) (drop at p)) → v ≡ low_first (padded_to 8 x (take (at + 4 - at) (drop at p))) → v ≡ bits64 (denotes (take 4 (drop at p)))
unfolding sign_filled
i32_is p at x v h B e f =
    let q = take 4 (drop at p) in
    let g : x ≡ fill_of q = e ∙ ap fill_of (part_is 4 p at) in
    let n : length q ≤ 8 = simp (length-take, length-drop) (omega arith) in
    f ∙ ap (λ (l : List ℕ). low_first (padded_to 8 x l)) (part_is 4 p at) ∙ ap (λ (y : ℕ). low_first (padded_to 8 y q)) g
    ∙ sym (word-short q (bytes_take 4 (drop at p) (bytes_drop at p B)) n)

-- what `long` computes is the rule on the bytes of RULES A7.4, so PEP 307's integer
fill_sign : (l : List ℕ) → eqb (fill_of l) 0 ≡ ltb (last_byte l) 128
unfolding fill_of
fill_sign l = go (ltb (last_byte l) 128)
  where
    go : (s : Bool) → eqb (cond s 0 255) 0 ≡ s
    go true = refl
    go false = refl

pub long_is : (l : List ℕ) → Bytes l → (x v : ℕ) (a t : Bool) → x ≡ fill_of l → a ≡ all_are x (drop 8 l) → v ≡ low_first (padded_to 8 x l) → beq (ltb v (2 ^ 63)) (eqb x 0) ≡ t → cond (a && t) (got v) (refused IntegerTooLarge 0) ≡ long_of l
unfolding long_by01 rule01 sign_filled
long_is l B x v a t e f g h =
    let s = fill_sign l in
    let y : v ≡ low_first (padded_to 8 (fill_of l) l) = cc in
    let z : a ≡ all_are (fill_of l) (drop 8 l) = cc in
    let u : t ≡ beq (ltb (low_first (padded_to 8 (fill_of l) l)) (2 ^ 63)) (ltb (last_byte l) 128) = sym h ∙ rw (y, e, s) in
    rw (z, u, y) (sym (long_is_01 l B))
