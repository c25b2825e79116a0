-- The rule on the bytes of a LONG1 or LONG4 (RULES A7.4), and that it is PEP 307's integer within i64.
use Rattle.std.specs.Prelude.{ℕ, suc, ◌+◌, ◌-◌, ◌*◌, ◌^◌, ◌<◌, ◌≤◌, ◌≡◌, Bool, cond, ◌&&◌, List, [], ◌∷◌, ◌++◌, eqb, ℤ, pos, negsuc, ◌-ℤ◌, take}
use Rattle.std.proofs.Math.Path.{refl, sym, ap}
use Rattle.std.proofs.Common.{◌∙◌, append-nil, mul-zero, mul-add, pow-add, length-append, length-take, length-drop, take-append-drop, take_all, lt-ltb, le-ltb, le-leb, eqb-true}
use Rattle.std.proofs.Math.Logic.{⊎_elim}
use Rattle.std.proofs.Math.Bool.{true, false}
use Rattle.std.specs.Bool.{beq}
use native.Mathlib.Omega.{arith}
use Rattle.std.proofs.Math.Dec.{ltb}
use Rattle.std.proofs.Math.ListN.{length, drop, replicate, drop_of_length-le}
use Rattle.std.proofs.lemmas.List.{length-replicate}
use Rattle.std.proofs.lemmas.Bool.{lt-leb, eqb-false}
use Rattle.refusal.specs.Read.{Read, got, refused}
use Rattle.refusal.specs.declared.Refusal.TheVariants.{IntegerTooLarge}
use Rattle.input.specs.Bytes.{lt_or_le, bytes_take, bytes_drop, bytes-append, bytes-replicate, Bytes, low_first, last_byte, padded_to, low_append, low_below, low_zeros, low_ones}
use Rattle.input.specs.Long.{less_greater, short_in, denotes, in_i64, bits64, long_of}

-- the byte that repeats the sign of the last byte
unfoldable pub fill_of : List ℕ → ℕ
fill_of l = cond (ltb (last_byte l) 128) 0 255

-- every byte is x
unfoldable pub all_are : ℕ → List ℕ → Bool
all_are x [] = true
all_are x (b ∷ t) = eqb b x && all_are x t

-- the result: the first eight bytes, low byte first, filled up by the sign
unfoldable pub sign_filled : List ℕ → ℕ
sign_filled l = low_first (padded_to 8 (fill_of l) l)

-- Bytes past the eighth must repeat the last byte's sign, and the result must have that sign. (de.rs tests the result only past
-- eight bytes: it always has the sign of eight or fewer, `short_01`.)
unfoldable pub rule01 : List ℕ → Bool
rule01 l = all_are (fill_of l) (drop 8 l) && beq (ltb (sign_filled l) (2 ^ 63)) (ltb (last_byte l) 128)

-- the reading by that rule
unfoldable pub long_by01 : List ℕ → Read ℕ
long_by01 l = cond (rule01 l) (got (sign_filled l)) (refused IntegerTooLarge 0)

-- ---- all bytes the same

all_is : (x : ℕ) (l : List ℕ) → all_are x l ≡ true → l ≡ replicate (length l) x
unfolding all_are
all_is x [] h = refl
all_is x (b ∷ t) h = go (eqb b x) refl h (all_is x t)
  where
    go : (c : Bool) → eqb b x ≡ c → (c && all_are x t) ≡ true → (all_are x t ≡ true → t ≡ replicate (length t) x) → b ∷ t ≡ x ∷ replicate (length t) x
    go true e k more = let p = more k in let q = eqb-true b x e in cc
    go false e k more = cc

all_not : (x : ℕ) → x < 256 → (l : List ℕ) → Bytes l → all_are x l ≡ false → low_first l ≡ low_first (replicate (length l) x) → ⊥
unfolding all_are low_first
all_not x X [] B h e = let y : ◌≡◌ {A = ℕ} 0 1 = cc in omega arith
all_not x X (b ∷ t) B h e = go (eqb b x) refl h (all_not x X t (λ i. B (suc i)))
  where
    go : (c : Bool) → eqb b x ≡ c → (c && all_are x t) ≡ false → (all_are x t ≡ false → low_first t ≡ low_first (replicate (length t) x) → ⊥) → ⊥
    go true q k more = more k (let z = B 0 in let y = eqb-true b x q in omega arith)
    go false q k more = let z = B 0 in eqb-false b x q (omega arith)

-- ---- the integer, with the sign given: s says that it is not negative

unfoldable val : Bool → List ℕ → ℤ
val s l = cond s (pos (low_first l)) (pos (low_first l) -ℤ pos (256 ^ length l))

val_below : (l : List ℕ) → Bytes l → val false l ≡ negsuc (256 ^ length l - suc (low_first l))
unfolding val
val_below l B = less_greater (low_first l) (256 ^ length l) (low_below l B)

-- further bytes of the sign change nothing
extend : (s : Bool) (k : ℕ) (l : List ℕ) → Bytes l → val s (l ++ replicate k (cond s 0 255)) ≡ val s l
unfolding val
extend true k l B = rw (low_append l (replicate k 0), low_zeros k, mul-zero (256 ^ length l)) (ap pos (omega arith))
extend false k l B =
    let P = 256 ^ length l in
    let R = low_first (replicate k 255) in
    let v = low_below l B in
    let e : 256 ^ length (l ++ replicate k 255) ≡ P * R + P = simp (length-append, length-replicate, pow-add, ← low_ones k, mul-add) (omega arith) in
    rw (low_append l (replicate k 255), e)
    (less_greater (low_first l + P * R) (P * R + P) (omega arith) ∙ ap negsuc (omega arith) ∙ sym (less_greater (low_first l) P v))

-- ---- eight bytes and more: lo is the first eight bytes' number and hi that of the bytes past them

abbrev no : Read ℕ
no = refused IntegerTooLarge 0

abbrev read : ℤ → Read ℕ
read z = cond (in_i64 z) (got (bits64 z)) no

not_below : (lo hi : ℕ) (a : Bool) → (a ≡ true → hi ≡ 0) → (a ≡ false → hi ≡ 0 → ⊥) → read (pos (lo + 2 ^ 64 * hi)) ≡ cond (a && beq (ltb lo (2 ^ 63)) true) (got lo) no
unfolding in_i64 bits64
not_below lo hi true y n = let e : lo + 2 ^ 64 * hi ≡ lo = let z = y refl in omega arith in rw e (go (ltb lo (2 ^ 63)))
  where
    go : (b : Bool) → cond b (got lo) no ≡ cond (beq b true) (got lo) no
    go true = refl
    go false = refl
not_below lo hi false y n = let z = n refl in simp (le-ltb (lo + 2 ^ 64 * hi) (2 ^ 63) (omega arith))

below : (lo hi M : ℕ) (a : Bool) → lo < 2 ^ 64 → hi < M → (a ≡ true → hi + 1 ≡ M) → (a ≡ false → hi + 1 ≡ M → ⊥) → read (negsuc (2 ^ 64 * M - suc (lo + 2 ^ 64 * hi))) ≡ cond (a && beq (ltb lo (2 ^ 63)) false) (got lo) no
unfolding in_i64 bits64
below lo hi M true L H y n = let e : 2 ^ 64 * M - suc (lo + 2 ^ 64 * hi) ≡ 2 ^ 64 - suc lo = let z = y refl in omega arith in rw e (⊎_elim small large (lt_or_le lo (2 ^ 63)))
  where
    small : lo < 2 ^ 63 → read (negsuc (2 ^ 64 - suc lo)) ≡ cond (beq (ltb lo (2 ^ 63)) false) (got lo) no
    small h = simp (lt-ltb lo (2 ^ 63) h, lt-leb (2 ^ 64 - suc lo) (2 ^ 63 - 1) (omega arith))

    large : 2 ^ 63 ≤ lo → read (negsuc (2 ^ 64 - suc lo)) ≡ cond (beq (ltb lo (2 ^ 63)) false) (got lo) no
    large h = simp (le-ltb lo (2 ^ 63) h, le-leb (2 ^ 64 - suc lo) (2 ^ 63 - 1) (omega arith)) (ap got (omega arith))
below lo hi M false L H y n = let z = n refl in simp (lt-leb (2 ^ 64 * M - suc (lo + 2 ^ 64 * hi)) (2 ^ 63 - 1) (omega arith))

same_test : (a b : Bool) (x y : ℕ) → cond a (got x) no ≡ cond b (got y) no → a ≡ b
same_test true true x y h = refl
same_test true false x y h = cc
same_test false true x y h = cc
same_test false false x y h = refl

module _ (e : List ℕ) (B : Bytes e) (h : 8 ≤ length e) where
  eight : length (take 8 e) ≡ 8
  eight = simp length-take (omega arith)

  parts : low_first e ≡ low_first (take 8 e) + 2 ^ 64 * low_first (drop 8 e)
  parts = ap low_first (sym (take-append-drop 8 e)) ∙ low_append (take 8 e) (drop 8 e) ∙ rw eight

  whole : 256 ^ length e ≡ 2 ^ 64 * 256 ^ length (drop 8 e)
  whole = let k : length e ≡ 8 + length (drop 8 e) = simp length-drop (omega arith) in ap (λ (n : ℕ). 256 ^ n) k ∙ pow-add 256 8 (length (drop 8 e))

  lo_below : low_first (take 8 e) < 2 ^ 64
  lo_below = rw eight at (low_below (take 8 e) (bytes_take 8 e B))

  repeated : (x : ℕ) → all_are x (drop 8 e) ≡ true → low_first (drop 8 e) ≡ low_first (replicate (length (drop 8 e)) x)
  repeated x t = ap low_first (all_is x (drop 8 e) t)

  long_wide : (s : Bool) → read (val s e) ≡ cond (all_are (cond s 0 255) (drop 8 e) && beq (ltb (low_first (take 8 e)) (2 ^ 63)) s) (got (low_first (take 8 e))) no
  unfolding val
  long_wide true =
      let z = low_zeros (length (drop 8 e)) in
      rw parts (not_below (low_first (take 8 e)) (low_first (drop 8 e)) (all_are 0 (drop 8 e)) (λ t. repeated 0 t ∙ z) (λ t q. all_not 0 (omega arith) (drop 8 e) (bytes_drop 8 e B) t (q ∙ sym z)))
  long_wide false =
      let z = low_ones (length (drop 8 e)) in
      let H = low_below (drop 8 e) (bytes_drop 8 e B) in
      ap read (val_below e B)
      ∙ rw (parts, whole)
      (below (low_first (take 8 e)) (low_first (drop 8 e)) (256 ^ length (drop 8 e)) (all_are 255 (drop 8 e)) lo_below H (λ t. let r = repeated 255 t in omega arith) (λ t q. all_not 255 (omega arith) (drop 8 e) (bytes_drop 8 e B) t (omega arith)))

-- ---- any length

module _ (l : List ℕ) (B : Bytes l) where
  -- eight bytes or more, of the same integer
  ext : Bool → List ℕ
  ext s = l ++ replicate (8 - length l) (cond s 0 255)

  past_same : (s : Bool) → drop 8 (ext s) ≡ drop 8 l
  unfolding ext
  past_same s = ⊎_elim short long (lt_or_le (length l) 8)
    where
      short : length l < 8 → drop 8 (l ++ replicate (8 - length l) (cond s 0 255)) ≡ drop 8 l
      short h =
          let k : length (l ++ replicate (8 - length l) (cond s 0 255)) ≤ 8 = simp (length-append, length-replicate) (omega arith) in
          let m : length l ≤ 8 = omega arith in
          drop_of_length-le (l ++ replicate (8 - length l) (cond s 0 255)) k ∙ sym (drop_of_length-le l m)

      long : 8 ≤ length l → drop 8 (l ++ replicate (8 - length l) (cond s 0 255)) ≡ drop 8 l
      long h = let k : 8 - length l ≡ 0 = omega arith in rw k (simp append-nil)

  ext_bytes : (s : Bool) → Bytes (ext s)
  unfolding ext
  ext_bytes true = bytes-append l _ B (bytes-replicate (8 - length l) 0 (omega arith))
  ext_bytes false = bytes-append l _ B (bytes-replicate (8 - length l) 255 (omega arith))

  ext_long : (s : Bool) → 8 ≤ length (ext s)
  unfolding ext
  ext_long s = simp (length-append, length-replicate) (omega arith)

  signed : (s : Bool) → read (val s l) ≡ cond (all_are (cond s 0 255) (drop 8 l) && beq (ltb (low_first (padded_to 8 (cond s 0 255) l)) (2 ^ 63)) s) (got (low_first (padded_to 8 (cond s 0 255) l))) no
  unfolding ext padded_to
  signed s = ap read (sym (extend s (8 - length l) l B)) ∙ long_wide (ext s) (ext_bytes s) (ext_long s) s ∙ rw (past_same s)

  -- the rule on the bytes accepts the integers of i64, with their 64 bits, and no others
  pub long_is_01 : long_of l ≡ long_by01 l
  unfolding long_of denotes long_by01 rule01 sign_filled fill_of val
  long_is_01 = signed (ltb (last_byte l) 128)

  pub accepts_01 : in_i64 (denotes l) ≡ rule01 l
  unfolding long_of long_by01
  accepts_01 = same_test (in_i64 (denotes l)) (rule01 l) (bits64 (denotes l)) (sign_filled l) long_is_01

  pub short_01 : length l ≤ 8 → rule01 l ≡ true
  short_01 h = sym accepts_01 ∙ short_in l B h

  eight_bits : (s : Bool) → length l ≤ 8 → bits64 (val s (ext s)) ≡ low_first (ext s)
  unfolding val ext bits64
  eight_bits true h = refl
  eight_bits false h =
      let n : length (ext false) ≡ 8 = simp (length-append, length-replicate) (omega arith) in
      let v = low_below (ext false) (ext_bytes false) in
      ap bits64 (val_below (ext false) (ext_bytes false)) ∙ (rw n (let w : low_first (ext false) < 256 ^ 8 = rw n at v in omega arith))

  -- the integer of eight bytes or fewer is in its eight bytes, filled up by the sign
  pub word-short : length l ≤ 8 → bits64 (denotes l) ≡ sign_filled l
  unfolding denotes sign_filled fill_of val padded_to ext
  word-short h =
      let s = ltb (last_byte l) 128 in
      let n : length (ext s) ≤ 8 = simp (length-append, length-replicate) (omega arith) in
      ap bits64 (sym (extend s (8 - length l) l B)) ∙ eight_bits s h ∙ ap low_first (sym (take_all 8 (ext s) n))
