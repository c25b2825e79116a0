-- What stands at a place of a text; and the stores of a code point's UTF-8. Assumes nothing.
use mathlib.Core.Path.{◌≡◌, refl}
use mathlib.Core.List.{List}
use Prim.Native.Nat.{ℕ, suc, ◌+◌, ◌-◌, ◌/◌, ◌%◌, ◌≤◌, ◌<◌}
use native.Mathlib.Numerals.{add-one}
use native.Mathlib.Omega.{arith}
use lib.ListN.{length, get_or, take, drop, set, length-drop}
use Rattle.utf8.specs.Utf8.{trail, encode}
use Rattle.utf8.specs.Encode.{encode_one, encode_two, encode-three, encode-four}
use lib.Seq.{drop-cons, sets, take_all}
use borrow.Author.Tests.{eq-eqb, ne_eqb}
use Rattle.text.specs.Escapes.{one, string_escape, string_head, unicode_head}

-- what is left of a text from a place on
pub rest : (s : List ℕ) (k : ℕ) → take (length s - k) (drop k s) ≡ drop k s
rest s k = take_all (length s - k) (drop k s) (omega (arith, length-drop k s))

module _ (s : List ℕ) (i : ℕ) (h : i < length s) where
  pub string_plain : (get_or s i 0 ≡ 92 → ⊥) → string_head (drop i s) ≡ one (get_or s i 0) 0
  unfolding string_head
  string_plain k = simp (drop-cons s i 0 h, ne_eqb _ _ k)

  pub string_slash : get_or s i 0 ≡ 92 → string_head (drop i s) ≡ string_escape (take (length s - (i + 1)) (drop (i + 1) s))
  unfolding string_head
  string_slash k = simp (drop-cons s i 0 h, eq-eqb _ _ k, rest, add-one)

  pub unicode_plain : (get_or s i 0 ≡ 92 → ⊥) → unicode_head (drop i s) ≡ one (get_or s i 0) 0
  unfolding unicode_head
  unicode_plain k = simp (drop-cons s i 0 h, ne_eqb _ _ k)

-- the code point c is written at `at` of l: its room, the next place, and what the stores are
module _ (l : List ℕ) (at c : ℕ) where
  abbrev pub Put : ℕ → List ℕ → Type 0
  Put n l' = (at + n ≡ at + length (encode c)) × (l' ≡ sets l at (encode c))

  pub put_one : c < 0x80 → Put 1 (set l at c)
  put_one h = rw (encode_one c h) (refl, refl)

  pub put_two : 0x80 ≤ c → c < 0x800 → Put 2 (set (set l at (0xC0 + c / 64)) (at + 1) (0x80 + c % 64))
  unfolding trail
  put_two h k = rw (encode_two c h k, add-one at) (refl, refl)

  pub put_three : 0x800 ≤ c → c < 0x10000
      → Put 3 (set (set (set l at (0xE0 + c / 4096)) (at + 1) (0x80 + c / 64 % 64)) (at + 2) (0x80 + c % 64))
  unfolding trail
  put_three h k =
      let e : at + 2 ≡ suc (suc at) = omega arith in
      rw (encode-three c h k, add-one at, e) (refl, refl)

  pub put_four : 0x10000 ≤ c
      → Put 4 (set (set (set (set l at (0xF0 + c / 262144)) (at + 1) (0x80 + c / 4096 % 64)) (at + 2) (0x80 + c / 64 % 64)) (at + 3) (0x80 + c % 64))
  unfolding trail
  put_four h =
      let e : at + 2 ≡ suc (suc at) = omega arith in
      let f : at + 3 ≡ suc (suc (suc at)) = omega arith in
      rw (encode-four c h, add-one at, e, f) (refl, refl)
