-- Laws of hex and octal digits: what the loops over them keep. Assumes nothing.
use mathlib.Core.Path.{◌≡◌, refl, sym, ap, ◌∙◌, subst}
use mathlib.Core.List.{List, [], ◌∷◌}
use Prim.Native.Nat.{ℕ, zero, suc, ◌+◌, ◌-◌, ◌*◌, ◌%◌, ◌^◌, ◌<◌, ◌≤◌}
use native.Mathlib.Nat.{pow-suc, pow-le-pow_right, le_trans}
use native.Mathlib.Omega.{arith}
use lib.Arith.{digits_lt}
use lib.ListN.{length, get_or, drop}
use lib.Seq.{drop-drop}
use borrow.Author.Tests.{lt-ltb, le-ltb, ne_eqb}
use Rattle.text.specs.Escapes.{one, hex_digits, hex_number, octal_digit, octals, octal_from, octal_escape}

-- i digits of base b, and one more, are below b to the number of digits
pub grown : (b i n : ℕ) {v d : ℕ} → zero < b → i < n → v < b ^ i → d < b → v * b + d < b ^ n
grown b i n {v} {d} z h k l =
    le_trans (subst (λ (m : ℕ). v * b + d < m) (sym (pow-suc b i)) (digits_lt k l)) (pow-le-pow_right z h)

pub octals_zero : (s : List ℕ) → octals 0 s ≡ []
unfolding octals
octals_zero s = refl

pub octals-stop : (n : ℕ) (s : List ℕ) → (octal_digit s < 8 → ⊥) → octals n s ≡ []
unfolding octals
octals-stop zero s h = refl
octals-stop (suc n) [] h = refl
octals-stop (suc n) (c ∷ s) h = let k : 8 ≤ octal_digit (c ∷ s) = omega (arith, h) in rw (le-ltb _ _ k)

octals_next : (n : ℕ) (s : List ℕ) → octal_digit s < 8 → octals (suc n) s ≡ octal_digit s ∷ octals n (drop 1 s)
unfolding octals octal_digit
octals_next n [] h = absurd (omega arith)
octals_next n (c ∷ s) h = rw (lt-ltb _ _ h)

-- a digit stands inside the text
pub octal_inside : (s : List ℕ) → octal_digit s < 8 → zero < length s
unfolding octal_digit
octal_inside [] h = absurd (omega arith)
octal_inside (c ∷ s) h = omega arith

-- one digit more
pub octal_step : (s : List ℕ) (i v n : ℕ) → zero < n → octal_digit (drop i s) < 8
    → (octal_from (v * 8 + octal_digit (drop i s)) (octals (n - 1) (drop (i + 1) s)) ≡ octal_from v (octals n (drop i s)))
    × (i + 1 + length (octals (n - 1) (drop (i + 1) s)) ≡ i + length (octals n (drop i s)))
unfolding octal_from
octal_step s i v n z h =
    let e : n ≡ suc (n - 1) = omega arith in
    let d : drop 1 (drop i s) ≡ drop (i + 1) s = drop-drop 1 i s in
    let m : octals n (drop i s) ≡ octal_digit (drop i s) ∷ octals (n - 1) (drop (i + 1) s) =
    ap (λ (m : ℕ). octals m (drop i s)) e ∙ octals_next (n - 1) (drop i s) h ∙ rw d in
    (rw m, rw m (omega arith))

-- no digit is left: the value so far is the whole
pub octal_done : (s : List ℕ) (i v n : ℕ) → octal_from v (octals n (drop i s)) ≡ octal_from 0 (octals 3 s)
    → i + length (octals n (drop i s)) ≡ length (octals 3 s) → octals n (drop i s) ≡ [] → one (v % 256) i ≡ octal_escape s
unfolding octal_from octal_escape
octal_done s i v n h k z =
    let e : v ≡ octal_from 0 (octals 3 s) = rw z at h in
    let f : i + 0 ≡ length (octals 3 s) = rw z at k in
    let l : i ≡ length (octals 3 s) = omega arith in
    rw (← e, ← l)

-- hex characters with no `+`
pub hex_plain : (s : List ℕ) → (zero < length s → get_or s 0 0 ≡ 43 → ⊥) → hex_digits s ≡ hex_number s
unfolding hex_number hex_digits
hex_plain [] h = refl
hex_plain (c ∷ s) h = rw (ne_eqb c 43 (h (omega arith)))
