-- The form of FLOAT's text, white space trimmed: [+-]? (digits [. digits*] | . digits) ([eE] [+-]? digits)?
-- and the number that it writes. Rust's `f64::from_str`.
use Rattle.std.specs.Prelude.{ℕ, ◌+◌, Bool, true, false, cond, ◌&&◌, ◌||◌, List, [], ◌∷◌, ◌++◌, map, leb, ltb, eqb, length}
use Rattle.number.specs.Number.{decimal}
use Rattle.number.specs.Space.{same}
use Rattle.float.specs.Digits.{lead, past}

-- [+-]?: whether it is a minus
unfoldable pub minus : List ℕ → Bool
minus [] = false
minus (b ∷ s) = eqb b 0x2D

-- [+-]?: the text after it
unfoldable pub behind_sign : List ℕ → List ℕ
behind_sign [] = []
behind_sign (b ∷ s) = cond (eqb b 0x2B || eqb b 0x2D) s (b ∷ s)

-- [. digits*]: the digits after the point
unfoldable pub fraction : List ℕ → List ℕ
fraction [] = []
fraction (b ∷ s) = cond (eqb b 0x2E) (lead s) []

-- [. digits*]: the text after it
unfoldable pub beyond : List ℕ → List ℕ
beyond [] = []
beyond (b ∷ s) = cond (eqb b 0x2E) (past s) (b ∷ s)

-- an exponent as it is written, 10 ^ n or 1 / 10 ^ n
pub data Exponent : Type 0 where
  raised : ℕ → Exponent
  lowered : ℕ → Exponent
  unformed : Exponent

-- an exponent's sign, true for minus
unfoldable pub signed_power : Bool → ℕ → Exponent
signed_power false n = raised n
signed_power true n = lowered n

-- digits, at least one of them and nothing after them
unfoldable pub power : Bool → List ℕ → Exponent
power m s = cond (ltb 0 (length (lead s)) && eqb (length (past s)) 0) (signed_power m (decimal (lead s))) unformed

-- ([eE] [+-]? digits)?: none is 10 ^ 0
unfoldable pub exponent : List ℕ → Exponent
exponent [] = raised 0
exponent (b ∷ s) = cond (eqb b 0x65 || eqb b 0x45) (power (minus s) (behind_sign s)) unformed

-- A number as it is written, w * 10 ^ up / 10 ^ down. The e of RULES A7.5, the exponent less the digits after the point, is up - down.
pub data Number : Type 0 where
  number : (w up down : ℕ) → Number
  formless : Number

-- the digits before the exponent, the point left out
unfoldable pub mantissa_digits : List ℕ → List ℕ
mantissa_digits s = lead s ++ fraction (past s)

-- the digits as a whole number w, with so many of them after the point, times the exponent's power
unfoldable pub scaled : ℕ → ℕ → Exponent → Number
scaled w shift (raised n) = number w n shift
scaled w shift (lowered n) = number w 0 (n + shift)
scaled w shift unformed = formless

-- (digits [. digits*] | . digits) ([eE] [+-]? digits)?: w is over all digits written, zeros at either end included
unfoldable pub number_written : List ℕ → Number
number_written s =
    cond (ltb 0 (length (mantissa_digits s)))
    (scaled (decimal (mantissa_digits s)) (length (fraction (past s))) (exponent (beyond (past s))))
    formless

-- 'A' to 'Z' as small letters
unfoldable pub small : ℕ → ℕ
small b = cond (leb 0x41 b && leb b 0x5A) (b + 0x20) b

-- the words "inf", "infinity" and "nan"
abbrev pub inf : List ℕ
inf = 0x69 ∷ 0x6E ∷ 0x66 ∷ []

abbrev pub infinity : List ℕ
infinity = 0x69 ∷ 0x6E ∷ 0x66 ∷ 0x69 ∷ 0x6E ∷ 0x69 ∷ 0x74 ∷ 0x79 ∷ []

abbrev pub nan : List ℕ
nan = 0x6E ∷ 0x61 ∷ 0x6E ∷ []

-- one of these words, in any letter case
unfoldable pub is_word : List ℕ → Bool
is_word s = same (map small s) inf || same (map small s) infinity || same (map small s) nan
