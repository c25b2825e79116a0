-- RULES A7.6 and A7.7: the escapes of STRING and UNICODE. Bytes stand by their ASCII numbers: 43 is `+`, 48 to 57 the digits,
-- 65 to 70 A to F, 97 to 102 a to f, 92 the backslash, 120 `x`, 117 `u`, 85 `U`.
use Rattle.std.specs.Prelude.{ℕ, zero, suc, ◌+◌, ◌-◌, ◌*◌, ◌%◌, Bool, cond, ◌&&◌, List, [], ◌∷◌, leb, ltb, eqb, length, take, Option, None, Some}
use Rattle.utf8.specs.Utf8.{scalar}
use Rattle.text.specs.declared.TextPiece.{TextPiece}

-- one value, with how many bytes after the first belong to it
abbrev pub one : ℕ → ℕ → Option TextPiece
one v n = Some (record { value = v; more = n })

-- c is one of the bytes from `least` to `greatest`
unfoldable pub from_to : ℕ → ℕ → ℕ → Bool
from_to least greatest c = leb least c && leb c greatest

-- a hex digit's value, in either letter case; 16 for any other byte
unfoldable pub hex_digit : ℕ → ℕ
hex_digit c =
    cond (from_to 48 57 c) (c - 48)
    (cond (from_to 65 70 c) (c - 55)
    (cond (from_to 97 102 c) (c - 87) 16))

-- v followed by hex digits, as a number; none if a byte is no hex digit
unfoldable pub hex_from : ℕ → List ℕ → Option ℕ
hex_from v [] = Some v
hex_from v (c ∷ s) = cond (ltb (hex_digit c) 16) (hex_from (v * 16 + hex_digit c) s) None

-- one or more hex digits
unfoldable pub hex_digits : List ℕ → Option ℕ
hex_digits [] = None
hex_digits (c ∷ s) = hex_from 0 (c ∷ s)

-- Rust's `from_str_radix` at 16, laxer than Python's readers: a `+` may stand before the digits
unfoldable pub hex_number : List ℕ → Option ℕ
hex_number [] = None
hex_number (c ∷ s) = cond (eqb c 43) (hex_digits s) (hex_digits (c ∷ s))

-- a number written with n characters, which stand after a backslash and a letter
unfoldable pub hex_piece : ℕ → Option ℕ → Option TextPiece
hex_piece n (Some v) = one v (n + 1)
hex_piece n None = None

-- exactly n hex characters
unfoldable pub hex_escape : ℕ → List ℕ → Option TextPiece
hex_escape n s = cond (leb n (length s)) (hex_piece n (hex_number (take n s))) None

-- the octal digit at the start of s; 8 where there is none
unfoldable pub octal_digit : List ℕ → ℕ
octal_digit [] = 8
octal_digit (c ∷ s) = cond (from_to 48 55 c) (c - 48) 8

-- the octal digits at the start of s, n of them at most
unfoldable pub octals : ℕ → List ℕ → List ℕ
octals zero s = []
octals (suc n) [] = []
octals (suc n) (c ∷ s) = cond (ltb (octal_digit (c ∷ s)) 8) (octal_digit (c ∷ s) ∷ octals n s) []

-- v followed by octal digits, as a number
unfoldable pub octal_from : ℕ → List ℕ → ℕ
octal_from v [] = v
octal_from v (d ∷ ds) = octal_from (v * 8 + d) ds

-- one to three octal digits modulo 256
unfoldable pub octal_escape : List ℕ → Option TextPiece
octal_escape s = one (octal_from 0 (octals 3 s) % 256) (length (octals 3 s))

-- n t r a b f v: newline, tab, return, bell, backspace, form feed, vertical tab
abbrev pub letters : List (ℕ × ℕ)
letters = (110, 10) ∷ (116, 9) ∷ (114, 13) ∷ (97, 7) ∷ (98, 8) ∷ (102, 12) ∷ (118, 11) ∷ []

-- the byte that c stands for in a table, by default itself
unfoldable pub look : List (ℕ × ℕ) → ℕ → ℕ
look [] c = c
look (e ∷ t) c = cond (eqb c e.0) e.1 (look t c)

-- STRING, past a backslash: `x` with two hex characters, octal digits, a letter of the table, or a byte that stands for itself
unfoldable pub string_escape : List ℕ → Option TextPiece
string_escape [] = None
string_escape (c ∷ s) =
    cond (eqb c 120) (hex_escape 2 s)
    (cond (from_to 48 55 c) (octal_escape (c ∷ s))
    (one (look letters c) 1))

-- STRING, between its quotes: a backslash starts an escape, any other byte is itself
unfoldable pub string_head : List ℕ → Option TextPiece
string_head [] = None
string_head (b ∷ s) = cond (eqb b 92) (string_escape s) (one b 0)

-- a surrogate or a number above 10FFFF, which is no scalar value, is U+FFFD
unfoldable pub scalar_of : ℕ → ℕ
scalar_of v = cond (scalar v) v 0xFFFD

-- so also for a piece
unfoldable pub scalar_piece : Option TextPiece → Option TextPiece
scalar_piece (Some p) = one (scalar_of p.value) p.more
scalar_piece None = None

-- UNICODE, past a backslash: `u` with four hex characters, `U` with eight; else the backslash stands for itself
unfoldable pub unicode_escape : List ℕ → Option TextPiece
unicode_escape [] = one 92 0
unicode_escape (c ∷ s) =
    cond (eqb c 117) (scalar_piece (hex_escape 4 s))
    (cond (eqb c 85) (scalar_piece (hex_escape 8 s))
    (one 92 0))

-- UNICODE: a backslash may start an escape, any other byte is the Latin-1 character of its value
unfoldable pub unicode_head : List ℕ → Option TextPiece
unicode_head [] = None
unicode_head (b ∷ s) = cond (eqb b 92) (unicode_escape s) (one b 0)
