-- Worked examples of RULES A7.2 and A7.3, and of the open points 4.1 to 4.4 and 4.8 (tests/oracle/points.txt).
use Rattle.std.specs.Prelude.{◌^◌, ◌-◌, true, [], ◌∷◌, ◌≡◌, refl, pos, negsuc}
use Rattle.refusal.specs.Read.{got}
use Rattle.utf8.specs.Utf8 as utf8
use Rattle.number.specs.Space.{white_space, spaces, same, one_of, space, width, strip, trim_start, trim_end, trimmed}
use Rattle.number.specs.Number.{invalid, turned, only, digits, decimal, natural, plus, integer, in_u32, parse_i64, parse_u32, truth, whole, int_literal, less_l, long_literal}
use Rattle.input.specs.Long.{in_i64, bits64}

-- what computes on given bytes
unfoldable evaluates : Unit {0}
unfolding utf8.evaluates white_space spaces same one_of space width strip trim_start trim_end trimmed invalid turned only digits decimal natural plus integer in_i64 in_u32 bits64 parse_i64 parse_u32 int_literal less_l long_literal
evaluates = tt

-- U+3000, U+0085, `5`, U+2003, a space
pub trims : trimmed (0xE3 ∷ 0x80 ∷ 0x80 ∷ 0xC2 ∷ 0x85 ∷ 0x35 ∷ 0xE2 ∷ 0x80 ∷ 0x83 ∷ 0x20 ∷ []) ≡ 0x35 ∷ []
unfolding evaluates
trims = refl

-- 4.1: `01` is true, `01` and a CR, and `001`, are 1
pub int_true : int_literal (0x30 ∷ 0x31 ∷ []) ≡ got (truth true)
unfolding evaluates
int_true = refl

pub int_cr : int_literal (0x30 ∷ 0x31 ∷ 0x0D ∷ []) ≡ got (whole (pos 1))
unfolding evaluates
int_cr = refl

-- 4.2: a byte A0 alone is no space, nor is U+001C
pub int_latin : int_literal (0x35 ∷ 0xA0 ∷ []) ≡ invalid
unfolding evaluates
int_latin = refl

pub int_space : int_literal (0x35 ∷ 0xC2 ∷ 0xA0 ∷ []) ≡ got (whole (pos 5))
unfolding evaluates
int_space = refl

pub int_separator : int_literal (0x35 ∷ 0x1C ∷ []) ≡ invalid
unfolding evaluates
int_separator = refl

-- 4.3: the least i64 is read, and one more than the greatest is not
pub int_least : parse_i64 (0x2D ∷ 0x39 ∷ 0x32 ∷ 0x32 ∷ 0x33 ∷ 0x33 ∷ 0x37 ∷ 0x32 ∷ 0x30 ∷ 0x33 ∷ 0x36 ∷ 0x38 ∷ 0x35 ∷ 0x34 ∷ 0x37 ∷ 0x37 ∷ 0x35 ∷ 0x38 ∷ 0x30 ∷ 0x38 ∷ [])
    ≡ got (negsuc (2 ^ 63 - 1))
unfolding evaluates
int_least = refl

pub int_over : parse_i64 (0x39 ∷ 0x32 ∷ 0x32 ∷ 0x33 ∷ 0x33 ∷ 0x37 ∷ 0x32 ∷ 0x30 ∷ 0x33 ∷ 0x36 ∷ 0x38 ∷ 0x35 ∷ 0x34 ∷ 0x37 ∷ 0x37 ∷ 0x35 ∷ 0x38 ∷ 0x30 ∷ 0x38 ∷ []) ≡ invalid
unfolding evaluates
int_over = refl

-- 4.4: `5L ` is none, `5 L` is 5
pub long_inside : long_literal (0x35 ∷ 0x4C ∷ 0x20 ∷ []) ≡ invalid
unfolding evaluates
long_inside = refl

pub long_spaced : long_literal (0x35 ∷ 0x20 ∷ 0x4C ∷ []) ≡ got (pos 5)
unfolding evaluates
long_spaced = refl

-- 4.8: `+007 ` is 7, `-0` is none
pub memo_plus : parse_u32 (0x2B ∷ 0x30 ∷ 0x30 ∷ 0x37 ∷ 0x20 ∷ []) ≡ got 7
unfolding evaluates
memo_plus = refl

pub memo_minus : parse_u32 (0x2D ∷ 0x30 ∷ []) ≡ invalid
unfolding evaluates
memo_minus = refl
