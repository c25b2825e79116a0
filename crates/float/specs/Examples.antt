-- Worked examples: literals that show each part of the rule.
use Rattle.std.specs.Prelude.{[], ◌∷◌, ◌≡◌, refl}
use Rattle.std.specs.Float.Ieee.{round, to_bits}
use Rattle.refusal.specs.Read.{got, refused}
use Rattle.refusal.specs.declared.Refusal.TheVariants.{InvalidLiteral, FloatOutside}
use Rattle.utf8.specs.Utf8 as utf8
use Rattle.number.specs.Number.{decimal}
use Rattle.number.specs.Space.{white_space, spaces, same, one_of, space, width, strip, trim_start, trim_end, trimmed}
use Rattle.float.specs.Digits.{digit, lead, past}
use Rattle.float.specs.Form.{minus, behind_sign, fraction, beyond, signed_power, power, exponent, mantissa_digits, scaled, number_written, small, is_word}
use Rattle.float.specs.Literal.{double, signed, inside_bounds, bits_of, nearest_within, valued, signed_value, float_literal, parse_f64}

-- what computes on given bytes
unfoldable pub evaluates : Unit {0}
unfolding decimal same digit lead past minus behind_sign fraction beyond signed_power power exponent mantissa_digits scaled number_written small is_word double signed inside_bounds bits_of nearest_within valued signed_value float_literal round to_bits
evaluates = tt

-- 1E5
pub capital_e : float_literal (0x31 ∷ 0x45 ∷ 0x35 ∷ []) ≡ got 0x40F86A0000000000
unfolding evaluates
capital_e = refl

-- -0e-99999999999999999999
pub signed_zero : float_literal (0x2D ∷ 0x30 ∷ 0x65 ∷ 0x2D ∷ 0x39 ∷ 0x39 ∷ 0x39 ∷ 0x39 ∷ 0x39 ∷ 0x39 ∷ 0x39 ∷ 0x39 ∷ 0x39 ∷ 0x39 ∷ 0x39 ∷ 0x39 ∷ 0x39 ∷ 0x39 ∷ 0x39 ∷ 0x39 ∷ 0x39 ∷ 0x39 ∷ 0x39 ∷ 0x39 ∷ []) ≡ got 0x8000000000000000
unfolding evaluates
signed_zero = refl

-- +.5
pub no_whole : float_literal (0x2B ∷ 0x2E ∷ 0x35 ∷ []) ≡ got 0x3FE0000000000000
unfolding evaluates
no_whole = refl

-- 1.
pub no_fraction : float_literal (0x31 ∷ 0x2E ∷ []) ≡ got 0x3FF0000000000000
unfolding evaluates
no_fraction = refl

-- .
pub no_digit : float_literal (0x2E ∷ []) ≡ refused InvalidLiteral 0
unfolding evaluates
no_digit = refl

-- 1e+
pub no_exponent : float_literal (0x31 ∷ 0x65 ∷ 0x2B ∷ []) ≡ refused InvalidLiteral 0
unfolding evaluates
no_exponent = refl

-- infinityx
pub longer_word : float_literal (0x69 ∷ 0x6E ∷ 0x66 ∷ 0x69 ∷ 0x6E ∷ 0x69 ∷ 0x74 ∷ 0x79 ∷ 0x78 ∷ []) ≡ refused InvalidLiteral 0
unfolding evaluates
longer_word = refl

-- -nan
pub not_a_number : float_literal (0x2D ∷ 0x6E ∷ 0x61 ∷ 0x6E ∷ []) ≡ refused FloatOutside 0
unfolding evaluates
not_a_number = refl

-- 9007199254740992
pub largest : float_literal (0x39 ∷ 0x30 ∷ 0x30 ∷ 0x37 ∷ 0x31 ∷ 0x39 ∷ 0x39 ∷ 0x32 ∷ 0x35 ∷ 0x34 ∷ 0x37 ∷ 0x34 ∷ 0x30 ∷ 0x39 ∷ 0x39 ∷ 0x32 ∷ []) ≡ got 0x4340000000000000
unfolding evaluates
largest = refl

-- 9007199254740993
pub past_largest : float_literal (0x39 ∷ 0x30 ∷ 0x30 ∷ 0x37 ∷ 0x31 ∷ 0x39 ∷ 0x39 ∷ 0x32 ∷ 0x35 ∷ 0x34 ∷ 0x37 ∷ 0x34 ∷ 0x30 ∷ 0x39 ∷ 0x39 ∷ 0x33 ∷ []) ≡ refused FloatOutside 0
unfolding evaluates
past_largest = refl

-- 1e22
pub last-power : float_literal (0x31 ∷ 0x65 ∷ 0x32 ∷ 0x32 ∷ []) ≡ got 0x4480F0CF064DD592
unfolding evaluates
last-power = refl

-- 1e23
pub past-power : float_literal (0x31 ∷ 0x65 ∷ 0x32 ∷ 0x33 ∷ []) ≡ refused FloatOutside 0
unfolding evaluates
past-power = refl

-- 1.0e23
pub one_digit_more : float_literal (0x31 ∷ 0x2E ∷ 0x30 ∷ 0x65 ∷ 0x32 ∷ 0x33 ∷ []) ≡ got 0x44B52D02C7E14AF6
unfolding evaluates
one_digit_more = refl

-- 1e18446744073709551617
pub long-exponent : float_literal (0x31 ∷ 0x65 ∷ 0x31 ∷ 0x38 ∷ 0x34 ∷ 0x34 ∷ 0x36 ∷ 0x37 ∷ 0x34 ∷ 0x34 ∷ 0x30 ∷ 0x37 ∷ 0x33 ∷ 0x37 ∷ 0x30 ∷ 0x39 ∷ 0x35 ∷ 0x35 ∷ 0x31 ∷ 0x36 ∷ 0x31 ∷ 0x37 ∷ []) ≡ refused FloatOutside 0
unfolding evaluates
long-exponent = refl

-- U+3000, 5, U+00A0
pub trims : parse_f64 (0xE3 ∷ 0x80 ∷ 0x80 ∷ 0x35 ∷ 0xC2 ∷ 0xA0 ∷ []) ≡ got 0x4014000000000000
unfolding evaluates utf8.evaluates white_space spaces one_of space width strip trim_start trim_end trimmed parse_f64
trims = refl

-- A0 by itself is no UTF-8
pub no_utf8 : parse_f64 (0x35 ∷ 0xA0 ∷ []) ≡ refused InvalidLiteral 0
unfolding evaluates utf8.evaluates white_space spaces one_of space width strip trim_start trim_end trimmed parse_f64
no_utf8 = refl
