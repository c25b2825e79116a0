-- Worked lines of RULES A7.6 and A7.7, and of the open points 4.9 to 4.11 (tests/oracle/points.txt).
use Rattle.std.specs.Prelude.{◌≡◌, refl, [], ◌∷◌}
use Rattle.refusal.specs.Read.{got, refused}
use Rattle.refusal.specs.declared.Refusal.TheVariants.{InvalidLiteral}
use Rattle.utf8.specs.Utf8.{scalar, trail, encode}
use Rattle.text.specs.Pieces.{bytes_before, piece_then, texts}
use Rattle.text.specs.Escapes.{from_to, hex_digit, hex_from, hex_digits, hex_number, hex_piece, hex_escape, octal_digit, octals, octal_from, octal_escape}
use Rattle.text.specs.Escapes.{look, string_escape, string_head, scalar_of, scalar_piece, unicode_escape, unicode_head}
use Rattle.text.specs.Text.{has_quotes, inner, byte_itself, unescape_string, unescape_unicode}

-- opens what an example computes with
unfoldable pub evaluates : Unit {0}
unfolding scalar trail encode bytes_before piece_then texts from_to hex_digit hex_from hex_digits hex_number hex_piece hex_escape octal_digit octals octal_from octal_escape look string_escape string_head scalar_of scalar_piece unicode_escape unicode_head has_quotes inner byte_itself unescape_string unescape_unicode
evaluates = tt

-- 'a\n'
pub letter : unescape_string (39 ∷ 97 ∷ 92 ∷ 110 ∷ 39 ∷ []) ≡ got (97 ∷ 10 ∷ [])
unfolding evaluates
letter = refl

-- quotes between the quotes are plain bytes, also after a backslash
pub quotes_inside : unescape_string (34 ∷ 39 ∷ 92 ∷ 34 ∷ 34 ∷ []) ≡ got (39 ∷ 34 ∷ [])
unfolding evaluates
quotes_inside = refl

-- \x+f is 0F
pub plus : unescape_string (39 ∷ 92 ∷ 120 ∷ 43 ∷ 102 ∷ 39 ∷ []) ≡ got (15 ∷ [])
unfolding evaluates
plus = refl

-- \x-f is refused at the backslash
pub minus : unescape_string (39 ∷ 92 ∷ 120 ∷ 45 ∷ 102 ∷ 39 ∷ []) ≡ refused InvalidLiteral 1
unfolding evaluates
minus = refl

-- one hex character
pub short_hex : unescape_string (39 ∷ 97 ∷ 98 ∷ 92 ∷ 120 ∷ 49 ∷ 39 ∷ []) ≡ refused InvalidLiteral 3
unfolding evaluates
short_hex = refl

-- three octal digits modulo 256, and a plain fourth
pub octal_wraps : unescape_string (39 ∷ 92 ∷ 52 ∷ 48 ∷ 49 ∷ 49 ∷ 39 ∷ []) ≡ got (1 ∷ 49 ∷ [])
unfolding evaluates
octal_wraps = refl

-- a backslash before the last quote breaks off
pub breaks_off : unescape_string (39 ∷ 97 ∷ 92 ∷ 39 ∷ []) ≡ refused InvalidLiteral 2
unfolding evaluates
breaks_off = refl

-- a line of one byte
pub one_quote : unescape_string (39 ∷ []) ≡ refused InvalidLiteral 0
unfolding evaluates
one_quote = refl

-- a \u after another backslash is an escape too
pub twice : unescape_unicode (92 ∷ 92 ∷ 117 ∷ 48 ∷ 48 ∷ 52 ∷ 49 ∷ []) ≡ got (92 ∷ 65 ∷ [])
unfolding evaluates
twice = refl

-- \u+041 is A
pub plus-four : unescape_unicode (92 ∷ 117 ∷ 43 ∷ 48 ∷ 52 ∷ 49 ∷ []) ≡ got (65 ∷ [])
unfolding evaluates
plus-four = refl

-- a surrogate pair is U+FFFD twice
pub pair : unescape_unicode (92 ∷ 117 ∷ 100 ∷ 56 ∷ 51 ∷ 100 ∷ 92 ∷ 117 ∷ 100 ∷ 101 ∷ 48 ∷ 48 ∷ []) ≡ got (239 ∷ 191 ∷ 189 ∷ 239 ∷ 191 ∷ 189 ∷ [])
unfolding evaluates
pair = refl

-- eight hex characters, Latin-1, and a lone backslash
pub eight : unescape_unicode (92 ∷ 85 ∷ 48 ∷ 48 ∷ 48 ∷ 49 ∷ 102 ∷ 54 ∷ 48 ∷ 48 ∷ 233 ∷ 92 ∷ []) ≡ got (240 ∷ 159 ∷ 152 ∷ 128 ∷ 195 ∷ 169 ∷ 92 ∷ [])
unfolding evaluates
eight = refl

-- a break-off
pub short-four : unescape_unicode (97 ∷ 92 ∷ 117 ∷ 49 ∷ 50 ∷ []) ≡ refused InvalidLiteral 1
unfolding evaluates
short-four = refl
