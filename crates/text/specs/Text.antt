-- RULES A7.6 and A7.7: what a line of STRING and one of UNICODE say, and what each answer of the code says of them.
use Rattle.std.specs.Prelude.{ℕ, ◌-◌, Bool, true, false, cond, ◌&&◌, ◌||◌, List, [], ◌∷◌, leb, eqb, length, take, drop, get_or, Result, Ok, Err}
use Rattle.refusal.specs.Read.{Read, got, refused}
use Rattle.refusal.specs.declared.Refusal.TheVariants.{InvalidLiteral}
use Rattle.text.specs.declared.Quoted.{Quoted}
use Rattle.text.specs.declared.Quoted.TheVariants.{Plain, Escaped}
use Rattle.text.specs.declared.FaultAt.{FaultAt}
use Rattle.utf8.specs.Utf8.{encode}
use Rattle.text.specs.Pieces.{texts, length_of}
use Rattle.text.specs.Escapes.{string_head, unicode_head}

-- at least two bytes, the first and the last the same quote, ' or "
unfoldable pub has_quotes : List ℕ → Bool
has_quotes line =
    leb 2 (length line)
    && eqb (get_or line 0 0) (get_or line (length line - 1) 0)
    && (eqb (get_or line 0 0) 39 || eqb (get_or line 0 0) 34)

-- what stands between the first byte and the last
unfoldable pub inner : List ℕ → List ℕ
inner line = take (length line - 2) (drop 1 line)

-- a byte as itself
unfoldable pub byte_itself : ℕ → List ℕ
byte_itself b = b ∷ []

-- STRING: the quotes are looked at before any escape, and a fault of theirs has place 0
unfoldable pub unescape_string : List ℕ → Read (List ℕ)
unescape_string line = cond (has_quotes line) (texts string_head byte_itself 0 1 (inner line)) (refused InvalidLiteral 0)

-- whether a backslash is among the bytes
unfoldable pub has_escape : List ℕ → Bool
has_escape [] = false
has_escape (b ∷ s) = eqb b 92 || has_escape s

-- UNICODE, as UTF-8
unfoldable pub unescape_unicode : List ℕ → Read (List ℕ)
unescape_unicode line = texts unicode_head encode 0 0 line

-- a number of bytes with the mark whether there was an escape
unfoldable pub with_mark : Bool → Read ℕ → Read (Bool × ℕ)
with_mark e (got n) = got (e, n)
with_mark e (refused why at) = refused why at

-- what is to be said of a line of STRING before its value is written: whether it has an escape, and how many bytes the value has
unfoldable pub string_measured : List ℕ → Read (Bool × ℕ)
string_measured line = with_mark (has_escape (inner line)) (length_of (unescape_string line))

-- the answers of the code, as values and refusals of RULES A7: of a line of STRING (number 8 is InvalidLiteral),
unfoldable pub quoted_says : List ℕ → Result Quoted FaultAt → Read (Bool × ℕ)
quoted_says line (Ok Plain) = got (false, length (inner line))
quoted_says line (Ok (Escaped n)) = got (true, n)
quoted_says line (Err fault) = refused InvalidLiteral fault.0

-- and of a text that is measured
unfoldable pub decoded_says : Result ℕ FaultAt → Read ℕ
decoded_says (Ok n) = got n
decoded_says (Err fault) = refused InvalidLiteral fault.0
