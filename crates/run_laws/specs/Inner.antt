-- The numbers 1, 2 and 11 are those of a whole call: a slice too short, a pickle too long, bytes left over; 23 is the batch's and 24 the score's
-- own. Here: no leaf refuses with one.
use Rattle.std.specs.Prelude.{Option, None, Some, ℕ, suc, zero, Bool, true, false, cond, not, ◌||◌, List, [], ◌∷◌, eqb, T}
use Rattle.refusal.specs.Read.{Read, got, refused}
use Rattle.refusal.specs.declared.Refusal.{Refusal}
use Rattle.refusal.specs.Numbers.{number_of}
use Rattle.input.specs.Line.{first_from, newline_of}
use Rattle.utf8.specs.Utf8.{valid}
use Rattle.input.specs.Long.{denotes, in_i64, long_of}
use Rattle.number.specs.Space.{same, trimmed}
use Rattle.number.specs.Number.{whole, invalid, turned, only, digits, natural, plus, integer, parse_i64, parse_u32, int_literal, less_l, long_literal}
use Rattle.float.specs.Form.{behind_sign, Number, number, formless, is_word}
use Rattle.float.specs.Literal.{nearest_within, valued, signed_value, float_literal, parse_f64}
use Rattle.text.specs.declared.TextPiece.{TextPiece}
use Rattle.text.specs.Pieces.{bytes_before, piece_then, texts}
use Rattle.text.specs.Text.{has_quotes, unescape_string, unescape_unicode}

abbrev pub outer : ℕ → Bool
outer n = eqb n 1 || (eqb n 2 || (eqb n 11 || (eqb n 23 || eqb n 24)))

-- a refusal with none of these numbers
abbrev pub Inner : Refusal → Type 0
Inner why = T (not (outer (number_of why).0))

-- what a leaf reads, or such a refusal
unfoldable pub InnerRead : {A : Type 0} → Read A → Type 0
InnerRead (got a) = Unit {0}
InnerRead (refused why at) = Inner why

either : {A : Type 0} (b : Bool) (x y : Read A) → InnerRead x → InnerRead y → InnerRead (cond b x y)
either true x y h k = h
either false x y h k = k

-- ---- lines, and integers of bytes

first_inner : (l : List ℕ) (k : ℕ) → InnerRead (first_from l k)
unfolding first_from InnerRead
first_inner [] k = tt
first_inner (b ∷ t) k = either (eqb b 10) _ _ tt (first_inner t (suc k))

pub newline_inner : (p : List ℕ) (from : ℕ) → InnerRead (newline_of p from)
unfolding newline_of
newline_inner p from = first_inner _ from

pub long_of-inner : (l : List ℕ) → InnerRead (long_of l)
unfolding long_of InnerRead
long_of-inner l = either (in_i64 (denotes l)) _ _ tt tt

-- ---- numbers in decimal

turned-inner : {A B : Type 0} (f : A → B) (r : Read A) → InnerRead r → InnerRead (turned f r)
unfolding turned InnerRead
turned-inner f (got a) h = tt
turned-inner f (refused why at) h = h

only-inner : {A : Type 0} (p : A → Bool) (r : Read A) → InnerRead r → InnerRead (only p r)
unfolding only invalid InnerRead
only-inner p (got a) h = either (p a) _ _ tt tt
only-inner p (refused why at) h = h

natural-inner : (s : List ℕ) → InnerRead (natural s)
unfolding natural invalid InnerRead
natural-inner [] = tt
natural-inner (b ∷ s) = either (digits (b ∷ s)) _ _ tt tt

plus-inner : (s : List ℕ) → InnerRead (plus s)
unfolding plus invalid InnerRead
plus-inner [] = tt
plus-inner (b ∷ s) = either (eqb b 0x2B) _ _ (natural-inner s) (natural-inner (b ∷ s))

integer-inner : (s : List ℕ) → InnerRead (integer s)
unfolding integer invalid InnerRead
integer-inner [] = tt
integer-inner (b ∷ s) = either (eqb b 0x2D) _ _ (turned-inner _ (natural s) (natural-inner s)) (turned-inner _ (plus (b ∷ s)) (plus-inner (b ∷ s)))

parse_i64-inner : (line : List ℕ) → InnerRead (parse_i64 line)
unfolding parse_i64 invalid InnerRead
parse_i64-inner line = either (valid line) _ _ (only-inner _ _ (integer-inner _)) tt

pub parse_u32-inner : (line : List ℕ) → InnerRead (parse_u32 line)
unfolding parse_u32 invalid InnerRead
parse_u32-inner line = either (valid line) _ _ (only-inner _ _ (plus-inner _)) tt

pub int_literal-inner : (line : List ℕ) → InnerRead (int_literal line)
unfolding int_literal InnerRead
int_literal-inner line = either (same line (0x30 ∷ 0x30 ∷ [])) _ _ tt (either (same line (0x30 ∷ 0x31 ∷ [])) _ _ tt (turned-inner whole _ (parse_i64-inner line)))

pub long_literal-inner : (line : List ℕ) → InnerRead (long_literal line)
unfolding long_literal
long_literal-inner line = parse_i64-inner (less_l line)

-- ---- floats

within-inner : (b m : Bool) (w up down : ℕ) → InnerRead (nearest_within b m w up down)
unfolding nearest_within InnerRead
within-inner true m w up down = tt
within-inner false m w up down = tt

valued-inner : (b m : Bool) (w up down : ℕ) → InnerRead (valued b m w up down)
unfolding valued InnerRead
valued-inner true m w up down = tt
valued-inner false m w up down = within-inner _ m w up down

value-inner : (m : Bool) (n : Number) → InnerRead (signed_value m n)
unfolding signed_value InnerRead
value-inner m (number w up down) = valued-inner _ m w up down
value-inner m formless = tt

pub parse_f64-inner : (line : List ℕ) → InnerRead (parse_f64 line)
unfolding parse_f64 float_literal InnerRead
parse_f64-inner line = either (valid line) _ _ (either (is_word (behind_sign (trimmed line))) _ _ tt (value-inner _ _)) tt

-- ---- texts

before-inner : (l : List ℕ) (r : Read (List ℕ)) → InnerRead r → InnerRead (bytes_before l r)
unfolding bytes_before InnerRead
before-inner l (got v) h = tt
before-inner l (refused why at) h = h

after-inner : (form : ℕ → List ℕ) (q : Option TextPiece) (at : ℕ) (rest : ℕ → Read (List ℕ)) → ((n : ℕ) → InnerRead (rest n)) → InnerRead (piece_then form q at rest)
unfolding piece_then InnerRead
after-inner form (Some p) at rest h = before-inner (form p.value) (rest p.more) (h p.more)
after-inner form None at rest h = tt

texts-inner : (head : List ℕ → Option TextPiece) (form : ℕ → List ℕ) (n at : ℕ) (s : List ℕ) → InnerRead (texts head form n at s)
unfolding texts InnerRead
texts-inner head form zero at [] = tt
texts-inner head form (suc n) at [] = tt
texts-inner head form zero at (b ∷ s) = after-inner form (head (b ∷ s)) at _ (λ more. texts-inner head form more (suc at) s)
texts-inner head form (suc n) at (b ∷ s) = texts-inner head form n (suc at) s

pub unescape_string-inner : (line : List ℕ) → InnerRead (unescape_string line)
unfolding unescape_string InnerRead
unescape_string-inner line = either (has_quotes line) _ _ (texts-inner _ _ 0 1 _) tt

pub unescape_unicode-inner : (line : List ℕ) → InnerRead (unescape_unicode line)
unfolding unescape_unicode
unescape_unicode-inner line = texts-inner _ _ 0 0 line
