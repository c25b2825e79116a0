-- What the code finds at a place of a text: the piece, and byte by byte how far it goes.
use Rattle.std.specs.Prelude.{ℕ, ◌+◌, ◌<◌, Bool, true, false, cond, List, [], ◌∷◌, length, get_or, eqb}
use Rattle.utf8.specs.declared.Piece.{Piece}
use Rattle.utf8.specs.declared.Piece.TheVariants.{Whole, Part}
use Rattle.utf8.specs.Utf8.{in_column, well_formed, piece}

-- a piece of n bytes, well formed or not
abbrev pub piece_is : Bool → ℕ → Piece
piece_is true n = Whole n
piece_is false n = Part n

-- the piece at the start of a text
unfoldable pub piece_of : List ℕ → Piece
piece_of s = piece_is (well_formed (piece s)) (length (piece s))

-- Table 3-7's second column, for a first byte that has one
unfoldable pub second_of : ℕ → ℕ × ℕ
second_of b =
    cond (eqb b 0xE0) (0xA0, 0xBF)
    (cond (eqb b 0xED) (0x80, 0x9F)
    (cond (eqb b 0xF0) (0x90, 0xBF)
    (cond (eqb b 0xF4) (0x80, 0x8F)
    (0x80, 0xBF))))

-- the text goes on with a byte in the range
unfoldable pub next_in : ℕ × ℕ → List ℕ → Bool
next_in e [] = false
next_in e (c ∷ t) = in_column e c

-- the n bytes from i on are ASCII
abbrev pub Ascii : List ℕ → ℕ → ℕ → Type 0
Ascii s i n = (k : ℕ) → k < n → get_or s (i + k) 0 < 0x80
