-- Unicode chapter 3: which bytes are well-formed UTF-8 (D92, Table 3-7), and the replacement of each maximal subpart of what is
-- not (D93b, 'U+FFFD Substitution of Maximal Subparts'). Rust's `str::from_utf8` and `String::from_utf8_lossy` follow it.
use Rattle.std.specs.Prelude.{ℕ, suc, zero, ◌+◌, ◌-◌, ◌/◌, ◌%◌, Bool, true, false, cond, ◌&&◌, ◌||◌, ◌≡◌, refl, length, take, replicate, leb, ltb}
use mathlib.Core.List.{List, [], ◌∷◌, ◌++◌, map, flatten}

-- a row of Table 3-7: the least and the greatest byte of each column
abbrev pub ByteRow : Type 0
ByteRow = List (ℕ × ℕ)

-- Table 3-7, Well-Formed UTF-8 Byte Sequences
abbrev pub table37 : List ByteRow
table37 =
    ((0x00, 0x7F) ∷ [])  -- U+0000..U+007F
    ∷ ((0xC2, 0xDF) ∷ (0x80, 0xBF) ∷ [])  -- U+0080..U+07FF
    ∷ ((0xE0, 0xE0) ∷ (0xA0, 0xBF) ∷ (0x80, 0xBF) ∷ [])  -- U+0800..U+0FFF
    ∷ ((0xE1, 0xEC) ∷ (0x80, 0xBF) ∷ (0x80, 0xBF) ∷ [])  -- U+1000..U+CFFF
    ∷ ((0xED, 0xED) ∷ (0x80, 0x9F) ∷ (0x80, 0xBF) ∷ [])  -- U+D000..U+D7FF
    ∷ ((0xEE, 0xEF) ∷ (0x80, 0xBF) ∷ (0x80, 0xBF) ∷ [])  -- U+E000..U+FFFF
    ∷ ((0xF0, 0xF0) ∷ (0x90, 0xBF) ∷ (0x80, 0xBF) ∷ (0x80, 0xBF) ∷ [])  -- U+10000..U+3FFFF
    ∷ ((0xF1, 0xF3) ∷ (0x80, 0xBF) ∷ (0x80, 0xBF) ∷ (0x80, 0xBF) ∷ [])  -- U+40000..U+FFFFF
    ∷ ((0xF4, 0xF4) ∷ (0x80, 0x8F) ∷ (0x80, 0xBF) ∷ (0x80, 0xBF) ∷ [])  -- U+100000..U+10FFFF
    ∷ []

-- a byte lies in a column's range
unfoldable pub in_column : ℕ × ℕ → ℕ → Bool
in_column e b = leb e.0 b && leb b e.1

-- the bytes are a whole sequence of the row: a byte for each column, in its range
unfoldable pub whole_row : ByteRow → List ℕ → Bool
whole_row [] [] = true
whole_row [] (b ∷ s) = false
whole_row (e ∷ r) [] = false
whole_row (e ∷ r) (b ∷ s) = in_column e b && whole_row r s

-- the bytes are the beginning of a sequence of the row
unfoldable pub begins : ByteRow → List ℕ → Bool
begins r [] = true
begins [] (b ∷ s) = false
begins (e ∷ r) (b ∷ s) = in_column e b && begins r s

-- some row has the property
unfoldable pub some : (ByteRow → Bool) → List ByteRow → Bool
some p [] = false
some p (r ∷ t) = p r || some p t

-- D85a, D92: a minimal well-formed sequence, the bytes of one scalar value
unfoldable pub well_formed : List ℕ → Bool
well_formed s = some (λ r. whole_row r s) table37

-- D93b a: the initial subsequence of a well-formed sequence
unfoldable pub initial : List ℕ → Bool
initial s = some (λ r. begins r s) table37

-- of the first k bytes of s, and of fewer, the longest that is such an initial subsequence; D93b b: else the first byte
unfoldable pub longest : ℕ → List ℕ → List ℕ
longest zero s = take 1 s
longest (suc k) s = cond (initial (take (suc k) s)) (take (suc k) s) (longest k s)

-- the piece at the start of s: a well-formed sequence, or else a maximal subpart. No row is longer than four (`piece-longest`)
unfoldable pub piece : List ℕ → List ℕ
piece s = longest 4 s

-- s, less its first n bytes, in pieces
unfoldable pub pieces_after : ℕ → List ℕ → List (List ℕ)
pieces_after n [] = []
pieces_after zero (b ∷ s) = piece (b ∷ s) ∷ pieces_after (length (piece (b ∷ s)) - 1) s
pieces_after (suc n) (b ∷ s) = pieces_after n s

-- s in pieces
unfoldable pub pieces : List ℕ → List (List ℕ)
pieces s = pieces_after 0 s

-- each of the pieces is a well-formed sequence
unfoldable pub every : List (List ℕ) → Bool
every [] = true
every (p ∷ t) = well_formed p && every t

-- D85: the text is well formed, a run of well-formed sequences
unfoldable pub valid : List ℕ → Bool
valid s = every (pieces s)

-- U+FFFD
abbrev pub fffd : List ℕ
fffd = 0xEF ∷ 0xBF ∷ 0xBD ∷ []

-- a well-formed sequence is kept, a maximal subpart of an ill-formed one is replaced
unfoldable pub mend : List ℕ → List ℕ
mend p = cond (well_formed p) p fffd

-- the text with each maximal subpart of an ill-formed sequence replaced by U+FFFD
unfoldable pub repair : List ℕ → List ℕ
repair s = flatten (map mend (pieces s))

-- D76: a Unicode scalar value, a code point that is no surrogate (what Rust's `char` holds)
unfoldable pub scalar : ℕ → Bool
scalar c = ltb c 0xD800 || (leb 0xE000 c && ltb c 0x110000)

-- a byte 10xxxxxx of Table 3-6, with the low six bits of x
unfoldable pub trail : ℕ → ℕ
trail x = 0x80 + x % 0x40

-- D92, Table 3-6, UTF-8 Bit Distribution: the UTF-8 form of a code point
unfoldable pub encode : ℕ → List ℕ
encode c =
    cond (ltb c 0x80) (c ∷ [])
    (cond (ltb c 0x800) ((0xC0 + c / 0x40) ∷ trail c ∷ [])
    (cond (ltb c 0x10000) ((0xE0 + c / 0x1000) ∷ trail (c / 0x40) ∷ trail c ∷ [])
    ((0xF0 + c / 0x40000) ∷ trail (c / 0x1000) ∷ trail (c / 0x40) ∷ trail c ∷ [])))

-- what computes on given bytes
unfoldable pub evaluates : Unit {0}
unfolding in_column whole_row begins some well_formed initial longest piece pieces_after pieces every valid flatten mend repair scalar trail encode
evaluates = tt

-- n replacement characters
abbrev pub fffds : ℕ → List ℕ
fffds n = flatten (replicate n fffd)

-- Table 3-8 of the older editions, Use of U+FFFD in UTF-8 Conversion: 61 F1 80 80 E1 80 C2 62 80 63 80 BF 64
pub example : repair (0x61 ∷ 0xF1 ∷ 0x80 ∷ 0x80 ∷ 0xE1 ∷ 0x80 ∷ 0xC2 ∷ 0x62 ∷ 0x80 ∷ 0x63 ∷ 0x80 ∷ 0xBF ∷ 0x64 ∷ [])
    ≡ 0x61 ∷ fffds 3 ++ (0x62 ∷ fffds 1 ++ (0x63 ∷ fffds 2 ++ (0x64 ∷ [])))
unfolding evaluates
example = refl

-- the newer editions have four tables: Table 3-8, U+FFFD for Non-Shortest Form Sequences
pub non_shortest : repair (0xC0 ∷ 0xAF ∷ 0xE0 ∷ 0x80 ∷ 0xBF ∷ 0xF0 ∷ 0x81 ∷ 0x82 ∷ 0x41 ∷ []) ≡ fffds 8 ++ (0x41 ∷ [])
unfolding evaluates
non_shortest = refl

-- Table 3-9, U+FFFD for Ill-Formed Sequences for Surrogates
pub surrogates : repair (0xED ∷ 0xA0 ∷ 0x80 ∷ 0xED ∷ 0xBF ∷ 0xBF ∷ 0xED ∷ 0xAF ∷ 0x41 ∷ []) ≡ fffds 8 ++ (0x41 ∷ [])
unfolding evaluates
surrogates = refl

-- Table 3-10, U+FFFD for Other Ill-Formed Sequences
pub others : repair (0xF4 ∷ 0x91 ∷ 0x92 ∷ 0x93 ∷ 0xFF ∷ 0x41 ∷ 0x80 ∷ 0xBF ∷ 0x42 ∷ []) ≡ fffds 5 ++ (0x41 ∷ fffds 2 ++ (0x42 ∷ []))
unfolding evaluates
others = refl

-- Table 3-11, U+FFFD for Truncated Sequences
pub truncated : repair (0xE1 ∷ 0x80 ∷ 0xE2 ∷ 0xF0 ∷ 0x91 ∷ 0x92 ∷ 0xF1 ∷ 0xBF ∷ 0x41 ∷ []) ≡ fffds 4 ++ (0x41 ∷ [])
unfolding evaluates
truncated = refl

-- a surrogate alone
pub surrogate : repair (0xED ∷ 0xA0 ∷ 0x80 ∷ []) ≡ fffds 3
unfolding evaluates
surrogate = refl

pub surrogate_invalid : valid (0xED ∷ 0xA0 ∷ 0x80 ∷ []) ≡ false
unfolding evaluates
surrogate_invalid = refl

-- Table 3-4, Examples of Unicode Encoding Forms: U+004D, U+0430, U+4E8C, U+10302
pub good_encoded : encode 0x4D ++ encode 0x430 ++ encode 0x4E8C ++ encode 0x10302 ≡ 0x4D ∷ 0xD0 ∷ 0xB0 ∷ 0xE4 ∷ 0xBA ∷ 0x8C ∷ 0xF0 ∷ 0x90 ∷ 0x8C ∷ 0x82 ∷ []
unfolding evaluates
good_encoded = refl

pub good_valid : valid (0x4D ∷ 0xD0 ∷ 0xB0 ∷ 0xE4 ∷ 0xBA ∷ 0x8C ∷ 0xF0 ∷ 0x90 ∷ 0x8C ∷ 0x82 ∷ []) ≡ true
unfolding evaluates
good_valid = refl

pub good_kept : repair (0x4D ∷ 0xD0 ∷ 0xB0 ∷ 0xE4 ∷ 0xBA ∷ 0x8C ∷ 0xF0 ∷ 0x90 ∷ 0x8C ∷ 0x82 ∷ []) ≡ 0x4D ∷ 0xD0 ∷ 0xB0 ∷ 0xE4 ∷ 0xBA ∷ 0x8C ∷ 0xF0 ∷ 0x90 ∷ 0x8C ∷ 0x82 ∷ []
unfolding evaluates
good_kept = refl
