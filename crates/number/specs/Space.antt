-- Unicode's property White_Space, and Rust's `str::trim`.
use Rattle.std.specs.Prelude.{ℕ, zero, suc, Bool, true, false, cond, ◌&&◌, ◌||◌, List, [], ◌∷◌, map, reverse, eqb, take}
use Rattle.utf8.specs.Utf8.{encode}

-- PropList.txt: the 25 code points with the property White_Space
unfoldable pub white_space : List ℕ
white_space =
    0x9 ∷ 0xA ∷ 0xB ∷ 0xC ∷ 0xD ∷ 0x20 ∷ 0x85 ∷ 0xA0 ∷ 0x1680
    ∷ 0x2000 ∷ 0x2001 ∷ 0x2002 ∷ 0x2003 ∷ 0x2004 ∷ 0x2005 ∷ 0x2006 ∷ 0x2007 ∷ 0x2008 ∷ 0x2009 ∷ 0x200A
    ∷ 0x2028 ∷ 0x2029 ∷ 0x202F ∷ 0x205F ∷ 0x3000 ∷ []

-- their UTF-8 forms
unfoldable pub spaces : List (List ℕ)
spaces = map encode white_space

-- two strings of bytes are the same
unfoldable pub same : List ℕ → List ℕ → Bool
same [] [] = true
same [] (b ∷ t) = false
same (a ∷ s) [] = false
same (a ∷ s) (b ∷ t) = eqb a b && same s t

-- the bytes are one of those listed
unfoldable pub one_of : List (List ℕ) → List ℕ → Bool
one_of [] s = false
one_of (f ∷ t) s = same s f || one_of t s

-- the bytes are the UTF-8 form of a White_Space character
unfoldable pub space : List ℕ → Bool
space s = one_of spaces s

-- How many bytes the White_Space character has that s begins with; 0 if it begins with none. No form has more than three.
-- `read` puts the bytes in the order of the text. Bytes that are a form are a whole character of well-formed text, from whichever
-- end they are found, since the first byte of a sequence stands inside no other: `trimmed_characters_lem`.
unfoldable pub width : (List ℕ → List ℕ) → List ℕ → ℕ
width read s =
    cond (space (read (take 1 s))) 1 (cond (space (read (take 2 s))) 2 (cond (space (read (take 3 s))) 3 0))

-- s, after its first n bytes, without the White_Space characters that it then begins with
unfoldable pub strip : (List ℕ → List ℕ) → ℕ → List ℕ → List ℕ
strip read n [] = []
strip read zero (b ∷ s) = elim (width read (b ∷ s)) [ zero ↦ b ∷ s | suc n ↦ strip read n s ]
strip read (suc n) (b ∷ s) = strip read n s

-- the text without the White_Space at its start
unfoldable pub trim_start : List ℕ → List ℕ
trim_start s = strip (λ p. p) 0 s

-- the text without the White_Space at its end: the same on the text reversed, whose characters are read backwards
unfoldable pub trim_end : List ℕ → List ℕ
trim_end s = reverse (strip reverse 0 (reverse s))

-- `str::trim`
unfoldable pub trimmed : List ℕ → List ℕ
trimmed s = trim_end (trim_start s)
