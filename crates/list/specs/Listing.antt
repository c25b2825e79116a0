-- RULES A9.1 to A9.3, with Ask 2.1: what the list call writes, one line a record.
use Rattle.std.specs.Prelude.{ℕ, suc, ◌+◌, ◌*◌, ◌≤◌, Bool, cond, ◌&&◌, List, [], ◌∷◌, ◌++◌, eqb, leb, length, get_or, drop}
use Rattle.std.proofs.Common.{arith, lit≤, length-append}
use Rattle.value.specs.Value.{Label, Forest, bit, half, kind, text_of, text, count, size, NoneL, BoolL, I64L, F64L, BytesL, StringL, ListL, TupleL, SetL, FrozenSetL, DictL, GlobalL, ObjectL, nil, node}
use Rattle.value.specs.Shape.{module_part, name_part}
use Rattle.output.specs.Put.{newline_byte}
use Rattle.output.specs.Decimal.{figures, decimal_text, signed_text, figures-length, decimal-short, signed-short, either_way}

-- bytes 20 to 7E hex stand for themselves
unfoldable pub printable : ℕ → Bool
printable b = leb 0x20 b && leb b 0x7E

-- a byte of a text: a backslash as two; any other as itself, or as `\x` and two lower-case hex digits
unfoldable pub listed_byte : ℕ → List ℕ
listed_byte b = cond (eqb b 0x5C) (0x5C ∷ 0x5C ∷ []) (cond (printable b) (b ∷ []) (0x5C ∷ 0x78 ∷ figures 16 2 b))

-- a text, byte by byte
unfoldable pub listed_text : List ℕ → List ℕ
listed_text [] = []
listed_text (b ∷ s) = listed_byte b ++ listed_text s

-- what parts the fields
abbrev pub tab_byte : ℕ
tab_byte = 0x09

-- the kinds' names in the table's order: none bool int float bytes string list tuple set frozenset dict global object
unfoldable pub names : List (List ℕ)
names =
    (0x6E ∷ 0x6F ∷ 0x6E ∷ 0x65 ∷ [])
    ∷ (0x62 ∷ 0x6F ∷ 0x6F ∷ 0x6C ∷ [])
    ∷ (0x69 ∷ 0x6E ∷ 0x74 ∷ [])
    ∷ (0x66 ∷ 0x6C ∷ 0x6F ∷ 0x61 ∷ 0x74 ∷ [])
    ∷ (0x62 ∷ 0x79 ∷ 0x74 ∷ 0x65 ∷ 0x73 ∷ [])
    ∷ (0x73 ∷ 0x74 ∷ 0x72 ∷ 0x69 ∷ 0x6E ∷ 0x67 ∷ [])
    ∷ (0x6C ∷ 0x69 ∷ 0x73 ∷ 0x74 ∷ [])
    ∷ (0x74 ∷ 0x75 ∷ 0x70 ∷ 0x6C ∷ 0x65 ∷ [])
    ∷ (0x73 ∷ 0x65 ∷ 0x74 ∷ [])
    ∷ (0x66 ∷ 0x72 ∷ 0x6F ∷ 0x7A ∷ 0x65 ∷ 0x6E ∷ 0x73 ∷ 0x65 ∷ 0x74 ∷ [])
    ∷ (0x64 ∷ 0x69 ∷ 0x63 ∷ 0x74 ∷ [])
    ∷ (0x67 ∷ 0x6C ∷ 0x6F ∷ 0x62 ∷ 0x61 ∷ 0x6C ∷ [])
    ∷ (0x6F ∷ 0x62 ∷ 0x6A ∷ 0x65 ∷ 0x63 ∷ 0x74 ∷ [])
    ∷ []

unfoldable pub kind_name : ℕ → List ℕ
kind_name k = get_or names k []

-- 0 or 1
unfoldable pub flag : Bool → ℕ
flag b = 0x30 + bit b

-- a module and a name
unfoldable pub listed_names : List ℕ → List ℕ → List ℕ
listed_names m k = listed_text m ++ (tab_byte ∷ listed_text k)

-- the same where they stand side by side in a text, their lengths in the halves of a word
unfoldable pub names_at : List ℕ → ℕ → ℕ → List ℕ
names_at t p c = listed_names (module_part c (drop p t)) (name_part c (drop p t))

-- the content of a record with n values directly in it; a Dict's entries and an Object's state are halves of those
unfoldable pub content_of : Label → ℕ → List ℕ
content_of NoneL n = 0x2D ∷ []
content_of (BoolL b) n = flag b ∷ []
content_of (I64L i) n = signed_text i
content_of (F64L i) n = figures 16 16 i
content_of (BytesL t) n = listed_text t
content_of (StringL t) n = listed_text t
content_of ListL n = decimal_text n
content_of TupleL n = decimal_text n
content_of SetL n = decimal_text n
content_of FrozenSetL n = decimal_text n
content_of DictL n = decimal_text (half n)
content_of (GlobalL m k) n = listed_names m k
content_of (ObjectL m k b) n = listed_names m k ++ (tab_byte ∷ flag b ∷ tab_byte ∷ (0x30 + half n) ∷ [])

-- depth, kind and content
unfoldable pub record_line : ℕ → Label → ℕ → List ℕ
record_line d l n = decimal_text d ++ (tab_byte ∷ kind_name (kind l) ++ (tab_byte ∷ content_of l n ++ (newline_byte ∷ [])))

-- values at a depth: the first one's line, its contents one deeper, the values after it
unfoldable pub listing : ℕ → Forest → List ℕ
listing d nil = []
listing d (node l c r) = record_line d l (count c) ++ (listing (suc d) c ++ listing d r)

-- ---- how long a listing is at most: of a text's byte it has four at most, those of `\x` and two digits

listed-byte-short : (b : ℕ) → length (listed_byte b) ≤ 4
unfolding listed_byte
listed-byte-short b =
    let e = figures-length 16 2 b in
    let x : List ℕ = 0x5C ∷ 0x78 ∷ figures 16 2 b in
    let few : length (cond (printable b) (b ∷ []) x) ≤ 4 = either_way (λ (u : List ℕ). length u ≤ 4) (printable b) (b ∷ []) x (omega arith) (omega arith) in
    either_way (λ (u : List ℕ). length u ≤ 4) (eqb b 0x5C) (0x5C ∷ 0x5C ∷ []) (cond (printable b) (b ∷ []) x) (omega arith) few

listed-short : (s : List ℕ) → length (listed_text s) ≤ 4 * length s
unfolding listed_text
listed-short [] = omega arith
listed-short (b ∷ s) = rw (length-append (listed_byte b)) (omega (arith, listed-byte-short b, listed-short s))

listed-names-short : (m k : List ℕ) → length (listed_names m k) ≤ 4 * length (m ++ k) + 1
unfolding listed_names
listed-names-short m k = rw (length-append (listed_text m), length-append m) (omega (arith, listed-short m, listed-short k))

name-short : (l : Label) → length (kind_name (kind l)) ≤ 9
unfolding kind_name names
name-short NoneL = lit≤ tt
name-short (BoolL b) = lit≤ tt
name-short (I64L n) = lit≤ tt
name-short (F64L n) = lit≤ tt
name-short (BytesL t) = lit≤ tt
name-short (StringL t) = lit≤ tt
name-short ListL = lit≤ tt
name-short TupleL = lit≤ tt
name-short SetL = lit≤ tt
name-short FrozenSetL = lit≤ tt
name-short DictL = lit≤ tt
name-short (GlobalL m k) = lit≤ tt
name-short (ObjectL m k b) = lit≤ tt

content-short : (l : Label) (n : ℕ) → length (content_of l n) ≤ 21 + 4 * length (text_of l)
unfolding content_of
content-short NoneL n = omega arith
content-short (BoolL b) n = omega arith
content-short (I64L i) n = omega (arith, signed-short i)
content-short (F64L i) n = omega (arith, figures-length 16 16 i)
content-short (BytesL t) n = omega (arith, listed-short t)
content-short (StringL t) n = omega (arith, listed-short t)
content-short ListL n = omega (arith, decimal-short n)
content-short TupleL n = omega (arith, decimal-short n)
content-short SetL n = omega (arith, decimal-short n)
content-short FrozenSetL n = omega (arith, decimal-short n)
content-short DictL n = omega (arith, decimal-short (half n))
content-short (GlobalL m k) n = omega (arith, listed-names-short m k)
content-short (ObjectL m k b) n = rw (length-append (listed_names m k)) (omega (arith, listed-names-short m k))

line-short : (d : ℕ) (l : Label) (n : ℕ) → length (record_line d l n) ≤ 53 + 4 * length (text_of l)
unfolding record_line
line-short d l n =
    rw (length-append (decimal_text d), length-append (kind_name (kind l)), length-append (content_of l n)) (omega (arith, decimal-short d, name-short l, content-short l n))

pub listing-short : (d : ℕ) (f : Forest) → length (listing d f) ≤ 53 * size f + 4 * length (text f)
unfolding listing size text
listing-short d nil = omega arith
listing-short d (node l c r) =
    rw (length-append (record_line d l (count c)), length-append (listing (suc d) c), length-append (text_of l), length-append (text c))
    (omega (arith, line-short d l (count c), listing-short (suc d) c, listing-short d r))
