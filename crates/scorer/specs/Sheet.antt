-- RULES, Ask 3.1 and 3.2: when a value is a sheet, and its score. The kinds are those of A2.2: 1 Bool, 2 I64, 4 Bytes, 8 Set, 10 Dict.
use Rattle.std.specs.Prelude.{ℕ, ◌+◌, ◌-◌, Bool, true, false, cond, ◌&&◌, ◌||◌, List, [], ◌∷◌, T, eqb, leb}
use Rattle.std.proofs.Math.Dec.{compare_is_eq}
use Rattle.value.specs.Value.{Label, Forest, Value, bit, half, kind, text_of, count, NoneL, BoolL, I64L, F64L, BytesL, StringL, ListL, TupleL, SetL, FrozenSetL, DictL, GlobalL, ObjectL, nil, node}
use Rattle.value.specs.Order.{lex}
use Rattle.value.specs.WellFormed.{keys}

-- the 64 bits of a Bool or an I64; those of a negative number are 2 ^ 63 and more, above all that a sheet allows
abbrev pub bits : Label → ℕ
bits NoneL = 0
bits (BoolL b) = bit b
bits (I64L n) = n
bits (F64L n) = 0
bits (BytesL t) = 0
bits (StringL t) = 0
bits ListL = 0
bits TupleL = 0
bits SetL = 0
bits FrozenSetL = 0
bits DictL = 0
bits (GlobalL m n) = 0
bits (ObjectL m n b) = 0

-- an I64 from a to b
unfoldable pub between : ℕ → ℕ → Label → Bool
between a b l = eqb (kind l) 2 && (leb a (bits l) && leb (bits l) b)

-- both I64, and of the same number
unfoldable pub same_int : Label → Label → Bool
same_int l m = eqb (kind l) 2 && (eqb (kind m) 2 && eqb (bits l) (bits m))

-- the I64 is one of the values
unfoldable pub holds_int : Label → Forest → Bool
holds_int l nil = false
holds_int l (node m c r) = same_int l m || holds_int l r

-- ---- the four keys

-- `answers`, `reverse`, `max`, `flipped`
abbrev pub answers_key : List ℕ
answers_key = 97 ∷ 110 ∷ 115 ∷ 119 ∷ 101 ∷ 114 ∷ 115 ∷ []

abbrev pub reverse_key : List ℕ
reverse_key = 114 ∷ 101 ∷ 118 ∷ 101 ∷ 114 ∷ 115 ∷ 101 ∷ []

abbrev pub max_key : List ℕ
max_key = 109 ∷ 97 ∷ 120 ∷ []

abbrev pub flipped_key : List ℕ
flipped_key = 102 ∷ 108 ∷ 105 ∷ 112 ∷ 112 ∷ 101 ∷ 100 ∷ []

-- Bytes of this text
unfoldable pub is_key : List ℕ → Label → Bool
is_key k l = eqb (kind l) 4 && compare_is_eq (lex k (text_of l))

-- what a Dict with these contents has under a Bytes key; None, which no key of a sheet may have, where the key is absent
unfoldable pub under : List ℕ → Forest → Value
under k nil = record { label = NoneL; contents = nil }
under k (node l c nil) = record { label = NoneL; contents = nil }
under k (node l c (node m d r)) = cond (is_key k l) (record { label = m; contents = d }) (under k r)

abbrev pub answers : Value → Value
answers v = under answers_key v.contents

abbrev pub reverse : Value → Value
reverse v = under reverse_key v.contents

abbrev pub highest_answer : Value → Value
highest_answer v = under max_key v.contents

abbrev pub flipped : Value → Value
flipped v = under flipped_key v.contents

-- ---- a sheet

-- each item number is 1 to 200, and its answer 0 to m
unfoldable pub in_range : ℕ → Forest → Bool
in_range m nil = true
in_range m (node l c nil) = false
in_range m (node l c (node a d r)) = between 1 200 l && (between 0 m a && in_range m r)

-- each of the reversed items is one of the item numbers
unfoldable pub all_answered : Forest → Forest → Bool
all_answered items nil = true
all_answered items (node l c r) = holds_int l items && all_answered items r

unfoldable pub is_sheet : Value → Bool
is_sheet v =
    eqb (kind v.label) 10 &&
    (eqb (kind (answers v).label) 10 &&
    (eqb (kind (reverse v).label) 8 &&
    (eqb (kind (flipped v).label) 1 &&
    (between 1 100 (highest_answer v).label &&
    (in_range (bits (highest_answer v).label) (answers v).contents && all_answered (keys (answers v).contents) (reverse v).contents)))))

abbrev pub Sheet : Value → Type 0
Sheet v = T (is_sheet v)

-- ---- its score

-- what an answer a counts where m is the highest: as it is if the mark is set; else m less it where its item is reversed
abbrev pub counted : ℕ → Bool → Bool → ℕ → ℕ
counted m true reversed a = a
counted m false true a = m - a
counted m false false a = a

unfoldable pub answers_sum : ℕ → Bool → Forest → Forest → ℕ
answers_sum m mark reversed nil = 0
answers_sum m mark reversed (node l c nil) = 0
answers_sum m mark reversed (node l c (node a d r)) = counted m mark (holds_int l reversed) (bits a) + answers_sum m mark reversed r

unfoldable pub marked : Value → Bool
marked v = eqb (bits (flipped v).label) 1

unfoldable pub score_of : Value → ℕ
score_of v = answers_sum (bits (highest_answer v).label) (marked v) (reverse v).contents (answers v).contents

unfoldable pub items_of : Value → ℕ
items_of v = half (count (answers v).contents)
