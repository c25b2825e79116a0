-- A value (value.rs), and its table (RULES A2.1 to A2.3). One shape for all: a label over a forest, its contents in order, which is
-- exactly the table's preorder. A Dict's contents alternate key and value; an Object's are its arguments, a Tuple, and any state.
use Rattle.std.specs.Prelude.{ℕ, suc, zero, ◌+◌, ◌*◌, ◌^◌, ◌≤◌, max, Bool, true, false, List, [], ◌∷◌, ◌++◌, ◌≡◌, refl, length}
use Rattle.std.proofs.Common.{length-append, arith}

-- What a value is but for its contents, under the Rust's names. An integer and a float are their 64 bits, text is its bytes, a
-- name is a module and a name in it; an Object has its class and whether it is `new`.
pub data Label : Type 0 where
  NoneL : Label
  BoolL : Bool → Label
  I64L F64L : ℕ → Label
  BytesL StringL : List ℕ → Label
  ListL TupleL SetL FrozenSetL DictL : Label
  GlobalL : List ℕ → List ℕ → Label
  ObjectL : List ℕ → List ℕ → Bool → Label

-- values one after the other: the label of the first, its contents, the values after it
pub data Forest : Type 0 where
  nil : Forest
  node : Label → Forest → Forest → Forest

pub record Value : Type 0 where
  pub label : Label
  pub contents : Forest

abbrev pub one : Value → Forest
one v = node v.label v.contents nil

-- the kinds 0 to 12
abbrev pub kind : Label → ℕ
kind NoneL = 0
kind (BoolL b) = 1
kind (I64L n) = 2
kind (F64L n) = 3
kind (BytesL t) = 4
kind (StringL t) = 5
kind ListL = 6
kind TupleL = 7
kind SetL = 8
kind FrozenSetL = 9
kind DictL = 10
kind (GlobalL m n) = 11
kind (ObjectL m n b) = 12

abbrev pub bit : Bool → ℕ
bit true = 1
bit false = 0

-- the text of a label; a name's follows its module's directly
abbrev pub text_of : Label → List ℕ
text_of NoneL = []
text_of (BoolL b) = []
text_of (I64L n) = []
text_of (F64L n) = []
text_of (BytesL t) = t
text_of (StringL t) = t
text_of ListL = []
text_of TupleL = []
text_of SetL = []
text_of FrozenSetL = []
text_of DictL = []
text_of (GlobalL m n) = m ++ n
text_of (ObjectL m n b) = m ++ n

-- texts in the records' order, without gaps
unfoldable pub text : Forest → List ℕ
text nil = []
text (node l c r) = text_of l ++ (text c ++ text r)

-- how many values stand side by side
unfoldable pub count : Forest → ℕ
count nil = 0
count (node l c r) = suc (count r)

-- how many values there are in all: records
unfoldable pub size : Forest → ℕ
size nil = 0
size (node l c r) = suc (size c + size r)

pub count-size : (f : Forest) → count f ≤ size f
unfolding count size
count-size nil = omega arith
count-size (node l c r) = omega (arith, count-size r)

-- how deep they nest, the outermost being depth 1
unfoldable pub depth : Forest → ℕ
depth nil = 0
depth (node l c r) = max (suc (depth c)) (depth r)

-- a Dict's entries, of the values in it; an Object's state, of its arguments and state: 0 of one, 1 of two
abbrev pub half : ℕ → ℕ
half zero = zero
half (suc zero) = zero
half (suc (suc n)) = suc (half n)

-- word 0: the kind; an Object adds 16 if `new` and 32 if it has a state. n: the values directly in it
abbrev pub word0 : Label → ℕ → ℕ
word0 NoneL n = 0
word0 (BoolL b) n = 1
word0 (I64L i) n = 2
word0 (F64L i) n = 3
word0 (BytesL t) n = 4
word0 (StringL t) n = 5
word0 ListL n = 6
word0 TupleL n = 7
word0 SetL n = 8
word0 FrozenSetL n = 9
word0 DictL n = 10
word0 (GlobalL m k) n = 11
word0 (ObjectL m k b) n = 12 + 16 * bit b + 32 * half n

-- words 1, 2, 3 of a label whose text stands at p, with n values directly in it and z records in it with itself
abbrev pub words : Label → ℕ → ℕ → ℕ → List ℕ
words NoneL p n z = 0 ∷ 0 ∷ 0 ∷ []
words (BoolL b) p n z = bit b ∷ 0 ∷ 0 ∷ []
words (I64L i) p n z = i ∷ 0 ∷ 0 ∷ []
words (F64L i) p n z = i ∷ 0 ∷ 0 ∷ []
words (BytesL t) p n z = p ∷ length t ∷ 0 ∷ []
words (StringL t) p n z = p ∷ length t ∷ 0 ∷ []
words ListL p n z = n ∷ z ∷ 0 ∷ []
words TupleL p n z = n ∷ z ∷ 0 ∷ []
words SetL p n z = n ∷ z ∷ 0 ∷ []
words FrozenSetL p n z = n ∷ z ∷ 0 ∷ []
words DictL p n z = half n ∷ z ∷ 0 ∷ []
words (GlobalL m k) p n z = p ∷ (length m * 2 ^ 32 + length k) ∷ 0 ∷ []
words (ObjectL m k b) p n z = p ∷ (length m * 2 ^ 32 + length k) ∷ z ∷ []

abbrev pub record_of : Label → ℕ → ℕ → ℕ → List ℕ
record_of l p n z = word0 l n ∷ words l p n z

-- the table of values whose texts begin at p: records in preorder
unfoldable pub table : Forest → ℕ → List ℕ
unfolding text count size
table nil p = []
table (node l c r) p =
    let q = p + length (text_of l) in
    record_of l p (count c) (suc (size c)) ++ (table c q ++ table r (q + length (text c)))

-- a record has four words

pub words-length : (l : Label) (p n z : ℕ) → length (words l p n z) ≡ 3
words-length NoneL p n z = refl
words-length (BoolL b) p n z = refl
words-length (I64L i) p n z = refl
words-length (F64L i) p n z = refl
words-length (BytesL t) p n z = refl
words-length (StringL t) p n z = refl
words-length ListL p n z = refl
words-length TupleL p n z = refl
words-length SetL p n z = refl
words-length FrozenSetL p n z = refl
words-length DictL p n z = refl
words-length (GlobalL m k) p n z = refl
words-length (ObjectL m k b) p n z = refl

pub record_length : (l : Label) (p n z : ℕ) → length (record_of l p n z) ≡ 4
record_length l p n z = rw (words-length l p n z)

pub table-length : (f : Forest) (p : ℕ) → length (table f p) ≡ 4 * size f
unfolding table size
table-length nil p = refl
table-length (node l c r) p =
    let q = p + length (text_of l) in
    let a : length (table c q) ≡ 4 * size c = table-length c q in
    let b : length (table r (q + length (text c))) ≡ 4 * size r = table-length r (q + length (text c)) in
    simp (length-append, record_length) (omega arith)
