-- The order of values (value.rs; RULES A2.5): by kind, then by what each kind is ordered by, then by contents.
use Prim.Native.Nat.{ℕ, ◌-◌, ◌^◌, ◌/◌, ◌%◌, compare, Ordering}
use Rattle.std.specs.Prelude.{cond, List, [], ◌∷◌, ltb}
use Rattle.value.specs.Value.{Label, Forest, Value, bit, kind, NoneL, BoolL, I64L, F64L, BytesL, StringL, ListL, TupleL, SetL, FrozenSetL, DictL, GlobalL, ObjectL, nil, node}

-- the first that differs decides
infixr 60 ◌then◌
unfoldable pub ◌then◌ : Ordering → Ordering → Ordering
Ordering.lt then b = Ordering.lt
Ordering.eq then b = b
Ordering.gt then b = Ordering.gt

-- number by number, a proper beginning before the longer: text by bytes
unfoldable pub lex : List ℕ → List ℕ → Ordering
lex [] [] = Ordering.eq
lex [] (y ∷ ys) = Ordering.lt
lex (x ∷ xs) [] = Ordering.gt
lex (x ∷ xs) (y ∷ ys) = compare x y then lex xs ys

-- An integer of 64 bits by its value: the negative ones first. Two's complement keeps the order within each sign.
abbrev pub by_value : ℕ → List ℕ
by_value n = cond (ltb n (2 ^ 63)) (1 ∷ n ∷ []) (0 ∷ n ∷ [])

-- IEEE 754 totalOrder: sign, exponent, significand; the negative ones first and the other way round, NaNs at both ends. (The
-- number at the end never decides below 2 ^ 64; with it, keys are equal for equal bits alone.)
abbrev pub total_order : ℕ → List ℕ
total_order n =
    let exponent = n / 2 ^ 52 % 2 ^ 11 in
    let significand = n % 2 ^ 52 in
    cond (ltb n (2 ^ 63)) (1 ∷ exponent ∷ significand ∷ n ∷ []) (0 ∷ (2 ^ 11 - 1 - exponent) ∷ (2 ^ 52 - 1 - significand) ∷ n ∷ [])

-- what a label is ordered by after its kind: false before true, and a module
abbrev pub key : Label → List ℕ
key NoneL = []
key (BoolL b) = bit b ∷ []
key (I64L n) = by_value n
key (F64L n) = total_order n
key (BytesL t) = t
key (StringL t) = t
key ListL = []
key TupleL = []
key SetL = []
key FrozenSetL = []
key DictL = []
key (GlobalL m n) = m
key (ObjectL m n b) = m

-- after the module, the name
abbrev pub name : Label → List ℕ
name NoneL = []
name (BoolL b) = []
name (I64L n) = []
name (F64L n) = []
name (BytesL t) = []
name (StringL t) = []
name ListL = []
name TupleL = []
name SetL = []
name FrozenSetL = []
name DictL = []
name (GlobalL m n) = n
name (ObjectL m n b) = n

-- what an Object is ordered by between its arguments and its state: `new`, false first
abbrev pub new : Label → ℕ
new NoneL = 0
new (BoolL b) = 0
new (I64L n) = 0
new (F64L n) = 0
new (BytesL t) = 0
new (StringL t) = 0
new ListL = 0
new TupleL = 0
new SetL = 0
new FrozenSetL = 0
new DictL = 0
new (GlobalL m n) = 0
new (ObjectL m n b) = bit b

unfoldable pub labels : Label → Label → Ordering
labels l m = compare (kind l) (kind m) then lex (key l) (key m) then lex (name l) (name m)

-- item by item, a proper beginning before the longer; x and y are what the two are ordered by after their first item
unfoldable pub forests : ℕ → ℕ → Forest → Forest → Ordering
forests x y nil nil = compare x y
forests x y nil (node m d s) = Ordering.lt
forests x y (node l c r) nil = Ordering.gt
forests x y (node l c r) (node m d s) = labels l m then forests (new l) (new m) c d then compare x y then forests 0 0 r s

unfoldable pub order : Value → Value → Ordering
order v w = labels v.label w.label then forests (new v.label) (new w.label) v.contents w.contents
