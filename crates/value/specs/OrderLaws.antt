-- The order's laws: turned round it is the other way; equal only for equal values, and so it decides equality; and it is transitive.
-- Each component has the law, and `then` keeps it.
use Prim.Native.Nat.compare
use Prim.Native.Nat.{ℕ, suc, zero, ◌^◌, compare, Ordering}
use Rattle.std.specs.Prelude.{Bool, true, false, cond, List, [], ◌∷◌, ◌≡◌, refl, get_or, ltb}
use Rattle.std.proofs.Common.{sym, ◌∙◌, ap, ap₂, eqb→eq}
use Rattle.value.specs.Value.{Label, Forest, Value, bit, kind, NoneL, BoolL, I64L, F64L, BytesL, StringL, ListL, TupleL, SetL, FrozenSetL, DictL, GlobalL, ObjectL, nil, node}
use Rattle.value.specs.Order.{◌then◌, lex, key, name, new, labels, forests, order}

abbrev pub swap : Ordering → Ordering
swap Ordering.lt = Ordering.gt
swap Ordering.eq = Ordering.eq
swap Ordering.gt = Ordering.lt

pub then_swap : (a b : Ordering) → swap (a then b) ≡ swap a then swap b
unfolding ◌then◌
then_swap Ordering.lt b = refl
then_swap Ordering.eq b = refl
then_swap Ordering.gt b = refl

pub compare_swap : (m n : ℕ) → compare n m ≡ swap (compare m n)
compare_swap zero zero = refl
compare_swap zero (suc n) = rw (compare.suc-zero, compare.zero-suc)
compare_swap (suc m) zero = rw (compare.suc-zero, compare.zero-suc)
compare_swap (suc m) (suc n) = rw (compare.suc-suc n m, compare.suc-suc m n) (compare_swap m n)

pub lex_swap : (s t : List ℕ) → lex t s ≡ swap (lex s t)
unfolding lex
lex_swap [] [] = refl
lex_swap [] (y ∷ ys) = refl
lex_swap (x ∷ xs) [] = refl
lex_swap (x ∷ xs) (y ∷ ys) = rw (then_swap, ← (compare_swap x y), ← (lex_swap xs ys))

pub labels-swap : (l m : Label) → labels m l ≡ swap (labels l m)
unfolding labels
labels-swap l m = simp (then_swap, ← (compare_swap (kind l) (kind m)), ← (lex_swap (key l) (key m)), ← (lex_swap (name l) (name m)))

pub forests-swap : (x y : ℕ) (f g : Forest) → forests y x g f ≡ swap (forests x y f g)
unfolding forests
forests-swap x y nil nil = compare_swap x y
forests-swap x y nil (node m d s) = refl
forests-swap x y (node l c r) nil = refl
forests-swap x y (node l c r) (node m d s) = simp (then_swap, ← (compare_swap x y), ← (labels-swap l m), ← (forests-swap (new l) (new m) c d), ← (forests-swap 0 0 r s))

-- ---- equal only where equal

pub then_eq : (a b : Ordering) → (a then b) ≡ Ordering.eq → (a ≡ Ordering.eq) × (b ≡ Ordering.eq)
unfolding ◌then◌
then_eq Ordering.lt b e = (e, cc)
then_eq Ordering.eq b e = (refl, e)
then_eq Ordering.gt b e = (e, cc)

pub compare_eq : (m n : ℕ) → compare m n ≡ Ordering.eq → m ≡ n
compare_eq m n e = eqb→eq m n (rw e tt)

pub lex_eq : (s t : List ℕ) → lex s t ≡ Ordering.eq → s ≡ t
unfolding lex
lex_eq [] [] e = refl
lex_eq [] (y ∷ ys) e = cc
lex_eq (x ∷ xs) [] e = cc
lex_eq (x ∷ xs) (y ∷ ys) e = let p = then_eq (compare x y) (lex xs ys) e in ap₂ ◌∷◌ (compare_eq x y p.0) (lex_eq xs ys p.1)

-- the label from its kind and its keys
last : List ℕ → ℕ
last [] = 0
last (x ∷ []) = x
last (x ∷ y ∷ s) = last (y ∷ s)

is_one_lem : ℕ → Bool
is_one_lem zero = false
is_one_lem (suc n) = true

head_or : List ℕ → ℕ
head_or [] = 0
head_or (x ∷ s) = x

make : ℕ → List ℕ → List ℕ → ℕ → Label
make k s t n =
    get_or (NoneL ∷ BoolL (is_one_lem (head_or s)) ∷ I64L (last s) ∷ F64L (last s) ∷ BytesL s ∷ StringL s ∷ ListL ∷ TupleL ∷ SetL ∷ FrozenSetL ∷ DictL ∷ GlobalL s t ∷ ObjectL s t (is_one_lem n) ∷ []) k NoneL

last_int : (b : Bool) (n : ℕ) → last (cond b (1 ∷ n ∷ []) (0 ∷ n ∷ [])) ≡ n
unfolding last
last_int true n = refl
last_int false n = refl

last-float : (b : Bool) (n x y z w : ℕ) → last (cond b (1 ∷ x ∷ y ∷ n ∷ []) (0 ∷ z ∷ w ∷ n ∷ [])) ≡ n
unfolding last
last-float true n x y z w = refl
last-float false n x y z w = refl

is_one_bit : (b : Bool) → is_one_lem (bit b) ≡ b
unfolding is_one_lem
is_one_bit true = refl
is_one_bit false = refl

make_is : (l : Label) → make (kind l) (key l) (name l) (new l) ≡ l
unfolding make head_or
make_is NoneL = refl
make_is (BoolL b) = ap BoolL (is_one_bit b)
make_is (I64L n) = ap I64L (last_int (ltb n (2 ^ 63)) n)
make_is (F64L n) = ap F64L (last-float (ltb n (2 ^ 63)) n _ _ _ _)
make_is (BytesL t) = refl
make_is (StringL t) = refl
make_is ListL = refl
make_is TupleL = refl
make_is SetL = refl
make_is FrozenSetL = refl
make_is DictL = refl
make_is (GlobalL m n) = refl
make_is (ObjectL m n b) = ap (ObjectL m n) (is_one_bit b)

pub label_eq : (l m : Label) → labels l m ≡ Ordering.eq → new l ≡ new m → l ≡ m
unfolding labels
label_eq l m e h =
    let p = then_eq (compare (kind l) (kind m)) (lex (key l) (key m) then lex (name l) (name m)) e in
    let q = then_eq (lex (key l) (key m)) (lex (name l) (name m)) p.1 in
    let a = compare_eq (kind l) (kind m) p.0 in
    let b = lex_eq (key l) (key m) q.0 in
    let c = lex_eq (name l) (name m) q.1 in
    sym (make_is l) ∙ rw (a, b, c, h) (make_is m)

pub forests_eq : (x y : ℕ) (f g : Forest) → forests x y f g ≡ Ordering.eq → (x ≡ y) × (f ≡ g)
unfolding forests
forests_eq x y nil nil e = (compare_eq x y e, refl)
forests_eq x y nil (node m d s) e = (cc, cc)
forests_eq x y (node l c r) nil e = (cc, cc)
forests_eq x y (node l c r) (node m d s) e =
    let p = then_eq _ _ e in
    let q = then_eq _ _ p.1 in
    let w = then_eq _ _ q.1 in
    let kids : (new l ≡ new m) × (c ≡ d) = forests_eq (new l) (new m) c d q.0 in
    let rest : ◌≡◌ {A = ℕ} 0 0 × (r ≡ s) = forests_eq 0 0 r s w.1 in
    let same = label_eq l m p.0 kids.0 in
    (compare_eq x y w.0, cc)

-- ---- transitive

-- what three comparisons, of a with b, of b with c and of a with c, say together
unfoldable pub Chain : Ordering → Ordering → Ordering → Type 0
Chain Ordering.lt Ordering.lt o = o ≡ Ordering.lt
Chain Ordering.lt Ordering.eq o = o ≡ Ordering.lt
Chain Ordering.lt Ordering.gt o = Unit {0}
Chain Ordering.eq Ordering.lt o = o ≡ Ordering.lt
Chain Ordering.eq Ordering.eq o = o ≡ Ordering.eq
Chain Ordering.eq Ordering.gt o = o ≡ Ordering.gt
Chain Ordering.gt Ordering.lt o = Unit {0}
Chain Ordering.gt Ordering.eq o = o ≡ Ordering.gt
Chain Ordering.gt Ordering.gt o = o ≡ Ordering.gt

pub then_chain : (a b c a' b' c' : Ordering) → Chain a b c → Chain a' b' c' → Chain (a then a') (b then b') (c then c')
unfolding Chain ◌then◌
then_chain Ordering.lt Ordering.lt c a' b' c' h k = rw h
then_chain Ordering.lt Ordering.eq c a' Ordering.lt c' h k = rw h
then_chain Ordering.lt Ordering.eq c a' Ordering.eq c' h k = rw h
then_chain Ordering.lt Ordering.eq c a' Ordering.gt c' h k = tt
then_chain Ordering.lt Ordering.gt c a' b' c' h k = tt
then_chain Ordering.eq Ordering.lt c Ordering.lt b' c' h k = rw h
then_chain Ordering.eq Ordering.lt c Ordering.eq b' c' h k = rw h
then_chain Ordering.eq Ordering.lt c Ordering.gt b' c' h k = tt
then_chain Ordering.eq Ordering.eq c a' b' c' h k = rw h k
then_chain Ordering.eq Ordering.gt c Ordering.lt b' c' h k = tt
then_chain Ordering.eq Ordering.gt c Ordering.eq b' c' h k = rw h
then_chain Ordering.eq Ordering.gt c Ordering.gt b' c' h k = rw h
then_chain Ordering.gt Ordering.lt c a' b' c' h k = tt
then_chain Ordering.gt Ordering.eq c a' Ordering.lt c' h k = tt
then_chain Ordering.gt Ordering.eq c a' Ordering.eq c' h k = rw h
then_chain Ordering.gt Ordering.eq c a' Ordering.gt c' h k = rw h
then_chain Ordering.gt Ordering.gt c a' b' c' h k = rw h

lt_lt : (o : Ordering) → Chain Ordering.lt o Ordering.lt
unfolding Chain
lt_lt Ordering.lt = refl
lt_lt Ordering.eq = refl
lt_lt Ordering.gt = tt

gt_gt : (o : Ordering) → Chain o Ordering.gt Ordering.gt
unfolding Chain
gt_gt Ordering.lt = tt
gt_gt Ordering.eq = refl
gt_gt Ordering.gt = refl

to_lt : (o : Ordering) → Chain o Ordering.lt Ordering.lt
unfolding Chain
to_lt Ordering.lt = refl
to_lt Ordering.eq = refl
to_lt Ordering.gt = tt

from_gt : (o : Ordering) → Chain Ordering.gt o Ordering.gt
unfolding Chain
from_gt Ordering.lt = tt
from_gt Ordering.eq = refl
from_gt Ordering.gt = refl

eq_eq : Chain Ordering.eq Ordering.eq Ordering.eq
unfolding Chain
eq_eq = refl

up_down : (o : Ordering) → Chain Ordering.lt Ordering.gt o
unfolding Chain
up_down o = tt

down_up : (o : Ordering) → Chain Ordering.gt Ordering.lt o
unfolding Chain
down_up o = tt

pub compare_chain : (a b c : ℕ) → Chain (compare a b) (compare b c) (compare a c)
compare_chain zero zero zero = eq_eq
compare_chain zero zero (suc c) = rw compare.zero-suc (to_lt _)
compare_chain zero (suc b) zero = rw (compare.zero-suc, compare.suc-zero) (up_down _)
compare_chain zero (suc b) (suc c) = rw (compare.zero-suc b, compare.zero-suc c) (lt_lt _)
compare_chain (suc a) zero zero = rw compare.suc-zero (from_gt _)
compare_chain (suc a) zero (suc c) = rw (compare.zero-suc, compare.suc-zero) (down_up _)
compare_chain (suc a) (suc b) zero = rw (compare.suc-zero b, compare.suc-zero a) (gt_gt _)
compare_chain (suc a) (suc b) (suc c) = rw (compare.suc-suc a b, compare.suc-suc b c, compare.suc-suc a c) (compare_chain a b c)

pub lex_chain : (s t u : List ℕ) → Chain (lex s t) (lex t u) (lex s u)
unfolding lex
lex_chain [] [] [] = eq_eq
lex_chain [] [] (z ∷ u) = to_lt _
lex_chain [] (y ∷ t) [] = (up_down _)
lex_chain [] (y ∷ t) (z ∷ u) = lt_lt _
lex_chain (x ∷ s) [] [] = from_gt _
lex_chain (x ∷ s) [] (z ∷ u) = (down_up _)
lex_chain (x ∷ s) (y ∷ t) [] = gt_gt _
lex_chain (x ∷ s) (y ∷ t) (z ∷ u) = then_chain _ _ _ _ _ _ (compare_chain x y z) (lex_chain s t u)

pub labels_chain : (l m n : Label) → Chain (labels l m) (labels m n) (labels l n)
unfolding labels
labels_chain l m n =
    then_chain _ _ _ _ _ _ (compare_chain (kind l) (kind m) (kind n))
    (then_chain _ _ _ _ _ _ (lex_chain (key l) (key m) (key n)) (lex_chain (name l) (name m) (name n)))

pub forests_chain : (x y z : ℕ) (f g h : Forest) → Chain (forests x y f g) (forests y z g h) (forests x z f h)
unfolding forests
forests_chain x y z nil nil nil = compare_chain x y z
forests_chain x y z nil nil (node n e t) = to_lt _
forests_chain x y z nil (node m d s) nil = (up_down _)
forests_chain x y z nil (node m d s) (node n e t) = lt_lt _
forests_chain x y z (node l c r) nil nil = from_gt _
forests_chain x y z (node l c r) nil (node n e t) = (down_up _)
forests_chain x y z (node l c r) (node m d s) nil = gt_gt _
forests_chain x y z (node l c r) (node m d s) (node n e t) =
    then_chain _ _ _ _ _ _ (labels_chain l m n)
    (then_chain _ _ _ _ _ _ (forests_chain (new l) (new m) (new n) c d e)
    (then_chain _ _ _ _ _ _ (compare_chain x y z) (forests_chain 0 0 0 r s t)))

pub order-swap : (v w : Value) → order w v ≡ swap (order v w)
unfolding order
order-swap v w = simp (then_swap, ← (labels-swap v.label w.label), ← (forests-swap (new v.label) (new w.label) v.contents w.contents))
