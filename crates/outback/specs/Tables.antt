-- The value of a well-formed table of u64 words is returnable, if its names can be written (Ask 5) and its Objects keep to the premise
-- on them. What the crate says of a record's words is said here.
use Rattle.std.specs.Prelude.{ℕ, suc, zero, ◌+◌, ◌*◌, ◌^◌, ◌≤◌, ◌<◌, Bool, true, false, ◌&&◌, List, [], ◌∷◌, ◌++◌, ◌≡◌, refl, length, take, T, eqb, ltb}
use Rattle.std.proofs.Common.{ap, length-append, eqb→eq, ltb→lt, arith}
use Rattle.utf8.specs.Utf8.{valid}
use Rattle.value.specs.Value.{Label, Forest, one, half, text_of, text, count, size, record_of, table, NoneL, BoolL, I64L, F64L, BytesL, StringL, ListL, TupleL, SetL, FrozenSetL, DictL, GlobalL, ObjectL, nil, node}
use Rattle.value.specs.Shape.{Words, fitting, shaped, and_l, and_r}
use Rattle.value.specs.WellFormed.{WellFormed, is_tuple, first_is_tuple, proper, settled}
use Rattle.ser.specs.Writable.{writable, writable_label, writable_in}
use Rattle.outback.specs.SetCalls.{two_arguments, two_arguments_in}
use Rattle.outback.specs.Returnable.{Named, Arguments, arguments, Returnable, AllReturnable}

-- ---- words

-- `Words`, word by word
unfoldable EachWord : List ℕ → Type 0
EachWord [] = Unit {0}
EachWord (x ∷ l) = (x < 2 ^ 64) × EachWord l

each_left : (a b : List ℕ) → EachWord (a ++ b) → EachWord a
unfolding EachWord
each_left [] b h = tt
each_left (x ∷ a) b h = (h.0, each_left a b h.1)

each_right : (a b : List ℕ) → EachWord (a ++ b) → EachWord b
unfolding EachWord
each_right [] b h = h
each_right (x ∷ a) b h = each_right a b h.1

each_of : (l : List ℕ) (n : ℕ) → Words l → EachWord (take n l)
unfolding EachWord
each_of l zero h = tt
each_of [] (suc n) h = tt
each_of (x ∷ l) (suc n) h = (h 0, each_of l n (λ i. h (suc i)))

-- ---- a record

pub true_of : (b : Bool) → T b → b ≡ true
true_of true h = refl
true_of false h = absurd h

nothing_in : (c : Forest) → T (eqb (count c) 0) → c ≡ nil
unfolding count
nothing_in nil h = refl
nothing_in (node l c r) h = absurd (let e = eqb→eq (suc (count r)) 0 h in omega arith)

named_of : (m k : List ℕ) → T (writable m && writable k) → T (valid m && valid k) → Named m k
named_of m k h v =
    record {
      module_line = and_l (writable m) (writable k) h;
      name-line = and_r (writable m) (writable k) h;
      module_valid = true_of (valid m) (and_l (valid m) (valid k) v);
      name-valid = true_of (valid k) (and_r (valid m) (valid k) v);
    }

tuple_of : (l : Label) → T (is_tuple l) → l ≡ TupleL
tuple_of NoneL h = absurd h
tuple_of (BoolL b) h = absurd h
tuple_of (I64L i) h = absurd h
tuple_of (F64L i) h = absurd h
tuple_of (BytesL t) h = absurd h
tuple_of (StringL t) h = absurd h
tuple_of ListL h = absurd h
tuple_of TupleL h = refl
tuple_of SetL h = absurd h
tuple_of FrozenSetL h = absurd h
tuple_of DictL h = absurd h
tuple_of (GlobalL m k) h = absurd h
tuple_of (ObjectL m k b) h = absurd h

arguments_of : (m k : List ℕ) (new : Bool) (c : Forest) → T (first_is_tuple c) → count c < 3 → T (two_arguments (ObjectL m k new) c) → Arguments m k new c
unfolding count two_arguments
arguments_of m k new nil t n h = absurd t
arguments_of m k new (node l a r) t n h = let few : count r ≤ 1 = omega arith in rw (tuple_of l t) (arguments few h)

label_of : (l : Label) (c : Forest) (p : ℕ) → T (fitting l (count c)) → T (proper l c) → T (writable_label l) → T (two_arguments l c) → EachWord (record_of l p (count c) (suc (size c))) → length (text_of l) < 2 ^ 31 → Returnable l c
unfolding Returnable EachWord writable_label
label_of NoneL c p f q n a w t = nothing_in c f
label_of (BoolL b) c p f q n a w t = nothing_in c f
label_of (I64L i) c p f q n a w t = (nothing_in c f, w.1.0)
label_of (F64L i) c p f q n a w t = (nothing_in c f, w.1.0)
label_of (BytesL x) c p f q n a w t = (nothing_in c f, t)
label_of (StringL x) c p f q n a w t = (nothing_in c f, t, true_of (valid x) q)
label_of ListL c p f q n a w t = tt
label_of TupleL c p f q n a w t = tt
label_of SetL c p f q n a w t = tt
label_of FrozenSetL c p f q n a w t = tt
label_of DictL c p f q n a w t = let e = eqb→eq (count c) (half (count c) + half (count c)) f in omega arith
label_of (GlobalL m k) c p f q n a w t = (nothing_in c (and_l (eqb (count c) 0) (ltb (length k) (2 ^ 32)) f), named_of m k n q)
label_of (ObjectL m k new) c p f q n a w t =
    let g = and_r (ltb 0 (count c)) (ltb (count c) 3 && ltb (length k) (2 ^ 32)) f in
    let h = ltb→lt (count c) 3 (and_l (ltb (count c) 3) (ltb (length k) (2 ^ 32)) g) in
    (arguments_of m k new c (and_l (first_is_tuple c) (valid m && valid k) q) h a, named_of m k n (and_r (first_is_tuple c) (valid m && valid k) q))

-- ---- all records

values_of : (f : Forest) (p : ℕ) → T (shaped f) → T (settled f) → T (writable_in f) → T (two_arguments_in f) → EachWord (table f p) → length (text f) < 2 ^ 31 → AllReturnable f
unfolding AllReturnable shaped settled writable_in two_arguments_in table text
values_of nil p h s n a w t = tt
values_of (node l c r) p h s n a w t =
    let q = p + length (text_of l) in
    let x = table c q ++ table r (q + length (text c)) in
    let y = record_of l p (count c) (suc (size c)) in
    let h₁ = and_r (fitting l (count c)) (shaped c && shaped r) h in
    let s₁ = and_r (proper l c) (settled c && settled r) s in
    let n₁ = and_r (writable_label l) (writable_in c && writable_in r) n in
    let a₁ = and_r (two_arguments l c) (two_arguments_in c && two_arguments_in r) a in
    let w₁ = each_right y x w in
    let z₁ = length-append (text_of l) (text c ++ text r) in
    let z₂ = length-append (text c) (text r) in (
      label_of l c p (and_l (fitting l (count c)) (shaped c && shaped r) h) (and_l (proper l c) (settled c && settled r) s) (and_l (writable_label l) (writable_in c && writable_in r) n) (and_l (two_arguments l c) (two_arguments_in c && two_arguments_in r) a) (each_left y x w) (omega arith),
      values_of c q (and_l (shaped c) (shaped r) h₁) (and_l (settled c) (settled r) s₁) (and_l (writable_in c) (writable_in r) n₁) (and_l (two_arguments_in c) (two_arguments_in r) a₁) (each_left (table c q) (table r (q + length (text c))) w₁) (omega arith),
      values_of r (q + length (text c)) (and_r (shaped c) (shaped r) h₁) (and_r (settled c) (settled r) s₁) (and_r (writable_in c) (writable_in r) n₁) (and_r (two_arguments_in c) (two_arguments_in r) a₁) (each_right (table c q) (table r (q + length (text c))) w₁) (omega arith),
    )

pub table_returnable : (w : List ℕ) (n : ℕ) (t : List ℕ) (f : WellFormed w n t) → Words w → T (writable_in (one f.value)) → T (two_arguments_in (one f.value)) → AllReturnable (one f.value)
table_returnable w n t f h a b =
    values_of (one f.value) 0 f.shape f.settle a b (rw f.records at (each_of w (4 * n) h)) (let z = ap length f.texts in omega (arith, f.short))
