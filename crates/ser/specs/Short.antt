-- No value is written longer than 28 bytes a record, its text, and 3 (open point 5.6): a well-formed table's at most 122,883 bytes.
use Rattle.std.specs.Prelude.{ℕ, suc, zero, ◌+◌, ◌-◌, ◌*◌, ◌/◌, ◌≤◌, Bool, true, false, cond, List, [], ◌∷◌, ◌++◌, ◌≡◌, refl, eqb, leb, length, take, drop}
use Rattle.std.proofs.Common.{append_assoc, sym, ◌∙◌, ap, arith, length-append, length-drop, take-append-drop}
use Rattle.value.specs.Value.{Label, Forest, Value, one, text_of, text, count, size, NoneL, BoolL, I64L, F64L, BytesL, StringL, ListL, TupleL, SetL, FrozenSetL, DictL, GlobalL, ObjectL, nil, node}
use Rattle.value.specs.WellFormed.{WellFormed}
use Rattle.output.specs.Decimal.{signed_text, signed-short, either_way}
use Rattle.ser.specs.Image.{low, high, in_i32, int_image, float_image, bytes_image, string_image, global_image, builtin, set, frozenset, set_opening, bool_image, opening, joined, list_batch, dict_batch, one_batch, batch_size, batches_up_to, batches, items_image, tuple_mark, tuple_image, state_image, object_image, contents, images, framed, pickled}
use Rattle.ser.specs.Parts.{images-length, size-some}

pub low_length : (k n : ℕ) → length (low k n) ≡ k
unfolding low
low_length zero n = refl
low_length (suc k) n = ap suc (low_length k (n / 256))

pub high-length : (k n : ℕ) → length (high k n) ≡ k
unfolding high
high-length zero n = refl
high-length (suc k) n = rw (length-append (high k (n / 256)), high-length k (n / 256)) (omega arith)

-- ---- before the parts

int_short : (b : ℕ) → length (int_image b) ≤ 24
unfolding int_image
int_short b =
    let P : List ℕ → Type 0 = λ (u : List ℕ). length u ≤ 24 in
    let t : length (signed_text b ++ (0x0A ∷ [])) ≤ 22 = rw (length-append (signed_text b)) (omega (arith, signed-short b)) in
    either_way P (leb b 255) _ _ (omega (arith, low_length 1 b))
    (either_way P (leb b 65535) _ _ (omega (arith, low_length 2 b)) (either_way P (in_i32 b) _ _ (omega (arith, low_length 4 b)) (omega arith)))

bytes-short : (t : List ℕ) → length (bytes_image t) ≤ 24 + length t
unfolding bytes_image
bytes-short t =
    let n = length t in
    rw (length-append (cond (leb n 255) _ _))
    (either_way (λ (u : List ℕ). length u + n ≤ 24 + n) (leb n 255) _ _ (omega (arith, low_length 1 n)) (omega (arith, low_length 4 n)))

string-short : (t : List ℕ) → length (string_image t) ≤ 24 + length t
unfolding string_image
string-short t = rw (length-append (low 4 (length t))) (omega (arith, low_length 4 (length t)))

global-short : (m k : List ℕ) → length (global_image m k) ≤ 3 + length (m ++ k)
unfolding global_image
global-short m k = rw (length-append m, length-append m, length-append k) (omega arith)

set-short : (k : List ℕ) → length (set_opening k) ≤ 15 + length k
unfolding set_opening
set-short k = rw (length-append (global_image builtin k)) (omega (arith, global-short builtin k))

opening-short : (l : Label) → length (opening l) ≤ 24 + length (text_of l)
unfolding opening float_image bool_image
opening-short NoneL = omega arith
opening-short (BoolL b) = omega arith
opening-short (I64L i) = omega (arith, int_short i)
opening-short (F64L i) = omega (arith, high-length 8 i)
opening-short (BytesL t) = bytes-short t
opening-short (StringL t) = string-short t
opening-short ListL = omega arith
opening-short TupleL = omega arith
opening-short SetL = omega (arith, set-short set)
opening-short FrozenSetL = omega (arith, set-short frozenset)
opening-short DictL = omega arith
opening-short (GlobalL m k) = omega (arith, global-short m k)
opening-short (ObjectL m k b) = omega (arith, global-short m k)

-- ---- the parts: two bytes more for each, and two more in all

pub joined-append : (s r : List (List ℕ)) → joined (s ++ r) ≡ joined s ++ joined r
unfolding joined
joined-append [] r = refl
joined-append (x ∷ s) r = rw (joined-append s r, append_assoc x)

batch-short : (e : Bool) (s : List (List ℕ)) → length (one_batch e s) ≤ 2 + length (joined s)
unfolding one_batch list_batch dict_batch
batch-short true s =
    either_way (λ (u : List ℕ). length u ≤ 2 + length (joined s)) (eqb (length s) 2) _ _ (rw (length-append (joined s)) (omega arith)) (rw (length-append (joined s)) (omega arith))
batch-short false s = rw (length-append (joined s)) (omega arith)

up_to-short : (k : ℕ) (e : Bool) (s : List (List ℕ)) → length (batches_up_to k e s) ≤ length (joined s) + 2 * length s
unfolding batches_up_to
up_to-short zero e s = omega arith
up_to-short (suc k) e [] = omega arith
up_to-short (suc k) e (x ∷ s) =
    let b = batch_size e in
    let a = take b (x ∷ s) in
    let r = drop b (x ∷ s) in
    let j : length (joined (x ∷ s)) ≡ length (joined a) + length (joined r) = ap (λ (u : List (List ℕ)). length (joined u)) (sym (take-append-drop b (x ∷ s))) ∙ ap length (joined-append a r) ∙ length-append (joined a) (joined r) in
    let l : length r ≡ suc (length s) - b = length-drop b (x ∷ s) in
    rw (length-append (one_batch e a)) (omega (arith, batch-short e a, up_to-short k e r, size-some e))

appends-short : (s : List (List ℕ)) → length (items_image s) ≤ length (joined s) + 2 * length s
unfolding items_image batches
appends-short [] = omega arith
appends-short (x ∷ []) = rw (length-append (joined (x ∷ []))) (omega arith)
appends-short (x ∷ y ∷ s) = up_to-short (length (x ∷ y ∷ s)) false (x ∷ y ∷ s)

tuple-short : (s : List (List ℕ)) → length (tuple_image s) ≤ 2 + length (joined s)
unfolding tuple_image tuple_mark
tuple-short s =
    let n = length s in
    rw (length-append (cond (leb n 3) _ _), length-append (joined s))
    (either_way (λ (u : List ℕ). length u + (length (joined s) + 1) ≤ 2 + length (joined s)) (leb n 3) _ _ (omega arith) (omega arith))

built-short : (s : List (List ℕ)) → length (state_image s) ≤ 1 + length (joined s)
unfolding state_image
built-short [] = omega arith
built-short (x ∷ s) = rw (length-append (joined (x ∷ s))) (omega arith)

object-short : (b : Bool) (s : List (List ℕ)) → length (object_image b s) ≤ 2 + length (joined s)
unfolding object_image joined
object-short b [] = omega arith
object-short b (x ∷ s) = rw (length-append (joined (x ∷ [])), length-append x, length-append x) (omega (arith, built-short s))

contents-short : (l : Label) (s : List (List ℕ)) → length (contents l s) ≤ 2 + (length (joined s) + 2 * length s)
unfolding contents batches
contents-short NoneL s = omega arith
contents-short (BoolL b) s = omega arith
contents-short (I64L i) s = omega arith
contents-short (F64L i) s = omega arith
contents-short (BytesL t) s = omega arith
contents-short (StringL t) s = omega arith
contents-short ListL s = omega (arith, appends-short s)
contents-short TupleL s = omega (arith, tuple-short s)
contents-short SetL s = rw (length-append (items_image s)) (omega (arith, appends-short s))
contents-short FrozenSetL s = rw (length-append (items_image s)) (omega (arith, appends-short s))
contents-short DictL s = omega (arith, up_to-short (length s) true s)
contents-short (GlobalL m k) s = omega arith
contents-short (ObjectL m k b) s = omega (arith, object-short b s)

-- ---- values

values_short : (f : Forest) → length (joined (images f)) + 2 * count f ≤ 28 * size f + length (text f)
unfolding joined images count size text
values_short nil = omega arith
values_short (node l c r) =
    rw (length-append (opening l ++ contents l (images c)), length-append (opening l), length-append (text_of l), length-append (text c))
    (omega (arith, opening-short l, contents-short l (images c), images-length c, values_short c, values_short r))

pub pickled-short : (v : Value) → length (pickled v) ≤ 28 * size (one v) + length (text (one v)) + 3
unfolding pickled framed
pickled-short v = rw (length-append (joined (images (one v)))) (omega (arith, values_short (one v)))

pub written-short : (w : List ℕ) (n : ℕ) (t : List ℕ) (f : WellFormed w n t) → length (pickled f.value) ≤ 122883
written-short w n t f = omega (arith, pickled-short f.value, f.counted, f.few, f.short, ap length f.texts)
