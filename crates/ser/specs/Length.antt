-- How long a value's bytes are, by its records: 3, and for each record what stands before its contents and what those take beside
-- the values in it.
use Prim.Native.Nat.{ℕ, suc, zero, ◌+◌, ◌-◌, ◌*◌, ◌^◌, ◌/◌, ◌%◌, ◌≤◌, ◌<◌, min}
use Rattle.std.specs.Prelude.{Bool, true, false, ◌&&◌, List, [], ◌∷◌, ◌++◌, ◌≡◌, T, eqb, leb, ltb, get_or, take, drop}
use Rattle.std.proofs.Math.Bool.{cond}
use Rattle.std.proofs.Math.Path.{refl, sym, ap}
use Rattle.std.proofs.Common.{◌∙◌, eqb→eq, ltb→lt, length-take, length-drop, take-append-drop, length-take-le, le-ltb, ne_eqb}
use native.Mathlib.Omega.{arith}
use Rattle.std.proofs.Math.ListN.{length, length-append}
use Rattle.utf8.specs.Encode.{by_lt}
use Rattle.value.specs.Value.{Label, Forest, one, kind, count, size, NoneL, BoolL, I64L, F64L, BytesL, StringL, ListL, TupleL, SetL, FrozenSetL, DictL, GlobalL, ObjectL, nil, node}
use Rattle.value.specs.Shape.{kind_in, labels_of, label_of, module_part, name_part, names_end, fitting, shaped, and_l, and_r}
use Rattle.value.specs.Stands.{word_at, label_at, arity_at, text_end, Reads, Stands}
use Rattle.value.specs.Left.{kind_at}
use Rattle.table.specs.Record.{EachBelow, each_below}
use Rattle.table.specs.Compare.{formed_stands}
use Rattle.value.specs.WellFormed.{WellFormed}
use Rattle.op.specs.declared.Opcode.TheVariants.{MARK, BINSTRING, SHORT_BINSTRING, SETITEM, SETITEMS}
use Rattle.ser.specs.Image.{op, low, int_image, float_image, bytes_image, string_image, global_image, set_opening, bool_image, opening, tuple_opcode, joined, list_batch, dict_batch, one_batch, batch_size, batches_up_to, batches, items_image, tuple_mark, tuple_image, state_image, object_image, contents, images, framed, pickled}
use Rattle.ser.specs.Parts.{images-length, size-some}
use Rattle.ser.specs.Short.{low_length, high-length, joined-append}

-- ---- what contents of n parts take beside those

-- MARK and an opcode for each batch, but an entry alone one opcode
unfoldable pub batches_take : Bool → ℕ → ℕ
batches_take true n = cond (eqb (n % 2000) 2) (n / 2000 * 2 + 1) ((n + 1999) / 2000 * 2)
batches_take false n = (n + 999) / 1000 * 2

unfoldable pub appends_take : ℕ → ℕ
appends_take n = cond (ltb n 2) n (batches_take false n)

unfoldable pub tuple_takes : ℕ → ℕ
tuple_takes n = cond (leb n 3) 1 2

-- by the kind; an Object's arguments take one opcode, and so does its state; a Global has no parts
unfoldable pub around : ℕ → ℕ → ℕ
around k n = get_or (0 ∷ 0 ∷ 0 ∷ 0 ∷ 0 ∷ 0 ∷ appends_take n ∷ tuple_takes n ∷ (appends_take n + 2) ∷ (appends_take n + 2) ∷ batches_take true n ∷ n ∷ n ∷ []) k 0

-- none, one, a full batch and one item more; an entry, a full batch and one entry more
pub batches_taken : batches_take false 0 ∷ batches_take false 1 ∷ batches_take false 1000 ∷ batches_take false 1001 ∷ batches_take true 2 ∷ batches_take true 2000 ∷ batches_take true 2002 ∷ []
    ≡ 0 ∷ 2 ∷ 2 ∷ 4 ∷ 1 ∷ 2 ∷ 3 ∷ []
unfolding batches_take
batches_taken = refl

batch_takes : Bool → ℕ → ℕ
batch_takes true n = cond (eqb n 2) 1 2
batch_takes false n = 2

batch-length : (e : Bool) (s : List (List ℕ)) → length (one_batch e s) ≡ length (joined s) + batch_takes e (length s)
unfolding one_batch list_batch dict_batch batch_takes
batch-length true s = go (eqb (length s) 2)
  where
    go : (c : Bool) → length (cond c (joined s ++ op SETITEM) (op MARK ++ (joined s ++ op SETITEMS))) ≡ length (joined s) + cond c 1 2
    go true = length-append (joined s) _
    go false = rw (length-append (joined s)) (omega arith)
batch-length false s = rw (length-append (joined s)) (omega arith)

-- the first batch, and the others
take_more : (e : Bool) (n : ℕ) → 0 < n → batches_take e n ≡ batch_takes e (min (batch_size e) n) + batches_take e (n - batch_size e)
unfolding batches_take batch_takes batch_size
take_more false n h = omega arith
take_more true n h = by_lt n 2001 few many
  where
    few : n < 2001 → batches_take true n ≡ batch_takes true (min 2000 n) + batches_take true (n - 2000)
    few l =
        let m : min 2000 n ≡ n = omega arith in
        let z : n - 2000 ≡ 0 = omega arith in
        rw (m, z)
        (by_lt n 2 (λ a. let e : n ≡ 1 = omega arith in rw e)
        (λ a. by_lt n 3 (λ b. let e : n ≡ 2 = omega arith in rw e) (λ b. rw (ne_eqb n 2 (λ q. omega arith), ne_eqb (n % 2000) 2 (λ q. omega arith)) (omega arith))))

    many : 2001 ≤ n → batches_take true n ≡ batch_takes true (min 2000 n) + batches_take true (n - 2000)
    many l =
        let m : min 2000 n ≡ 2000 = omega arith in
        let e : (n - 2000) % 2000 ≡ n % 2000 = omega arith in
        rw (m, e) (go (eqb (n % 2000) 2))
      where
        go : (c : Bool) → cond c (n / 2000 * 2 + 1) ((n + 1999) / 2000 * 2) ≡ 2 + cond c ((n - 2000) / 2000 * 2 + 1) ((n - 2000 + 1999) / 2000 * 2)
        go true = omega (arith, l)
        go false = omega (arith, l)

up_to-length : (k : ℕ) (e : Bool) (s : List (List ℕ)) → length s ≤ k → length (batches_up_to k e s) ≡ length (joined s) + batches_take e (length s)
unfolding batches_up_to batches_take joined
up_to-length zero true [] h = refl
up_to-length zero false [] h = refl
up_to-length (suc k) true [] h = refl
up_to-length (suc k) false [] h = refl
up_to-length zero e (x ∷ s) h = absurd (omega arith)
up_to-length (suc k) e (x ∷ s) h =
    let b = batch_size e in
    let a = take b (x ∷ s) in
    let r = drop b (x ∷ s) in
    let j : length (joined (x ∷ s)) ≡ length (joined a) + length (joined r) = ap (λ (u : List (List ℕ)). length (joined u)) (sym (take-append-drop b (x ∷ s))) ∙ ap length (joined-append a r) ∙ length-append (joined a) (joined r) in
    let l : length r ≡ suc (length s) - b = length-drop b (x ∷ s) in
    let f : length a ≡ min b (suc (length s)) = length-take b (x ∷ s) in
    let one : length (one_batch e a) ≡ length (joined a) + batch_takes e (min b (suc (length s))) = batch-length e a ∙ rw f in
    let rest : length (batches_up_to k e r) ≡ length (joined r) + batches_take e (suc (length s) - b) = up_to-length k e r (omega (arith, size-some e)) ∙ rw l in
    length-append (one_batch e a) _ ∙ omega (arith, one, rest, j, take_more e (suc (length s)) (omega arith))

appends-length : (s : List (List ℕ)) → length (items_image s) ≡ length (joined s) + appends_take (length s)
unfolding items_image batches appends_take joined
appends-length [] = refl
appends-length (x ∷ []) = length-append (joined (x ∷ [])) _
appends-length (x ∷ y ∷ s) = rw (le-ltb (suc (suc (length s))) 2 (omega arith)) (up_to-length (length (x ∷ y ∷ s)) false (x ∷ y ∷ s) (omega arith))

tuple-length : (s : List (List ℕ)) → length (tuple_image s) ≡ length (joined s) + tuple_takes (length s)
unfolding tuple_image tuple_mark tuple_takes
tuple-length s = go (leb (length s) 3)
  where
    go : (c : Bool) → length (cond c [] (op MARK) ++ (joined s ++ op (tuple_opcode (length s)))) ≡ length (joined s) + cond c 1 2
    go true = length-append (joined s) _
    go false = rw (length-append (joined s)) (omega arith)

object-length : (b : Bool) (s : List (List ℕ)) → 0 < length s → length s < 3 → length (object_image b s) ≡ length (joined s) + length s
unfolding object_image state_image joined
object-length b [] h g = absurd (omega arith)
object-length b (x ∷ []) h g = rw (length-append (x ++ []), length-append x) (omega arith)
object-length b (x ∷ y ∷ []) h g =
    let j : length (x ++ (y ++ [])) ≡ length x + (length y + 0) = length-append x (y ++ []) ∙ ap (λ (k : ℕ). length x + k) (length-append y []) in
    rw (j, length-append (x ++ []), length-append x [], length-append (y ++ []), length-append y []) (omega arith)
object-length b (x ∷ y ∷ z ∷ s) h g = absurd (omega arith)

none-joined : (s : List (List ℕ)) → T (eqb (length s) 0) → length (joined s) + length s ≡ 0
unfolding joined
none-joined [] h = refl
none-joined (x ∷ s) h = absurd (let e = eqb→eq (suc (length s)) 0 h in omega arith)

contents-length : (l : Label) (s : List (List ℕ)) → T (fitting l (length s)) → length (contents l s) ≡ length (joined s) + around (kind l) (length s)
unfolding contents around batches
contents-length NoneL s h = omega (arith, none-joined s h)
contents-length (BoolL b) s h = omega (arith, none-joined s h)
contents-length (I64L i) s h = omega (arith, none-joined s h)
contents-length (F64L i) s h = omega (arith, none-joined s h)
contents-length (BytesL t) s h = omega (arith, none-joined s h)
contents-length (StringL t) s h = omega (arith, none-joined s h)
contents-length ListL s h = appends-length s
contents-length TupleL s h = tuple-length s
contents-length SetL s h = rw (length-append (items_image s)) (omega (arith, appends-length s))
contents-length FrozenSetL s h = rw (length-append (items_image s)) (omega (arith, appends-length s))
contents-length DictL s h = up_to-length (length s) true s (omega arith)
contents-length (GlobalL m k) s h = sym (none-joined s (and_l (eqb (length s) 0) (ltb (length k) (2 ^ 32)) h))
contents-length (ObjectL m k b) s h =
    let n = length s in
    let few = ltb n 3 && ltb (length k) (2 ^ 32) in
    object-length b s (ltb→lt 0 n (and_l (ltb 0 n) few h)) (ltb→lt n 3 (and_l (ltb n 3) (ltb (length k) (2 ^ 32)) (and_r (ltb 0 n) few h)))

-- ---- what stands before the contents, by the kind and the words behind it

unfoldable pub opening_takes : ℕ → ℕ → ℕ → ℕ
opening_takes k b c =
    let names = c / 2 ^ 32 + c % 2 ^ 32 + 3 in
    get_or (1 ∷ 1 ∷ length (int_image b) ∷ 9 ∷ cond (leb c 255) (c + 2) (c + 5) ∷ (c + 5) ∷ 1 ∷ 0 ∷ 18 ∷ 24 ∷ 1 ∷ names ∷ names ∷ []) k 0

bytes-length : (t : List ℕ) → length (bytes_image t) ≡ cond (leb (length t) 255) (length t + 2) (length t + 5)
unfolding bytes_image
bytes-length t = go (leb (length t) 255)
  where
    go : (d : Bool) → length (cond d (op SHORT_BINSTRING ++ low 1 (length t)) (op BINSTRING ++ low 4 (length t)) ++ t) ≡ cond d (length t + 2) (length t + 5)
    go true = rw (length-append (low 1 (length t)), low_length 1 (length t)) (omega arith)
    go false = rw (length-append (low 4 (length t)), low_length 4 (length t)) (omega arith)

string-length : (t : List ℕ) → length (string_image t) ≡ length t + 5
unfolding string_image
string-length t = rw (length-append (low 4 (length t)), low_length 4 (length t)) (omega arith)

global-length : (m k : List ℕ) → length (global_image m k) ≡ length m + length k + 3
unfolding global_image
global-length m k = rw (length-append m, length-append k) (omega arith)

-- a record's words, and the text
module _ (a b c : ℕ) (t : List ℕ) where
  text_takes : b + c ≤ length t → (f : List ℕ → List ℕ) (g : ℕ → ℕ) → ((s : List ℕ) → length (f s) ≡ g (length s)) → length (f (take c (drop b t))) ≡ g c
  text_takes h f g e = e (take c (drop b t)) ∙ ap g (length-take-le c (drop b t) (omega (arith, length-drop b t)))

  names-take : names_end b c ≤ length t → length (global_image (module_part c (drop b t)) (name_part c (drop b t))) ≡ c / 2 ^ 32 + c % 2 ^ 32 + 3
  names-take h =
      let u = drop b t in
      let x = length-take-le (c / 2 ^ 32) u (omega (arith, length-drop b t)) in
      let y = length-take-le (c % 2 ^ 32) (drop (c / 2 ^ 32) u) (omega (arith, length-drop (c / 2 ^ 32) u, length-drop b t)) in
      global-length (module_part c u) (name_part c u) ∙ omega (arith, x, y)

  abbrev Takes : ℕ → Type 0
  Takes k = get_or (0 ∷ 0 ∷ 0 ∷ 0 ∷ (b + c) ∷ (b + c) ∷ 0 ∷ 0 ∷ 0 ∷ 0 ∷ 0 ∷ names_end b c ∷ names_end b c ∷ []) k 0 ≤ length t → length (opening (get_or (labels_of a b c (drop b t)) k NoneL)) ≡ opening_takes k b c

  kind_takes : (k : ℕ) → k < 13 → Takes k
  unfolding opening opening_takes bool_image float_image set_opening global_image EachBelow
  kind_takes =
      each_below 13 Takes (
        (λ h. refl),
        (
          (λ h. refl),
          (
            (λ h. refl),
            (
              (λ h. ap suc (high-length 8 b)),
              (
                (λ h. text_takes h bytes_image (λ n. cond (leb n 255) (n + 2) (n + 5)) bytes-length),
                ((λ h. text_takes h string_image (λ n. n + 5) string-length), ((λ h. refl), ((λ h. refl), ((λ h. refl), ((λ h. refl), ((λ h. refl), ((λ h. names-take h), ((λ h. names-take h), tt)))))))),
              ),
            ),
          ),
        ),
      )

-- ---- record by record, as the code goes through a table

module _ (w : List ℕ) where
  -- a record without the values in it
  abbrev pub record_takes : ℕ → ℕ
  record_takes i = opening_takes (kind_in (word_at w i 0)) (word_at w i 1) (word_at w i 2) + around (kind_in (word_at w i 0)) (arity_at w i)

  -- n records from record i on
  unfoldable pub records_take : ℕ → ℕ → ℕ
  records_take i zero = 0
  records_take i (suc n) = record_takes i + records_take (i + 1) n

  pub records_more : (i n : ℕ) → 0 < n → records_take i n ≡ record_takes i + records_take (i + 1) (n - 1)
  unfolding records_take
  records_more i zero h = absurd (omega arith)
  records_more i (suc n) h = let e : suc n - 1 ≡ n = omega arith in rw e

  records_both : (a b i : ℕ) → records_take i (a + b) ≡ records_take i a + records_take (i + a) b
  unfolding records_take
  records_both zero b i = let e : i + 0 ≡ i = omega arith in let z : 0 + b ≡ b = omega arith in rw (e, z) (omega arith)
  records_both (suc a) b i =
      let e : i + 1 + a ≡ i + suc a = omega arith in
      let z : suc a + b ≡ suc (a + b) = omega arith in
      let h : records_take (i + 1) (a + b) ≡ records_take (i + 1) a + records_take (i + suc a) b = records_both a b (i + 1) ∙ rw e in
      rw z (omega arith)

  module _ (t : List ℕ) where
    opening_takes_lem : (i : ℕ) → Reads w t i → length (opening (label_at w t i)) ≡ opening_takes (kind_in (word_at w i 0)) (word_at w i 1) (word_at w i 2)
    unfolding label_at label_of text_end
    opening_takes_lem i r = kind_takes (word_at w i 0) (word_at w i 1) (word_at w i 2) t (kind_in (word_at w i 0)) r.known r.texts

    -- the records of values take what the values' bytes do
    values_length : (f : Forest) (i : ℕ) → T (shaped f) → Stands w t i f → records_take i (size f) ≡ length (joined (images f))
    unfolding Stands shaped size records_take images joined
    values_length nil i h s = refl
    values_length (node l c r) i h s =
        let n = count c in
        let fit = and_l (fitting l n) (shaped c && shaped r) h in
        let both = and_r (fitting l n) (shaped c && shaped r) h in
        let before : opening_takes (kind_in (word_at w i 0)) (word_at w i 1) (word_at w i 2) ≡ length (opening l) = sym (opening_takes_lem i s.0.reads) ∙ ap (λ (x : Label). length (opening x)) s.0.label in
        let k : kind_in (word_at w i 0) ≡ kind l = sym (kind_at w t i s.0.reads) ∙ ap kind s.0.label in
        let beside : around (kind_in (word_at w i 0)) (arity_at w i) ≡ around (kind l) n = rw (k, s.0.arity) in
        let y : length (contents l (images c)) ≡ length (joined (images c)) + around (kind l) n = rw (images-length c) at (contents-length l (images c) (rw (images-length c) fit)) in
        rw (length-append (opening l ++ contents l (images c)), length-append (opening l))
        (omega
        (arith, before, beside, y, values_length c (i + 1) (and_l (shaped c) (shaped r) both) s.1, values_length r (i + 1 + size c) (and_r (shaped c) (shaped r) both) s.2, records_both (size c) (size r) (i + 1)))

-- a well-formed table's value: PROTO 2, its records, STOP
pub pickled-length : (w : List ℕ) (n : ℕ) (t : List ℕ) (f : WellFormed w n t) → length (pickled f.value) ≡ records_take w 0 n + 3
unfolding pickled framed
pickled-length w n t f =
    let h : records_take w 0 n ≡ length (joined (images (one f.value))) = rw f.counted at (values_length w t (one f.value) 0 f.shape (formed_stands w n t f)) in
    rw (length-append (joined (images (one f.value)))) (omega (arith, h))
