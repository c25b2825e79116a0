-- One law for each turn and each end of the code's loops, and for each way that a function writes. Assumes nothing.
use Prim.Native.Nat.{ℕ, suc, zero, ◌+◌, ◌-◌, ◌*◌, ◌^◌, ◌/◌, ◌%◌, ◌≤◌, ◌<◌}
use mathlib.Core.Bool.{Bool, true, false, not}
use mathlib.Core.List.{List, [], ◌∷◌, ◌++◌}
use mathlib.Core.Path.{◌≡◌, refl, sym, ◌∙◌, ap}
use Rattle.std.proofs.Math.Nat.{div-div-eq-div-mul, mul_comm, pow-suc}
use Rattle.std.specs.Int.{w64, to_le_bytes, to_be_bytes, bytes_low_first, bytes_high_first}
use Rattle.std.specs.List.{ends_with, list_any}
use Rattle.std.proofs.Common.{drop-cons, drop_of_length-le, eqb-true, eq-eqb}
use Rattle.std.proofs.Math.Bool.{and-true}
use Rattle.std.proofs.lemmas.Bool.{eqb-false}
use native.Mathlib.Omega.{arith}
use mathlib.Core.Logic.{◌≢◌}
use lib.Dec.{eqb, ltb}
use borrow.Author.Tests.{le-leb, lt-leb, ne_eqb}
use lib.ListN.{length, take, drop}
use Rattle.op.specs.Table.{code_of, number_in, is_named, place}
use Rattle.input.specs.Bytes.{last_byte}
use Rattle.value.specs.Value.{bit}
use Rattle.output.specs.Decimal.{signed_text, either_way}
use Rattle.output.specs.Put.{newline_byte}
use Rattle.ser.specs.Image.{low, high, in_i32, int_image, float_image, bytes_image, string_image, global_image, builtin, set_opening, joined, list_batch, dict_batch, one_batch, batches_up_to, batches, items_image, tuple_opcode, tuple_mark, tuple_image, object_opcode, state_image, object_image, framed}
use Rattle.ser.specs.Length.{batches_take, appends_take, record_takes, records_take, records_more}
use Rattle.ser.specs.Writable.{has_newline, ends_cr, writable}
use Rattle.ser.specs.Parts.{Same, Cuts, preceded_by, followed_by}

-- ---- numbers as bytes

-- the bytes from the i-th on are those of what is left without the ones before
bytes_low : (k i n : ℕ) → bytes_low_first i k n ≡ low k (n / 256 ^ i)
unfolding low
bytes_low zero i n = refl
bytes_low (suc k) zero n = let e : n / 1 ≡ n = omega arith in rw (bytes_low k 1 n, e)
bytes_low (suc k) (suc i) n = rw (bytes_low k (suc (suc i)) n, div-div-eq-div-mul n (256 ^ suc i) 256, pow-suc 256 (suc i)) refl

low_front : (k j n : ℕ) → k ≤ j → take k (low j n) ≡ low k n
unfolding low
low_front zero j n h = refl
low_front (suc k) zero n h = absurd (omega arith)
low_front (suc k) (suc j) n h = ap (λ (x : List ℕ). n % 256 ∷ x) (low_front k j (n / 256) (omega arith))

pub low_of : (k n : ℕ) → k ≤ 8 → take k (to_le_bytes w64 n) ≡ low k n
low_of k n h = let e : n / 1 ≡ n = omega arith in ap (take k) (bytes_low 8 0 n ∙ rw e) ∙ low_front k 8 n h

high_next : (k n : ℕ) → high (suc k) n ≡ n / 256 ^ k % 256 ∷ high k n
unfolding high
high_next zero n = let e : n / 1 ≡ n = omega arith in rw e
high_next (suc k) n = rw (high_next k (n / 256), div-div-eq-div-mul n 256 (256 ^ k), mul_comm 256 (256 ^ k), pow-suc 256 k) refl

bytes_high : (k n : ℕ) → bytes_high_first k n ≡ high k n
unfolding high
bytes_high zero n = refl
bytes_high (suc zero) n = refl
bytes_high (suc (suc k)) n = ap (λ (x : List ℕ). n / 256 ^ suc k % 256 ∷ x) (bytes_high (suc k) n) ∙ sym (high_next (suc k) n)

pub high_of : (n : ℕ) → to_be_bytes w64 n ≡ high 8 n
high_of n = bytes_high 8 n

-- ---- opcodes by number

-- the numbers compute
unfoldable pub numbers : Unit {0}
unfolding code_of number_in is_named place
numbers = tt

module _ (n : ℕ) where
  pub mark-none : n ≤ 3 → [] ≡ tuple_mark n
  unfolding tuple_mark
  mark-none h = sym (rw (le-leb n 3 h))

  pub mark-some : 3 < n → 0x28 ∷ [] ≡ tuple_mark n
  unfolding tuple_mark numbers
  mark-some h = sym (rw (lt-leb n 3 h))

-- ---- numbers and text

pub int_1 : (b : ℕ) → b ≤ 255 → int_image b ≡ (0x4B ∷ []) ++ low 1 b
unfolding int_image numbers
int_1 b h = rw (le-leb b 255 h)

pub int_2 : (b : ℕ) → 255 < b → b ≤ 65535 → int_image b ≡ (0x4D ∷ []) ++ low 2 b
unfolding int_image numbers
int_2 b g h = rw (lt-leb b 255 g, le-leb b 65535 h)

pub int_4 : (b : ℕ) → 65535 < b → in_i32 b ≡ true → int_image b ≡ (0x4A ∷ []) ++ low 4 b
unfolding int_image numbers
int_4 b g h = let e : 255 < b = omega arith in rw (lt-leb b 255 e, lt-leb b 65535 g, h)

pub int_text : (b : ℕ) → 65535 < b → in_i32 b ≡ false → int_image b ≡ (0x49 ∷ []) ++ (signed_text b ++ (newline_byte ∷ []))
unfolding int_image numbers
int_text b g h = let e : 255 < b = omega arith in rw (lt-leb b 255 e, lt-leb b 65535 g, h)

pub float_parts : (b : ℕ) → float_image b ≡ (0x47 ∷ []) ++ high 8 b
unfolding float_image numbers
float_parts b = refl

pub bytes-short : (t : List ℕ) → length t ≤ 255 → bytes_image t ≡ (0x55 ∷ []) ++ (low 1 (length t) ++ t)
unfolding bytes_image numbers
bytes-short t h = rw (le-leb (length t) 255 h)

pub bytes-long : (t : List ℕ) → 255 < length t → bytes_image t ≡ (0x54 ∷ []) ++ (low 4 (length t) ++ t)
unfolding bytes_image numbers
bytes-long t h = rw (lt-leb (length t) 255 h)

pub string_parts : (t : List ℕ) → string_image t ≡ (0x58 ∷ []) ++ (low 4 (length t) ++ t)
unfolding string_image numbers
string_parts t = refl

pub global_parts : (m k : List ℕ) → global_image m k ≡ (0x63 ∷ []) ++ (m ++ ((newline_byte ∷ []) ++ (k ++ (newline_byte ∷ []))))
unfolding global_image numbers
global_parts m k = refl

pub set_parts : (k : List ℕ) → set_opening k ≡ global_image builtin k ++ (0x5D ∷ [])
unfolding set_opening numbers
set_parts k = refl

-- ---- names that can be read back: no newline, and the last byte

no_newline : (s : List ℕ) → list_any (λ y. eqb y 0x0A) s ≡ has_newline s
unfolding has_newline
no_newline [] = refl
no_newline (b ∷ s) = rw (no_newline s)

eqb_comm : (a b : ℕ) → eqb a b ≡ eqb b a
eqb_comm a b = go (eqb a b) refl
  where
    go : (x : Bool) → eqb a b ≡ x → x ≡ eqb b a
    go true e = sym (eq-eqb b a (sym (eqb-true a b e)))
    go false e = sym (ne_eqb b a (λ q. eqb-false a b e (sym q)))

cr_last : (s : List ℕ) → ends_with eqb s (0x0D ∷ []) ≡ ends_cr s
unfolding ends_cr last_byte
cr_last [] = refl
cr_last (b ∷ s) =
    let h : length s < length (b ∷ s) = omega arith in
    let e : length (b ∷ s) - 1 ≡ length s = omega arith in
    let d : drop (length s) s ≡ [] = drop_of_length-le s (omega arith) in
    rw (e, drop-cons (b ∷ s) (length s) 0 h, d, eqb_comm 13, and-true)

pub name_writable : (s : List ℕ) {n c : Bool} → n ≡ list_any (λ y. eqb y 0x0A) s → c ≡ ends_with eqb s (0x0D ∷ []) → n ≡ false → not c ≡ writable s
unfolding writable
name_writable s e f z = rw (← no_newline s, ← cr_last s, ← e, ← f, z)

-- ---- the length

pub appends_few : (n : ℕ) → n ≤ 2048 → appends_take n < 4096
unfolding appends_take batches_take
appends_few n h = either_way (λ (x : ℕ). x < 4096) (ltb n 2) n ((n + 999) / 1000 * 2) (omega arith) (omega arith)

-- the records from i on are left to add

module _ (w : List ℕ) (i n sum m : ℕ) (l : sum + records_take w i (n - i) ≡ m) where
  pub sum_turn : i < n → sum + record_takes w i + records_take w (i + 1) (n - (i + 1)) ≡ m
  sum_turn h = let e : n - i - 1 ≡ n - (i + 1) = omega arith in omega (arith, l, rw e at (records_more w i (n - i) (omega arith)))

  pub sum-all : n ≤ i → sum ≡ m
  unfolding records_take
  sum-all h = let e : n - i ≡ 0 = omega arith in let z : sum + records_take w i 0 ≡ m = rw e at l in omega (arith, z)

-- ---- what the functions of the cycle make of the values

pub batch_entry : {n : ℕ} (e : Bool) → e ≡ true → n ≡ 2 → Same n (one_batch e) (followed_by joined (0x73 ∷ []))
unfolding one_batch dict_batch followed_by numbers
batch_entry {n} e p h = record { same = λ s l. rw (p, l, h) }

pub batch-entries : {n : ℕ} (e : Bool) → e ≡ true → n ≢ 2 → Same n (one_batch e) (preceded_by (0x28 ∷ []) (followed_by joined (0x75 ∷ [])))
unfolding one_batch dict_batch preceded_by followed_by numbers
batch-entries {n} e p h = record { same = λ s l. rw (p, l, ne_eqb n 2 h) }

pub batch-items : {n : ℕ} (e : Bool) → e ≡ false → Same n (one_batch e) (preceded_by (0x28 ∷ []) (followed_by joined (0x65 ∷ [])))
unfolding one_batch list_batch preceded_by followed_by numbers
batch-items {n} e p = record { same = λ s l. rw p }

pub appends_one : {n : ℕ} → n ≡ 1 → Same n items_image (followed_by joined (0x61 ∷ []))
unfolding items_image followed_by numbers
appends_one {n} h = record { same = same }
  where
    same : (s : List (List ℕ)) → length s ≡ n → items_image s ≡ joined s ++ (0x61 ∷ [])
    same [] l = absurd (omega arith)
    same (x ∷ []) l = refl
    same (x ∷ y ∷ s) l = absurd (omega arith)

pub appends-many : {n : ℕ} → n ≢ 1 → Same n items_image (batches false)
unfolding items_image batches batches_up_to
appends-many {n} h = record { same = same }
  where
    same : (s : List (List ℕ)) → length s ≡ n → items_image s ≡ batches false s
    same [] l = refl
    same (x ∷ []) l = absurd (h (sym l))
    same (x ∷ y ∷ s) l = refl

pub tuple_parts : (n b : ℕ) → b ≡ code_of (tuple_opcode n) → Same n tuple_image (preceded_by (tuple_mark n) (followed_by joined (b ∷ [])))
unfolding tuple_image preceded_by followed_by
tuple_parts n b h = record { same = λ s l. rw (l, h) }

pub object_cuts : (new : Bool) (b m : ℕ) → b ≡ code_of (object_opcode new) → Cuts 1 (suc m) m (object_image new) joined (preceded_by (b ∷ []) state_image)
unfolding object_image joined preceded_by
object_cuts new b m q = record { sum = omega arith; cuts = cuts }
  where
    cuts : (s : List (List ℕ)) → length s ≡ suc m → object_image new s ≡ joined (take 1 s) ++ preceded_by (b ∷ []) state_image (drop 1 s)
    cuts [] l = absurd (omega arith)
    cuts (x ∷ s) l = rw q

pub built_one : Same 1 state_image (followed_by joined (0x62 ∷ []))
unfolding state_image followed_by numbers
built_one = record { same = same }
  where
    same : (s : List (List ℕ)) → length s ≡ 1 → state_image s ≡ joined s ++ (0x62 ∷ [])
    same [] l = absurd (omega arith)
    same (x ∷ s) l = refl

pub built-none : state_image [] ≡ []
unfolding state_image
built-none = refl

pub bit_one : (s : Bool) → s ≡ true → bit s ≡ 1
bit_one s e = rw e

pub bit_none : (s : Bool) → s ≡ false → bit s ≤ 0
bit_none s e = rw e (omega arith)

pub framed_parts : {n : ℕ} → Same n framed (preceded_by (0x80 ∷ []) (preceded_by (2 ∷ []) (followed_by joined (0x2E ∷ []))))
unfolding framed preceded_by followed_by numbers
framed_parts = record { same = λ s l. refl }
