-- A line read back: its label and the number of values directly in it. So two values that are listed alike are one value.
use Rattle.std.specs.Prelude.{ℕ, suc, zero, ◌+◌, ◌-◌, ◌*◌, ◌^◌, ◌/◌, ◌%◌, ◌≤◌, ◌<◌, Bool, true, false, cond, ◌&&◌, ◌≡◌, T, eqb, leb, ltb, length, get_or, drop}
use mathlib.Core.List.{List, [], ◌∷◌, ◌++◌, append_assoc, append_cancel_left}
use Rattle.std.proofs.Math.Path.{refl, sym, ap, ap₂}
use Rattle.std.proofs.Common.{◌∙◌, pow-suc, arith, ltb→lt}
use Rattle.std.proofs.Math.Dec.{eqb→eq}
use borrow.Author.Tests.{ltb-true, ltb-false, leb-true, eqb-true, lt-ltb, le-ltb, le-leb, ne_eqb}
use Rattle.utf8.specs.Rows.{and_left, and_right}
use Rattle.input.specs.Bytes.{Bytes}
use Rattle.number.specs.Space.{same}
use Rattle.number.specs.Number.{digits, decimal}
use Rattle.value.specs.Value.{Label, half, kind, text_of, words, NoneL, BoolL, I64L, F64L, BytesL, StringL, ListL, TupleL, SetL, FrozenSetL, DictL, GlobalL, ObjectL}
use Rattle.value.specs.Shape.{Words, fitting, and_l, and_r}
use Rattle.output.specs.Decimal.{figure, figures, no_zeros, decimal_text, signed_text, either_way, decimal_back, decimal-digits, decimal-some, digit-first}
use Rattle.output.specs.Put.{newline_byte}
use Rattle.list.specs.Listing.{printable, listed_byte, listed_text, tab_byte, names, kind_name, flag, listed_names, content_of, record_line}

-- numbers below a bound, and the parts of a list of them
module _ (b : ℕ) where
  abbrev Under : List ℕ → Type 0
  Under l = (i : ℕ) → get_or l i 0 < b

  under_left : 0 < b → (s t : List ℕ) → Under (s ++ t) → Under s
  under_left p [] t h i = p
  under_left p (x ∷ s) t h zero = h 0
  under_left p (x ∷ s) t h (suc i) = under_left p s t (λ j. h (suc j)) i

  under_right : (s t : List ℕ) → Under (s ++ t) → Under t
  under_right [] t h = h
  under_right (x ∷ s) t h = under_right s t (λ j. h (suc j))

pub words_left : (s t : List ℕ) → Words (s ++ t) → Words s
words_left s t = under_left (2 ^ 64) (omega arith) s t

pub words_right : (s t : List ℕ) → Words (s ++ t) → Words t
words_right s t = under_right (2 ^ 64) s t

pub bytes_left : (s t : List ℕ) → Bytes (s ++ t) → Bytes s
bytes_left s t = under_left 256 (omega arith) s t

pub bytes_right : (s t : List ℕ) → Bytes (s ++ t) → Bytes t
bytes_right s t = under_right 256 s t

-- ---- fields: no byte in one is below 20 hex, and the byte behind one is

unfoldable pub visible : List ℕ → Bool
visible [] = true
visible (b ∷ s) = leb 0x20 b && visible s

-- what stands before the first byte below 20 hex, and what stands behind that byte
unfoldable pub field : List ℕ → List ℕ
field [] = []
field (b ∷ s) = cond (ltb b 0x20) [] (b ∷ field s)

unfoldable pub behind : List ℕ → List ℕ
behind [] = []
behind (b ∷ s) = cond (ltb b 0x20) s (behind s)

visible-first : (b : ℕ) (s : List ℕ) → visible (b ∷ s) ≡ true → 0x20 ≤ b
unfolding visible
visible-first b s e = leb-true 0x20 b (and_left (leb 0x20 b) (visible s) e)

visible-rest : (b : ℕ) (s : List ℕ) → visible (b ∷ s) ≡ true → visible s ≡ true
unfolding visible
visible-rest b s e = and_right (leb 0x20 b) (visible s) e

visible_more : (b : ℕ) (s : List ℕ) → 0x20 ≤ b → visible s ≡ true → visible (b ∷ s) ≡ true
unfolding visible
visible_more b s h e = rw (le-leb 0x20 b h, e)

visible-append : (s t : List ℕ) → visible s ≡ true → visible t ≡ true → visible (s ++ t) ≡ true
visible-append [] t e f = f
visible-append (b ∷ s) t e f = visible_more b (s ++ t) (visible-first b s e) (visible-append s t (visible-rest b s e) f)

module _ (b : ℕ) (low : b < 0x20) (x : List ℕ) where
  field_back : (s : List ℕ) → visible s ≡ true → field (s ++ (b ∷ x)) ≡ s
  unfolding field
  field_back [] e = rw (lt-ltb b 0x20 low)
  field_back (c ∷ s) e = rw (le-ltb c 0x20 (visible-first c s e), field_back s (visible-rest c s e))

  behind_back : (s : List ℕ) → visible s ≡ true → behind (s ++ (b ∷ x)) ≡ x
  unfolding behind
  behind_back [] e = rw (lt-ltb b 0x20 low)
  behind_back (c ∷ s) e = rw (le-ltb c 0x20 (visible-first c s e)) (behind_back s (visible-rest c s e))

-- ---- digits

figure-visible : (d : ℕ) → 0x20 ≤ figure d
unfolding figure
figure-visible d = either_way (λ (c : ℕ). 0x20 ≤ c) (ltb d 10) (0x30 + d) (0x57 + d) (omega arith) (omega arith)

figures-visible : (base k n : ℕ) → visible (figures base k n) ≡ true
unfolding figures visible
figures-visible base zero n = refl
figures-visible base (suc k) n =
    visible-append (figures base k (n / base)) _ (figures-visible base k (n / base)) (visible_more (figure (n % base)) [] (figure-visible (n % base)) refl)

zeros_visible : (s : List ℕ) → visible s ≡ true → visible (no_zeros s) ≡ true
unfolding no_zeros
zeros_visible [] e = e
zeros_visible (b ∷ []) e = e
zeros_visible (b ∷ c ∷ s) e =
    either_way (λ (u : List ℕ). visible u ≡ true) (eqb b 0x30) (no_zeros (c ∷ s)) (b ∷ c ∷ s) (zeros_visible (c ∷ s) (visible-rest b (c ∷ s) e)) e

decimal-visible : (n : ℕ) → visible (decimal_text n) ≡ true
unfolding decimal_text
decimal-visible n = zeros_visible (figures 10 20 n) (figures-visible 10 20 n)

signed-visible : (b : ℕ) → visible (signed_text b) ≡ true
unfolding signed_text
signed-visible b =
    let n = 2 ^ 64 - b in
    either_way (λ (u : List ℕ). visible u ≡ true) (ltb b (2 ^ 63)) (decimal_text b) (0x2D ∷ decimal_text n) (decimal-visible b)
    (visible_more 0x2D (decimal_text n) (omega arith) (decimal-visible n))

-- the value of a hex digit, and of hex digits behind a number
unfoldable worth : ℕ → ℕ
worth c = cond (ltb c 0x3A) (c - 0x30) (c - 0x57)

unfoldable hex : ℕ → List ℕ → ℕ
hex a [] = a
hex a (c ∷ s) = hex (16 * a + worth c) s

worth_back : (d : ℕ) → worth (figure d) ≡ d
unfolding worth figure
worth_back d = go (ltb d 10) refl
  where
    go : (t : Bool) → ltb d 10 ≡ t → cond (ltb (cond t (0x30 + d) (0x57 + d)) 0x3A) (cond t (0x30 + d) (0x57 + d) - 0x30) (cond t (0x30 + d) (0x57 + d) - 0x57) ≡ d
    go true e = let l = ltb-true d 10 e in rw (lt-ltb (0x30 + d) 0x3A (omega arith)) (omega arith)
    go false e = let l = ltb-false d 10 e in rw (le-ltb (0x57 + d) 0x3A (omega arith)) (omega arith)

hex_last : (a c : ℕ) (s : List ℕ) → hex a (s ++ (c ∷ [])) ≡ 16 * hex a s + worth c
unfolding hex
hex_last a c [] = refl
hex_last a c (b ∷ s) = hex_last (16 * a + worth b) c s

hex_back : (k n : ℕ) → n < 16 ^ k → hex 0 (figures 16 k n) ≡ n
unfolding hex figures
hex_back zero n h = omega arith
hex_back (suc k) n h =
    rw (hex_last 0 (figure (n % 16)) (figures 16 k (n / 16)), hex_back k (n / 16) (omega (arith, pow-suc 16 k)), worth_back (n % 16)) (omega arith)

-- the 64 bits of an i64's decimal text
unfoldable bits_in : List ℕ → ℕ
bits_in s = cond (eqb (get_or s 0 0) 0x2D) (2 ^ 64 - decimal (drop 1 s)) (decimal s)

digits_no_sign : (s : List ℕ) → 0 < length s → digits s ≡ true → eqb (get_or s 0 0) 0x2D ≡ false
digits_no_sign [] h e = absurd (omega arith)
digits_no_sign (b ∷ s) h e = let l = digit-first b s e in ne_eqb b 0x2D (λ q. omega arith)

bits_back : (b : ℕ) → b < 2 ^ 64 → bits_in (signed_text b) ≡ b
unfolding bits_in signed_text
bits_back b h = go (ltb b (2 ^ 63)) refl
  where
    go : (t : Bool) → ltb b (2 ^ 63) ≡ t → bits_in (cond t (decimal_text b) (0x2D ∷ decimal_text (2 ^ 64 - b))) ≡ b
    go true e = rw (digits_no_sign (decimal_text b) (decimal-some b) (decimal-digits b (omega arith))) (decimal_back b (omega arith))
    go false e = let l = ltb-false b (2 ^ 63) e in rw (decimal_back (2 ^ 64 - b) (omega arith)) (omega arith)

-- ---- a text

-- what was read last of a byte that has more than one: nothing, a backslash, `\x`, the first digit
data SeenOfByte : Type 0 where
  nothing slash hexed : SeenOfByte
  digit : ℕ → SeenOfByte

unfoldable unlisted : List ℕ → SeenOfByte → List ℕ
unlisted [] p = []
unlisted (b ∷ s) nothing = cond (eqb b 0x5C) (unlisted s slash) (b ∷ unlisted s nothing)
unlisted (b ∷ s) slash = cond (eqb b 0x5C) (b ∷ unlisted s nothing) (unlisted s hexed)
unlisted (b ∷ s) hexed = unlisted s (digit b)
unlisted (b ∷ s) (digit h) = hex 0 (h ∷ b ∷ []) ∷ unlisted s nothing

abbrev text_of_field : List ℕ → List ℕ
text_of_field s = unlisted s nothing

byte-visible : (b : ℕ) → visible (listed_byte b) ≡ true
unfolding listed_byte visible printable
byte-visible b = go (eqb b 0x5C) (printable b) refl
  where
    go : (t u : Bool) → printable b ≡ u → visible (cond t (0x5C ∷ 0x5C ∷ []) (cond u (b ∷ []) (0x5C ∷ 0x78 ∷ figures 16 2 b))) ≡ true
    go true u e = refl
    go false true e = visible_more b [] (leb-true 0x20 b (and_left (leb 0x20 b) (leb b 0x7E) e)) refl
    go false false e = figures-visible 16 2 b

text-visible : (s : List ℕ) → visible (listed_text s) ≡ true
unfolding listed_text visible
text-visible [] = refl
text-visible (b ∷ s) = visible-append (listed_byte b) (listed_text s) (byte-visible b) (text-visible s)

byte_back : (b : ℕ) (s : List ℕ) → b < 256 → unlisted (listed_byte b ++ s) nothing ≡ b ∷ unlisted s nothing
unfolding listed_byte unlisted figures
byte_back b s h = go (eqb b 0x5C) (printable b) refl
  where
    go : (t u : Bool) → eqb b 0x5C ≡ t → unlisted (cond t (0x5C ∷ 0x5C ∷ []) (cond u (b ∷ []) (0x5C ∷ 0x78 ∷ figures 16 2 b)) ++ s) nothing ≡ b ∷ unlisted s nothing
    go true u e = rw (eqb-true b 0x5C e)
    go false true e = rw e
    go false false e = ap (λ (c : ℕ). c ∷ unlisted s nothing) (hex_back 2 b (omega arith))

text_back : (s : List ℕ) → Bytes s → unlisted (listed_text s) nothing ≡ s
unfolding listed_text unlisted
text_back [] B = refl
text_back (b ∷ s) B = byte_back b (listed_text s) (B 0) ∙ ap (λ (u : List ℕ). b ∷ u) (text_back s (λ i. B (suc i)))

-- ---- a line

-- the place of a name among names
unfoldable place_of : List (List ℕ) → List ℕ → ℕ
place_of [] s = 0
place_of (a ∷ l) s = cond (same a s) 0 (suc (place_of l s))

name_back : (l : Label) → (visible (kind_name (kind l)) ≡ true) × (place_of names (kind_name (kind l)) ≡ kind l)
unfolding visible place_of same names kind_name
name_back NoneL = (refl, refl)
name_back (BoolL b) = (refl, refl)
name_back (I64L i) = (refl, refl)
name_back (F64L i) = (refl, refl)
name_back (BytesL t) = (refl, refl)
name_back (StringL t) = (refl, refl)
name_back ListL = (refl, refl)
name_back TupleL = (refl, refl)
name_back SetL = (refl, refl)
name_back FrozenSetL = (refl, refl)
name_back DictL = (refl, refl)
name_back (GlobalL m k) = (refl, refl)
name_back (ObjectL m k b) = (refl, refl)

-- by its kind, the label that a content's first three fields say
abbrev labels_in : List ℕ → List ℕ → List ℕ → List Label
labels_in f g h =
    NoneL ∷ BoolL (eqb (get_or f 0 0) 0x31) ∷ I64L (bits_in f) ∷ F64L (hex 0 f) ∷ BytesL (text_of_field f) ∷ StringL (text_of_field f) ∷ ListL ∷ TupleL ∷ SetL ∷ FrozenSetL ∷ DictL ∷ GlobalL (text_of_field f) (text_of_field g) ∷ ObjectL (text_of_field f) (text_of_field g) (eqb (get_or h 0 0) 0x31) ∷ []

unfoldable label_of_line : ℕ → List ℕ → Label
label_of_line k s = get_or (labels_in (field s) (field (behind s)) (field (behind (behind s)))) k NoneL

-- by its kind, the number of values that a content's first field says, or an Object's fourth
abbrev arities_in : List ℕ → List ℕ → List ℕ
arities_in f h = 0 ∷ 0 ∷ 0 ∷ 0 ∷ 0 ∷ 0 ∷ decimal f ∷ decimal f ∷ decimal f ∷ decimal f ∷ (decimal f + decimal f) ∷ 0 ∷ suc (get_or h 0 0 - 0x30) ∷ []

unfoldable arity_in : ℕ → List ℕ → ℕ
arity_in k s = get_or (arities_in (field s) (field (behind (behind (behind s))))) k 0

flag_back : (b : Bool) (s : List ℕ) → eqb (get_or (field (flag b ∷ tab_byte ∷ s)) 0 0) 0x31 ≡ b
unfolding field flag
flag_back true s = refl
flag_back false s = refl

flag-behind : (b : Bool) (s : List ℕ) → behind (flag b ∷ tab_byte ∷ s) ≡ s
unfolding behind flag
flag-behind true s = refl
flag-behind false s = refl

-- the fields of a name, with s behind it
module _ (m k s : List ℕ) where
  names_apart : listed_names m k ++ s ≡ listed_text m ++ (tab_byte ∷ (listed_text k ++ s))
  unfolding listed_names
  names_apart = append_assoc (listed_text m) (tab_byte ∷ listed_text k) s

  module_field : field (listed_names m k ++ s) ≡ listed_text m
  module_field = ap field names_apart ∙ field_back tab_byte (omega arith) _ (listed_text m) (text-visible m)

  module_behind : behind (listed_names m k ++ s) ≡ listed_text k ++ s
  module_behind = ap behind names_apart ∙ behind_back tab_byte (omega arith) _ (listed_text m) (text-visible m)

bool_back : (b : Bool) (s : List ℕ) → eqb (get_or (field (flag b ∷ newline_byte ∷ s)) 0 0) 0x31 ≡ b
unfolding field flag
bool_back true s = refl
bool_back false s = refl

-- an Object has one or two values in it
object-half : (n : ℕ) → 0 < n → n < 3 → (half n ≤ 1) × (suc (half n) ≡ n)
object-half zero g h = absurd (omega arith)
object-half (suc zero) g h = (omega arith, refl)
object-half (suc (suc zero)) g h = (omega arith, refl)
object-half (suc (suc (suc n))) g h = absurd (omega arith)

-- a content of n values, with a line's end and x behind it
module _ (n : ℕ) (x : List ℕ) where
  abbrev end : List ℕ
  end = newline_byte ∷ x

  only-field : (s : List ℕ) → visible s ≡ true → field (s ++ end) ≡ s
  only-field = field_back newline_byte (omega arith) x

  -- an Object's fields
  module _ (m k : List ℕ) (b : Bool) where
    abbrev content : List ℕ
    content = content_of (ObjectL m k b) n ++ end

    abbrev flags : List ℕ
    flags = flag b ∷ tab_byte ∷ (0x30 + half n) ∷ end

    object-apart : content ≡ listed_names m k ++ (tab_byte ∷ flags)
    unfolding content_of
    object-apart = append_assoc (listed_names m k) (tab_byte ∷ flag b ∷ tab_byte ∷ (0x30 + half n) ∷ []) end

    object_module : field content ≡ listed_text m
    object_module = ap field object-apart ∙ module_field m k (tab_byte ∷ flags)

    object-behind : behind content ≡ listed_text k ++ (tab_byte ∷ flags)
    object-behind = ap behind object-apart ∙ module_behind m k (tab_byte ∷ flags)

    object-name : field (behind content) ≡ listed_text k
    object-name = ap field object-behind ∙ field_back tab_byte (omega arith) flags (listed_text k) (text-visible k)

    object-flags : behind (behind content) ≡ flags
    object-flags = ap behind object-behind ∙ behind_back tab_byte (omega arith) flags (listed_text k) (text-visible k)

    object_new : eqb (get_or (field (behind (behind content))) 0 0) 0x31 ≡ b
    object_new = rw object-flags (flag_back b _)

    object_state : half n ≤ 1 → get_or (field (behind (behind (behind content)))) 0 0 ≡ 0x30 + half n
    unfolding field
    object_state h = rw (object-flags, flag-behind b, le-ltb (0x30 + half n) 0x20 (omega arith))

  label_back : (l : Label) (p z : ℕ) → Words (words l p n z) → Bytes (text_of l) → label_of_line (kind l) (content_of l n ++ end) ≡ l
  unfolding label_of_line content_of
  label_back NoneL p z W B = refl
  label_back (BoolL b) p z W B = ap BoolL (bool_back b x)
  label_back (I64L i) p z W B = ap I64L (ap bits_in (only-field (signed_text i) (signed-visible i)) ∙ bits_back i (W 0))
  label_back (F64L i) p z W B = ap F64L (ap (hex 0) (only-field (figures 16 16 i) (figures-visible 16 16 i)) ∙ hex_back 16 i (W 0))
  label_back (BytesL t) p z W B = ap BytesL (ap text_of_field (only-field (listed_text t) (text-visible t)) ∙ text_back t B)
  label_back (StringL t) p z W B = ap StringL (ap text_of_field (only-field (listed_text t) (text-visible t)) ∙ text_back t B)
  label_back ListL p z W B = refl
  label_back TupleL p z W B = refl
  label_back SetL p z W B = refl
  label_back FrozenSetL p z W B = refl
  label_back DictL p z W B = refl
  label_back (GlobalL m k) p z W B =
      let e₁ = ap text_of_field (module_field m k end) ∙ text_back m (bytes_left m k B) in
      let e₂ = ap (λ (s : List ℕ). text_of_field (field s)) (module_behind m k end) ∙ ap text_of_field (only-field (listed_text k) (text-visible k)) ∙ text_back k (bytes_right m k B) in
      ap₂ GlobalL e₁ e₂
  label_back (ObjectL m k b) p z W B =
      let e₁ = ap text_of_field (object_module m k b) ∙ text_back m (bytes_left m k B) in
      let e₂ = ap text_of_field (object-name m k b) ∙ text_back k (bytes_right m k B) in
      cc (e₁, e₂, object_new m k b)

  count_back : n < 10 ^ 20 → decimal (field (decimal_text n ++ end)) ≡ n
  count_back h = ap decimal (only-field (decimal_text n) (decimal-visible n)) ∙ decimal_back n h

  arity_back : (l : Label) → T (fitting l n) → n < 10 ^ 20 → arity_in (kind l) (content_of l n ++ end) ≡ n
  unfolding arity_in content_of
  arity_back NoneL f h = sym (eqb→eq n 0 f)
  arity_back (BoolL b) f h = sym (eqb→eq n 0 f)
  arity_back (I64L i) f h = sym (eqb→eq n 0 f)
  arity_back (F64L i) f h = sym (eqb→eq n 0 f)
  arity_back (BytesL t) f h = sym (eqb→eq n 0 f)
  arity_back (StringL t) f h = sym (eqb→eq n 0 f)
  arity_back ListL f h = count_back h
  arity_back TupleL f h = count_back h
  arity_back SetL f h = count_back h
  arity_back FrozenSetL f h = count_back h
  arity_back DictL f h =
      let d = eqb→eq n (half n + half n) f in
      let e = ap decimal (only-field (decimal_text (half n)) (decimal-visible (half n))) ∙ decimal_back (half n) (omega arith) in
      omega (arith, e, d)
  arity_back (GlobalL m k) f h = sym (eqb→eq n 0 (and_l (eqb n 0) (ltb (length k) (2 ^ 32)) f))
  arity_back (ObjectL m k b) f h =
      let few = object-half n (ltb→lt 0 n (and_l (ltb 0 n) _ f)) (ltb→lt n 3 (and_l (ltb n 3) _ (and_r (ltb 0 n) _ f))) in
      omega (arith, object_state m k b few.0, few.1)

-- a line with x behind it
module _ (d : ℕ) (l : Label) (n : ℕ) (x : List ℕ) where
  line-apart : record_line d l n ++ x ≡ decimal_text d ++ (tab_byte ∷ (kind_name (kind l) ++ (tab_byte ∷ (content_of l n ++ (newline_byte ∷ x)))))
  unfolding record_line
  line-apart = simp append_assoc

  line-behind : behind (record_line d l n ++ x) ≡ kind_name (kind l) ++ (tab_byte ∷ (content_of l n ++ (newline_byte ∷ x)))
  line-behind = ap behind line-apart ∙ behind_back tab_byte (omega arith) _ (decimal_text d) (decimal-visible d)

  line-kind : place_of names (field (behind (record_line d l n ++ x))) ≡ kind l
  line-kind = ap (λ (s : List ℕ). place_of names (field s)) line-behind ∙ ap (place_of names) (field_back tab_byte (omega arith) _ (kind_name (kind l)) (name_back l).0) ∙ (name_back l).1

  line-content : behind (behind (record_line d l n ++ x)) ≡ content_of l n ++ (newline_byte ∷ x)
  line-content = ap behind line-behind ∙ behind_back tab_byte (omega arith) _ (kind_name (kind l)) (name_back l).0

-- a line's label and the number of values directly in it
unfoldable line_label : List ℕ → Label
line_label s = label_of_line (place_of names (field (behind s))) (behind (behind s))

unfoldable line_arity : List ℕ → ℕ
line_arity s = arity_in (place_of names (field (behind s))) (behind (behind s))

-- what a record that is of words and bytes asks for, to be read back from its line
pub record LineReadable (l : Label) (n : ℕ) : Type 0 where
  pub place : ℕ
  pub records : ℕ
  pub words : Words (words l place n records)
  pub bytes : Bytes (text_of l)
  pub fits : T (fitting l n)
  pub few : n < 10 ^ 20

line-label : (d : ℕ) (l : Label) (n : ℕ) (x : List ℕ) → LineReadable l n → line_label (record_line d l n ++ x) ≡ l
unfolding line_label
line-label d l n x r = rw (line-kind d l n x, line-content d l n x) (label_back n x l r.place r.records r.words r.bytes)

line_arity_lem : (d : ℕ) (l : Label) (n : ℕ) (x : List ℕ) → LineReadable l n → line_arity (record_line d l n ++ x) ≡ n
unfolding line_arity
line_arity_lem d l n x r = rw (line-kind d l n x, line-content d l n x) (arity_back n x l r.fits r.few)

-- two lines that begin alike are one
pub line_one : (d : ℕ) (l m : Label) (n k : ℕ) (x y : List ℕ) → LineReadable l n → LineReadable m k → record_line d l n ++ x ≡ record_line d m k ++ y → (l ≡ m) × (n ≡ k) × (x ≡ y)
line_one d l m n k x y r s e =
    let e₁ : l ≡ m = sym (line-label d l n x r) ∙ ap line_label e ∙ line-label d m k y s in
    let e₂ : n ≡ k = sym (line_arity_lem d l n x r) ∙ ap line_arity e ∙ line_arity_lem d m k y s in
    let same_line : record_line d m k ++ x ≡ record_line d m k ++ y = rw (← e₁, ← e₂) (e ∙ rw (e₁, e₂)) in
    (e₁, e₂, append_cancel_left (record_line d m k) x y same_line)
