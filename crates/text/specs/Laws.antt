-- Laws of texts that callers use: how long a value can be, and that its bytes are bytes. Assumes nothing.
use Prim.Native.Nat.{ℕ, zero, suc, ◌+◌, ◌-◌, ◌*◌, ◌/◌, ◌^◌, ◌≤◌, ◌<◌}
use Rattle.std.specs.Prelude.{Bool, true, false, cond, ◌&&◌, ◌||◌, ◌≡◌, leb, ltb, eqb, get_or, take, Option, None, Some}
use mathlib.Core.List.{List, [], ◌∷◌, ◌++◌}
use Rattle.std.proofs.Math.Path.{refl, ap}
use Rattle.std.proofs.Common.{sym, ◌∙◌, subst, pow-suc, mul-add, mod-lt, le_trans, lit<, lit≤, length-append, length-take, length-drop, drop_of_length-le, length-take-le, leb-true, ltb-true, lt-ltb}
use Rattle.std.proofs.Math.Nat.{pow-le-pow_right}
use native.Mathlib.Omega.{arith}
use Rattle.std.proofs.Math.Arith.{digits_lt}
use Rattle.std.proofs.Math.ListN.{length, drop}
use Rattle.std.proofs.Math.Seq.{drop-cons, drop-drop}
use Rattle.refusal.specs.Read.{Read, got, refused}
use Rattle.refusal.specs.declared.Refusal.TheVariants.{InvalidLiteral}
use Rattle.text.specs.declared.TextPiece.{TextPiece}
use Rattle.input.specs.Bytes.{Bytes}
use Rattle.utf8.specs.Utf8.{scalar, trail, encode, valid, evaluates}
use Rattle.utf8.specs.Laws.{valid-append}
use Rattle.utf8.specs.Encode.{by_lt, encode_one, encode_two, encode-three, encode-four, scalar_low, scalar-high, valid-encode}
use Rattle.text.specs.Pieces.{bytes_before, piece_then, texts, is_read, bytes_of}
use Rattle.text.specs.Escapes.{one, from_to, hex_digit, hex_from, hex_digits, hex_number, hex_piece, hex_escape, octal_digit, octals, octal_escape}
use Rattle.text.specs.Escapes.{letters, look, string_escape, string_head, scalar_of, scalar_piece, unicode_escape, unicode_head}
use Rattle.text.specs.Text.{inner, byte_itself, has_quotes, has_escape, unescape_string, unescape_unicode}

bytes_nil : Bytes []
bytes_nil i = lit< tt

bytes_cons : (x : ℕ) (l : List ℕ) → x < 256 → Bytes l → Bytes (x ∷ l)
bytes_cons x l h k zero = h
bytes_cons x l h k (suc i) = k i

-- both sides of a test
by_cond : {A : Type 0} (P : A → Type 0) (t : Bool) {x y : A} → (t ≡ true → P x) → (t ≡ false → P y) → P (cond t x y)
by_cond P true f g = f refl
by_cond P false f g = g refl

-- what holds of the value and the width of a piece that is not refused
unfoldable pub Each : (ℕ → ℕ → Type 0) → Option TextPiece → Type 0
Each Q (Some p) = Q p.value p.more
Each Q None = Unit {0}

each : {Q R : ℕ → ℕ → Type 0} (p : Option TextPiece) → ((v w : ℕ) → Q v w → R v w) → Each Q p → Each R p
unfolding Each
each (Some p) f h = f p.value p.more h
each None f h = tt

-- ---- reading on, piece by piece

module _ (head : List ℕ → Option TextPiece) (form : ℕ → List ℕ) where
  skip : (n at : ℕ) (s : List ℕ) → texts head form n at s ≡ texts head form 0 (n + at) (drop n s)
  unfolding texts
  skip zero at [] = refl
  skip (suc n) at [] = refl
  skip zero at (b ∷ s) = ap (λ (k : ℕ). texts head form 0 k (b ∷ s)) (omega arith)
  skip (suc n) at (b ∷ s) =
      let e : n + suc at ≡ suc n + at = omega arith in
      skip n (suc at) s ∙ ap (λ (k : ℕ). texts head form 0 k (drop n s)) e

  module _ (s : List ℕ) (i at : ℕ) where
    pub texts_end : length s ≤ i → texts head form 0 at (drop i s) ≡ got []
    unfolding texts
    texts_end h = simp (drop_of_length-le s h)

    pub texts_bad : i < length s → head (drop i s) ≡ None → texts head form 0 at (drop i s) ≡ refused InvalidLiteral at
    unfolding texts piece_then
    texts_bad h e =
        let d = drop-cons s i 0 h in
        let f : head (get_or s i 0 ∷ drop (suc i) s) ≡ None = rw d at e in
        rw (d, f)

    pub texts-piece : (v w : ℕ) → i < length s → head (drop i s) ≡ one v w
        → texts head form 0 at (drop i s) ≡ bytes_before (form v) (texts head form 0 (at + (w + 1)) (drop (i + (w + 1)) s))
    unfolding texts piece_then
    texts-piece v w h e =
        let d = drop-cons s i 0 h in
        let f : head (get_or s i 0 ∷ drop (suc i) s) ≡ one v w = rw d at e in
        let a : w + suc at ≡ at + (w + 1) = omega arith in
        let b : suc i + w ≡ i + (w + 1) = omega arith in
        rw (d, f) (ap (bytes_before (form v)) (skip w (suc at) (drop (suc i) s) ∙ rw (a, drop-drop w (suc i) s, b)))

-- ---- sizes, for any kind of text

before-length : (l : List ℕ) (r : Read (List ℕ)) → length (bytes_of (bytes_before l r)) ≤ length l + length (bytes_of r)
unfolding bytes_before bytes_of
before-length l (got v) = omega (arith, length-append l v)
before-length l (refused why at) = omega arith

before-all : (R : List ℕ → Type 0) → R [] → ((a b : List ℕ) → R a → R b → R (a ++ b)) → (l : List ℕ) (r : Read (List ℕ))
    → R l → R (bytes_of r) → R (bytes_of (bytes_before l r))
unfolding bytes_before bytes_of
before-all R z f l (got v) h k = f l v h k
before-all R z f l (refused why at) h k = z

-- `P` is what is known of the bytes that are left
module _ (head : List ℕ → Option TextPiece) (form : ℕ → List ℕ) (P : List ℕ → Type 0) (tail : (b : ℕ) (s : List ℕ) → P (b ∷ s) → P s) where
  -- a piece of n bytes is written as k * n bytes at most: so is the whole
  texts-length : (k : ℕ) → ((s : List ℕ) → P s → Each (λ v w. (w < length s) × (length (form v) ≤ k * suc w)) (head s))
      → (n at : ℕ) (s : List ℕ) → P s → length (bytes_of (texts head form n at s)) ≤ k * (length s - n)
  unfolding texts piece_then bytes_of Each
  texts-length k f n at [] p = omega arith
  texts-length k f (suc n) at (b ∷ s) p =
      let e : suc (length s) - suc n ≡ length s - n = omega arith in
      rw e (texts-length k f n (suc at) s (tail b s p))
  texts-length k f zero at (b ∷ s) p = go (head (b ∷ s)) (f (b ∷ s) p) (λ w. texts-length k f w (suc at) s (tail b s p))
    where
      go : (q : Option TextPiece) → Each (λ v w. (w < suc (length s)) × (length (form v) ≤ k * suc w)) q
          → ((w : ℕ) → length (bytes_of (texts head form w (suc at) s)) ≤ k * (length s - w))
          → length (bytes_of (piece_then form q at (λ w. texts head form w (suc at) s))) ≤ k * (suc (length s) - 0)
      go (Some p) h r =
          let w = p.more in
          let e : suc w + (length s - w) ≡ suc (length s) - 0 = omega (arith, h.0) in
          let m : k * (suc (length s) - 0) ≡ k * suc w + k * (length s - w) = rw (← e) (mul-add k (suc w) (length s - w)) in
          omega (arith, before-length (form p.value) (texts head form w (suc at) s), h.1, r w)
      go None h r = omega arith

  -- what holds of each piece as it is written, and of lists one after the other, holds of the whole
  texts-all : (R : List ℕ → Type 0) → R [] → ((a b : List ℕ) → R a → R b → R (a ++ b))
      → ((s : List ℕ) → P s → Each (λ v w. R (form v)) (head s)) → (n at : ℕ) (s : List ℕ) → P s → R (bytes_of (texts head form n at s))
  unfolding texts piece_then bytes_of Each
  texts-all R z j f n at [] p = z
  texts-all R z j f (suc n) at (b ∷ s) p = texts-all R z j f n (suc at) s (tail b s p)
  texts-all R z j f zero at (b ∷ s) p = go (head (b ∷ s)) (f (b ∷ s) p) (λ w. texts-all R z j f w (suc at) s (tail b s p))
    where
      go : (q : Option TextPiece) → Each (λ v w. R (form v)) q → ((w : ℕ) → R (bytes_of (texts head form w (suc at) s)))
          → R (bytes_of (piece_then form q at (λ w. texts head form w (suc at) s)))
      go (Some p) h r = before-all R z j (form p.value) (texts head form p.more (suc at) s) h (r p.more)
      go None h r = z

-- ---- the escapes

-- n more digits
hex_below : (v n : ℕ) (s : List ℕ) (r : ℕ) → v < 16 ^ n → hex_from v s ≡ Some r → r < 16 ^ (n + length s)
unfolding hex_from
hex_below v n [] r h e =
    let a : v ≡ r = cc in
    let b : n + 0 ≡ n = omega arith in
    rw (b, ← a) h
hex_below v n (c ∷ s) r h e = go (ltb (hex_digit c) 16) refl e (hex_below (v * 16 + hex_digit c) (suc n) s r)
  where
    go : (t : Bool) → ltb (hex_digit c) 16 ≡ t → cond t (hex_from (v * 16 + hex_digit c) s) None ≡ Some r
        → (v * 16 + hex_digit c < 16 ^ suc n → hex_from (v * 16 + hex_digit c) s ≡ Some r → r < 16 ^ (suc n + length s))
        → r < 16 ^ (n + suc (length s))
    go true d e f =
        let m : n + suc (length s) ≡ suc n + length s = omega arith in
        rw m (f (rw pow-suc (digits_lt h (ltb-true _ _ d))) e)
    go false d e f = let z : ◌≡◌ {A = ℕ} 0 1 = cc in absurd (omega arith)

hex_digits-below : (s : List ℕ) (r : ℕ) → hex_digits s ≡ Some r → r < 16 ^ length s
unfolding hex_digits
hex_digits-below [] r e = let z : ◌≡◌ {A = ℕ} 0 1 = cc in absurd (omega arith)
hex_digits-below (c ∷ s) r e =
    let m : 0 + suc (length s) ≡ suc (length s) = omega arith in
    rw m at (hex_below 0 0 (c ∷ s) r (lit< tt) e)

pub hex_number-below : (s : List ℕ) (r : ℕ) → hex_number s ≡ Some r → r < 16 ^ length s
unfolding hex_number
hex_number-below [] r e = let z : ◌≡◌ {A = ℕ} 0 1 = cc in absurd (omega arith)
hex_number-below (c ∷ s) r e = go (eqb c 43) e
  where
    go : (t : Bool) → cond t (hex_digits s) (hex_digits (c ∷ s)) ≡ Some r → r < 16 ^ suc (length s)
    go true e = le_trans (hex_digits-below s r e) (pow-le-pow_right (lit< tt) (omega arith))
    go false e = hex_digits-below (c ∷ s) r e

-- n hex characters stand there, and their value has n hex digits
hex_each : (n : ℕ) (s : List ℕ) → Each (λ v w. (w ≡ n + 1) × (n ≤ length s) × (v < 16 ^ n)) (hex_escape n s)
unfolding Each hex_escape hex_piece
hex_each n s = by_cond Q (leb n (length s)) (λ t. go (hex_number (take n s)) refl (leb-true n (length s) t)) (λ t. tt)
  where
    Q : Option TextPiece → Type 0
    Q = Each (λ v w. (w ≡ n + 1) × (n ≤ length s) × (v < 16 ^ n))

    go : (o : Option ℕ) → hex_number (take n s) ≡ o → n ≤ length s → Q (hex_piece n o)
    go (Some v) e h = (refl, h, rw (length-take-le n s h) at (hex_number-below (take n s) v e))
    go None e h = tt

octals-length : (n : ℕ) (s : List ℕ) → length (octals n s) ≤ length s
unfolding octals
octals-length zero s = omega arith
octals-length (suc n) [] = omega arith
octals-length (suc n) (c ∷ s) = go (ltb (octal_digit (c ∷ s)) 8) (octals-length n s)
  where
    go : (t : Bool) → length (octals n s) ≤ length s → length (cond t (octal_digit (c ∷ s) ∷ octals n s) []) ≤ suc (length s)
    go true h = omega arith
    go false h = omega arith

-- every byte that a table gives is below n
abbrev GivesBelow : ℕ → List (ℕ × ℕ) → Type 0
GivesBelow n [] = Unit {0}
GivesBelow n (e ∷ t) = (e.1 < n) × GivesBelow n t

look-below : (t : List (ℕ × ℕ)) (c n : ℕ) → c < n → GivesBelow n t → look t c < n
unfolding look
look-below [] c n h b = h
look-below (e ∷ t) c n h b = by_cond (λ x. x < n) (eqb c e.0) (λ _. b.0) (λ _. look-below t c n h b.1)

within_true : (a b c : ℕ) → from_to a b c ≡ true → (a ≤ c) × (c ≤ b)
unfolding from_to
within_true a b c e = go (leb a c) refl e
  where
    go : (t : Bool) → leb a c ≡ t → (t && leb c b) ≡ true → (a ≤ c) × (c ≤ b)
    go true d e = (leb-true a c d, leb-true c b e)
    go false d e = let z : ◌≡◌ {A = ℕ} 0 1 = cc in absurd (omega arith)

octals-some : (c : ℕ) (s : List ℕ) → from_to 48 55 c ≡ true → 0 < length (octals 3 (c ∷ s))
unfolding octals octal_digit
octals-some c s e =
    let d : octal_digit (c ∷ s) < 8 = rw e (omega (arith, within_true 48 55 c e)) in
    rw (lt-ltb _ _ d) (omega arith)

-- STRING, past a backslash: at least one byte, and no more than there are
escape_each : (s : List ℕ) → Each (λ v w. (0 < w) × (w ≤ length s) × (Bytes s → v < 256)) (string_escape s)
unfolding Each string_escape octal_escape
escape_each [] = tt
escape_each (c ∷ s) =
    by_cond Q (eqb c 120) (λ _. each (hex_escape 2 s) (λ v w h. (omega (arith, h.0), omega (arith, h.0, h.1), λ _. h.2)) (hex_each 2 s))
    (λ _. by_cond Q (from_to 48 55 c) (λ e. (octals-some c s e, octals-length 3 (c ∷ s), λ _. mod-lt _ (lit< tt)))
    (λ _. (omega arith, omega arith, λ k. look-below letters c 256 (k 0) (search (tt, lit<)))))
  where
    Q : Option TextPiece → Type 0
    Q = Each (λ v w. (0 < w) × (w ≤ suc (length s)) × (Bytes (c ∷ s) → v < 256))

-- STRING: a piece lies inside its text, and its value is a byte
pub string-each : (s : List ℕ) → Each (λ v w. (w < length s) × (Bytes s → v < 256)) (string_head s)
unfolding Each string_head
string-each [] = tt
string-each (b ∷ s) =
    by_cond (Each (λ v w. (w < suc (length s)) × (Bytes (b ∷ s) → v < 256))) (eqb b 92)
    (λ _. each (string_escape s) (λ v w h. (omega (arith, h.1), λ k. h.2 (λ i. k (suc i)))) (escape_each s))
    (λ _. (omega arith, λ k. k 0))

-- the UTF-8 of a code point: four bytes at most, two for Latin-1; all of them bytes
pub encode-length : (c : ℕ) → length (encode c) ≤ 4
encode-length c =
    by_lt c 0x80 (λ h. rw (encode_one c h) (omega arith))
    (λ l. by_lt c 0x800 (λ h. rw (encode_two c l h) (omega arith))
    (λ l. by_lt c 0x10000 (λ h. rw (encode-three c l h) (omega arith)) (λ l. rw (encode-four c l) (omega arith))))

pub latin_length : (c : ℕ) → c < 256 → length (encode c) ≤ 2
latin_length c k = by_lt c 0x80 (λ h. rw (encode_one c h) (omega arith)) (λ l. rw (encode_two c l (omega arith)) (omega arith))

trail-below : (x : ℕ) → trail x < 256
unfolding trail
trail-below x = omega arith

pub encode-bytes : (c : ℕ) → c < 0x110000 → Bytes (encode c)
encode-bytes c k =
    by_lt c 0x80 (λ h. same (encode_one c h) (bytes_cons c [] (omega arith) bytes_nil))
    (λ l. by_lt c 0x800 (λ h. same (encode_two c l h) (bytes_cons (0xC0 + c / 0x40) one (omega arith) one_bytes))
    (λ l. by_lt c 0x10000 (λ h. same (encode-three c l h) (bytes_cons (0xE0 + c / 0x1000) two (omega arith) two_bytes))
    (λ l. same (encode-four c l) (bytes_cons (0xF0 + c / 0x40000) three (omega arith) (bytes_cons (trail (c / 0x1000)) two (trail-below (c / 0x1000)) two_bytes)))))
  where
    same : {l m : List ℕ} → l ≡ m → Bytes m → Bytes l
    same e h = subst Bytes (sym e) h

    one : List ℕ
    one = trail c ∷ []

    two : List ℕ
    two = trail (c / 0x40) ∷ one

    three : List ℕ
    three = trail (c / 0x1000) ∷ two

    one_bytes : Bytes one
    one_bytes = bytes_cons (trail c) [] (trail-below c) bytes_nil

    two_bytes : Bytes two
    two_bytes = bytes_cons (trail (c / 0x40)) one (trail-below (c / 0x40)) one_bytes

-- a scalar value is below 110000 hex, and what stands for a number is one
pub scalar_below : (v : ℕ) → scalar v ≡ true → v < 0x110000
unfolding scalar
scalar_below v f = go (ltb v 0xD800) refl f
  where
    high : (t : Bool) → (t && ltb v 0x110000) ≡ true → v < 0x110000
    high true g = ltb-true v 0x110000 g
    high false g = let z : ◌≡◌ {A = ℕ} 0 1 = cc in absurd (omega arith)

    go : (t : Bool) → ltb v 0xD800 ≡ t → (t || (leb 0xE000 v && ltb v 0x110000)) ≡ true → v < 0x110000
    go true e f = omega (arith, ltb-true v 0xD800 e)
    go false e f = high (leb 0xE000 v) f

pub scalar_of_lem : (v : ℕ) → scalar (scalar_of v) ≡ true
unfolding scalar_of
scalar_of_lem v = by_cond (λ x. scalar x ≡ true) (scalar v) (λ e. e) (λ _. scalar-high 0xFFFD (lit≤ tt) (lit< tt))

-- UNICODE: a piece lies inside its line, and its value is a scalar value whose UTF-8 is at most twice as long as the piece
scalar-each : (Q R : ℕ → ℕ → Type 0) (p : Option TextPiece) → ((v w : ℕ) → Q v w → R (scalar_of v) w) → Each Q p → Each R (scalar_piece p)
unfolding Each scalar_piece
scalar-each Q R (Some p) f h = f p.value p.more h
scalar-each Q R None f h = tt

pub unicode-each : (s : List ℕ) → Each (λ v w. (w < length s) × (Bytes s → (scalar v ≡ true) × (length (encode v) ≤ 2 * suc w))) (unicode_head s)
unfolding Each unicode_head unicode_escape
unicode-each [] = tt
unicode-each (b ∷ s) = by_cond Q (eqb b 92) (λ _. escape s refl) (λ _. (omega arith, λ k. (scalar_low b (omega (arith, k 0)), latin_length b (k 0))))
  where
    Q : Option TextPiece → Type 0
    Q = Each (λ v w. (w < suc (length s)) × (Bytes (b ∷ s) → (scalar v ≡ true) × (length (encode v) ≤ 2 * suc w)))

    lone : Q (one 92 0)
    lone = (omega arith, λ k. (scalar_low 92 (lit< tt), latin_length 92 (lit< tt)))

    hex : (n : ℕ) (t : List ℕ) → 1 ≤ n → suc (length t) ≡ length s → Q (scalar_piece (hex_escape n t))
    hex n t l e =
        scalar-each _ (λ v w. (w < suc (length s)) × (Bytes (b ∷ s) → (scalar v ≡ true) × (length (encode v) ≤ 2 * suc w))) (hex_escape n t)
        (λ v w h. (omega (arith, h.0, h.1), λ k. (scalar_of_lem v, omega (arith, encode-length (scalar_of v), h.0))))
        (hex_each n t)

    escape : (t : List ℕ) → t ≡ s → Q (unicode_escape t)
    escape [] e = lone
    escape (c ∷ t) e =
        by_cond Q (eqb c 117) (λ _. hex 4 t (omega arith) (ap length e))
        (λ _. by_cond Q (eqb c 85) (λ _. hex 8 t (omega arith) (ap length e)) (λ _. lone))

-- ---- the two kinds of line

inner-length : (n at : ℕ) (s : List ℕ) → length (bytes_of (texts string_head byte_itself n at s)) ≤ length s - n
unfolding byte_itself
inner-length n at s =
    omega (
      arith,
      texts-length string_head byte_itself (λ _. Unit {0}) (λ b t p. tt) 1
          (λ t p. each (string_head t) (λ v w h. (h.0, omega arith)) (string-each t)) n at s tt,
    )

pub length-inner : (line : List ℕ) → length (inner line) ≡ length line - 2
unfolding inner
length-inner line = simp (length-take, length-drop) (omega arith)

-- a value of STRING is never longer than what stands between its quotes, and so than its line
pub string-length : (line : List ℕ) → length (bytes_of (unescape_string line)) ≤ length line - 2
unfolding unescape_string bytes_of
string-length line =
    by_cond (λ r. length (bytes_of r) ≤ length line - 2) (has_quotes line)
    (λ _. omega (arith, inner-length 0 1 (inner line), length-inner line)) (λ _. omega arith)

-- a value of UNICODE is at most twice as long as its line
pub unicode-length : (line : List ℕ) → Bytes line → length (bytes_of (unescape_unicode line)) ≤ 2 * length line
unfolding unescape_unicode
unicode-length line h =
    omega (
      arith,
      texts-length unicode_head encode Bytes (λ b t p i. p (suc i)) 2
          (λ t p. each (unicode_head t) (λ v w e. (e.0, (e.1 p).1)) (unicode-each t)) 0 0 line h,
    )

valid_nil : valid [] ≡ true
unfolding evaluates
valid_nil = refl

-- and is well-formed UTF-8
pub unicode-valid : (line : List ℕ) → Bytes line → valid (bytes_of (unescape_unicode line)) ≡ true
unfolding unescape_unicode
unicode-valid line h =
    texts-all unicode_head encode Bytes (λ b t p i. p (suc i)) (λ l. valid l ≡ true) valid_nil valid-append
    (λ t p. each (unicode_head t) (λ v w e. valid-encode v (e.1 p).0) (unicode-each t)) 0 0 line h

-- ---- STRING with an escape and with none

-- a text with no backslash is its own value
pub no_escape : (at : ℕ) (s : List ℕ) → has_escape s ≡ false → texts string_head byte_itself 0 at s ≡ got s
unfolding texts piece_then bytes_before string_head has_escape byte_itself
no_escape at [] e = refl
no_escape at (b ∷ s) e = go (eqb b 92) e (no_escape (suc at) s)
  where
    go : (t : Bool) → (t || has_escape s) ≡ false → (has_escape s ≡ false → texts string_head byte_itself 0 (suc at) s ≡ got s)
        → piece_then byte_itself (cond t (string_escape s) (one b 0)) at (λ w. texts string_head byte_itself w (suc at) s) ≡ got (b ∷ s)
    go true e f = let z : ◌≡◌ {A = ℕ} 0 1 = cc in absurd (omega arith)
    go false e f = rw (f e)

reads_before : (l : List ℕ) (r : Read (List ℕ)) → is_read (bytes_before l r) ≡ is_read r
unfolding is_read bytes_before
reads_before l (got v) = refl
reads_before l (refused why at) = refl

-- one with a backslash is longer than its value
pub escape_shortens : (at : ℕ) (s : List ℕ) → has_escape s ≡ true → is_read (texts string_head byte_itself 0 at s) ≡ true
    → length (bytes_of (texts string_head byte_itself 0 at s)) < length s
unfolding texts piece_then string_head has_escape byte_itself is_read Each
escape_shortens at [] e r = let z : ◌≡◌ {A = ℕ} 0 1 = cc in absurd (omega arith)
escape_shortens at (b ∷ s) e r = go (eqb b 92) e r (escape_shortens (suc at) s)
  where
    Rest : ℕ → Read (List ℕ)
    Rest w = texts string_head byte_itself w (suc at) s

    slash : (p : Option TextPiece) → Each (λ v w. (0 < w) × (w ≤ length s) × (Bytes s → v < 256)) p → is_read (piece_then byte_itself p at Rest) ≡ true
        → length (bytes_of (piece_then byte_itself p at Rest)) < suc (length s)
    slash (Some p) h r = omega (arith, h.0, before-length (p.value ∷ []) (Rest p.more), inner-length p.more (suc at) s)
    slash None h r = let z : ◌≡◌ {A = ℕ} 0 1 = cc in absurd (omega arith)

    go : (t : Bool) → (t || has_escape s) ≡ true → is_read (piece_then byte_itself (cond t (string_escape s) (one b 0)) at Rest) ≡ true
        → (has_escape s ≡ true → is_read (Rest 0) ≡ true → length (bytes_of (Rest 0)) < length s)
        → length (bytes_of (piece_then byte_itself (cond t (string_escape s) (one b 0)) at Rest)) < suc (length s)
    go true e r f = slash (string_escape s) (escape_each s) r
    go false e r f = omega (arith, before-length (b ∷ []) (Rest 0), f e (sym (reads_before (b ∷ []) (Rest 0)) ∙ r))
