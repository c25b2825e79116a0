-- A text that may stand in a line, by Ask 5's `writable`, is what the line is read as. The decimal text of an integer is one.
use Rattle.std.specs.Prelude.{ℕ, suc, zero, ◌+◌, ◌-◌, ◌^◌, ◌≤◌, ◌<◌, Bool, true, false, cond, not, ◌&&◌, ◌||◌, List, [], ◌∷◌, ◌++◌, ◌≡◌, refl, length, get_or, T, eqb, leb, ltb}
use Rattle.std.proofs.Common.{◌∙◌, ap, take_at, arith, ne_eqb, leb-true, le-leb}
use Rattle.std.proofs.Math.Seq.{drop-append-add}
use Rattle.refusal.specs.Read.{got}
use Rattle.utf8.specs.Rows.{and_left, and_right}
use Rattle.input.specs.Bytes.{last_byte}
use Rattle.input.specs.Line.{first_from, newline_of, less_cr, line_of}
use Rattle.number.specs.Number.{digits}
use Rattle.output.specs.Decimal.{decimal_text, signed_text, decimal-digits, either_way}
use Rattle.output.specs.Put.{newline_byte}
use Rattle.steps.specs.State.{State, ok, ◌>>=◌, leaf, with_input, line}
use Rattle.ser.specs.Writable.{has_newline, ends_cr, writable}

-- what `writable` asks: no newline, and no CR at the end
neither : (m : List ℕ) → T (writable m) → (has_newline m ≡ false) × (ends_cr m ≡ false)
unfolding writable
neither m = go (has_newline m) (ends_cr m)
  where
    go : (a b : Bool) → T (not (a || b)) → (a ≡ false) × (b ≡ false)
    go false false h = (refl, refl)
    go false true h = absurd h
    go true b h = absurd h

first_at : (m r : List ℕ) (k : ℕ) → has_newline m ≡ false → first_from (m ++ (newline_byte ∷ r)) k ≡ got (k + length m)
unfolding has_newline first_from
first_at [] r k h = let z : k + 0 ≡ k = omega arith in rw z
first_at (b ∷ m) r k h = go (eqb b newline_byte) h (first_at m r (suc k))
  where
    go : (c : Bool) → (c || has_newline m) ≡ false → (has_newline m ≡ false → first_from (m ++ (newline_byte ∷ r)) (suc k) ≡ got (suc k + length m)) → cond c (got k) (first_from (m ++ (newline_byte ∷ r)) (suc k)) ≡ got (k + suc (length m))
    go true e f = absurd (let z : ◌≡◌ {A = ℕ} 0 1 = cc in omega arith)
    go false e f = f e ∙ ap got (omega arith)

pub line_back : (s : State) (m r : List ℕ) → s.input ≡ m ++ (newline_byte ∷ r) → T (writable m) → line s ≡ ok (m, with_input s r)
unfolding line leaf ◌>>=◌ newline_of line_of less_cr ends_cr
line_back s m r e h =
    let plain = neither m h in
    let z : suc (length m) ≡ length m + 1 = omega arith in
    let f : first_from (m ++ (newline_byte ∷ r)) 0 ≡ got (length m) = first_at m r 0 plain.0 ∙ ap got (omega arith) in
    rw (e, f, take_at m (newline_byte ∷ r) (length m - 0) (omega arith), plain.1, z, drop-append-add m (newline_byte ∷ r) 1)

-- ---- decimal text

-- no control characters
unfoldable printed : List ℕ → Bool
printed [] = true
printed (b ∷ s) = leb 0x20 b && printed s

printed_more : (b : ℕ) (s : List ℕ) → 0x20 ≤ b → printed s ≡ true → printed (b ∷ s) ≡ true
unfolding printed
printed_more b s h e = rw (le-leb 0x20 b h, e)

printed_at : (s : List ℕ) (i : ℕ) → printed s ≡ true → i < length s → 0x20 ≤ get_or s i 0
unfolding printed
printed_at [] i e h = absurd (omega arith)
printed_at (b ∷ s) zero e h = leb-true 0x20 b (and_left (leb 0x20 b) (printed s) e)
printed_at (b ∷ s) (suc i) e h = printed_at s i (and_right (leb 0x20 b) (printed s) e) (omega arith)

printed_one_line : (s : List ℕ) → printed s ≡ true → has_newline s ≡ false
unfolding printed has_newline
printed_one_line [] e = refl
printed_one_line (b ∷ s) e =
    let l = leb-true 0x20 b (and_left (leb 0x20 b) (printed s) e) in
    rw (ne_eqb b newline_byte (λ q. omega arith), printed_one_line s (and_right (leb 0x20 b) (printed s) e))

printed_ends : (s : List ℕ) → printed s ≡ true → ends_cr s ≡ false
unfolding ends_cr last_byte
printed_ends [] e = refl
printed_ends (b ∷ s) e = let h = printed_at (b ∷ s) (suc (length s) - 1) e (omega arith) in ne_eqb (get_or (b ∷ s) (suc (length s) - 1) 0) 0x0D (λ (q : get_or (b ∷ s) (suc (length s) - 1) 0 ≡ 0x0D). omega arith)

printed-writable : (s : List ℕ) → printed s ≡ true → T (writable s)
unfolding writable
printed-writable s e = rw (printed_one_line s e, printed_ends s e) tt

printed-digits : (s : List ℕ) → digits s ≡ true → printed s ≡ true
unfolding digits printed
printed-digits [] e = refl
printed-digits (b ∷ s) e =
    let h = and_left (leb 0x30 b && leb b 0x39) (digits s) e in
    let l = leb-true 0x30 b (and_left (leb 0x30 b) (leb b 0x39) h) in
    printed_more b s (omega arith) (printed-digits s (and_right (leb 0x30 b && leb b 0x39) (digits s) e))

pub signed-writable : (b : ℕ) → b < 2 ^ 64 → T (writable (signed_text b))
unfolding signed_text
signed-writable b h =
    let n = 2 ^ 64 - b in
    printed-writable _
    (either_way (λ (s : List ℕ). printed s ≡ true) (ltb b (2 ^ 63)) (decimal_text b) (0x2D ∷ decimal_text n) (printed-digits (decimal_text b) (decimal-digits b (omega arith)))
    (printed_more 0x2D (decimal_text n) (omega arith) (printed-digits (decimal_text n) (decimal-digits n (omega arith)))))
