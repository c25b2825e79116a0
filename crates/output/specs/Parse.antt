-- The decimal text of an i64 is read back by de.rs's `parse`: it is UTF-8, has no White_Space, and is that integer.
use Rattle.std.specs.Prelude.{ℕ, ◌-◌, ◌^◌, ◌≤◌, ◌<◌, Bool, true, not, ◌&&◌, List, [], ◌∷◌, ◌++◌, ◌≡◌, refl, leb, ltb, ℤ}
use Rattle.std.proofs.Common.{append-nil, sym, ◌∙◌, arith, T_not, leb-true, le-leb}
use Rattle.refusal.specs.Read.{got}
use Rattle.utf8.specs.Utf8.{encode, trail, valid, pieces, pieces_after, every, well_formed, some, whole_row, in_column}
use Rattle.utf8.specs.Rows.{and_left, and_right}
use Rattle.utf8.specs.Laws.{valid-append, valid_one}
use Rattle.input.specs.Long.{in_i64, bits64}
use Rattle.number.specs.Space.{white_space, spaces, space, trimmed}
use Rattle.number.specs.Trims.{Blank, none, more, trimmed_is, space-all}
use Rattle.number.specs.Range.{bits64_fits}
use Rattle.number.specs.Number.{digits, only, parse_i64}
use Rattle.output.specs.Decimal.{decimal_text, signed_text, decimal-digits, either_way, signed_back}

-- every byte is one from `-` to `9`
unfoldable ink : List ℕ → Bool
ink [] = true
ink (b ∷ s) = (leb 0x2D b && leb b 0x39) && ink s

ink_first : (b : ℕ) (s : List ℕ) → ink (b ∷ s) ≡ true → (0x2D ≤ b) × (b ≤ 0x39)
unfolding ink
ink_first b s e =
    let h = and_left (leb 0x2D b && leb b 0x39) (ink s) e in
    (leb-true 0x2D b (and_left (leb 0x2D b) (leb b 0x39) h), leb-true b 0x39 (and_right (leb 0x2D b) (leb b 0x39) h))

ink_rest : (b : ℕ) (s : List ℕ) → ink (b ∷ s) ≡ true → ink s ≡ true
unfolding ink
ink_rest b s e = and_right (leb 0x2D b && leb b 0x39) (ink s) e

ink_more : (b : ℕ) (s : List ℕ) → 0x2D ≤ b → b ≤ 0x39 → ink s ≡ true → ink (b ∷ s) ≡ true
unfolding ink
ink_more b s l h e = rw (le-leb 0x2D b l, le-leb b 0x39 h, e)

ink_left : (s t : List ℕ) → ink (s ++ t) ≡ true → ink s ≡ true
unfolding ink
ink_left [] t e = refl
ink_left (b ∷ s) t e = let h = ink_first b (s ++ t) e in ink_more b s h.0 h.1 (ink_left s t (ink_rest b (s ++ t) e))

ink_right : (s t : List ℕ) → ink (s ++ t) ≡ true → ink t ≡ true
ink_right [] t e = e
ink_right (b ∷ s) t e = ink_right s t (ink_rest b (s ++ t) e)

ink_digits : (s : List ℕ) → digits s ≡ true → ink s ≡ true
unfolding digits ink
ink_digits [] e = refl
ink_digits (b ∷ s) e =
    let h = and_left (leb 0x30 b && leb b 0x39) (digits s) e in
    let l = leb-true 0x30 b (and_left (leb 0x30 b) (leb b 0x39) h) in
    ink_more b s (omega arith) (leb-true b 0x39 (and_right (leb 0x30 b) (leb b 0x39) h)) (ink_digits s (and_right (leb 0x30 b && leb b 0x39) (digits s) e))

ink_signed : (b : ℕ) → b < 2 ^ 64 → ink (signed_text b) ≡ true
unfolding signed_text
ink_signed b h =
    let n = 2 ^ 64 - b in
    either_way (λ (s : List ℕ). ink s ≡ true) (ltb b (2 ^ 63)) (decimal_text b) (0x2D ∷ decimal_text n) (ink_digits (decimal_text b) (decimal-digits b (omega arith)))
    (ink_more 0x2D (decimal_text n) (omega arith) (omega arith) (ink_digits (decimal_text n) (decimal-digits n (omega arith))))

-- ---- no White_Space

space_ink : (f : List ℕ) → space f ≡ true → ink f ≡ true → ⊥
unfolding spaces white_space encode trail ink
space_ink f h e = T_not (ink f) (space-all (λ g. not (ink g)) tt f h) (rw e tt)

blank_ink : (s : List ℕ) → Blank s → ink s ≡ true → s ≡ []
blank_ink s none e = refl
blank_ink s (more f t h b) e = absurd (space_ink f h (ink_left f t e))

trimmed_ink : (s : List ℕ) → ink s ≡ true → trimmed s ≡ s
trimmed_ink s e =
    let x = trimmed_is s in
    let all : ink (x.left ++ (trimmed s ++ x.right)) ≡ true = rw x.cut at e in
    let l : x.left ≡ [] = blank_ink x.left x.left_blank (ink_left x.left _ all) in
    let r : x.right ≡ [] = blank_ink x.right x.right_blank (ink_right (trimmed s) x.right (ink_right x.left _ all)) in
    let whole : x.left ++ (trimmed s ++ x.right) ≡ trimmed s = rw (l, r) (append-nil (trimmed s)) in
    sym (x.cut ∙ whole)

-- ---- UTF-8

ascii : (b : ℕ) → b ≤ 0x7F → well_formed (b ∷ []) ≡ true
unfolding well_formed some whole_row in_column
ascii b h = rw (le-leb 0 b (omega arith), le-leb b 0x7F h)

valid_ink : (s : List ℕ) → ink s ≡ true → valid s ≡ true
unfolding valid pieces pieces_after every
valid_ink [] e = refl
valid_ink (b ∷ s) e = valid-append (b ∷ []) s (valid_one (b ∷ []) (ascii b (omega (arith, (ink_first b s e).1)))) (valid_ink s (ink_rest b s e))

-- `parse` reads the text of an i64 as that integer
pub parse_back : (z : ℤ) → in_i64 z ≡ true → parse_i64 (signed_text (bits64 z)) ≡ got z
unfolding parse_i64 only
parse_back z h =
    let s = signed_text (bits64 z) in
    let e = ink_signed (bits64 z) (bits64_fits z h) in
    rw (valid_ink s e, trimmed_ink s e, signed_back z h, h)
