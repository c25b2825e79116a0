-- What a caller learns of a line from an answer of the code. Assumes nothing.
use Rattle.std.specs.Prelude.{ℕ, ◌-◌, ◌≤◌, ◌&&◌, ◌||◌, List, length, get_or, leb, eqb, Ok, Err}
use Rattle.std.proofs.Math.Bool.{Bool, true, false, cond}
use Rattle.std.proofs.Math.Path.{◌≡◌, refl, ap}
use Rattle.std.proofs.Common.{sym, ◌∙◌, arith, leb-true}
use Rattle.refusal.specs.Read.{Read, got, refused}
use Rattle.refusal.specs.declared.Refusal.TheVariants.{InvalidLiteral}
use Rattle.text.specs.declared.Quoted.{Quoted}
use Rattle.text.specs.declared.Quoted.TheVariants.{Plain, Escaped}
use Rattle.text.specs.declared.FaultAt.{FaultAt}
use Rattle.text.specs.Escapes.{string_head}
use Rattle.text.specs.Pieces.{texts, is_read, bytes_of, length_of}
use Rattle.text.specs.Text.{has_quotes, inner, byte_itself, unescape_string, has_escape, with_mark, string_measured, quoted_says, decoded_says}
use Rattle.text.specs.Laws.{no_escape}

module _ (r : Read (List ℕ)) where
  pub got_bytes : is_read r ≡ true → r ≡ got (bytes_of r)
  unfolding is_read bytes_of
  got_bytes = go r
    where
      go : (s : Read (List ℕ)) → is_read s ≡ true → s ≡ got (bytes_of s)
      go (got v) h = refl
      go (refused why at) h = cc

  -- a text that is measured has so many bytes
  pub is_length : (n : ℕ) → got n ≡ length_of r → (is_read r ≡ true) × (length (bytes_of r) ≡ n)
  unfolding length_of is_read bytes_of
  is_length n = go r
    where
      go : (s : Read (List ℕ)) → got n ≡ length_of s → (is_read s ≡ true) × (length (bytes_of s) ≡ n)
      go (got v) e = (refl, cc)
      go (refused why at) e = let z : ◌≡◌ {A = ℕ} 0 1 = cc in absurd (omega arith)

  pub decoded_len : (n : ℕ) → decoded_says (Ok n) ≡ length_of r → (is_read r ≡ true) × (length (bytes_of r) ≡ n)
  unfolding decoded_says
  decoded_len n e = is_length n e

  pub decoded_bad : (fault : FaultAt) → decoded_says (Err fault) ≡ length_of r → r ≡ refused InvalidLiteral fault.0
  unfolding decoded_says length_of
  decoded_bad fault = go r
    where
      go : (s : Read (List ℕ)) → refused InvalidLiteral fault.0 ≡ length_of s → s ≡ refused InvalidLiteral fault.0
      go (got v) e = cc
      go (refused why k) e = cc

module _ (line : List ℕ) where
  -- a line that is measured has its quotes
  quoted_inner : (n : ℕ) → got n ≡ length_of (unescape_string line) → unescape_string line ≡ texts string_head byte_itself 0 1 (inner line)
  unfolding unescape_string length_of
  quoted_inner n = go (has_quotes line)
    where
      go : (t : Bool) → got n ≡ length_of (cond t (texts string_head byte_itself 0 1 (inner line)) (refused InvalidLiteral 0))
          → cond t (texts string_head byte_itself 0 1 (inner line)) (refused InvalidLiteral 0) ≡ texts string_head byte_itself 0 1 (inner line)
      go true e = refl
      go false e = cc

  -- what was measured, apart
  apart : (e : Bool) (n : ℕ) → got (e, n) ≡ string_measured line → (has_escape (inner line) ≡ e) × (got n ≡ length_of (unescape_string line))
  unfolding string_measured with_mark
  apart e n = go (length_of (unescape_string line))
    where
      go : (r : Read ℕ) → got (e, n) ≡ with_mark (has_escape (inner line)) r → (has_escape (inner line) ≡ e) × (got n ≡ r)
      go (got m) h =
          let p : ◌≡◌ {A = Bool × ℕ} (e, n) (has_escape (inner line), m) = cc in
          (sym (ap (λ (x : Bool × ℕ). x.0) p), ap (λ (x : Bool × ℕ). got x.1) p)
      go (refused why at) h = let z : ◌≡◌ {A = ℕ} 0 1 = cc in absurd (omega arith)

  -- the value is the part between the quotes
  pub quoted_plain : quoted_says line (Ok Plain) ≡ string_measured line → unescape_string line ≡ got (inner line)
  unfolding quoted_says
  quoted_plain e =
      let p = apart false (length (inner line)) e in
      quoted_inner (length (inner line)) p.1 ∙ no_escape 1 (inner line) p.0

  -- there is a value, of n bytes
  pub quoted_escaped : (n : ℕ) → quoted_says line (Ok (Escaped n)) ≡ string_measured line
      → (is_read (unescape_string line) ≡ true) × (length (bytes_of (unescape_string line)) ≡ n)
  unfolding quoted_says
  quoted_escaped n e = is_length (unescape_string line) n (apart true n e).1

  -- either way there is a value
  pub quoted_read : (q : Quoted) → quoted_says line (Ok q) ≡ string_measured line → is_read (unescape_string line) ≡ true
  unfolding is_read
  quoted_read Plain e = rw (quoted_plain e)
  quoted_read (Escaped n) e = (quoted_escaped n e).0

  -- there is none
  pub quoted_bad : (fault : FaultAt) → quoted_says line (Err fault) ≡ string_measured line → unescape_string line ≡ refused InvalidLiteral fault.0
  unfolding quoted_says string_measured with_mark length_of
  quoted_bad fault = go (unescape_string line)
    where
      go : (r : Read (List ℕ)) → refused InvalidLiteral fault.0 ≡ with_mark (has_escape (inner line)) (length_of r) → r ≡ refused InvalidLiteral fault.0
      go (got v) e = cc
      go (refused why k) e = cc

-- a line that STRING reads has its two quotes
pub quotes_two : (l v : List ℕ) → unescape_string l ≡ got v → 2 ≤ length l
unfolding unescape_string has_quotes
quotes_two l v = go (leb 2 (length l)) refl
  where
    go : (t : Bool) → leb 2 (length l) ≡ t
        → cond (t && eqb (get_or l 0 0) (get_or l (length l - 1) 0) && (eqb (get_or l 0 0) 39 || eqb (get_or l 0 0) 34)) (texts string_head byte_itself 0 1 (inner l)) (refused InvalidLiteral 0) ≡ got v → 2 ≤ length l
    go true h e = leb-true 2 (length l) h
    go false h e = let z : ◌≡◌ {A = ℕ} 0 1 = cc in absurd (omega arith)
