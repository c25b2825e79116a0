-- STRING's line and the text between its quotes. Assumes nothing.
use mathlib.Core.Path.{◌≡◌, refl, sym, ap, ◌∙◌}
use mathlib.Core.Bool.{Bool, true, false, cond, not}
use mathlib.Core.List.{List}
use Prim.Native.Nat.{ℕ}
use native.Mathlib.Omega.{arith}
use lib.Dec.{eqb}
use lib.ListN.{length}
use borrow.Author.Tests.{eq-eqb, ne_eqb}
use Rattle.refusal.specs.Read.{Read, got, refused}
use Rattle.refusal.specs.declared.Refusal.TheVariants.{InvalidLiteral}
use Rattle.std.specs.Prelude.{Ok, Err}
use Rattle.text.specs.declared.Quoted.TheVariants.{Plain, Escaped}
use Rattle.text.specs.declared.FaultAt.{FaultAt}
use Rattle.text.specs.Escapes.{string_head}
use Rattle.text.specs.Pieces.{texts, is_read, length_of}
use Rattle.text.specs.Text.{has_quotes, inner, byte_itself, unescape_string, has_escape, with_mark, string_measured, quoted_says}
use Rattle.text.specs.Laws.{no_escape, escape_shortens}
use Rattle.text.specs.Answers.{is_length}

-- a text has an escape exactly if its value is not as long as itself
escape_told : (at : ℕ) (s : List ℕ) (n : ℕ) → length_of (texts string_head byte_itself 0 at s) ≡ got n → has_escape s ≡ not (eqb n (length s))
unfolding length_of
escape_told at s n e = go (has_escape s) refl
  where
    go : (t : Bool) → has_escape s ≡ t → t ≡ not (eqb n (length s))
    go true h =
        let k = is_length (texts string_head byte_itself 0 at s) n (sym e) in
        rw (ne_eqb n (length s) (λ z. omega (arith, escape_shortens at s h k.0, k.1))) refl
    go false h =
        let k : got (length s) ≡ got n = sym (ap length_of (no_escape at s h)) ∙ e in
        rw (eq-eqb n (length s) (cc)) refl

module _ (line : List ℕ) where
  pub no_quotes : has_quotes line ≡ false → quoted_says line (Err (record { 0 = 0 })) ≡ string_measured line
  unfolding quoted_says string_measured unescape_string with_mark length_of
  no_quotes q = rw q

  pub reads_quotes : is_read (unescape_string line) ≡ true → has_quotes line ≡ true
  unfolding unescape_string is_read
  reads_quotes = go (has_quotes line)
    where
      go : (t : Bool) → is_read (cond t (texts string_head byte_itself 0 1 (inner line)) (refused InvalidLiteral 0)) ≡ true → t ≡ true
      go true h = refl
      go false h = cc

  module _ (q : has_quotes line ≡ true) where
    pub value-inner : unescape_string line ≡ texts string_head byte_itself 0 1 (inner line)
    unfolding unescape_string
    value-inner = rw q

    -- `text` is what stands between the quotes, and `r` its measure
    module _ (text : List ℕ) (k : text ≡ inner line) (r : Read ℕ) (e : r ≡ length_of (texts string_head byte_itself 0 1 text)) where
      said : with_mark (has_escape text) r ≡ string_measured line
      unfolding string_measured
      said = rw (e, value-inner, k)

      pub is_bad : (fault : FaultAt) → r ≡ refused InvalidLiteral fault.0 → quoted_says line (Err fault) ≡ string_measured line
      unfolding quoted_says with_mark
      is_bad fault f = rw f at said

      told : (n : ℕ) → r ≡ got n → has_escape text ≡ not (eqb n (length text))
      told n f = escape_told 1 text n (sym e ∙ f)

      pub is_plain : (n : ℕ) → r ≡ got n → n ≡ length text → quoted_says line (Ok Plain) ≡ string_measured line
      unfolding quoted_says with_mark
      is_plain n f h =
          let t : has_escape text ≡ false = told n f ∙ rw (eq-eqb _ _ h) in
          let m : with_mark false (got n) ≡ string_measured line = rw (t, f) at said in
          rw (h, k) at m

      pub is_escaped : (n : ℕ) → r ≡ got n → (n ≡ length text → ⊥) → quoted_says line (Ok (Escaped n)) ≡ string_measured line
      unfolding quoted_says with_mark
      is_escaped n f h =
          let t : has_escape text ≡ true = told n f ∙ rw (ne_eqb _ _ h) in
          rw (t, f) at said
