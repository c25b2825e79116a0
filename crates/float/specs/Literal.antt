-- What a FLOAT literal says: RULES A7.5.
use Rattle.std.specs.Prelude.{ℕ, ◌+◌, ◌-◌, ◌*◌, ◌^◌, ◌≤◌, ◌<◌, Bool, true, false, cond, ◌&&◌, List, ◌≡◌, refl, leb, eqb}
use Rattle.std.proofs.Common.{sym, mul-one, arith, leb-true, ne_eqb}
use Rattle.std.proofs.Math.Nat.{lt_of_not-le}
use Rattle.std.proofs.Math.Decide.{dec_le}
use Rattle.std.specs.Float.{binary64}
use Rattle.std.specs.Float.Ieee.{round, to_bits}
use Rattle.refusal.specs.Read.{Read, got, refused}
use Rattle.refusal.specs.declared.Refusal.{Refusal}
use Rattle.refusal.specs.declared.Refusal.TheVariants.{InvalidLiteral, FloatOutside}
use Rattle.utf8.specs.Utf8.{valid}
use Rattle.number.specs.Space.{trimmed}
use Rattle.float.specs.Form.{minus, behind_sign, Number, number, formless, number_written, is_word}
use Rattle.float.specs.Nearest.{Nearest, middle_up, middle_down, round_nearest, round_below}

-- IEEE 754: the bits of the double nearest to a / c, ties to even (`literal_nearest` says it over whole numbers)
unfoldable pub double : ℕ → ℕ → ℕ
double a c = to_bits binary64 (round binary64 false a c)

-- IEEE 754: the sign is the highest of the 64 bits
unfoldable pub signed : Bool → ℕ → ℕ
signed false bits = bits
signed true bits = bits + 2 ^ 63

-- w ≤ 2 ^ 53 and -22 ≤ e ≤ 22, for e = up - down
unfoldable pub inside_bounds : ℕ → ℕ → ℕ → Bool
inside_bounds w up down = leb w (2 ^ 53) && (leb down (up + 22) && leb up (down + 22))

-- w * 10 ^ e: over 1 where e is not negative, and w over 10 ^ -e where it is
unfoldable pub bits_of : ℕ → ℕ → ℕ → ℕ
bits_of w up down = double (w * 10 ^ (up - down)) (10 ^ (down - up))

-- inside the bounds the nearest double with its sign, else FloatOutside
unfoldable pub nearest_within : Bool → Bool → ℕ → ℕ → ℕ → Read ℕ
nearest_within true m w up down = got (signed m (bits_of w up down))
nearest_within false m w up down = refused FloatOutside 0

-- w = 0 is a zero with its sign, whatever e is
unfoldable pub valued : Bool → Bool → ℕ → ℕ → ℕ → Read ℕ
valued true m w up down = got (signed m 0)
valued false m w up down = nearest_within (inside_bounds w up down) m w up down

-- a number with its sign, m for minus; a bad form is InvalidLiteral
unfoldable pub signed_value : Bool → Number → Read ℕ
signed_value m (number w up down) = valued (eqb w 0) m w up down
signed_value m formless = refused InvalidLiteral 0

-- FLOAT's text, white space trimmed. What is FloatOutside here Rust reads: its own `parse::<f64>` has no such bounds.
unfoldable pub float_literal : List ℕ → Read ℕ
float_literal s = cond (is_word (behind_sign s)) (refused FloatOutside 0) (signed_value (minus s) (number_written (behind_sign s)))

-- de.rs, `parse::<f64>`: the line is UTF-8, and its text less White_Space is read
unfoldable pub parse_f64 : List ℕ → Read ℕ
parse_f64 line = cond (valid line) (float_literal (trimmed line)) (refused InvalidLiteral 0)

-- ---- what the bits of an accepted literal are

-- a refusal is no result
never : {A B : Type 0} {why : Refusal} {at : ℕ} {a : A} → refused why at ≡ got a → B
never q = let z : ◌≡◌ {A = ℕ} 0 1 = cc in absurd (omega arith)

-- The bits of the double nearest to w * 10 ^ e, e = up - down, with the sign: without it they are below 2 ^ 63, and the nearest over
-- whole numbers to w * 10 ^ e, or to w / 10 ^ -e.
pub record Double (m : Bool) (w up down bits : ℕ) : Type 0 where
  pub size : ℕ
  pub below : size < 2 ^ 63
  pub sign : bits ≡ signed m size
  pub raised : (e : ℕ) → up ≡ down + e → Nearest 53 1074 (w * 10 ^ e) 1 size
  pub lowered : (e : ℕ) → down ≡ up + e → Nearest 53 1074 w (10 ^ e) size

pub bits_up : (w up down e : ℕ) → up ≡ down + e → bits_of w up down ≡ double (w * 10 ^ e) 1
unfolding bits_of
bits_up w up down e q =
    let a : up - down ≡ e = omega arith in
    let b : down - up ≡ 0 = omega arith in
    rw (a, b)

pub bits_down : (w up down e : ℕ) → down ≡ up + e → bits_of w up down ≡ double w (10 ^ e)
unfolding bits_of
bits_down w up down e q =
    let a : up - down ≡ 0 = omega arith in
    let b : down - up ≡ e = omega arith in
    rw (a, b, mul-one)

module _ (w up down : ℕ) (p : 0 < w) (h : w ≤ 2 ^ 53) (l : down ≤ up + 22) (u : up ≤ down + 22) where
  pub bits_below : bits_of w up down < 2 ^ 63
  unfolding double
  bits_below = go (dec_le down up)
    where
      go : Dec (down ≤ up) → bits_of w up down < 2 ^ 63
      go (yes k) = rw (bits_up w up down (up - down) (omega arith)) (round_below (w * 10 ^ (up - down)) 1 (middle_up w (up - down) p h (omega arith)))
      go (no k) = let g = lt_of_not-le k in rw (bits_down w up down (down - up) (omega arith)) (round_below w (10 ^ (down - up)) (middle_down w (down - up) p h (omega arith)))

  pub bits-double : (m : Bool) → Double m w up down (signed m (bits_of w up down))
  unfolding double
  bits-double m = record {
    size = bits_of w up down;
    below = bits_below;
    sign = refl;
    raised = λ e q. rw (bits_up w up down e q) (round_nearest (w * 10 ^ e) 1 (middle_up w e p h (omega arith)));
    lowered = λ e q. rw (bits_down w up down e q) (round_nearest w (10 ^ e) (middle_down w e p h (omega arith)));
  }

value_nearest : (m : Bool) (w up down bits : ℕ) → 0 < w → signed_value m (number w up down) ≡ got bits → Double m w up down bits
unfolding signed_value valued nearest_within inside_bounds
value_nearest m w up down bits p a =
    go (leb w (2 ^ 53)) (leb down (up + 22)) (leb up (down + 22)) refl refl refl (rw (ne_eqb w 0 (λ e. omega arith)) at a)
  where
    go : (x y z : Bool) → x ≡ leb w (2 ^ 53) → y ≡ leb down (up + 22) → z ≡ leb up (down + 22)
        → nearest_within (x && (y && z)) m w up down ≡ got bits → Double m w up down bits
    go true true true ex ey ez q =
        let b : signed m (bits_of w up down) ≡ bits = cc in
        rw b at (bits-double w up down p (leb-true w (2 ^ 53) (sym ex)) (leb-true down (up + 22) (sym ey)) (leb-true up (down + 22) (sym ez)) m)
    go true true false ex ey ez q = never q
    go true false z ex ey ez q = never q
    go false y z ex ey ez q = never q

literal-value : (s : List ℕ) (bits : ℕ) → float_literal s ≡ got bits → signed_value (minus s) (number_written (behind_sign s)) ≡ got bits
unfolding float_literal
literal-value s bits a = go (is_word (behind_sign s)) a
  where
    go : (x : Bool) → cond x (refused FloatOutside 0) (signed_value (minus s) (number_written (behind_sign s))) ≡ got bits
        → signed_value (minus s) (number_written (behind_sign s)) ≡ got bits
    go true q = never q
    go false q = q

-- every literal that is accepted with w above 0 is its nearest double, with its sign
pub literal_nearest : (s : List ℕ) (w up down bits : ℕ) → number_written (behind_sign s) ≡ number w up down → 0 < w
    → float_literal s ≡ got bits → Double (minus s) w up down bits
literal_nearest s w up down bits n p a = value_nearest (minus s) w up down bits p (rw n at (literal-value s bits a))
