-- The laws of a number's value: its cases, and that the caps of the scans do not show in it. Assumes nothing.
use Prim.Native.Nat.{ℕ, suc, ◌+◌, ◌-◌, ◌^◌, ◌≤◌, ◌<◌, min}
use Rattle.std.specs.Prelude.{Option, Some, None}
use mathlib.Core.Path.{◌≡◌, refl, sym, ap, ◌∙◌}
use mathlib.Core.Logic.{◌⊎◌, inl, inr}
use mathlib.Core.Bool.{Bool, true, false, cond, ◌&&◌}
use mathlib.Core.List.{List, [], ◌∷◌}
use native.Mathlib.Nat.{min-eq_left, min-eq_right, le_of_lt, lt_of_not-le, eq-zero-or-pos}
use native.Mathlib.Omega.{arith}
use native.Mathlib.Decide.{dec_le}
use borrow.Author.Tests.{lt-ltb, le-leb, lt-leb, eq-eqb, ne_eqb}
use lib.Dec.{leb, eqb}
use lib.ListN.{length, take, drop}
use Rattle.refusal.specs.Read.{got, refused}
use Rattle.refusal.specs.declared.Refusal.TheVariants.{InvalidLiteral, FloatOutside}
use Rattle.number.specs.Number.{decimal}
use Rattle.float.specs.Digits.{lead, past, lead-length}
use Rattle.float.specs.Form.{minus, behind_sign, is_word, fraction, beyond, mantissa_digits, Exponent, raised, lowered, unformed, exponent, number, scaled, number_written}
use Rattle.float.specs.Scan.{cap, capped, Scanned}
use Rattle.float.specs.Literal.{signed, inside_bounds, bits_of, nearest_within, valued, signed_value, float_literal, bits_below}
use Rattle.float.specs.declared.Mantissa.{Mantissa}
use Rattle.float.specs.declared.Power.{Power}
use Rattle.float.specs.declared.Power.TheVariants.{Up, Down}
use Rattle.float.proofs.Scans.{part_is}

-- past a bound of RULES A7.5
abbrev pub Out : ℕ → ℕ → ℕ → Type 0
Out w up down = (2 ^ 53 < w) ⊎ ((up + 22 < down) ⊎ (down + 22 < up))

out_inside : (w up down : ℕ) → Out w up down → inside_bounds w up down ≡ false
unfolding inside_bounds
out_inside w up down (inl h) = rw (lt-leb w (2 ^ 53) h)
out_inside w up down (inr (inl h)) = rw (lt-leb down (up + 22) h) (go (leb w (2 ^ 53)))
  where
    go : (x : Bool) → (x && false) ≡ false
    go true = refl
    go false = refl
out_inside w up down (inr (inr h)) = rw (lt-leb up (down + 22) h) (go (leb w (2 ^ 53)) (leb down (up + 22)))
  where
    go : (x y : Bool) → (x && (y && false)) ≡ false
    go true true = refl
    go true false = refl
    go false y = refl

module _ (m : Bool) (w up down : ℕ) where
  pub value_zero : w ≡ 0 → signed_value m (number w up down) ≡ got (signed m 0)
  unfolding signed_value valued
  value_zero e = rw (eq-eqb w 0 e)

  pub value_out : 0 < w → Out w up down → signed_value m (number w up down) ≡ refused FloatOutside 0
  unfolding signed_value valued nearest_within
  value_out p o = rw (ne_eqb w 0 (λ e. omega arith), out_inside w up down o)

  pub value_in : 0 < w → w ≤ 2 ^ 53 → down ≤ up + 22 → up ≤ down + 22 → signed_value m (number w up down) ≡ got (signed m (bits_of w up down))
  unfolding signed_value valued nearest_within inside_bounds
  value_in p h l u = rw (ne_eqb w 0 (λ e. omega arith), le-leb w (2 ^ 53) h, le-leb down (up + 22) l, le-leb up (down + 22) u)

-- the bits of a product or a quotient
module _ (m : Bool) (w up down b : ℕ) (p : 0 < w) (h : w ≤ 2 ^ 53) (l : down ≤ up + 22) (u : up ≤ down + 22) (e : b ≡ bits_of w up down) where
  pub settled_is : got (signed m b) ≡ signed_value m (number w up down)
  settled_is = rw (value_in m w up down p h l u, e)

  pub settled-below : b < 2 ^ 63
  settled-below = rw e (bits_below w up down p h l u)

-- two numbers of one w that are both out
both_out : (m : Bool) (w up down up' down' : ℕ) → Out w up down → Out w up' down'
    → signed_value m (number w up down) ≡ signed_value m (number w up' down')
both_out m w up down up' down' o o' = go (eq-zero-or-pos w)
  where
    go : (w ≡ 0) ⊎ (0 < w) → signed_value m (number w up down) ≡ signed_value m (number w up' down')
    go (inl e) = value_zero m w up down e ∙ sym (value_zero m w up' down' e)
    go (inr p) = value_out m w up down p o ∙ sym (value_out m w up' down' p o')

-- ---- caps

cap_w : (m : Bool) (w up down : ℕ) → signed_value m (number (min w cap) up down) ≡ signed_value m (number w up down)
cap_w m w up down = go (dec_le w cap)
  where
    go : Dec (w ≤ cap) → signed_value m (number (min w cap) up down) ≡ signed_value m (number w up down)
    go (yes h) = rw (min-eq_left h)
    go (no n) =
        let h : cap < w = lt_of_not-le n in
        rw (min-eq_right (le_of_lt h)) (value_out m cap up down (omega arith) (inl (omega arith)) ∙ sym (value_out m w up down (omega arith) (inl (omega arith))))

cap_up : (m : Bool) (w up down : ℕ) → down + 22 < cap → signed_value m (number w (min up cap) down) ≡ signed_value m (number w up down)
cap_up m w up down h = go (dec_le up cap)
  where
    go : Dec (up ≤ cap) → signed_value m (number w (min up cap) down) ≡ signed_value m (number w up down)
    go (yes l) = rw (min-eq_left l)
    go (no n) =
        let l : cap < up = lt_of_not-le n in
        rw (min-eq_right (le_of_lt l)) (both_out m w cap down up down (inr (inr h)) (inr (inr (omega arith))))

-- what a capped number that is at most 22 stands for, and one that is more
near : (n k : ℕ) → n ≡ min k cap → n ≤ 22 → n ≡ k
near n k e h = go (dec_le k cap)
  where
    go : Dec (k ≤ cap) → n ≡ k
    go (yes l) = e ∙ min-eq_left l
    go (no o) = let z : n ≡ cap = e ∙ min-eq_right (le_of_lt (lt_of_not-le o)) in absurd (omega arith)

far : (n k : ℕ) → n ≡ min k cap → 22 < n → 22 < k
far n k e h = go (dec_le k cap)
  where
    go : Dec (k ≤ cap) → 22 < k
    go (yes l) = let z : n ≡ k = e ∙ min-eq_left l in omega arith
    go (no o) = let l : cap < k = lt_of_not-le o in omega arith

-- ---- the exponent that was read, as the code has it

module _ (m : Bool) (w shift : ℕ) where
  pub scaled_up : (x : Exponent) (n : ℕ) → Some (Up n) ≡ capped x → shift + 22 < cap
      → signed_value m (number (min w cap) n shift) ≡ signed_value m (scaled w shift x)
  unfolding capped scaled
  scaled_up (raised k) n e h =
      let z : n ≡ min k cap = cc in
      rw z (cap_w m w (min k cap) shift ∙ cap_up m w k shift h)
  scaled_up (lowered k) n e h = let z : ◌≡◌ {A = ℕ} 0 1 = cc in absurd (omega arith)
  scaled_up unformed n e h = let z : ◌≡◌ {A = ℕ} 0 1 = cc in absurd (omega arith)

  pub scaled_far : (x : Exponent) (n : ℕ) → Some (Down n) ≡ capped x → 22 < n → signed_value m (number (min w cap) 0 n) ≡ signed_value m (scaled w shift x)
  unfolding capped scaled
  scaled_far (raised k) n e h = let z : ◌≡◌ {A = ℕ} 0 1 = cc in absurd (omega arith)
  scaled_far (lowered k) n e h =
      let z : n ≡ min k cap = cc in
      let g = far n k z h in
      cap_w m w 0 n ∙ both_out m w 0 n 0 (k + shift) (inr (inl (omega arith))) (inr (inl (omega arith)))
  scaled_far unformed n e h = let z : ◌≡◌ {A = ℕ} 0 1 = cc in absurd (omega arith)

  pub scaled_near : (x : Exponent) (n : ℕ) → Some (Down n) ≡ capped x → n ≤ 22
      → signed_value m (number (min w cap) 0 (n + shift)) ≡ signed_value m (scaled w shift x)
  unfolding capped scaled
  scaled_near (raised k) n e h = let z : ◌≡◌ {A = ℕ} 0 1 = cc in absurd (omega arith)
  scaled_near (lowered k) n e h =
      let z : n ≡ min k cap = cc in
      rw (near n k z h) (cap_w m w 0 (k + shift))
  scaled_near unformed n e h = let z : ◌≡◌ {A = ℕ} 0 1 = cc in absurd (omega arith)

  pub scaled_unformed : (x : Exponent) → None ≡ capped x → refused InvalidLiteral 0 ≡ signed_value m (scaled w shift x)
  unfolding capped scaled signed_value
  scaled_unformed (raised k) e = let z : ◌≡◌ {A = ℕ} 0 1 = cc in absurd (omega arith)
  scaled_unformed (lowered k) e = let z : ◌≡◌ {A = ℕ} 0 1 = cc in absurd (omega arith)
  scaled_unformed unformed e = refl

-- ---- the whole text

pub written_none : (m : Bool) (s : List ℕ) → length (mantissa_digits s) ≡ 0 → refused InvalidLiteral 0 ≡ signed_value m (number_written s)
unfolding number_written signed_value
written_none m s e = rw e

pub written-some : (s : List ℕ) → (length (mantissa_digits s) ≡ 0 → ⊥)
    → number_written s ≡ scaled (decimal (mantissa_digits s)) (length (fraction (past s))) (exponent (beyond (past s)))
unfolding number_written
written-some s n = rw (lt-ltb 0 (length (mantissa_digits s)) (omega arith))

fraction-short : (p : List ℕ) → length (fraction p) ≤ length p
unfolding fraction
fraction-short [] = omega arith
fraction-short (b ∷ p) = go (eqb b 0x2E) (lead-length p)
  where
    go : (x : Bool) → length (lead p) + length (past p) ≡ length p → length (cond x (lead p) []) ≤ suc (length p)
    go true l = omega arith
    go false l = omega arith

pub shift_short : (s : List ℕ) → length (fraction (past s)) ≤ length s
shift_short s =
    let f = fraction-short (past s) in
    let l = lead-length s in
    omega arith

module _ (m : Bool) (s : List ℕ) (r : Mantissa) (p : Option Power) (k : Scanned s r) (n : r.count ≡ 0 → ⊥) (e : p ≡ capped (exponent (take (length s - r.end) (drop r.end s)))) where
  exponent_is : p ≡ capped (exponent (beyond (past s)))
  exponent_is = e ∙ ap (λ (t : List ℕ). capped (exponent t)) (part_is s r.end ∙ k.rest)

  written_is : number_written s ≡ scaled (decimal (mantissa_digits s)) r.shift (exponent (beyond (past s)))
  written_is = written-some s (λ z. n (k.all ∙ z)) ∙ rw k.after

  pub number_up : (u : ℕ) → p ≡ Some (Up u) → r.shift + 22 < cap → signed_value m (number r.w u r.shift) ≡ signed_value m (number_written s)
  number_up u q h = rw (written_is, k.whole) (scaled_up m (decimal (mantissa_digits s)) r.shift (exponent (beyond (past s))) u (sym q ∙ exponent_is) h)

  pub number_far : (d : ℕ) → p ≡ Some (Down d) → 22 < d → signed_value m (number r.w 0 d) ≡ signed_value m (number_written s)
  number_far d q h = rw (written_is, k.whole) (scaled_far m (decimal (mantissa_digits s)) r.shift (exponent (beyond (past s))) d (sym q ∙ exponent_is) h)

  pub number_near : (d : ℕ) → p ≡ Some (Down d) → d ≤ 22 → signed_value m (number r.w 0 (d + r.shift)) ≡ signed_value m (number_written s)
  number_near d q h = rw (written_is, k.whole) (scaled_near m (decimal (mantissa_digits s)) r.shift (exponent (beyond (past s))) d (sym q ∙ exponent_is) h)

  pub number_unformed : p ≡ None → refused InvalidLiteral 0 ≡ signed_value m (number_written s)
  number_unformed q = rw written_is (scaled_unformed m (decimal (mantissa_digits s)) r.shift (exponent (beyond (past s))) (sym q ∙ exponent_is))

pub shift_room : (s : List ℕ) (r : Mantissa) → Scanned s r → r.shift ≤ length s
shift_room s r k = rw k.after (shift_short s)

pub float_named : (s u : List ℕ) → u ≡ behind_sign s → is_word u ≡ true → refused FloatOutside 0 ≡ float_literal s
unfolding float_literal
float_named s u e w = rw (← e, w)

pub float_number : (s u : List ℕ) (m : Bool) → u ≡ behind_sign s → is_word u ≡ false → m ≡ minus s → signed_value m (number_written u) ≡ float_literal s
unfolding float_literal
float_number s u m e w n = rw (← e, w, n)
