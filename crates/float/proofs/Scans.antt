-- The laws of the scans, over plain lists and numbers. Assumes nothing.
use Prim.Native.Nat.{ℕ, zero, suc, ◌+◌, ◌-◌, ◌*◌, ◌^◌, ◌≤◌, ◌<◌, min}
use Rattle.std.specs.Prelude.{Some, None}
use mathlib.Core.Path.{◌≡◌, refl, sym, ap, ◌∙◌, subst}
use mathlib.Core.Logic.{◌⊎◌, inl, inr}
use mathlib.Core.Bool.{Bool, true, false, cond, ◌&&◌}
use mathlib.Core.List.{List, [], ◌∷◌, ◌++◌, map, append-nil}
use native.Mathlib.Nat.{add-mul, mul_assoc, mul_comm, mul-one, add-zero, add_assoc, zero-mul, zero-add, pow-suc, min-eq_left, min-eq_right, min-le_right, mul-le-mul_left, le_of_eq, le_of_lt, lt_of_not-le}
use native.Mathlib.Numerals.{add-one}
use native.Mathlib.Omega.{arith}
use native.Mathlib.Decide.{dec_le}
use borrow.Author.Tests.{lt-ltb, eq-eqb, ne_eqb}
use lib.Dec.{T, leb, ltb, eqb, leb→le}
use lib.Ieee.Fits.{and_l, and_r}
use lib.Pow.{pow-add}
use lib.ListN.{length, get_or, take, drop, length-append, length-drop}
use lib.Seq.{drop-cons, take_all, drop-drop, get_or-drop}
use Rattle.number.specs.Number.{decimal}
use Rattle.float.specs.Digits.{digit, lead, past, lead-length, drop-lead}
use Rattle.number.specs.Space.{same}
use Rattle.number.specs.Trims.{same_is}
use Rattle.std.specs.Prelude.{IsTrue, ◌↔◌}
use Rattle.std.specs.Char.{to_ascii_lowercase}
use Rattle.std.proofs.lemmas.Bool.{false≢true}
use Rattle.std.proofs.lemmas.Bool.Decides.{nat_tests}
use Rattle.float.specs.Form.{minus, behind_sign, fraction, beyond, mantissa_digits, small, inf, infinity, nan, is_word, unformed, signed_power, power, exponent}
use Rattle.float.specs.Nearest.{ten_pos}
use Rattle.float.specs.Scan.{cap, read_on, run_of, Scanned, capped}
use Rattle.float.specs.declared.DigitRun.{DigitRun}
use Rattle.float.specs.declared.Power.TheVariants.{Up, Down}

-- ---- lists

pub empty_is : (s : List ℕ) → length s ≤ 0 → s ≡ []
empty_is [] h = refl
empty_is (b ∷ s) h = absurd (omega arith)

-- what a part up to the end is
pub part_is : (s : List ℕ) (k : ℕ) → take (length s - k) (drop k s) ≡ drop k s
part_is s k = take_all (length s - k) (drop k s) (le_of_eq (length-drop k s))

-- what is left from a place on, by its first byte
module _ (s : List ℕ) (k : ℕ) where
  pub left_first : get_or (take (length s - k) (drop k s)) 0 0 ≡ get_or s k 0
  left_first = rw (part_is s k, get_or-drop k s 0 0, add-zero)

  pub left_rest : take (length (take (length s - k) (drop k s)) - 1) (drop 1 (take (length s - k) (drop k s))) ≡ drop (k + 1) s
  left_rest = rw (part_is s k, part_is (drop k s) 1) (drop-drop 1 k s)

-- ---- the sign

pub minus-first : (s : List ℕ) → 0 < length s → eqb (get_or s 0 0) 0x2D ≡ minus s
unfolding minus
minus-first [] h = absurd (omega arith)
minus-first (b ∷ s) h = refl

pub minus-none : (s : List ℕ) → length s ≤ 0 → false ≡ minus s
unfolding minus
minus-none s h = rw (empty_is s h)

pub sign_empty : (s : List ℕ) → length s ≤ 0 → s ≡ behind_sign s
unfolding behind_sign
sign_empty s h = rw (empty_is s h)

module _ (s : List ℕ) (h : 0 < length s) where
  pub sign_off : (get_or s 0 0 ≡ 0x2B) ⊎ (get_or s 0 0 ≡ 0x2D) → take (length s - 1) (drop 1 s) ≡ behind_sign s
  unfolding behind_sign
  sign_off k = part_is s 1 ∙ go s h k
    where
      go : (t : List ℕ) → 0 < length t → (get_or t 0 0 ≡ 0x2B) ⊎ (get_or t 0 0 ≡ 0x2D) → drop 1 t ≡ behind_sign t
      go [] l e = absurd (omega arith)
      go (b ∷ t) l (inl e) = rw e
      go (b ∷ t) l (inr e) = rw e

  pub sign_none : ((get_or s 0 0 ≡ 0x2B) ⊎ (get_or s 0 0 ≡ 0x2D) → ⊥) → s ≡ behind_sign s
  unfolding behind_sign
  sign_none k = go s k
    where
      go : (t : List ℕ) → ((get_or t 0 0 ≡ 0x2B) ⊎ (get_or t 0 0 ≡ 0x2D) → ⊥) → t ≡ behind_sign t
      go [] n = refl
      go (b ∷ t) n = rw (ne_eqb b 0x2B (λ e. n (inl e)), ne_eqb b 0x2D (λ e. n (inr e)))

-- ---- a number that stops at the cap

pub digit_low : (b : ℕ) → digit b ≡ true → 0x30 ≤ b
unfolding digit
digit_low b e = leb→le 0x30 b (and_l (leb 0x30 b) (leb b 0x39) (subst T (sym e) tt))

pub digit-high : (b : ℕ) → digit b ≡ true → b ≤ 0x39
unfolding digit
digit-high b e = leb→le b 0x39 (and_r (leb 0x30 b) (leb b 0x39) (subst T (sym e) tt))

cap_on : (x c t r : ℕ) → 0 < t → min (min x c * t + r) c ≡ min (x * t + r) c
cap_on x c t r h = go (dec_le x c)
  where
    over : (y : ℕ) → c ≤ y → min (y * t + r) c ≡ c
    over y k =
        let g : y * 1 ≤ y * t = mul-le-mul_left y h in
        let o : y * 1 ≡ y = mul-one y in
        let l : c ≤ y * t + r = omega arith in
        min-eq_right l

    go : Dec (x ≤ c) → min (min x c * t + r) c ≡ min (x * t + r) c
    go (yes l) = rw (min-eq_left l)
    go (no n) =
        let l : c ≤ x = le_of_lt (lt_of_not-le n) in
        rw (min-eq_right l) (over c (omega arith) ∙ sym (over x l))

decimal-append : (a b : List ℕ) → decimal (a ++ b) ≡ decimal a * 10 ^ length b + decimal b
unfolding decimal
decimal-append [] b = rw (zero-mul, zero-add)
decimal-append (d ∷ a) b =
    rw (decimal-append a b, length-append a b, pow-add 10 (length a) (length b), add-mul)
    (ap (λ (z : ℕ). z + (decimal a * 10 ^ length b + decimal b)) (sym (mul_assoc (d - 0x30) (10 ^ length a) (10 ^ length b)))
    ∙ sym (add_assoc ((d - 0x30) * 10 ^ length a * 10 ^ length b) (decimal a * 10 ^ length b) (decimal b)))

-- ---- a run of digits, with k of them behind

abbrev pub onward : ℕ → ℕ → List ℕ → DigitRun
onward v k s = record { value = read_on v s; count = k + length (lead s) }

read-capped : (x : ℕ) (t : List ℕ) → read_on (min x cap) t ≡ min (x * 10 ^ length (lead t) + decimal (lead t)) cap
unfolding read_on
read-capped x t = cap_on x cap (10 ^ length (lead t)) (decimal (lead t)) (ten_pos (length (lead t)))

read-digit : (v b : ℕ) (t : List ℕ) → digit b ≡ true → read_on (min (v * 10 + (b - 0x30)) cap) t ≡ read_on v (b ∷ t)
unfolding read_on lead decimal
read-digit v b t e =
    let n = length (lead t) in
    rw e
    (read-capped (v * 10 + (b - 0x30)) t
    ∙ ap (λ (z : ℕ). min z cap)
    (rw (add-mul, mul_assoc v 10 (10 ^ n), add_assoc) (ap (λ (z : ℕ). v * z + ((b - 0x30) * 10 ^ n + decimal (lead t))) (mul_comm 10 (10 ^ n) ∙ sym (pow-suc 10 n)))))

count-digit : (k b : ℕ) (t : List ℕ) → digit b ≡ true → suc k + length (lead t) ≡ k + length (lead (b ∷ t))
unfolding lead
count-digit k b t e = rw e (omega arith)

pub run_start : (v : ℕ) (s : List ℕ) → onward v 0 s ≡ run_of v s
unfolding run_of
run_start v s = rw (zero-add (length (lead s)))

pub run_more : (s : List ℕ) (at v : ℕ) → at < length s → digit (get_or s at 0) ≡ true
    → onward (min (v * 10 + (get_or s at 0 - 0x30)) cap) (at + 1) (drop (at + 1) s) ≡ onward v at (drop at s)
run_more s at v h e =
    let b = get_or s at 0 in
    let t = drop (suc at) s in
    rw (add-one at, drop-cons s at 0 h, read-digit v b t e, count-digit at b t e)

pub run_end : (v at : ℕ) (s : List ℕ) → v ≤ cap → lead s ≡ [] → record { value = v; count = at } ≡ onward v at s
unfolding read_on decimal
run_end v at s h e = rw (e, mul-one, add-zero, add-zero, min-eq_left h)

module _ (v : ℕ) (s : List ℕ) (r : DigitRun) (e : r ≡ run_of v s) where
  pub run_count : r.count ≡ length (lead s)
  unfolding run_of
  run_count = ap (λ (x : DigitRun). x.count) e

  pub run_value : r.value ≡ read_on v s
  unfolding run_of
  run_value = ap (λ (x : DigitRun). x.value) e

pub lead-none : (s : List ℕ) (at : ℕ) → (at < length s → digit (get_or s at 0) ≡ false) → lead (drop at s) ≡ []
unfolding lead
lead-none [] zero h = refl
lead-none [] (suc at) h = refl
lead-none (b ∷ s) zero h = rw (h (omega arith))
lead-none (b ∷ s) (suc at) h = lead-none s at (λ l. h (omega arith))

-- ---- a word

same_itself : (s : List ℕ) → same s s ≡ true
unfolding same
same_itself [] = refl
same_itself (b ∷ s) = rw (eq-eqb b b refl) (same_itself s)

lower_is : (b : ℕ) → to_ascii_lowercase b ≡ small b
unfolding small
lower_is b = grind (arith, nat_tests)

small-all : (s : List ℕ) → map to_ascii_lowercase s ≡ map small s
small-all [] = refl
small-all (b ∷ s) = let e = lower_is b in let t = small-all s in cc

-- what a comparison without letter case says
pub word_told : (s t : List ℕ) (r : Bool) → IsTrue r ↔ (map to_ascii_lowercase s ≡ t) → same (map small s) t ≡ r
word_told s t true h = rw (sym (small-all s) ∙ h.0 refl) (same_itself t)
word_told s t false h = go (same (map small s) t) refl
  where
    go : (x : Bool) → same (map small s) t ≡ x → x ≡ false
    go true e = absurd (false≢true (h.1 (small-all s ∙ same_is (map small s) t e)))
    go false e = refl

module _ (s : List ℕ) where
  pub word_inf : same (map small s) inf ≡ true → true ≡ is_word s
  unfolding is_word
  word_inf e = rw e

  pub word-infinity : same (map small s) inf ≡ false → same (map small s) infinity ≡ true → true ≡ is_word s
  unfolding is_word
  word-infinity e f = rw (e, f)

  pub word_nan : {r : Bool} → same (map small s) inf ≡ false → same (map small s) infinity ≡ false → same (map small s) nan ≡ r → r ≡ is_word s
  unfolding is_word
  word_nan e f g = rw (e, f, g)

-- ---- digits and a point

read_none : (s : List ℕ) → read_on 0 s ≡ min (decimal (lead s)) cap
unfolding read_on
read_none s = rw (zero-mul, zero-add)

pub read_cap : (v : ℕ) (s : List ℕ) → read_on v s ≤ cap
unfolding read_on
read_cap v s = min-le_right (v * 10 ^ length (lead s) + decimal (lead s)) cap

read-both : (s t : List ℕ) → read_on (read_on 0 s) t ≡ min (decimal (lead s ++ lead t)) cap
read-both s t = rw (read_none s, decimal-append (lead s) (lead t)) (read-capped (decimal (lead s)) t)

pub scanned_point : (s t : List ℕ) (at v n u : ℕ) → at ≡ length (lead s) → v ≡ read_on 0 s → at < length s → get_or s at 0 ≡ 0x2E
    → t ≡ drop (at + 1) s → n ≡ length (lead t) → u ≡ read_on v t
    → Scanned s (record { w = u; count = at + n; shift = n; end = at + 1 + n })
unfolding fraction beyond mantissa_digits
scanned_point s t at v n u ea ev h e ed en eu =
    let p : past s ≡ 0x2E ∷ t = sym (drop-lead s) ∙ rw (← ea, drop-cons s at 0 h, e, ed, add-one at) in
    let d : length t ≡ length s - (at + 1) = rw (ed, length-drop (at + 1) s) in
    let l = lead-length t in
    record {
      whole = rw p (eu ∙ rw ev (read-both s t));
      all = rw (p, length-append (lead s) (lead t)) (omega arith);
      after = rw p en;
      room = omega arith;
      rest = rw p (sym (drop-drop n (at + 1) s) ∙ rw (← ed, en) (drop-lead t));
    }

no_point : (p : List ℕ) → (0 < length p → get_or p 0 0 ≡ 0x2E → ⊥) → (fraction p ≡ []) × (beyond p ≡ p)
unfolding fraction beyond
no_point [] h = (refl, refl)
no_point (b ∷ p) h = (rw (ne_eqb b 0x2E (h (omega arith))), rw (ne_eqb b 0x2E (h (omega arith))))

pub scanned_plain : (s : List ℕ) (at v : ℕ) → at ≡ length (lead s) → v ≡ read_on 0 s → (at < length s → get_or s at 0 ≡ 0x2E → ⊥)
    → Scanned s (record { w = v; count = at; shift = 0; end = at })
unfolding mantissa_digits
scanned_plain s at v ea ev h =
    let l = lead-length s in
    let g : get_or (past s) 0 0 ≡ get_or s at 0 = rw (← drop-lead s, get_or-drop (length (lead s)) s 0 0, add-zero, ea) in
    let n = no_point (past s) (λ k e. h (omega arith) (sym g ∙ e)) in
    record {
      whole = rw (n.0, append-nil) (ev ∙ read_none s);
      all = rw (n.0, append-nil) ea;
      after = rw n.0;
      room = omega arith;
      rest = rw (n.1, ea) (drop-lead s);
    }

-- ---- the exponent

module _ (m : Bool) (s : List ℕ) where
  pub power-none : length (lead s) ≡ 0 → None ≡ capped (power m s)
  unfolding power capped
  power-none h = rw h

  pub power_more : length (lead s) < length s → None ≡ capped (power m s)
  unfolding power capped
  power_more h =
      let l = lead-length s in
      rw (ne_eqb (length (past s)) 0 (λ e. omega arith)) (go (ltb 0 (length (lead s))))
    where
      go : (x : Bool) → None ≡ capped (cond (x && false) (signed_power m (decimal (lead s))) unformed)
      go true = refl
      go false = refl

  pub power-whole : (length (lead s) ≡ 0 → ⊥) → length s ≤ length (lead s) → power m s ≡ signed_power m (decimal (lead s))
  unfolding power
  power-whole n h =
      let l = lead-length s in
      rw (lt-ltb 0 (length (lead s)) (omega arith), eq-eqb (length (past s)) 0 (omega arith))

pub power-read : (m : Bool) (s : List ℕ) (r : DigitRun) → r ≡ run_of 0 s → (r.count ≡ 0 → ⊥) → length s ≤ r.count
    → cond m (Some (Down r.value)) (Some (Up r.value)) ≡ capped (power m s)
unfolding capped signed_power
power-read m s r e n h =
    let c = run_count 0 s r e in
    rw (power-whole m s (λ z. n (c ∙ z)) (omega arith)) (go m)
  where
    go : (x : Bool) → cond x (Some (Down r.value)) (Some (Up r.value)) ≡ capped (signed_power x (decimal (lead s)))
    go true = ap (λ (n : ℕ). Some (Down n)) (run_value 0 s r e ∙ read_none s)
    go false = ap (λ (n : ℕ). Some (Up n)) (run_value 0 s r e ∙ read_none s)

pub exponent_empty : (s : List ℕ) → length s ≤ 0 → Some (Up 0) ≡ capped (exponent s)
unfolding exponent capped
exponent_empty s h = rw (empty_is s h)

module _ (s : List ℕ) (h : 0 < length s) where
  pub exponent-read : (u : List ℕ) (m : Bool) → (get_or s 0 0 ≡ 0x45) ⊎ (get_or s 0 0 ≡ 0x65)
      → m ≡ minus (take (length s - 1) (drop 1 s)) → u ≡ behind_sign (take (length s - 1) (drop 1 s))
      → capped (power m u) ≡ capped (exponent s)
  unfolding exponent
  exponent-read u m k n f = rw (n, f, part_is s 1) (go s h k)
    where
      go : (t : List ℕ) → 0 < length t → (get_or t 0 0 ≡ 0x45) ⊎ (get_or t 0 0 ≡ 0x65)
          → capped (power (minus (drop 1 t)) (behind_sign (drop 1 t))) ≡ capped (exponent t)
      go [] l e = absurd (omega arith)
      go (b ∷ t) l (inl e) = rw e
      go (b ∷ t) l (inr e) = rw e

  pub exponent-none : ((get_or s 0 0 ≡ 0x45) ⊎ (get_or s 0 0 ≡ 0x65) → ⊥) → None ≡ capped (exponent s)
  unfolding exponent capped
  exponent-none k = go s h k
    where
      go : (t : List ℕ) → 0 < length t → ((get_or t 0 0 ≡ 0x45) ⊎ (get_or t 0 0 ≡ 0x65) → ⊥) → None ≡ capped (exponent t)
      go [] l n = absurd (omega arith)
      go (b ∷ t) l n = rw (ne_eqb b 0x65 (λ e. n (inr e)), ne_eqb b 0x45 (λ e. n (inl e)))
