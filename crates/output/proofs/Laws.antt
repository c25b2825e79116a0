-- One law for each turn and each end of the code's loops, on plain values. Assumes nothing.
use Prim.Native.Nat.{ℕ, suc, zero, ◌+◌, ◌-◌, ◌*◌, ◌^◌, ◌/◌, ◌%◌, ◌≤◌, ◌<◌}
use mathlib.Core.List.{List, [], ◌∷◌, ◌++◌, append_assoc}
use mathlib.Core.Path.{◌≡◌, refl, sym, ◌∙◌, ap}
use Rattle.std.specs.Prelude.{Option, Some, None, IfSome, IfNone}
use Rattle.std.specs.Option.{unwrap_or}
use Rattle.std.proofs.Math.Nat.{pow-suc, one-le-pow}
use native.Mathlib.Omega.{arith}
use lib.ListN.{length, set, take, drop}
use lib.Seq.{sets, sets-eq, drop-drop}
use borrow.Author.Tests.{lt-ltb, le-ltb}
use Rattle.output.specs.Decimal.{figure, figures, decimal_text, signed_text, no_zeros, figures-length, length_one, length_more, below_more, places}
use Rattle.output.specs.Put.{Put, Room, sets_last}

-- ---- put_run: what is copied to the front of a part, in the part's place

pub run_put : (o b p : List ℕ) (at : ℕ) → Room o at b → p ≡ b → Put o at b (take at o ++ (p ++ drop (at + length b - at) (drop at o))) (at + length b)
run_put o b p at r whole =
    let n = length b in
    let k : at + n - at ≡ n = omega arith in
    record { wrote = rw (whole, k, drop-drop n at o) (sym (sets-eq b o at r.fits ∙ append_assoc (take at o) b (drop (at + n) o))); ends = refl }

-- ---- put_figures: the last digit is stored first

last-first : (o : List ℕ) (at base left rest : ℕ) → 0 < left → sets (set o (at + (left - 1)) (figure (rest % base))) at (figures base (left - 1) (rest / base)) ≡ sets o at (figures base left rest)
unfolding figures
last-first o at base zero rest h = absurd (omega arith)
last-first o at base (suc k) rest h =
    let e : suc k - 1 ≡ k = omega arith in
    let x = figures base k (rest / base) in
    rw e (rw (figures-length base k (rest / base)) at (sets_last x o at (figure (rest % base))))

pub figures_turn : (o o' : List ℕ) (at base left rest d : ℕ) → 0 < left → d ≡ figure (rest % base) → o' ≡ set o (at + (left - 1)) d → sets o' at (figures base (left - 1) (rest / base)) ≡ sets o at (figures base left rest)
figures_turn o o' at base left rest d h e w = rw (w, e) (last-first o at base left rest h)

-- ---- digits: a number's greatest power of ten says how many

length_by : (k j n : ℕ) → (0 < k → 10 ^ k ≤ n) → n < 10 * 10 ^ k → n < 10 ^ j → 0 < j → length (no_zeros (figures 10 j n)) ≡ k + 1
length_by zero j n low high fits some = length_one n j some (omega arith)
length_by (suc k) j n low high fits some =
    let p = pow-suc 10 k in
    let l : 10 * 10 ^ k ≤ n = omega (arith, low (omega arith)) in
    let q : 1 ≤ 10 ^ k = one-le-pow k 10 (omega arith) in
    let h : 10 ≤ n = omega arith in
    length_more n j h fits ∙ ap (λ (x : ℕ). x + 1) (length_by k (j - 1) (n / 10) (λ z. omega arith) (omega arith) (below_more n j h fits) (omega (arith, places n j h fits))) ∙ omega arith

pub decimal-length : (k n : ℕ) → (0 < k → 10 ^ k ≤ n) → n < 10 * 10 ^ k → n < 2 ^ 64 → k + 1 ≡ length (decimal_text n)
unfolding decimal_text
decimal-length k n low high fits = sym (length_by k 20 n low high (omega arith) (omega arith))

pub counted : (o : Option ℕ) (n : ℕ) → IfNone o (n ≡ 0) → IfSome o (λ k. 10 ^ k ≤ n) → IfSome o (λ k. n < 10 * 10 ^ k) → n < 2 ^ 64 → unwrap_or o 0 + 1 ≡ length (decimal_text n)
counted None n z l h f = decimal-length 0 n (λ q. absurd (omega arith)) (omega arith) f
counted (Some k) n z l h f = decimal-length k n (λ q. l) h f

pub figures-done : (o₀ o : List ℕ) (at base left rest count n : ℕ) → left ≤ 0 → sets o at (figures base left rest) ≡ sets o₀ at (figures base count n) → Put o₀ at (figures base count n) o (at + count)
unfolding figures
figures-done o₀ o at base zero rest count n h e = record { wrote = e; ends = rw (figures-length base count n) }
figures-done o₀ o at base (suc left) rest count n h e = absurd (omega arith)

-- ---- an i64's text

pub signed_low : (b : ℕ) → b < 2 ^ 63 → signed_text b ≡ decimal_text b
unfolding signed_text
signed_low b h = rw (lt-ltb b (2 ^ 63) h)

pub signed_high : (b n : ℕ) → 2 ^ 63 ≤ b → b < 2 ^ 64 → n < 2 ^ 64 → (n + b) % 2 ^ 64 ≡ 0 → signed_text b ≡ (0x2D ∷ []) ++ decimal_text n
unfolding signed_text
signed_high b n h l f e = let m : 2 ^ 64 - b ≡ n = omega arith in rw (le-ltb b (2 ^ 63) h, m)
