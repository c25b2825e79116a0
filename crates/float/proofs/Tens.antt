-- The table of the powers of ten is right, by one test that is computed over all of it; and so the product and the quotient that
-- the code makes are the double that is asked. Assumes nothing.
use Prim.Native.Nat.{ℕ, zero, suc, ◌+◌, ◌*◌, ◌^◌, ◌≤◌, ◌<◌}
use mathlib.Core.Path.{◌≡◌, refl, sym, ap, ◌∙◌, subst}
use mathlib.Core.Bool.{Bool, true, false, not, ◌&&◌}
use mathlib.Core.List.{List, [], ◌∷◌, map}
use native.Mathlib.Nat.{suc-add, add-suc, add-zero, zero-add}
use native.Mathlib.Omega.{arith}
use lib.Dec.{T, eqb, eqb→eq}
use lib.ListN.{length, get_or}
use lib.Ieee.{Float, nan, inf, fin, binary64, round, mul, div, of_int, of_bits, to_bits, is_nan}
use lib.Ieee.Fits.{and_l, and_r}
use lib.Ieee.Positive.{num, den, positive}
use lib.IntN.{pos}
use Rattle.float.specs.Nearest.{Ten, middle_up, middle_down, round_number, product, quotient}
use Rattle.float.specs.Literal.{double}

-- the test f passes at each entry and its place, counted from i
abbrev every : (ℕ → Float → Bool) → ℕ → List Float → Bool
every f i [] = true
every f i (x ∷ xs) = f i x && every f (suc i) xs

every_at : (f : ℕ → Float → Bool) (xs : List Float) (i : ℕ) → T (every f i xs) → (k : ℕ) → k < length xs → T (f (i + k) (get_or xs k nan))
every_at f [] i t k h = absurd (omega arith)
every_at f (x ∷ xs) i t zero h = rw add-zero (and_l (f i x) (every f (suc i) xs) t)
every_at f (x ∷ xs) i t (suc k) h =
    subst (λ (m : ℕ). T (f m (get_or xs k nan))) (suc-add i k ∙ sym (add-suc i k))
    (every_at f xs (suc i) (and_r (f i x) (every f (suc i) xs) t) k (omega arith))

-- x is 10 ^ k
abbrev right : ℕ → Float → Bool
right k x = positive x && eqb (num x * 1) (10 ^ k * den x)

right_ten : (k : ℕ) (x : Float) → T (right k x) → Ten x k
right_ten k nan t = absurd t
right_ten k (inf s) t = absurd t
right_ten k (fin true m e) t = absurd t
right_ten k (fin false m e) t =
    let x = fin false m e in
    record {
      more = and_l (positive x) (eqb (num x * 1) (10 ^ k * den x)) t;
      is = (refl, eqb→eq (num x * 1) (10 ^ k * den x) (and_r (positive x) (eqb (num x * 1) (10 ^ k * den x)) t));
    }

-- TENS, as its bits
abbrev pub tens : List Float
tens = map (of_bits binary64) (4607182418800017408 ∷ 4621819117588971520 ∷ 4636737291354636288 ∷ 4652007308841189376 ∷ 4666723172467343360 ∷ 4681608360884174848 ∷ 4696837146684686336 ∷ 4711630319722168320 ∷ 4726483295884279808 ∷ 4741671816366391296 ∷ 4756540486875873280 ∷ 4771362005757984768 ∷ 4786511204640096256 ∷ 4801453603149578240 ∷ 4816244402031689728 ∷ 4831355200913801216 ∷ 4846369599423283200 ∷ 4861130398305394688 ∷ 4876203697187506176 ∷ 4891288408196988160 ∷ 4906019910204099648 ∷ 4921056587992461136 ∷ 4936209963552724370 ∷ [])

pub ten_at : (e : ℕ) → e ≤ 22 → Ten (get_or tens e nan) e
unfolding of_bits
ten_at e h = right_ten e (get_or tens e nan) (subst (λ (m : ℕ). T (right m (get_or tens e nan))) (zero-add e) (every_at right tens 0 tt e (omega arith)))

module _ (w e : ℕ) (p : 0 < w) (h : w ≤ 2 ^ 53) (k : e ≤ 22) where
  product_is : mul binary64 (of_int binary64 (pos w)) (get_or tens e nan) ≡ round binary64 false (w * 10 ^ e) 1
  product_is = product w e (get_or tens e nan) p h (ten_at e k)

  quotient_is : div binary64 (of_int binary64 (pos w)) (get_or tens e nan) ≡ round binary64 false w (10 ^ e)
  quotient_is = quotient w e (get_or tens e nan) p h (ten_at e k)

  pub product_number : T (not (is_nan (mul binary64 (of_int binary64 (pos w)) (get_or tens e nan))))
  product_number = subst (λ (x : Float). T (not (is_nan x))) (sym product_is) (round_number (w * 10 ^ e) 1 (middle_up w e p h k))

  pub quotient_number : T (not (is_nan (div binary64 (of_int binary64 (pos w)) (get_or tens e nan))))
  quotient_number = subst (λ (x : Float). T (not (is_nan x))) (sym quotient_is) (round_number w (10 ^ e) (middle_down w e p h k))

  pub product_bits : to_bits binary64 (mul binary64 (of_int binary64 (pos w)) (get_or tens e nan)) ≡ double (w * 10 ^ e) 1
  unfolding double
  product_bits = ap (to_bits binary64) product_is

  pub quotient_bits : to_bits binary64 (div binary64 (of_int binary64 (pos w)) (get_or tens e nan)) ≡ double w (10 ^ e)
  unfolding double
  quotient_bits = ap (to_bits binary64) quotient_is
