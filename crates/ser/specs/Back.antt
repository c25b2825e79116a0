-- Fixed widths are read back: the reader's numbers (crate `input`) of the bytes that are written.
use Rattle.std.specs.Prelude.{ℕ, suc, zero, ◌^◌, ◌/◌, ◌%◌, ◌<◌, List, [], ◌∷◌, reverse, ◌≡◌, refl}
use Rattle.std.proofs.lemmas.List.{reverse-append}
use Rattle.std.proofs.Common.{◌∙◌, ap, pow-suc, arith}
use Rattle.input.specs.Bytes.{low_first, high_first}
use Rattle.ser.specs.Image.{low, high}

pub low_back : (k n : ℕ) → n < 256 ^ k → low_first (low k n) ≡ n
unfolding low_first low
low_back zero n h = omega arith
low_back (suc k) n h = rw (low_back k (n / 256) (omega (arith, pow-suc 256 k))) (omega arith)

high_low : (k n : ℕ) → reverse (high k n) ≡ low k n
unfolding high low
high_low zero n = refl
high_low (suc k) n = reverse-append (high k (n / 256)) (n % 256 ∷ []) ∙ ap (λ (s : List ℕ). n % 256 ∷ s) (high_low k (n / 256))

pub high_back : (k n : ℕ) → n < 256 ^ k → high_first (high k n) ≡ n
unfolding high_first
high_back k n h = ap low_first (high_low k n) ∙ low_back k n h
