-- Lengths added up, as numbers without bound; the refusal of a call whose lengths are not those of what it was lent.
use Rattle.std.specs.Prelude.{ℕ, ◌+◌, ◌-◌, ◌<◌, ◌≤◌, Bool, true, false, ◌≡◌, refl, length, get_or, drop}
use mathlib.Core.List.{List, [], ◌∷◌}
use Rattle.std.proofs.Common.{sym, ◌∙◌, drop_of_length-le, drop-cons, eq-eqb, ne_eqb, eqb-true, add-one, arith}
use Rattle.std.proofs.Math.Path.{ap}
use Rattle.std.proofs.Math.Dec.{eqb}
use Rattle.std.proofs.lemmas.Bool.{eqb-false}

-- number and detail of BadLengths (RULES, Ask 1.2)
abbrev pub bad_lengths : ℕ × ℕ
bad_lengths = (23, 0)

unfoldable pub sum : List ℕ → ℕ
sum [] = 0
sum (n ∷ ns) = n + sum ns

-- 2^64 - 1 and 3 do not come to 2
no_wrapping : eqb 2 (sum (18446744073709551615 ∷ 3 ∷ [])) ≡ false
unfolding sum
no_wrapping = refl

-- a length and those behind it
pub sum_drop : (ns : List ℕ) (i : ℕ) → i < length ns → sum (drop i ns) ≡ get_or ns i 0 + sum (drop (i + 1) ns)
unfolding sum
sum_drop ns i h = ap sum (drop-cons ns i 0 h) ∙ ap (λ (k : ℕ). get_or ns i 0 + sum (drop k ns)) (sym (add-one i))

-- ---- lengths taken off a total, one after the other

-- i of the lengths are taken off, and `left` is left: it is due to those behind them exactly if the total is due to all
abbrev pub Adding : List ℕ → ℕ → ℕ → ℕ → Type 0
Adding ns total left i = eqb left (sum (drop i ns)) ≡ eqb total (sum ns)

module _ (ns : List ℕ) (total left i : ℕ) (a : Adding ns total left i) where
  pub adding_over : i < length ns → left < get_or ns i 0 → false ≡ eqb total (sum ns)
  adding_over h k = let e = sum_drop ns i h in sym (ne_eqb left (sum (drop i ns)) (λ q. omega arith)) ∙ a

  pub adding_more : i < length ns → get_or ns i 0 ≤ left → Adding ns total (left - get_or ns i 0) (i + 1)
  adding_more h k = same (get_or ns i 0) (sum (drop (i + 1) ns)) (sum (drop i ns)) (sum_drop ns i h) k ∙ a
    where
      same : (n m r : ℕ) → r ≡ n + m → n ≤ left → eqb (left - n) m ≡ eqb left r
      same n m r e q = go (eqb (left - n) m) refl
        where
          go : (b : Bool) → eqb (left - n) m ≡ b → b ≡ eqb left r
          go true t = let x = eqb-true (left - n) m t in sym (eq-eqb left r (omega arith))
          go false t = let x = eqb-false (left - n) m t in sym (ne_eqb left r (λ y. x (omega arith)))

  pub adding_end : length ns ≤ i → eqb left 0 ≡ eqb total (sum ns)
  unfolding sum
  adding_end h = ap (λ (r : List ℕ). eqb left (sum r)) (sym (drop_of_length-le ns h)) ∙ a
