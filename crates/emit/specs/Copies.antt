-- The loop that copies records, their text places moved. Its invariant: what is still to be stored, stored, gives all.
use Prim.Native.Nat.{ℕ, suc, ◌+◌, ◌-◌, ◌*◌, ◌^◌, ◌<◌, ◌≤◌}
use Rattle.std.specs.Prelude.{true, cond, ◌≡◌, refl, take, drop}
use mathlib.Core.List.{List, [], ◌∷◌}
use Rattle.std.proofs.Common.{◌∙◌, drop-cons, add-zero}
use Rattle.std.proofs.Math.Path.{ap}
use Rattle.std.proofs.Math.ListN.{length, get_or}
use Rattle.std.proofs.lemmas.List.Edits.{sets}
use Rattle.std.proofs.Math.Seq.{length-sets}
use Rattle.std.proofs.Math.Numerals.{add-one}
use native.Mathlib.Omega.{arith}
use Rattle.resolve.specs.Moved.{has_text_place, moves}
use Rattle.emit.specs.Stores.{sets_before, early}

-- ---- records once more, behind them, with texts from q on that were from p on

pub record Copyable (r : List ℕ) (from size at p q : ℕ) : Type 0 where
  pub apart : from + size ≤ at
  pub room : 4 * (at + size) ≤ length r
  pub places : (k : ℕ) → k < size → has_text_place (get_or r (4 * (from + k)) 0) ≡ true → (p ≤ get_or r (4 * (from + k) + 1) 0) × (get_or r (4 * (from + k) + 1) 0 - p + q < 2 ^ 64)

pub record Copying (r₀ : List ℕ) (from size at p q k : ℕ) (r : List ℕ) : Type 0 where
  pub below : k ≤ size
  pub long : length r ≡ length r₀
  pub same : take (4 * at) r ≡ take (4 * at) r₀
  pub rest : sets r (4 * (at + k)) (moves p q (take (4 * (size - k)) (drop (4 * (from + k)) r₀))) ≡ sets r₀ (4 * at) (moves p q (take (4 * size) (drop (4 * from) r₀)))

four_of : (l : List ℕ) (j m : ℕ) → j + 4 ≤ length l → take (suc (suc (suc (suc m)))) (drop j l) ≡ get_or l j 0 ∷ get_or l (suc j) 0 ∷ get_or l (suc (suc j)) 0 ∷ get_or l (suc (suc (suc j))) 0 ∷ take m (drop (suc (suc (suc (suc j)))) l)
four_of l j m h =
    rw (drop-cons l j 0 (omega arith), drop-cons l (suc j) 0 (omega arith), drop-cons l (suc (suc j)) 0 (omega arith), drop-cons l (suc (suc (suc j))) 0 (omega arith))

module _ (r₀ : List ℕ) (from size at p q : ℕ) (f : Copyable r₀ from size at p q) where
  pub copying_none : Copying r₀ from size at p q 0 r₀
  copying_none = let e : size - 0 ≡ size = omega arith in record { below = omega arith; long = refl; same = refl; rest = rw (e, add-zero from, add-zero at) }

  module _ (k : ℕ) (r : List ℕ) (h : Copying r₀ from size at p q k r) (l : k < size) where
    -- what is copied stands as it did
    pub source : (j : ℕ) → j < 4 → get_or r (4 * (from + k) + j) 0 ≡ get_or r₀ (4 * (from + k) + j) 0
    source j m = early r₀ r (4 * at) (4 * (from + k) + j) h.same (omega (arith, f.apart))

    pub copying_next : (r' : List ℕ) (b : ℕ) → b ≡ cond (has_text_place (get_or r (4 * (from + k)) 0)) (get_or r (4 * (from + k) + 1) 0 - p + q) (get_or r (4 * (from + k) + 1) 0)
        → r' ≡ sets r (4 * (at + k)) (get_or r (4 * (from + k)) 0 ∷ b ∷ get_or r (4 * (from + k) + 2) 0 ∷ get_or r (4 * (from + k) + 3) 0 ∷ []) → Copying r₀ from size at p q (k + 1) r'
    unfolding moves
    copying_next r' b e s =
        let i = 4 * (from + k) in
        let vs : List ℕ = get_or r i 0 ∷ b ∷ get_or r (i + 2) 0 ∷ get_or r (i + 3) 0 ∷ [] in
        let x₀ : get_or r i 0 ≡ get_or r₀ i 0 = early r₀ r (4 * at) i h.same (omega (arith, f.apart)) in
        let x₁ : get_or r (i + 1) 0 ≡ get_or r₀ (suc i) 0 = rw (← add-one i) (source 1 (omega arith)) in
        let x₂ : get_or r (i + 2) 0 ≡ get_or r₀ (suc (suc i)) 0 = source 2 (omega arith) ∙ ap (λ (n : ℕ). get_or r₀ n 0) (two i) in
        let x₃ : get_or r (i + 3) 0 ≡ get_or r₀ (suc (suc (suc i))) 0 = source 3 (omega arith) ∙ ap (λ (n : ℕ). get_or r₀ n 0) (three i) in
        let z : 4 * (size - k) ≡ suc (suc (suc (suc (4 * (size - (k + 1)))))) = omega arith in
        let y : 4 * (from + (k + 1)) ≡ suc (suc (suc (suc i))) = omega arith in
        let w : 4 * (at + (k + 1)) ≡ suc (suc (suc (suc (4 * (at + k))))) = omega arith in
        let m = rw (z, four_of r₀ i (4 * (size - (k + 1))) (omega (arith, f.apart, f.room))) at h.rest in
        record {
          below = omega arith;
          long = ap length s ∙ length-sets r (4 * (at + k)) vs ∙ h.long;
          same = ap (take (4 * at)) s ∙ sets_before r (4 * (at + k)) vs (4 * at) (omega arith) ∙ h.same;
          rest = rw (s, e, x₀, x₁, x₂, x₃, w, y) m;
        }
      where
        two : (i : ℕ) → i + 2 ≡ suc (suc i)
        two i = omega arith

        three : (i : ℕ) → i + 3 ≡ suc (suc (suc i))
        three i = omega arith

    -- the moved place fits
    pub moved_fits : has_text_place (get_or r (4 * (from + k)) 0) ≡ true → (p ≤ get_or r (4 * (from + k) + 1) 0) × (get_or r (4 * (from + k) + 1) 0 - p + q < 2 ^ 64)
    moved_fits e =
        let x₀ : get_or r (4 * (from + k)) 0 ≡ get_or r₀ (4 * (from + k)) 0 = early r₀ r (4 * at) (4 * (from + k)) h.same (omega (arith, f.apart)) in
        rw (source 1 (omega arith)) (f.places k l (rw x₀ at e))

  pub copying_all : (k : ℕ) (r : List ℕ) → Copying r₀ from size at p q k r → size ≤ k → r ≡ sets r₀ (4 * at) (moves p q (take (4 * size) (drop (4 * from) r₀)))
  unfolding moves
  copying_all k r h l = let e : size - k ≡ 0 = omega arith in let m = h.rest in rw e at m
