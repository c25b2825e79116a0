-- An Object whose arguments are taken out.
use Rattle.std.specs.Prelude.{ℕ, ◌<◌, ◌≤◌, Bool, true, false, ◌&&◌, List, [], ◌∷◌, ◌≡◌, refl, ◌≢◌, length, get_or, take, eqb}
use Rattle.std.proofs.Common.{◌∙◌, ap, drop_of_length-le, length-take, ne_eqb, arith}
use Rattle.std.proofs.Math.Seq.{slice, slice-cons}

-- the first of these nodes is taken out
unfoldable pub head_taken : List ℕ → List ℕ → Bool
head_taken d [] = false
head_taken d (x ∷ l) = eqb (get_or d x 0) 1

-- an Object whose first child is
unfoldable pub arguments_taken : ℕ → List ℕ → List ℕ → Bool
arguments_taken kind l d = eqb kind 12 && head_taken d l

-- ---- by case, as the code tests it

pub held_other : (kind : ℕ) (l d : List ℕ) → kind ≢ 12 → arguments_taken kind l d ≡ false
unfolding arguments_taken
held_other kind l d h = rw (ne_eqb kind 12 h)

pub held_none : (kind i end : ℕ) (c d : List ℕ) → end ≤ i → arguments_taken kind (slice i end c) d ≡ false
unfolding arguments_taken head_taken
held_none kind i end c d h = ap (λ (x : List ℕ). arguments_taken kind x d) (drop_of_length-le (take end c) {i = i} (rw length-take (omega arith))) ∙ go (eqb kind 12)
  where
    go : (b : Bool) → (b && false) ≡ false
    go true = refl
    go false = refl

pub arguments_taken-first : (kind i end : ℕ) (c d : List ℕ) → kind ≡ 12 → i < end → end ≤ length c → arguments_taken kind (slice i end c) d ≡ eqb (get_or d (get_or c i 0) 0) 1
unfolding arguments_taken head_taken
arguments_taken-first kind i end c d k l m = ap (λ (x : List ℕ). arguments_taken kind x d) (slice-cons i end c 0 l m) ∙ rw k
