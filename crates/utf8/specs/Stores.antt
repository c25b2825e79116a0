-- Runs of stores: one behind the other is one run. It stands here because every crate that puts text or lists into a slice rests on this one.
use Rattle.std.specs.Prelude.{ℕ, suc, ◌+◌, List, [], ◌∷◌, ◌++◌, ◌≡◌, length, set}
use Rattle.std.proofs.Common.{arith, add-zero}
use Rattle.std.proofs.lemmas.List.Edits.{sets}

pub sets_append : (u v l : List ℕ) (n : ℕ) → sets (sets l n u) (n + length u) v ≡ sets l n (u ++ v)
sets_append [] v l n = rw (add-zero n)
sets_append (a ∷ u) v l n =
    let e : n + suc (length u) ≡ suc n + length u = omega arith in
    rw e (sets_append u v (set l n a) (suc n))
