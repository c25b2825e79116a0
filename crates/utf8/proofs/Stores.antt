-- Copies, store by store. Assumes nothing.
use Prim.Native.Nat.{ℕ, suc, ◌+◌, ◌-◌, ◌≤◌, ◌<◌}
use native.Mathlib.Omega.{arith}
use mathlib.Core.List.{List}
use mathlib.Core.Path.{◌≡◌}
use lib.ListN.{length, get_or, take, drop, set}
use lib.Seq.{drop-cons, sets}

module _ (s : List ℕ) (i len n k : ℕ) (out : List ℕ) where
  -- what a copy has left to store, one byte on, and at its end
  pub copy_more : k < len → i + k < length s
      → sets (set out (n + k) (get_or s (i + k) 0)) (n + (k + 1)) (take (len - (k + 1)) (drop (i + (k + 1)) s)) ≡ sets out (n + k) (take (len - k) (drop (i + k) s))
  copy_more l h =
      let e : len - k ≡ suc (len - (k + 1)) = omega arith in
      let f : n + (k + 1) ≡ suc (n + k) = omega arith in
      let g : i + (k + 1) ≡ suc (i + k) = omega arith in
      rw (drop-cons s (i + k) 0 h, e, f, g)

  pub copy_none : len ≤ k → sets out (n + k) (take (len - k) (drop (i + k) s)) ≡ out
  copy_none l = let e : len - k ≡ 0 = omega arith in rw e
