-- `utf8::copy` meets its contract: what is left to store at k, stored, is the whole. Assumes nothing.
use Prim.Native.Nat.{◌+◌, ◌≤◌, ◌-◌}
use mathlib.Core.Path.{◌≡◌, refl, sym, ◌∙◌}
use native.Mathlib.Nat.{add-zero, sub-zero}
use native.Mathlib.Omega.{arith}
use lib.ListN.{length, take, drop, length-set}
use lib.Seq.{sets}
use Rattle.utf8.proofs.Stores.{copy_more, copy_none}
use Rattle.utf8.proofs.copy.Statement.{statement}
use Rattle.utf8.proofs.copy.Tie as tie

abbrev invariant-loop : tie.invariant-loop-k
invariant-loop s i len out₀ n k₀ out k =
    (k ≤ len)
    × (length out ≡ length out₀)
    × (sets out (n + k) (take (len - k) (drop (i + k) s)) ≡ sets out₀ n (take len (drop i s)))

abbrev decreases-loop : tie.decreases-loop-k
decreases-loop s i len out₀ n k₀ out k = len - k

loop-holds : tie.Need-loop-k-init invariant-loop decreases-loop
loop-holds c = (omega arith, refl, simp (add-zero, sub-zero))

loop-again : tie.Need-loop-k-preserved invariant-loop decreases-loop
loop-again c = (omega arith, simp length-set c.loop-k.invariant.1, copy_more _ _ _ _ _ _ c.loop-k-test.true (omega arith) ∙ c.loop-k.invariant.2)

same_length : tie.Need-shape_of-out invariant-loop decreases-loop
same_length c = c.loop-k.invariant.1

returns : tie.Need-returns invariant-loop decreases-loop
returns c = sym (copy_none _ _ _ _ _ _ c.loop-k-test.false) ∙ c.loop-k.invariant.2

pub copy_spec : {M : Type 1} → statement M
copy_spec =
    tie.close
    (tie.spec
    invariant-loop
    decreases-loop
    loop-holds
    (λ c. omega arith)
    (λ c. omega arith)
    (λ c. omega arith)
    (λ c. omega arith)
    (λ c. omega arith)
    (λ c. omega arith)
    loop-again
    same_length
    returns)
