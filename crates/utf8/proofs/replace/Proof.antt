-- `utf8::replace` meets its contract. Assumes nothing.
use Prim.Native.Nat.{suc, ◌+◌}
use mathlib.Core.Path.{◌≡◌}
use native.Mathlib.Numerals.{add-one}
use native.Mathlib.Omega.{arith}
use lib.ListN.{length-set}
use borrow.Author.Rules.{rules}
use Rattle.utf8.proofs.replace.Statement.{statement}
use Rattle.utf8.proofs.replace.Tie as tie

slice-write-out-2 : tie.Need-bounds-out-n-2
slice-write-out-2 c = simp length-set (omega arith)

slice-write-out-3 : tie.Need-bounds-out-n-3
slice-write-out-3 c = simp length-set (omega arith)

returns : tie.Need-returns
returns c =
    let e : c.args.n + 2 ≡ suc (suc c.args.n) = omega arith in
    rw (add-one, e)

pub replace_spec : {M : Type 1} → statement M
replace_spec =
    tie.close
    (tie.spec
    (λ c. search rules)
    (λ c. search rules)
    slice-write-out-2
    (λ c. search rules)
    slice-write-out-3
    (λ c. search rules)
    returns)
