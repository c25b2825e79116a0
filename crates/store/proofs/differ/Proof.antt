-- `store::differ` meets its contract: where all eight tests hold, each does. Assumes nothing.
use Prim.Native.Nat.{◌+◌, ◌-◌}
use mathlib.Core.Bool.{not}
use mathlib.Core.Path.{◌≡◌}
use native.Mathlib.Nat.{add-zero}
use native.Mathlib.Omega.{arith}
use lib.Dec.{eqb}
use lib.ListN.{get_or}
use borrow.Author.Rules.{rules}
use borrow.Author.Tests.{eqb-false, not-true}
use Rattle.utf8.specs.Together.{together, together-each}
use Rattle.store.proofs.differ.Statement.{statement}
use Rattle.store.proofs.differ.Tie as tie

returns : tie.Need-returns
unfolding together
returns c =
    let a = c.args in
    λ h j l m.
    let e : a.from + (j - a.from) ≡ j = omega arith in
    let differs = together-each (not (eqb (get_or a.keys.now a.from 0) a.k)) (λ i. not (eqb (get_or a.keys.now (a.from + i) 0) a.k)) (rw add-zero) 7 h in
    eqb-false _ _ (not-true _ (rw e at (differs (j - a.from) (omega arith))))

pub differ_spec : {M : Type 1} → statement M
differ_spec =
    tie.close
    (tie.spec
    (λ c. search rules)
    (λ c. search rules)
    (λ c. search rules)
    (λ c. search rules)
    (λ c. search rules)
    (λ c. search rules)
    (λ c. search rules)
    (λ c. search rules)
    (λ c. search rules)
    (λ c. search rules)
    (λ c. search rules)
    (λ c. search rules)
    (λ c. search rules)
    (λ c. search rules)
    (λ c. search rules)
    (λ c. search rules)
    (λ c. search rules)
    (λ c. search rules)
    (λ c. search rules)
    (λ c. search rules)
    (λ c. search rules)
    (λ c. search rules)
    (λ c. search rules)
    returns)
