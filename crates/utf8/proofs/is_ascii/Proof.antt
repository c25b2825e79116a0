-- `utf8::is_ascii` meets its contract: where all eight tests hold, each does. Assumes nothing.
use Prim.Native.Nat.{◌+◌}
use native.Mathlib.Nat.{add-zero}
use native.Mathlib.Omega.{arith}
use lib.Dec.{ltb}
use lib.ListN.{get_or}
use borrow.Author.Rules.{rules}
use borrow.Author.Tests.{ltb-true}
use Rattle.utf8.specs.Together.{together, together-each}
use Rattle.utf8.proofs.is_ascii.Statement.{statement}
use Rattle.utf8.proofs.is_ascii.Tie as tie

returns : tie.Need-returns
unfolding together
returns c =
    let a = c.args in
    λ h k l. ltb-true _ _ (together-each (ltb (get_or a.s.now a.i 0) 0x80) (λ j. ltb (get_or a.s.now (a.i + j) 0) 0x80) (rw add-zero) 7 h k (omega arith))

pub is_ascii_spec : {M : Type 1} → statement M
is_ascii_spec =
    tie.close
    (tie.spec
    (λ c. search rules)
    (λ c. search rules)
    (λ c. search rules)
    (λ c. search rules)
    (λ c. search rules)
    (λ c. search rules)
    (λ c. search rules)
    (λ c. search rules)
    (λ c. search rules)
    (λ c. search rules)
    (λ c. search rules)
    (λ c. search rules)
    (λ c. search rules)
    (λ c. search rules)
    (λ c. search rules)
    returns)
