-- `batch::put` meets its contract: four stores, one after the other. Assumes nothing.
use lib.ListN.{length-set}
use native.Mathlib.Omega.{arith}
use borrow.Author.Rules.{rules}
use Rattle.batch.specs.Sheets.{store_four}
use Rattle.batch.proofs.put.Statement.{statement}
use Rattle.batch.proofs.put.Tie as tie

slice-write-answers-2 : tie.Need-bounds-answers-at-2
slice-write-answers-2 c = rw length-set (omega (arith, c.requires))

slice-write-answers-3 : tie.Need-bounds-answers-at-3
slice-write-answers-3 c = rw (length-set, length-set) (omega (arith, c.requires))

slice-write-answers-4 : tie.Need-bounds-answers-at-4
slice-write-answers-4 c = rw (length-set, length-set, length-set) (omega (arith, c.requires))

returns : tie.Need-returns
returns c = let a = c.args in store_four a.answers.now a.at a.a

pub put_spec : {M : Type 1} → statement M
put_spec =
    tie.close
    (tie.spec
    (λ c. search rules) (λ c. search rules) (λ c. search rules) (λ c. search rules) slice-write-answers-2 (λ c. search rules) (λ c. search rules)
    slice-write-answers-3 (λ c. search rules) (λ c. search rules) slice-write-answers-4 (λ c. search rules) returns)
