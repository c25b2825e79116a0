-- `resolve::note` meets its contract: a law for each of its returns.
use borrow.Author.Rules.{rules}
use Rattle.resolve.proofs.note.Statement.{statement}
use Rattle.resolve.proofs.note.Tie as tie
use mathlib.Core.Path.{refl, sym, ◌∙◌}
use borrow.Author.Tests.{not-true, not-false}
use native.Mathlib.Omega.{arith}
use lib.ListN.{length-set}
use Rattle.resolve.specs.DuesRoom.{note_other, note_due}

returns : tie.Need-returns-then-not-is_sorted
returns c = note_other _ _ _ (sym c.is_sorted.ensures ∙ not-true _ c.if-not-is_sorted.true-raw)

returns-2 : tie.Need-returns
returns-2 c = note_due _ _ _ _ refl (sym c.is_sorted.ensures ∙ not-false _ c.if-not-is_sorted.false-raw)

pub note_spec : {M : Type 1} → statement M
note_spec =
    tie.close
    (tie.spec
    (λ c κs. tt) returns (λ c. search rules) (λ c. search rules) (λ c. search rules) (λ c. search rules) (λ c. search rules) (λ c. search rules)
    (λ c. search rules) (λ c. let s = c.before.before.before.before.before in simp length-set (omega (arith, s.requires))) (λ c. search rules)
    returns-2)
