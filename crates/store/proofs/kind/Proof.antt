-- A node's kind.
use borrow.Author.Rules.{rules}
use Rattle.store.proofs.kind.Statement.{statement}
use Rattle.store.proofs.kind.Tie as tie
use Rattle.value.specs.Shape.{kind_in}
use Rattle.steps.specs.NodeWords.{first}

returns : tie.Need-returns
unfolding kind_in first
returns c = search rules

pub kind_spec : {M : Type 1} → statement M
kind_spec = tie.close (tie.spec (λ c. search rules) (λ c. search rules) (λ c. search rules) returns)
