-- `lists::range_of` meets its contract. Assumes nothing.
use borrow.Author.Rules.{rules}
use Rattle.resolve.proofs.lists.range_of.Statement.{statement}
use Rattle.resolve.proofs.lists.range_of.Tie as tie
use Prim.Native.Nat.{◌+◌}
use mathlib.Core.Path.{sym, ◌∙◌}
use native.Mathlib.Omega.{arith}
use native.Mathlib.Numerals.{add-one}
use Rattle.value.specs.Shape.{kind_in}
use Rattle.steps.specs.NodeWords.{first}
use Rattle.resolve.specs.NodeList.{sorted_ranges, plain_ranges}

returns : tie.Need-returns-then-is_sorted
unfolding kind_in first
returns c = sorted_ranges c.args.nodes.now c.args.starts.now c.args.measures.now c.args.node.0 (sym c.is_sorted.ensures ∙ c.if-is_sorted.true)

cast-t26 : tie.Need-overflow_cast-result-2
cast-t26 c = omega (arith, c.shared_slice_known-6-1.given (c.args.node.0 + 1))

returns-2 : tie.Need-returns
unfolding kind_in first
returns-2 c = rw add-one (plain_ranges c.args.nodes.now c.args.starts.now c.args.measures.now c.args.node.0 (sym c.is_sorted.ensures ∙ c.if-is_sorted.false) c.requires.rising)

pub range_of_spec : {M : Type 1} → statement M
range_of_spec = tie.close (tie.spec (λ c. search rules) (λ c. search rules) (λ c. search rules) (λ c κs. search rules) (λ c. search rules) (λ c. search rules) (λ c. search rules) returns (λ c. search rules) (λ c. search rules) (λ c. omega (arith, c.shared_slice_known-5-1.given c.args.node.0)) (λ c. search rules) (λ c. search rules) (λ c. search rules) cast-t26 returns-2)
