-- `utf8::has` meets its contract. Assumes nothing.
use lib.ListN.{drop_of_length-le}
use lib.Seq.{drop-cons}
use borrow.Author.Rules.{rules}
use borrow.Author.Tests.{le-leb, lt-leb}
use Rattle.utf8.specs.Place.{next_in}
use Rattle.utf8.specs.Utf8.{in_column}
use Rattle.utf8.proofs.has.Statement.{statement}
use Rattle.utf8.proofs.has.Tie as tie

returns : tie.Need-returns-then-s-at
unfolding next_in
returns c = simp (drop_of_length-le c.args.s.now c.if-s-at.true)

returns-2 : tie.Need-returns-then-range-c
unfolding next_in in_column
returns-2 c = simp (drop-cons c.args.s.now c.args.at 0 c.if-s-at.false, le-leb _ _ c.if-range-c.true)

returns-3 : tie.Need-returns-else-range-c
unfolding next_in in_column
returns-3 c = simp (drop-cons c.args.s.now c.args.at 0 c.if-s-at.false, lt-leb _ _ c.if-range-c.false)

pub has_spec : {M : Type 1} → statement M
has_spec =
    tie.close
    (tie.spec
    returns
    (λ c. search rules)
    returns-2
    returns-3)
