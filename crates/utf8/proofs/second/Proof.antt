-- `utf8::second` meets its contract. Assumes nothing.
use borrow.Author.Tests.{ne_eqb}
use Rattle.utf8.specs.Place.{second_of}
use Rattle.utf8.proofs.second.Statement.{statement}
use Rattle.utf8.proofs.second.Tie as tie

returns : tie.Need-returns-in-224
unfolding second_of
returns c = rw c.in-224.is

returns-2 : tie.Need-returns-in-237
unfolding second_of
returns-2 c = rw c.in-237.is

returns-3 : tie.Need-returns-in-240
unfolding second_of
returns-3 c = rw c.in-240.is

returns-4 : tie.Need-returns-in-244
unfolding second_of
returns-4 c = rw c.in-244.is

returns-5 : tie.Need-returns-in_default
unfolding second_of
returns-5 c =
    let r = c.in_default.in_default-own.rest in
    simp (ne_eqb _ _ r.0.0.0.1, ne_eqb _ _ r.0.0.1, ne_eqb _ _ r.0.1, ne_eqb _ _ r.1)

pub second_spec : {M : Type 1} → statement M
second_spec =
    tie.close
    (tie.spec
    returns
    returns-2
    returns-3
    returns-4
    returns-5)
