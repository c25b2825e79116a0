-- Each arm by the kind.
use Rattle.std.proofs.Common.{arith}
use Rattle.std.proofs.lemmas.Bool.Decides.{nat_tests}
use Rattle.table.specs.Record.{size_of}
use Rattle.table.proofs.ByKind.{kind_of}
use Rattle.table.proofs.size.Goals as goal

pub returns-in-0-to-5 : goal.returns-in-0-to-5
unfolding size_of
returns-in-0-to-5 c = rw (← kind_of c.args.a c.head_of.ensures) (grind (arith, nat_tests))

pub returns-in-6-to-10 : goal.returns-in-6-to-10
unfolding size_of
returns-in-6-to-10 c = rw (← kind_of c.args.a c.head_of.ensures) (grind (arith, nat_tests))

pub returns-in-11 : goal.returns-in-11
unfolding size_of
returns-in-11 c = rw (← kind_of c.args.a c.head_of.ensures) (grind (arith, nat_tests))

pub returns-in_default : goal.returns-in_default
unfolding size_of
returns-in_default c = rw (← kind_of c.args.a c.head_of.ensures) (grind (arith, nat_tests))
