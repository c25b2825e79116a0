-- Each arm by the kind.
use Rattle.std.proofs.Common.{arith}
use Rattle.std.proofs.lemmas.Bool.Decides.{nat_tests}
use Rattle.table.specs.Record.{right2}
use Rattle.table.proofs.ByKind.{kind_of}
use Rattle.table.proofs.word2.Goals as goal

pub returns-in-0-to-3 : goal.returns-in-0-to-3
unfolding right2
returns-in-0-to-3 c = rw (← kind_of c.args.a c.head_of.ensures) (grind (arith, nat_tests))

pub returns-in-4-to-5 : goal.returns-in-4-to-5
unfolding right2
returns-in-4-to-5 c = rw (← kind_of c.args.a c.head_of.ensures) (grind (arith, nat_tests))

pub returns-in-6-to-10 : goal.returns-in-6-to-10
unfolding right2
returns-in-6-to-10 c = rw (← kind_of c.args.a c.head_of.ensures) (grind (arith, nat_tests))

pub returns-in_default : goal.returns-in_default
unfolding right2
returns-in_default c = rw (← kind_of c.args.a c.head_of.ensures) (grind (arith, nat_tests))
