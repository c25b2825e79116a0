-- Each arm by the kind.
use Rattle.std.proofs.Common.{arith}
use Rattle.std.proofs.lemmas.Bool.Decides.{nat_tests}
use Rattle.table.specs.Length.{has_text}
use Rattle.table.proofs.ByKind.{kind_of}
use Rattle.table.proofs.has_text.Goals as goal

pub returns-in-4 : goal.returns-in-4
unfolding has_text
returns-in-4 c = rw (← kind_of c.args.a c.head_of.ensures) (grind (arith, nat_tests))

pub returns-in-4-2 : goal.returns-in-4-2
unfolding has_text
returns-in-4-2 c = rw (← kind_of c.args.a c.head_of.ensures) (grind (arith, nat_tests))

pub returns-in_default : goal.returns-in_default
unfolding has_text
returns-in_default c = rw (← kind_of c.args.a c.head_of.ensures) (grind (arith, nat_tests))

pub returns-in_default-2 : goal.returns-in_default-2
unfolding has_text
returns-in_default-2 c = rw (← kind_of c.args.a c.head_of.ensures) (grind (arith, nat_tests))

pub returns-in_default-3 : goal.returns-in_default-3
unfolding has_text
returns-in_default-3 c = rw (← kind_of c.args.a c.head_of.ensures) (grind (arith, nat_tests))
