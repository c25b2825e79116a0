use Rattle.std.proofs.Common.{arith}
use Rattle.std.proofs.lemmas.Bool.Decides.{nat_tests}
use Rattle.table.specs.Record.{right3}
use Rattle.table.proofs.ByKind.{kind_of}
use Rattle.table.proofs.word3.Goals as goal

pub returns-then-head_of-lt-KIND_OBJECT : goal.returns-then-head_of-lt-KIND_OBJECT
unfolding right3
returns-then-head_of-lt-KIND_OBJECT c = rw (← kind_of c.args.a c.head_of.ensures) (grind (arith, nat_tests))

pub returns : goal.returns
unfolding right3
returns c = rw (← kind_of c.args.a c.head_of.ensures) (grind (arith, nat_tests))
