-- The decimal text is that many digits.
use Rattle.std.proofs.Common.{arith}
use Rattle.output.specs.Decimal.{decimal-figures}
use Rattle.output.proofs.put_decimal.Goals as goal

pub put_figures-requires-clause-room : goal.put_figures-requires-clause-room
put_figures-requires-clause-room c = let e = decimal-figures c.args.n c.digits.result (omega arith) c.digits.ensures in rw e c.requires

pub returns : goal.returns
returns c = let e = decimal-figures c.args.n c.digits.result (omega arith) c.digits.ensures in rw e at c.put_figures.ensures
