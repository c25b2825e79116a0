-- What a tree's word says is due.
use Rattle.std.proofs.Common.{arith}
use Rattle.de.specs.Limits.{tells_empty, tells_values, tells_text, tells_left, tells_nothing}
use Rattle.de.proofs.build.due_of.Goals as goal

pub returns-in_default : goal.returns-in_default
returns-in_default c = rw c.in_default.is (tells_empty _ _)

pub returns-then-w-gt2048 : goal.returns-then-w-gt2048
returns-then-w-gt2048 c = rw c.in-Some.is (tells_values _ _ (omega (arith, c.if-w-gt2048.true)))

pub returns-then-w-gt65536 : goal.returns-then-w-gt65536
returns-then-w-gt65536 c = rw c.in-Some.is (tells_text _ _ (omega (arith, c.if-w-gt2048.false)) (omega (arith, c.if-w-gt65536.true)))

pub returns-then-left : goal.returns-then-left
returns-then-left c = rw c.in-Some.is (tells_left _ _ (omega (arith, c.if-w-gt2048.false)) (omega (arith, c.if-w-gt65536.false)) c.if-left.true)

pub returns : goal.returns
returns c = rw c.in-Some.is (tells_nothing _ _ (omega (arith, c.if-w-gt2048.false)) (omega (arith, c.if-w-gt65536.false)) c.if-left.false)
