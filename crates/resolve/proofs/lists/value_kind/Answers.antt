use Rattle.std.proofs.Common.{sym, arith}
use borrow.Author.Tests.{leb-false, ltb-false}
use Rattle.value.specs.Shape.{kind_in}
use Rattle.resolve.specs.Kinds.{kind-same, kind-line, kind-none}
use Rattle.resolve.proofs.lists.value_kind.Goals as goal

pub returns-in-0-to-12 : goal.returns-in-0-to-12
unfolding kind_in
returns-in-0-to-12 c = sym (kind-same _ (omega arith))

pub returns-in-13-to-14 : goal.returns-in-13-to-14
unfolding kind_in
returns-in-13-to-14 c = sym (kind-line _ (omega arith) (omega arith))

pub returns-in_default : goal.returns-in_default
unfolding kind_in
returns-in_default c = sym (kind-none _ (omega (arith, leb-false, ltb-false)))
