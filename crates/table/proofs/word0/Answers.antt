-- Each arm by the kind.
use Rattle.std.proofs.Common.{◌≡◌, ◌∙◌, ℕ, ap, sym, arith}
use Rattle.std.proofs.lemmas.Bool.Decides.{nat_tests}
use Rattle.value.specs.Shape.{kind_in, head_of, word_of}
use Rattle.table.specs.Record.{right0}
use Rattle.table.proofs.ByKind.{kind_of}
use Rattle.table.proofs.word0.Goals as goal

object : (a : ℕ) → kind_in a ≡ 12 → word_of (head_of a) ≡ right0 a
unfolding right0
object a e = rw e

pub returns-in-0-to-11 : goal.returns-in-0-to-11
unfolding right0
returns-in-0-to-11 c = rw (← kind_of c.args.a c.head_of-head.ensures) (grind (arith, nat_tests))

pub returns-in-12 : goal.returns-in-12
returns-in-12 c = c.word_of.ensures ∙ ap word_of c.head_of-head.ensures ∙ object c.args.a (sym (kind_of c.args.a c.head_of-head.ensures) ∙ c.in-12.is)

pub returns-in_default : goal.returns-in_default
unfolding right0
returns-in_default c = rw (← kind_of c.args.a c.head_of-head.ensures) (grind (arith, nat_tests))
