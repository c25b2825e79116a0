use Rattle.std.proofs.Common.{◌∙◌, sym, eq-eqb, arith}
use borrow.Author.Tests.{ne_eqb}
use Rattle.scorer.specs.Steps.{hit_read, hit_none}
use Rattle.scorer.proofs.hit.Goals as goal

pub returns-then-left-eq0 : goal.returns-then-left-eq0
returns-then-left-eq0 c = sym (hit_none c.args.words.now c.args.j _ _ (omega arith))

pub returns-then-head_of-eq-KIND_I64 : goal.returns-then-head_of-eq-KIND_I64
returns-then-head_of-eq-KIND_I64 c = sym (hit_read _ c.args.j _ c.head_of.ensures _ _ (omega arith) ∙ rw (eq-eqb _ 2 c.if-head_of-eq-KIND_I64.true))

pub returns-else-head_of-eq-KIND_I64 : goal.returns-else-head_of-eq-KIND_I64
returns-else-head_of-eq-KIND_I64 c = sym (hit_read _ c.args.j _ c.head_of.ensures _ _ (omega arith) ∙ rw (ne_eqb _ 2 c.if-head_of-eq-KIND_I64.false))
