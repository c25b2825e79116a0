use Rattle.std.proofs.Common.{◌∙◌, sym, eq-eqb, le-leb}
use Rattle.std.proofs.lemmas.Bool.{lt-leb}
use borrow.Author.Tests.{ne_eqb}
use Rattle.scorer.specs.Steps.{between-read}
use Rattle.scorer.proofs.is_between.Goals as goal

pub returns-then-head_of-ne-KIND_I64 : goal.returns-then-head_of-ne-KIND_I64
returns-then-head_of-ne-KIND_I64 c = sym (between-read _ c.args.i _ c.head_of.ensures _ _ ∙ rw (ne_eqb _ 2 c.if-head_of-ne-KIND_I64.true))

pub returns-then-low-value : goal.returns-then-low-value
returns-then-low-value c = sym (between-read _ c.args.i _ c.head_of.ensures _ _ ∙ rw (eq-eqb _ 2 c.if-head_of-ne-KIND_I64.false, le-leb _ _ c.if-low-value.true))

pub returns-else-low-value : goal.returns-else-low-value
returns-else-low-value c = sym (between-read _ c.args.i _ c.head_of.ensures _ _ ∙ rw (eq-eqb _ 2 c.if-head_of-ne-KIND_I64.false, lt-leb _ _ c.if-low-value.false))
