-- A class below its arguments.
use Rattle.std.proofs.Common.{refl, sym, ◌∙◌, arith}
use Rattle.decoder.proofs.LawsCalls.{lent_two, reads_short, reads_no_class, reads_no_arguments, reads_both}
use Rattle.decoder.proofs.class_and_arguments.Goals as goal

pub returns-then-c-lt2 : goal.returns-then-c-lt2
returns-then-c-lt2 c = reads_short _ _ _ c.if-c-lt2.true

pub kind-requires : goal.kind-requires
kind-requires c = let t = lent_two _ _ _ c.requires (omega arith) in omega arith

pub returns-then-kind-ne-KIND_GLOBAL : goal.returns-then-kind-ne-KIND_GLOBAL
returns-then-kind-ne-KIND_GLOBAL c = reads_no_class _ _ _ (omega arith) (λ e. c.if-kind-ne-KIND_GLOBAL.true (c.kind.ensures ∙ e))

pub kind-requires-2 : goal.kind-requires-2
kind-requires-2 c = let t = lent_two _ _ _ c.requires (omega arith) in omega arith

pub returns-then-kind-ne-KIND_TUPLE : goal.returns-then-kind-ne-KIND_TUPLE
returns-then-kind-ne-KIND_TUPLE c = reads_no_arguments _ _ _ (omega arith) (sym c.kind.ensures ∙ c.if-kind-ne-KIND_GLOBAL.false) (λ e. c.if-kind-ne-KIND_TUPLE.true (c.kind-2.ensures ∙ e))

pub returns : goal.returns
returns c = reads_both _ _ _ (omega arith) (sym c.kind.ensures ∙ c.if-kind-ne-KIND_GLOBAL.false) _ _ refl refl (sym c.kind-2.ensures ∙ c.if-kind-ne-KIND_TUPLE.false)
