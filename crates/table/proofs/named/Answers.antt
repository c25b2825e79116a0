-- Each arm by the kind.
use Rattle.std.proofs.Common.{◌∙◌, ap, sym, refl, arith, drop, drop-drop}
use Rattle.std.proofs.lemmas.Bool.Decides.{nat_tests}
use Rattle.utf8.specs.Utf8.{valid}
use Rattle.table.specs.Record.{span_text, span_names}
use Rattle.table.specs.Names.{names_right, names-string, names-both}
use Rattle.table.proofs.ByKind.{kind_of}
use Rattle.table.proofs.named.Goals as goal

pub part-requires : goal.part-requires
part-requires c = omega (arith, span_text c.args.a c.args.c _ (kind_of c.args.a c.head_of.ensures) (omega arith) (omega arith))

pub part-requires-in_default : goal.part-requires-in_default
part-requires-in_default c = omega (arith, span_names c.args.a c.args.c _ (kind_of c.args.a c.head_of.ensures) (omega arith))

pub part-requires-then-valid : goal.part-requires-then-valid
part-requires-then-valid c = omega (arith, span_names c.args.a c.args.c _ (kind_of c.args.a c.head_of.ensures) (omega arith))

pub returns-in-5 : goal.returns-in-5
returns-in-5 c = c.valid.ensures ∙ ap valid c.part.ensures ∙ sym (names-string _ _ _ _ (kind_of c.args.a c.head_of.ensures) (omega arith) (omega arith))

pub returns-in-0-to-4 : goal.returns-in-0-to-4
unfolding names_right
returns-in-0-to-4 c = rw (← kind_of c.args.a c.head_of.ensures) (grind (arith, nat_tests))

pub returns-in-6-to-10 : goal.returns-in-6-to-10
unfolding names_right
returns-in-6-to-10 c = rw (← kind_of c.args.a c.head_of.ensures) (grind (arith, nat_tests))

pub returns-then-valid : goal.returns-then-valid
returns-then-valid c =
    let e = names-both c.args.a c.args.c _ (drop c.args.at c.args.text.now) (kind_of c.args.a c.head_of.ensures) (omega arith) in
    let m = sym (ap valid c.part-in_default.ensures) ∙ sym c.valid-in_default.ensures ∙ c.if-valid.true in
    c.valid-then-valid.ensures ∙ ap valid c.part-then-valid.ensures ∙ sym (e ∙ rw (m, drop-drop) refl)

pub returns-else-valid : goal.returns-else-valid
returns-else-valid c =
    let e = names-both c.args.a c.args.c _ (drop c.args.at c.args.text.now) (kind_of c.args.a c.head_of.ensures) (omega arith) in
    let m = sym (ap valid c.part-in_default.ensures) ∙ sym c.valid-in_default.ensures ∙ c.if-valid.false in
    c.if-valid.false ∙ sym (e ∙ rw m)
