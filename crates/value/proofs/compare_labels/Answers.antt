-- Each return by the law of its kinds.
use Rattle.std.proofs.Common.{◌∙◌, ap, ap₂, arith}
use Rattle.value.specs.Order.{lex}
use Rattle.value.specs.Told.{told, told_numbers, told_bits}
use Rattle.value.specs.Labels.{records_differ, records_none, records_bool, records_int, records_float, records_text, records_container, records_name, text_inside, names_inside}
use Rattle.value.proofs.compare_labels.Goals as goal

pub returns-then-kind-other : goal.returns-then-kind-other
returns-then-kind-other c = ap told c.cmp.ensures ∙ told_numbers _ _ ∙ records_differ _ _ _ _ _ _ _ _ c.requires.a_reads c.requires.b_reads (ap (λ h. h.kind) c.head_of-kind.ensures) (ap (λ h. h.kind) c.head_of-other.ensures) c.if-kind-other.true

pub part-requires : goal.part-requires
part-requires c = text_inside _ _ _ _ c.requires.a_reads (ap (λ h. h.kind) c.head_of-kind.ensures) (omega arith) (omega arith)

pub part-requires-in-4 : goal.part-requires-in-4
part-requires-in-4 c = text_inside _ _ _ _ c.requires.b_reads (ap (λ h. h.kind) c.head_of-other.ensures) (omega arith) (omega arith)

pub compare_names-requires-clause-p_in_bounds : goal.compare_names-requires-clause-p_in_bounds
compare_names-requires-clause-p_in_bounds c = names_inside _ _ _ _ c.requires.a_reads (ap (λ h. h.kind) c.head_of-kind.ensures) (omega arith)

pub compare_names-requires-clause-q_in_bounds : goal.compare_names-requires-clause-q_in_bounds
compare_names-requires-clause-q_in_bounds c = names_inside _ _ _ _ c.requires.b_reads (ap (λ h. h.kind) c.head_of-other.ensures) (omega arith)

pub returns-in-1 : goal.returns-in-1
returns-in-1 c = ap told c.cmp-in-1.ensures ∙ told_bits _ _ ∙ records_bool _ _ _ _ _ _ _ _ c.requires.a_reads c.requires.b_reads (ap (λ h. h.kind) c.head_of-kind.ensures) (ap (λ h. h.kind) c.head_of-other.ensures) c.if-kind-other.false c.in-1.is

pub returns-in-2 : goal.returns-in-2
returns-in-2 c = c.compare_ints.ensures ∙ records_int _ _ _ _ _ _ _ _ c.requires.a_reads c.requires.b_reads (ap (λ h. h.kind) c.head_of-kind.ensures) (ap (λ h. h.kind) c.head_of-other.ensures) c.if-kind-other.false c.in-2.is

pub returns-in-3 : goal.returns-in-3
returns-in-3 c = c.compare_floats.ensures ∙ records_float _ _ _ _ _ _ _ _ c.requires.a_reads c.requires.b_reads (ap (λ h. h.kind) c.head_of-kind.ensures) (ap (λ h. h.kind) c.head_of-other.ensures) c.if-kind-other.false c.in-3.is

pub returns-in-4 : goal.returns-in-4
returns-in-4 c = c.compare_bytes.ensures ∙ ap₂ lex c.part.ensures c.part-in-4.ensures ∙ records_text _ _ _ _ _ _ _ _ c.requires.a_reads c.requires.b_reads (ap (λ h. h.kind) c.head_of-kind.ensures) (ap (λ h. h.kind) c.head_of-other.ensures) c.if-kind-other.false (omega arith) (omega arith)

pub returns-in-11 : goal.returns-in-11
returns-in-11 c = c.compare_names.ensures ∙ records_name _ _ _ _ _ _ _ _ c.requires.a_reads c.requires.b_reads (ap (λ h. h.kind) c.head_of-kind.ensures) (ap (λ h. h.kind) c.head_of-other.ensures) c.if-kind-other.false (omega arith)

pub returns-in_default : goal.returns-in_default
unfolding told
returns-in_default c = records_none _ _ _ _ _ _ _ _ c.requires.a_reads c.requires.b_reads (ap (λ h. h.kind) c.head_of-kind.ensures) (ap (λ h. h.kind) c.head_of-other.ensures) c.if-kind-other.false (omega arith)

pub returns-in_default-2 : goal.returns-in_default-2
unfolding told
returns-in_default-2 c = records_container _ _ _ _ _ _ _ _ c.requires.a_reads c.requires.b_reads (ap (λ h. h.kind) c.head_of-kind.ensures) (ap (λ h. h.kind) c.head_of-other.ensures) c.if-kind-other.false (omega arith) (omega arith)
