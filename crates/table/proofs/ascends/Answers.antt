use Rattle.std.proofs.Common.{◌∙◌, sym}
use Rattle.value.specs.Value.{one}
use Rattle.value.specs.Stands.{Stands}
use Rattle.value.specs.Told.{told}
use Rattle.table.specs.Items.{rest-start, rest-step, rest-done, rest_not, rest-less, told_less}
use Rattle.table.proofs.ascends.Goals as goal

pub loop-left-init : goal.loop-left-init
loop-left-init c = rest-start c.args.words.now c.args.text.now c.args.i c.args.m c.args.entry c.requires.entry_nonzero c.requires.entry_bound c.requires.held

pub next-q-requires : goal.next-q-requires
next-q-requires c = (rest-step _ _ c.args.i c.args.m _ c.requires.entry_nonzero c.requires.entry_bound _ _ c.loop-left.invariant c.loop-left-test.true).steps

pub compare_items-requires : goal.compare_items-requires
unfolding Stands
compare_items-requires c =
    let x = rest-step _ _ c.args.i c.args.m _ c.requires.entry_nonzero c.requires.entry_bound _ _ c.loop-left.invariant c.loop-left-test.true in
    let y : Stands c.args.words.now c.args.text.now c.next-q.result (one x.second) = rw c.next-q.ensures x.second_stands in
    record { p_reads = x.first_stands.0.reads; q_reads = y.0.reads; p_begins = record { value = x.first; stands = x.first_stands }; q_begins = record { value = x.second; stands = y } }

pub returns-then-not-is_lt : goal.returns-then-not-is_lt
returns-then-not-is_lt c =
    rest_not _ _ c.args.i c.args.m _ c.requires.entry_nonzero c.requires.entry_bound _ _ c.loop-left.invariant c.loop-left-test.true (told c.compare_items.result) (rw (← c.next-q.ensures) c.compare_items.ensures) (told_less _ ∙ sym c.is_lt.ensures ∙ c.if-not-is_lt.true)

pub loop-left-preserved : goal.loop-left-preserved
loop-left-preserved c =
    rw c.next-q.ensures (rest-less _ _ c.args.i c.args.m _ c.requires.entry_nonzero c.requires.entry_bound _ _ c.loop-left.invariant c.loop-left-test.true (told c.compare_items.result) (rw (← c.next-q.ensures) c.compare_items.ensures) (told_less _ ∙ sym c.is_lt.ensures ∙ c.if-not-is_lt.false))

pub returns : goal.returns
returns c = rest-done _ _ c.args.i c.args.m _ c.requires.entry_nonzero c.requires.entry_bound _ _ c.loop-left.invariant c.loop-left-test.false
