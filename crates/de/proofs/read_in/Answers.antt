-- 2, or the run, its answer, and what was used cleared.
use Rattle.std.proofs.Common.{refl, ◌∙◌}
use Rattle.de.specs.Inner.{reads-long, back_again, begins, runs, machine_zero, working, reads_all}
use Rattle.de.proofs.read_in.Goals as goal

pub returns-then-pickle-gt65536 : goal.returns-then-pickle-gt65536
returns-then-pickle-gt65536 c = reads-long c.args.edition c.args.whole c.args.pickle.now _ _ c.if-pickle-gt65536.true c.refused.ensures

pub run-outcome-requires : goal.run-outcome-requires
run-outcome-requires c = begins _ _ _ _ _ _ _ _ (machine_zero _ _ _ _ _ _ _ _ _ _ _ _ _ c.requires) c.if-pickle-gt65536.false

pub answer-a-requires-clause-ran : goal.answer-a-requires-clause-ran
answer-a-requires-clause-ran c =
    let r = runs c.args.pickle.now c.args.nodes.now c.args.owners.now c.args.children.now c.args.stack.now c.args.marks.now c.args.keys.now c.args.held.now (machine_zero _ _ _ _ _ _ _ _ _ _ _ _ _ c.requires) _ _ _ _ _ _ _ _ _ c.run-outcome.ensures in
    r.ran

pub answer-a-requires-clause-working : goal.answer-a-requires-clause-working
answer-a-requires-clause-working c =
    let r = runs c.args.pickle.now c.args.nodes.now c.args.owners.now c.args.children.now c.args.stack.now c.args.marks.now c.args.keys.now c.args.held.now (machine_zero _ _ _ _ _ _ _ _ _ _ _ _ _ c.requires) _ _ _ _ _ _ _ _ _ c.run-outcome.ensures in
    working _ _ _ _ _ _ _ _ _ _ _ _ _ c.requires _ (back_again r.keys_back _ refl _ c.clear.ensures)

pub returns : goal.returns
returns c =
    let r = runs c.args.pickle.now c.args.nodes.now c.args.owners.now c.args.children.now c.args.stack.now c.args.marks.now c.args.keys.now c.args.held.now (machine_zero _ _ _ _ _ _ _ _ _ _ _ _ _ c.requires) _ _ _ _ _ _ _ _ _ c.run-outcome.ensures in
    let e = c.answer-a.ensures in
    reads_all _ _ e.gives.answer (back_again r.nodes_back _ refl _ c.clear-2.ensures) (e.links.0 ∙ r.owners_back.again) (e.links.1 ∙ r.children_back.again)
    (back_again r.stack_back _ refl _ c.clear-3.ensures) (back_again r.marks_back _ refl _ c.clear-4.ensures) (e.rooms.0 ∙ back_again r.keys_back _ refl _ c.clear.ensures)
    (back_again r.held_back _ refl _ c.clear-5.ensures) e.rooms.1 e.rooms.2 e.rooms.3 e.rooms.4 e.gives.table_is e.gives.text_is
