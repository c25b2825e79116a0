use Rattle.std.proofs.Common.{◌∙◌, sym, arith}
use Rattle.table.specs.Find.{find}
use Rattle.table.specs.Check.{is_bad, find_out, find_past, find-within, row_done, row_bad, row_next, answer_wrong, answer_bad, answer_closed, right, held, object-some}
use Rattle.table.proofs.+check.Goals as goal
use Rattle.table.proofs.+check.Goals.{check-then-levels-eq0-via-then-levels-eq0, check-then-levels-eq0-via-else-levels-eq0+then-i-count}

pub check-returns-then-levels-eq0 : goal.check-returns-then-levels-eq0
check-returns-then-levels-eq0 t c =
    let a = c.args in
    elim c.then-levels-eq0.branch [
      | check-then-levels-eq0-via-then-levels-eq0 w ↦ is_bad _ (find_out a.words.now a.count a.text.now a.levels a.i a.at w.if-levels-eq0.true)
      | check-then-levels-eq0-via-else-levels-eq0+then-i-count w ↦ is_bad _ (find_past a.words.now a.count a.text.now a.levels a.i a.at w.if-i-count.true)
    ]

pub container-returns-in_err-long : goal.container-returns-in_err-long
container-returns-in_err-long t c = cc (answer_wrong _ _ _ _ _ _ c.requires.lent c.requires.levels_nonzero c.head.ensures c.in_err-long.was)

pub container-overflow_add-at : goal.container-overflow_add-at
container-overflow_add-at t c = omega (arith, (right _ _ _ _ _ _ c.requires.lent c.requires.levels_nonzero c.head.ensures c.in_ok-long.was).inside, c.requires.lent.short)

pub container-contents-requires : goal.container-contents-requires
container-contents-requires t c =
    let h = right _ _ _ _ _ _ c.requires.lent c.requires.levels_nonzero c.head.ensures c.in_ok-long.was in
    (omega arith, (c.requires.lent, ((let few = h.few in omega arith), h.inside)))

pub container-returns-in_err-j : goal.container-returns-in_err-j
container-returns-in_err-j t c = cc (answer_bad _ _ _ _ _ _ c.requires.lent c.requires.levels_nonzero c.head.ensures c.in_ok-long.was (sym c.contents.ensures ∙ c.in_err-j.was))

pub container-closes-requires : goal.container-closes-requires
container-closes-requires t c =
    let h = right _ _ _ _ _ _ c.requires.lent c.requires.levels_nonzero c.head.ensures c.in_ok-long.was in
    let y = held _ _ _ _ _ _ c.requires.lent c.requires.levels_nonzero c.head.ensures c.in_ok-long.was (sym c.contents.ensures ∙ c.in_ok-j.was) in
    record {
      i_in_bounds = (let few = h.few in let room = c.requires.lent.room in omega arith);
      i_le_j = y.after;
      held = y.held;
      object_has_arguments = λ q. object-some _ _ _ _ _ _ _ h q;
      kind_bound = h.known;
    }

pub container-returns-then-closes : goal.container-returns-then-closes
container-returns-then-closes t c = answer_closed _ _ _ _ _ _ c.requires.lent c.requires.levels_nonzero c.head.ensures c.in_ok-long.was (sym c.contents.ensures ∙ c.in_ok-j.was) _ c.if-closes.ensures

pub container-returns-else-closes : goal.container-returns-else-closes
container-returns-else-closes t c = answer_closed _ _ _ _ _ _ c.requires.lent c.requires.levels_nonzero c.head.ensures c.in_ok-long.was (sym c.contents.ensures ∙ c.in_ok-j.was) _ c.if-closes.ensures

pub contents-returns-in_err-j : goal.contents-returns-in_err-j
contents-returns-in_err-j t c =
    let a = c.args in
    cc (row_bad (find a.words.now a.count a.text.now a.levels) c.loop.counter c.loop.j c.loop.end (omega arith) (sym c.check.ensures ∙ c.in_err-j.was) ∙ c.loop.invariant.2)

pub contents-loop-preserved : goal.contents-loop-preserved
contents-loop-preserved t c =
    let a = c.args in
    let q = sym c.check.ensures ∙ c.in_ok-j.was in
    let y = find-within a.words.now a.count a.text.now a.levels c.loop.j c.loop.end c.requires.lent c.loop.invariant.0 c.loop.invariant.1 q in
    (y.0, y.1, row_next (find a.words.now a.count a.text.now a.levels) c.loop.counter c.loop.j c.loop.end (omega arith) q ∙ c.loop.invariant.2)

pub contents-returns : goal.contents-returns
contents-returns t c =
    let a = c.args in
    row_done (find a.words.now a.count a.text.now a.levels) c.loop.counter c.loop.j c.loop.end (omega arith) ∙ c.loop.invariant.2
