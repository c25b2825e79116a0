use Rattle.std.proofs.Common.{◌≡◌, ◌+◌, ◌-◌, arith}
use Rattle.list.proofs.Walk.{going-all, going-none, turn, turn_line, turn_arity, turn_counted, turn_inside, turn_again}
use Rattle.list.proofs.+put_values.Goals as goal

pub loop-init : goal.loop-init
loop-init t c = let e : c.args.count - 0 ≡ c.args.count = omega arith in rw e (going-all c.requires)

pub put_line-next-requires-clause-reads : goal.put_line-next-requires-clause-reads
put_line-next-requires-clause-reads t c = (turn_line (turn c.loop.invariant (omega (arith, c.loop-test.true)))).0

pub put_line-next-requires-clause-room : goal.put_line-next-requires-clause-room
put_line-next-requires-clause-room t c = (turn_line (turn c.loop.invariant (omega (arith, c.loop-test.true)))).1

pub overflow_add-i : goal.overflow_add-i
overflow_add-i t c = omega (arith, (turn_arity (turn c.loop.invariant (omega (arith, c.loop-test.true)))).0)

pub arity-requires-clause-i_in_bounds : goal.arity-requires-clause-i_in_bounds
arity-requires-clause-i_in_bounds t c = (turn_arity (turn c.loop.invariant (omega (arith, c.loop-test.true)))).0

pub arity-requires-clause-arity_bound : goal.arity-requires-clause-arity_bound
arity-requires-clause-arity_bound t c = (turn_arity (turn c.loop.invariant (omega (arith, c.loop-test.true)))).1

pub put_values-end-requires : goal.put_values-end-requires
put_values-end-requires t c =
    let u = turn c.loop.invariant (omega (arith, c.loop-test.true)) in
    (omega (arith, u.deeper), turn_inside u c.put_line-next.ensures c.arity.ensures)

pub loop-preserved : goal.loop-preserved
loop-preserved t c =
    let u = turn c.loop.invariant (omega (arith, c.loop-test.true)) in
    let e : c.args.count - c.loop.counter - 1 ≡ c.args.count - (c.loop.counter + 1) = omega arith in
    rw e at (turn_again u c.put_line-next.ensures c.arity.ensures (c.put_values-end.ensures u.c u.inside (turn_counted u c.arity.ensures)))

pub returns : goal.returns
returns t c = going-none c.loop.invariant (omega (arith, c.loop-test.false))
