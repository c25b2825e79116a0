use Rattle.std.proofs.Common.{◌≡◌, ◌+◌, ◌-◌, arith}
use Rattle.list.proofs.Walk.{measuring_all, measuring_none, measuring_line, measuring_deeper, measuring_arity, measuring_inside, measuring_again}
use Rattle.list.proofs.+values_len.Goals as goal

pub loop-init : goal.loop-init
loop-init t c = let e : c.args.count - 0 ≡ c.args.count = omega arith in rw e (measuring_all c.requires)

pub line_len-requires-clause-reads : goal.line_len-requires-clause-reads
line_len-requires-clause-reads t c = (measuring_line c.loop.invariant (omega (arith, c.loop-test.true))).0

pub line_len-requires-clause-len_bound : goal.line_len-requires-clause-len_bound
line_len-requires-clause-len_bound t c = omega (arith, (measuring_line c.loop.invariant (omega (arith, c.loop-test.true))).1)

pub overflow_add-inner : goal.overflow_add-inner
overflow_add-inner t c = omega (arith, (measuring_line c.loop.invariant (omega (arith, c.loop-test.true))).1, c.line_len.ensures)

pub overflow_add-i : goal.overflow_add-i
overflow_add-i t c = omega (arith, (measuring_arity c.loop.invariant (omega (arith, c.loop-test.true))).0)

pub arity-requires-clause-i_in_bounds : goal.arity-requires-clause-i_in_bounds
arity-requires-clause-i_in_bounds t c = (measuring_arity c.loop.invariant (omega (arith, c.loop-test.true))).0

pub arity-requires-clause-arity_bound : goal.arity-requires-clause-arity_bound
arity-requires-clause-arity_bound t c = (measuring_arity c.loop.invariant (omega (arith, c.loop-test.true))).1

pub values_len-end-requires : goal.values_len-end-requires
values_len-end-requires t c = (
  omega (arith, measuring_deeper c.loop.invariant (omega (arith, c.loop-test.true))),
  measuring_inside c.loop.invariant (omega (arith, c.loop-test.true)) c.line_len.ensures c.arity.ensures,
)

pub loop-preserved : goal.loop-preserved
loop-preserved t c =
    let e : c.args.count - c.loop.counter - 1 ≡ c.args.count - (c.loop.counter + 1) = omega arith in
    rw e at (measuring_again c.loop.invariant (omega (arith, c.loop-test.true)) c.line_len.ensures c.arity.ensures c.values_len-end.ensures)

pub returns : goal.returns
returns t c = measuring_none c.loop.invariant (omega (arith, c.loop-test.false))
