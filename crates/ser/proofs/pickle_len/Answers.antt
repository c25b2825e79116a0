use Rattle.std.proofs.Common.{arith}
use Rattle.ser.proofs.Laws.{sum_turn, sum-all}
use Rattle.ser.proofs.pickle_len.Goals as goal

pub record_len-sum-requires-clause-len_bound : goal.record_len-sum-requires-clause-len_bound
record_len-sum-requires-clause-len_bound c =
    omega (arith, sum_turn c.args.words.now c.loop-i.i c.args.count c.loop-i.sum _ c.loop-i.invariant c.loop-i-test.true, c.requires.len_bound)

pub overflow_add-sum : goal.overflow_add-sum
overflow_add-sum c =
    omega (arith, sum_turn c.args.words.now c.loop-i.i c.args.count c.loop-i.sum _ c.loop-i.invariant c.loop-i-test.true, c.requires.len_bound, c.record_len-sum.ensures)

pub loop-i-preserved : goal.loop-i-preserved
loop-i-preserved c =
    rw c.record_len-sum.ensures (sum_turn c.args.words.now c.loop-i.i c.args.count c.loop-i.sum _ c.loop-i.invariant c.loop-i-test.true)

pub returns : goal.returns
returns c = sum-all c.args.words.now c.loop-i.i c.args.count c.loop-i.sum _ c.loop-i.invariant c.loop-i-test.false
