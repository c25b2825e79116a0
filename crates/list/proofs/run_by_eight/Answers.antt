use Rattle.std.proofs.Common.{arith}
use Rattle.list.proofs.Laws.{run_none, run_more}
use Rattle.list.proofs.run_by_eight.Goals as goal

pub loop-i-init : goal.loop-i-init
loop-i-init c = run_none _ _ _ c.requires.from_le_end

pub loop-i-preserved : goal.loop-i-preserved
loop-i-preserved c = run_more 8 (omega arith) (c.eight_verbatim.ensures c.if-not-eight_verbatim.false) c.loop-i.invariant
