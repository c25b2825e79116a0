use Rattle.std.proofs.Common.{add-one}
use Rattle.resolve.specs.TextsDue.{decodes_none, turn_ready, turn_more}
use Rattle.resolve.proofs.texts.decode_all.Goals as goal

pub loop-i-init : goal.loop-i-init
loop-i-init c = decodes_none _ _ _ _

pub decode_one-used-requires : goal.decode_one-used-requires
decode_one-used-requires c = turn_ready _ _ _ _ _ c.requires c.loop-i.i c.loop-i-test.true _ _ _ c.loop-i.invariant

pub loop-i-preserved : goal.loop-i-preserved
loop-i-preserved c = rw (add-one c.loop-i.i) (turn_more _ _ _ _ _ c.requires c.loop-i.i c.loop-i-test.true _ _ _ c.loop-i.invariant _ _ _ c.decode_one-used.ensures)
