-- What is copied is stored behind what it is copied from.
use Rattle.emit.specs.Copies.{copying_none, copying_next, copying_all, moved_fits}
use Rattle.emit.proofs.copy_records.Goals as goal

pub loop-k-init : goal.loop-k-init
loop-k-init c = copying_none _ _ _ _ _ _ c.requires

pub moved_word-second-requires : goal.moved_word-second-requires
moved_word-second-requires c = moved_fits _ _ _ _ _ _ c.requires c.loop-k.k _ c.loop-k.invariant c.loop-k-test.true

pub loop-k-preserved : goal.loop-k-preserved
loop-k-preserved c = copying_next _ _ _ _ _ _ c.requires c.loop-k.k _ c.loop-k.invariant c.loop-k-test.true _ c.moved_word-second.result c.moved_word-second.ensures c.put_record.ensures

pub returns : goal.returns
returns c = copying_all _ _ _ _ _ _ c.requires c.loop-k.k _ c.loop-k.invariant c.loop-k-test.false
