-- The bytes stand in their part of the text.
use Rattle.std.proofs.Common.{arith}
use Rattle.emit.specs.Stores.{put_mid_sets}
use Rattle.emit.proofs.put_bytes.Goals as goal

pub returns : goal.returns
returns c = put_mid_sets _ _ _ _ _ c.copy_from_slice.ensures.after (omega arith) (omega arith)
