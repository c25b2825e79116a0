-- Where the prefix reading succeeds and leaves bytes: by this proofs/Numbers says when a reading answers 1, 2 or 11.
use Rattle.std.specs.Prelude.{ℕ, ◌<◌, List, ◌≡◌, length}
use Rattle.op.specs.declared.Edition.{Edition}
use Rattle.reading.specs.Reading.{prefix_in}

-- the prefix reading succeeds and leaves bytes
pub record LeavesBytes (ed : Edition) (p : List ℕ) : Type 0 where
  pub succeeds : (prefix_in ed p).answer.number ≡ 0
  pub left : (prefix_in ed p).answer.length < length p
