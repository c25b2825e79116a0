-- A length, and so many bytes.
use Rattle.std.proofs.Common.{arith}
use Rattle.decoder.specs.ReadsPickle.{none-prefixed, prefixed-short, prefixed_got}
use Rattle.decoder.proofs.prefixed.Goals as goal

pub returns-then-pickle-at : goal.returns-then-pickle-at
returns-then-pickle-at c = none-prefixed _ _ _ c.if-pickle-at.true

pub returns-then-pickle-at-2 : goal.returns-then-pickle-at-2
returns-then-pickle-at-2 c = prefixed-short _ _ _ _ c.requires.0 (omega arith) c.low_at-len.ensures.0 (omega arith)

pub returns : goal.returns
returns c = prefixed_got _ _ _ _ c.requires.0 (omega arith) c.low_at-len.ensures.0 (omega arith)
