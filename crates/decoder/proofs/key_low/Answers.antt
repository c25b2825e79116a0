-- A memo number of some bytes.
use Rattle.std.proofs.Common.{arith}
use Rattle.std.proofs.Math.Nat.{pow-le-pow_right}
use Rattle.decoder.specs.ReadsMemo.{ReadsKey}
use Rattle.decoder.proofs.LawsMemo.{key_short, key_bytes}
use Rattle.decoder.proofs.key_low.Goals as goal

pub returns-then-pickle-c : goal.returns-then-pickle-c
unfolding ReadsKey
returns-then-pickle-c c = λ r s q. key_short r _ _ s q _ (omega arith)

pub overflow_cast-result : goal.overflow_cast-result
overflow_cast-result c = omega (arith, c.low_at.ensures.1, pow-le-pow_right {n = 256} (omega arith) c.requires.1)

pub returns : goal.returns
unfolding ReadsKey
returns c = λ r s q. key_bytes r _ _ s q _ _ (omega arith) c.low_at.ensures.0
