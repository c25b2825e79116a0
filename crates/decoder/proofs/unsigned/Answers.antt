-- BININT1, BININT2.
use Rattle.std.proofs.Common.{refl, arith}
use Rattle.input.specs.Bytes.{low_first}
use Rattle.value.specs.Value.{I64L}
use Rattle.steps.specs.State.{push}
use Rattle.decoder.specs.ReadsPickle.{fixed, unsigned, same_step, low_is, lent_at, bytes_end, bytes-push, makes_as, makes_i64}
use Rattle.decoder.proofs.unsigned.Goals as goal

pub returns-then-pickle-c : goal.returns-then-pickle-c
returns-then-pickle-c c = same_step _ _ (unsigned _) (fixed _ (λ b. I64L (low_first b))) _ (λ s. low_is _ s (λ q. push (I64L q.0) q.1)) (bytes_end _ _ _ (λ b. I64L (low_first b)) c.if-pickle-c.true)

pub returns : goal.returns
returns c = same_step _ _ (unsigned _) (fixed _ (λ b. I64L (low_first b))) _ (λ s. low_is _ s (λ q. push (I64L q.0) q.1)) (bytes-push _ _ _ (λ b. I64L (low_first b)) _ _ _ (lent_at _ _ c.requires.0) (omega arith) (makes_as _ _ _ _ _ c.low_at.ensures.0 (makes_i64 _ _)) refl)
