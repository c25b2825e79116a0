-- 4 bytes, or too few.
use Rattle.std.proofs.Common.{refl, arith}
use Rattle.decoder.specs.ReadsPickle.{lent_at, bytes_end, bytes-push, makes_as, makes_i64}
use Rattle.steps.specs.Opcodes.{binint}
use Rattle.value.specs.Value.{I64L}
use Rattle.input.specs.Long.{bits64, denotes}
use Rattle.decoder.proofs.binint.Goals as goal

pub returns-then-pickle-c-lt4 : goal.returns-then-pickle-c-lt4
unfolding binint
returns-then-pickle-c-lt4 c = bytes_end _ _ 4 (λ b. I64L (bits64 (denotes b))) c.if-pickle-c-lt4.true

pub returns : goal.returns
unfolding binint
returns c = bytes-push _ _ 4 (λ b. I64L (bits64 (denotes b))) _ _ _ (lent_at _ _ c.requires) (omega arith) (makes_as _ _ _ _ _ c.i32_at.ensures (makes_i64 _ _)) refl
