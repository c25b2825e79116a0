-- 8 bytes, or too few.
use Rattle.std.proofs.Common.{refl, arith}
use Rattle.decoder.specs.ReadsPickle.{lent_at, bytes_end, bytes-push, makes_as, makes_f64}
use Rattle.steps.specs.Opcodes.{binfloat}
use Rattle.value.specs.Value.{F64L}
use Rattle.input.specs.Bytes.{high_first}
use Rattle.decoder.proofs.binfloat.Goals as goal

pub returns-then-pickle-c-lt8 : goal.returns-then-pickle-c-lt8
unfolding binfloat
returns-then-pickle-c-lt8 c = bytes_end _ _ 8 (λ b. F64L (high_first b)) c.if-pickle-c-lt8.true

pub returns : goal.returns
unfolding binfloat
returns c = bytes-push _ _ 8 (λ b. F64L (high_first b)) _ _ _ (lent_at _ _ c.requires) (omega arith) (makes_as _ _ _ _ _ c.f64_at.ensures (makes_f64 _ _)) refl
