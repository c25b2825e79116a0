-- PROTO.
use Rattle.std.proofs.Common.{refl, arith}
use Rattle.decoder.proofs.LawsPickle.{proto_ends, proto_new, proto_known}
use Rattle.decoder.proofs.proto.Goals as goal

pub returns-then-pickle-c-lt1 : goal.returns-then-pickle-c-lt1
returns-then-pickle-c-lt1 c = proto_ends _ _ _ c.if-pickle-c-lt1.true

pub returns-then-highest-p : goal.returns-then-highest-p
returns-then-highest-p c = proto_new _ _ _ (omega arith) (omega arith)

pub returns : goal.returns
returns c = proto_known _ _ _ (omega arith) _ (omega arith) refl
