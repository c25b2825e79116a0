-- Four bytes, filled up by their sign, are the integer's 64 bits.
use Rattle.std.proofs.Common.{rules}
use Rattle.input.proofs.Laws.{i32_is}
use Rattle.input.proofs.i32_at.Goals as goal

pub returns : goal.returns
returns c = i32_is c.args.pickle.now c.args.at _ _ c.requires (λ i. search rules) c.fill_of.ensures c.low_first.ensures.0
