use Rattle.std.proofs.Common.{refl}
use Rattle.value.specs.Shape.{kind_in, fresh_in, state_in}
use Rattle.value.proofs.head_of.Goals as goal

pub returns : goal.returns
unfolding kind_in fresh_in state_in
returns c = refl
