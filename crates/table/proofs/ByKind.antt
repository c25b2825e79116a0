-- The kind and the state that word 0 says, as `head_of` answers them.
use Rattle.std.proofs.Common.{◌≡◌, ℕ, ap}
use Rattle.value.specs.declared.Head.{Head}
use Rattle.value.specs.Shape.{kind_in, state_in, head_of}

pub kind_of : {h : Head} (a : ℕ) → h ≡ head_of a → h.kind ≡ kind_in a
kind_of a e = ap (λ (h : Head). h.kind) e

pub state_of : {h : Head} (a : ℕ) → h ≡ head_of a → h.state ≡ state_in a
state_of a e = ap (λ (h : Head). h.state) e
