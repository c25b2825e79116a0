-- A result that is no refusal with 1, 2, 11, 23 or 24. That every opcode, step and run gives such a one is in proofs/InnerSteps.
use Rattle.steps.specs.State.{Res, ok, no}
use Rattle.run_laws.specs.Inner.{Inner}

-- whatever is refused, is refused with another number
unfoldable pub InnerOnly : {A : Type 0} → Res A → Type 0
InnerOnly (ok a) = Unit {0}
InnerOnly (no why) = Inner why
