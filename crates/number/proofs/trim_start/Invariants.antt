-- What is left strips to the same.
use Rattle.std.proofs.Common.{◌≡◌, length}
use Rattle.number.specs.Space.{strip}
use Rattle.number.proofs.trim_start.Given as goal

abbrev pub invariant-loop-rest : goal.invariant-loop-rest
invariant-loop-rest l = strip (λ p. p) 0 l.text ≡ strip (λ p. p) 0 l.line

abbrev pub decreases-loop-rest : goal.decreases-loop-rest
decreases-loop-rest l = length l.text
