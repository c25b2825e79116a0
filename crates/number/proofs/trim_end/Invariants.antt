-- What is left strips to the same.
use Rattle.std.proofs.Common.{◌≡◌, length, reverse}
use Rattle.number.specs.Space.{strip}
use Rattle.number.proofs.trim_end.Given as goal

abbrev pub invariant-loop-rest : goal.invariant-loop-rest
invariant-loop-rest l = strip reverse 0 (reverse l.text) ≡ strip reverse 0 (reverse l.line)

abbrev pub decreases-loop-rest : goal.decreases-loop-rest
decreases-loop-rest l = length l.text
