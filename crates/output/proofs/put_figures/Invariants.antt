-- What is left of the digits, stored before those that are, gives them all.
use Rattle.std.proofs.Common.{◌≡◌}
use Rattle.std.proofs.lemmas.List.Edits.{sets}
use Rattle.output.specs.Decimal.{figures}
use Rattle.output.proofs.put_figures.Given as goal

abbrev pub invariant-loop-place : goal.invariant-loop-place
invariant-loop-place l = sets l.output l.at (figures l.base l.place l.rest) ≡ sets l.fn.output l.at (figures l.base l.count l.n)
