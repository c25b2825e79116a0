-- The lengths that are left add up to what is left of the sheets.
use Rattle.std.proofs.Common.{◌≡◌, length, drop}
use Rattle.lengths.specs.Sum.{sum}
use Rattle.checking.proofs.show_plain.Given as goal

abbrev pub invariant-loop-length : goal.invariant-loop-length
invariant-loop-length l = length l.rest ≡ sum (drop l.length-index l.lengths)
