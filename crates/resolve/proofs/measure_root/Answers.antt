use Rattle.std.proofs.Common.{arith}
use Rattle.resolve.specs.Rooted.{Roots, root_reads, root_open, root_word, root_empty, root_walk}
use Rattle.resolve.proofs.measure_root.Goals as goal

pub known-requires : goal.known-requires
known-requires c = let b = c.requires in record { length_readable = root_reads b; node_in_bounds = omega (arith, b.below, b.many) }

pub measure-requires : goal.measure-requires
measure-requires c = record { levels_in_range = (omega arith, omega arith); opens = root_open c.requires _ c.in-Open.ensures }

pub returns-in-Word : goal.returns-in-Word
unfolding Roots
returns-in-Word c = λ b. root_word b _ _ c.in-Word.ensures

pub returns-in-Empty : goal.returns-in-Empty
unfolding Roots
returns-in-Empty c = λ b. absurd (root_empty b _ c.in-Empty.ensures)

pub returns-in-Open : goal.returns-in-Open
unfolding Roots
returns-in-Open c = λ b. root_walk b _ c.in-Open.ensures _ _ _ _ c.measure.ensures
