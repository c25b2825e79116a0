-- What is added up, and what is left to add, is all.
use Rattle.std.proofs.Common.{◌≡◌, ◌+◌, ◌-◌}
use Rattle.ser.specs.Length.{records_take}
use Rattle.ser.proofs.pickle_len.Given as goal

abbrev pub invariant-loop-i : goal.invariant-loop-i
invariant-loop-i l = l.sum + records_take l.words l.i (l.count - l.i) ≡ records_take l.words 0 l.count + 3
