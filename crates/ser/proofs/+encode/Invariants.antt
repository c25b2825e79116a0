-- The records that are left fall, with a phase: a value before the items that call it, those before a batch or a tuple, those before the
-- batches, those before the appends. A loop's invariant: writing what is left will have written it all.
use Rattle.std.proofs.Common.{◌+◌, ◌-◌, ◌*◌, length}
use Rattle.ser.specs.Image.{joined, batches}
use Rattle.ser.specs.Parts.{WrittenSoFar}
use Rattle.ser.proofs.+encode.Given as goal

abbrev pub decreases-encode : goal.decreases-encode
decreases-encode l = 5 * (length l.words.now - l.i)

abbrev pub decreases-encode_appends : goal.decreases-encode_appends
decreases-encode_appends l = 5 * (length l.words.now - l.from) + 4

abbrev pub decreases-encode_batch : goal.decreases-encode_batch
decreases-encode_batch l = 5 * (length l.words.now - l.from) + 2

abbrev pub decreases-encode_batches : goal.decreases-encode_batches
decreases-encode_batches l = 5 * (length l.words.now - l.from) + 3

abbrev pub decreases-encode_items : goal.decreases-encode_items
decreases-encode_items l = 5 * (length l.words.now - l.from) + 1

abbrev pub decreases-encode_object : goal.decreases-encode_object
decreases-encode_object l = 5 * (length l.words.now - l.from) + 1

abbrev pub decreases-encode_tuple : goal.decreases-encode_tuple
decreases-encode_tuple l = 5 * (length l.words.now - l.from) + 2

abbrev pub invariant-encode_batches-loop-left : goal.invariant-encode_batches-loop-left
invariant-encode_batches-loop-left l = WrittenSoFar (batches l.entries) l.words l.text l.from l.count l.fn.output l.at l.output l.i l.left l.next

abbrev pub decreases-encode_batches-loop-left : goal.decreases-encode_batches-loop-left
decreases-encode_batches-loop-left l = l.left

abbrev pub invariant-encode_items-loop : goal.invariant-encode_items-loop
invariant-encode_items-loop l = WrittenSoFar joined l.words l.text l.from l.count l.fn.output l.at l.output l.i (l.count - l.counter) l.next
