-- The text of the bytes behind these is left to put.
use Rattle.std.proofs.Common.{drop}
use Rattle.output.specs.Put.{StillToPut}
use Rattle.list.specs.Listing.{listed_text}
use Rattle.list.proofs.put_each.Given as goal

abbrev pub invariant-loop-byte : goal.invariant-loop-byte
invariant-loop-byte l = StillToPut l.fn.output l.at (listed_text l.text) l.output l.next (listed_text (drop l.byte-index l.text))
