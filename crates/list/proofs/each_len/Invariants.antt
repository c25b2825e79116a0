-- What the bytes behind these take is left to add.
use Rattle.std.proofs.Common.{◌≡◌, ◌+◌, length, drop}
use Rattle.list.specs.Listing.{listed_text}
use Rattle.list.proofs.each_len.Given as goal

abbrev pub invariant-loop-byte : goal.invariant-loop-byte
invariant-loop-byte l = l.sum + length (listed_text (drop l.byte-index l.text)) ≡ length (listed_text l.text)
