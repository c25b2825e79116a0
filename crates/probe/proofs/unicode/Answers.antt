-- A line that is measured reads, and has room.
use Rattle.std.proofs.Common.{arith}
use Rattle.text.specs.Answers.{decoded_len}
use Rattle.probe.proofs.unicode.Goals as goal

pub unescape_unicode-n-requires : goal.unescape_unicode-n-requires
unescape_unicode-n-requires c = let h = decoded_len _ _ c.in_ok-unicode_len.ensures in record { is = h.0; fits = omega (arith, h.1) }
