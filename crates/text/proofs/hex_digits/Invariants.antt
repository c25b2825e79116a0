-- The value so far, followed by the digits that are left, is what the whole is.
use Rattle.std.proofs.Common.{◌≡◌, ◌<◌, ◌^◌, drop}
use Rattle.text.specs.Escapes.{hex_from, hex_digits}
use Rattle.text.proofs.hex_digits.Given as goal

abbrev pub invariant-loop-c : goal.invariant-loop-c
invariant-loop-c l = record {
  left : hex_from l.value (drop l.c-index l.digits) ≡ hex_digits l.digits;
  small : l.value < 16 ^ l.c-index;
}
