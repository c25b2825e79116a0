use Rattle.std.proofs.Common.{arith, ◌∙◌}
use borrow.Author.Tests.{ltb-true, eqb-false, ne_eqb}
use Rattle.text.proofs.Digits.{hex_plain}
use Rattle.text.proofs.hex_number.Goals as goal
use Rattle.text.proofs.hex_number.Goals.{in_default-via-then-digits-lt1, in_default-via-else-digits-lt1+in_default-1}

pub returns-in_default : goal.returns-in_default
returns-in_default c =
    c.hex_digits-in_default.ensures ∙ elim c.in_default.branch [
      | in_default-via-then-digits-lt1 w ↦ hex_plain _ (λ h k. omega (arith, ltb-true))
      | in_default-via-else-digits-lt1+in_default-1 w ↦ hex_plain _ (λ h k. omega (arith, eqb-false, ne_eqb))
    ]
