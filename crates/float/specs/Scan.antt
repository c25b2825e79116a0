-- What the scans of the code answer. Their numbers stop at `cap`, which is above 2 ^ 53 and above every slice's length by more than
-- 22, so that no test of RULES A7.5 tells a capped number from the number itself.
use Rattle.std.specs.Prelude.{ℕ, ◌+◌, ◌*◌, ◌^◌, ◌≤◌, min, List, Option, Some, None, ◌≡◌, length, drop}
use Rattle.number.specs.Number.{decimal}
use Rattle.float.specs.Digits.{lead, past}
use Rattle.float.specs.Form.{fraction, beyond, mantissa_digits, Exponent, raised, lowered, unformed}
use Rattle.float.specs.declared.DigitRun.{DigitRun}
use Rattle.float.specs.declared.Mantissa.{Mantissa}
use Rattle.float.specs.declared.Power.{Power}
use Rattle.float.specs.declared.Power.TheVariants.{Up, Down}

-- a digit put after 10 ^ 18 or more is at it or past it
abbrev pub cap : ℕ
cap = 10 ^ 19

-- a number that is read on at a text: the digits that the text begins with are put after it
unfoldable pub read_on : ℕ → List ℕ → ℕ
read_on start s = min (start * 10 ^ length (lead s) + decimal (lead s)) cap

-- that number, and how many digits were read
unfoldable pub run_of : ℕ → List ℕ → DigitRun
run_of start s = record { value = read_on start s; count = length (lead s) }

-- the digits before the exponent, how many they are, how many of them stand after the point, and where the text goes on
pub record Scanned (s : List ℕ) (r : Mantissa) : Type 0 where
  pub whole : r.w ≡ min (decimal (mantissa_digits s)) cap
  pub all : r.count ≡ length (mantissa_digits s)
  pub after : r.shift ≡ length (fraction (past s))
  pub room : r.end ≤ length s
  pub rest : drop r.end s ≡ beyond (past s)

-- an exponent as the code has it
unfoldable pub capped : Exponent → Option Power
capped (raised n) = Some (Up (min n cap))
capped (lowered n) = Some (Down (min n cap))
capped unformed = None
