-- What the answer of `int` means: the refusal of RULES A7, or the value with an i64 as its 64 bits.
use Rattle.std.specs.Prelude.{ℕ, Bool, Result, Ok, Err, pos, neg_ℤ}
use Rattle.refusal.specs.Read.{Read, got, refused}
use Rattle.refusal.specs.declared.Refusal.{Refusal}
use Rattle.number.specs.declared.IntLiteral.{IntLiteral}
use Rattle.number.specs.declared.IntLiteral.TheVariants as INT
use Rattle.number.specs.Number.{Int, truth, whole}
use Rattle.input.specs.Long.{bits64}

-- the bits of -n
unfoldable pub negated : ℕ → ℕ
negated n = bits64 (neg_ℤ (pos n))

-- what INT puts on the stack: a Bool, or the bits of an I64
pub data IntBits : Type 0 where
  truth_bits : Bool → IntBits
  whole_bits : ℕ → IntBits

-- an INT's value with its integer as bits
unfoldable pub int_bits : Int → IntBits
int_bits (truth b) = truth_bits b
int_bits (whole z) = whole_bits (bits64 z)

-- INT's answer
unfoldable pub int_read : Result IntLiteral Refusal → Read IntBits
int_read (Ok (INT.Bool b)) = got (truth_bits b)
int_read (Ok (INT.I64 bits)) = got (whole_bits bits)
int_read (Err why) = refused why 0
