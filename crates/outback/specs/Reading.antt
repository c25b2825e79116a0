-- What the reading of a pickle gives back: an added refusal, or the value and as many bytes as its pickle has. That it does is in proofs/Reading.
use Rattle.std.specs.Prelude.{not, ◌≡◌, T}
use Rattle.std.proofs.Math.ListN.{length}
use Rattle.refusal.specs.declared.Refusal.{Refusal}
use Rattle.value.specs.Value.{Value, one}
use Rattle.reading.specs.Reading.{Reading, refuses, reads}
use Rattle.ser.specs.Image.{pickled}
use Rattle.outback.specs.Added.{added, added_refusal}

-- what it comes to
pub data ReadBack (v : Value) (r : Reading) : Type 0 where
  refused : (why : Refusal) → T (added_refusal why) → r ≡ refuses why → ReadBack v r
  back : r ≡ reads (length (pickled v)) (one v) → ReadBack v r

-- a reading meets no added refusal
abbrev pub Unhindered : Reading → Type 0
Unhindered r = T (not (added r.answer.number))
