-- What RULES, Ask 6, assumes of a table, and what its pickle and the reading of it are. proofs/Theorem has the laws over these.
use Rattle.std.specs.Prelude.{ℕ, ◌*◌, List, take, T}
use Rattle.value.specs.Value.{one}
use Rattle.value.specs.WellFormed.{WellFormed}
use Rattle.reading.specs.Reading as Readings
use Rattle.reading.specs.Reading.{prefix}
use Rattle.ser.specs.Image.{pickled}
use Rattle.ser.specs.Writable.{writable_in}
use Rattle.outback.specs.SetCalls.{two_arguments_in}
use Rattle.value.specs.Shape.{Words}

-- the premises on a table of n records in w, with the text t
pub record Outgoing (w : List ℕ) (n : ℕ) (t : List ℕ) : Type 0 where
  pub formed : WellFormed w n t
  pub words : Words w
  pub names : T (writable_in (one formed.value))
  pub objects : T (two_arguments_in (one formed.value))

-- what is written of it
abbrev pub image : {w : List ℕ} {n : ℕ} {t : List ℕ} → Outgoing w n t → List ℕ
image g = pickled g.formed.value

-- a reading of a whole table and its text that took so many bytes
abbrev pub gives : ℕ → List ℕ → ℕ → List ℕ → Readings.Reading
gives bytes w n t = record { answer = record { number = 0; detail = 0; length = bytes; count = n }; words = take (4 * n) w; bytes = t }
