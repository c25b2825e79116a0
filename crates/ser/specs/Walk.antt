-- The walk over a table's records: what a function that writes some values asks for and promises, by what is to be made of their
-- parts, the bytes of each of them.
use Rattle.std.specs.Prelude.{ℕ, ◌+◌, List, ◌≡◌}
use Rattle.value.specs.Value.{Forest, count, size}
use Rattle.value.specs.Stands.{Stands}
use Rattle.output.specs.Put.{Put, Room}
use Rattle.ser.specs.Image.{images}

-- what is made of parts
abbrev pub Maker : Type 0
Maker = List (List ℕ) → List ℕ

-- n values stand from record i on, and the output has room at `at` for what F makes of them
pub record ReadyToWrite (F : Maker) (w t : List ℕ) (i n : ℕ) (o : List ℕ) (at : ℕ) : Type 0 where
  pub values : Forest
  pub stands : Stands w t i values
  pub counted : count values ≡ n
  pub room : Room o at (F (images values))

-- whatever values they are, what F makes of them was put
abbrev pub Puts : Maker → List ℕ → List ℕ → ℕ → ℕ → List ℕ → ℕ → List ℕ → ℕ → Type 0
Puts F w t i n o at o' at' = (f : Forest) → Stands w t i f → count f ≡ n → Put o at (F (images f)) o' at'

-- and the next record is behind them
pub record Wrote (F : Maker) (w t : List ℕ) (i n : ℕ) (o : List ℕ) (at : ℕ) (o' : List ℕ) (i' at' : ℕ) : Type 0 where
  pub puts : Puts F w t i n o at o' at'
  pub passed : (f : Forest) → Stands w t i f → count f ≡ n → i' ≡ i + size f
