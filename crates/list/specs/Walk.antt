-- The walk over a table's records: what a function that measures or lists some values asks for and promises.
use Rattle.std.specs.Prelude.{ℕ, ◌+◌, ◌^◌, ◌≤◌, ◌<◌, List, ◌≡◌, length}
use Rattle.value.specs.Value.{Forest, count, size, depth}
use Rattle.value.specs.Stands.{Stands}
use Rattle.output.specs.Put.{Put, Room}
use Rattle.list.specs.Listing.{listing}

-- n values stand from record i on, at depth d, and the output has room at `at` for their lines
pub record ReadyToList (w t : List ℕ) (i n d : ℕ) (o : List ℕ) (at : ℕ) : Type 0 where
  pub values : Forest
  pub stands : Stands w t i values
  pub counted : count values ≡ n
  pub few : size values ≤ length w
  pub shallow : d + depth values ≤ 64
  pub room : Room o at (listing d values)

-- whatever values they are, their listing was put, and the next record is behind them
pub record ListingPut (f : Forest) (i d : ℕ) (o : List ℕ) (at : ℕ) (o' : List ℕ) (i' at' : ℕ) : Type 0 where
  pub passed : i' ≡ i + size f
  pub put : Put o at (listing d f) o' at'

abbrev pub PutsListing : List ℕ → List ℕ → ℕ → ℕ → ℕ → List ℕ → ℕ → List ℕ → ℕ → ℕ → Type 0
PutsListing w t i n d o at o' i' at' = (f : Forest) → Stands w t i f → count f ≡ n → ListingPut f i d o at o' i' at'

-- the same where only the places are counted: there is an output that would have room
pub record Countable (w t : List ℕ) (i n d at : ℕ) : Type 0 where
  pub out : List ℕ
  pub short : length out < 2 ^ 64
  pub ready : ReadyToList w t i n d out at

abbrev pub CountsListing : List ℕ → List ℕ → ℕ → ℕ → ℕ → ℕ → ℕ → ℕ → Type 0
CountsListing w t i n d at i' at' = (f : Forest) → Stands w t i f → count f ≡ n → (i' ≡ i + size f) × (at' ≡ at + length (listing d f))
