-- What the passes behind the measuring are given and what they make. Given: nodes as the words say them, a root whose tree is within the limits, the walk from it as
-- the rooms hold it, and rooms to work in. Made: the table and text of the tree in order.
use Rattle.std.specs.Prelude.{ℕ, ◌*◌, ◌<◌, ◌≤◌, false, List, [], ◌++◌, ◌≡◌, length, drop, replicate}
use Rattle.value.specs.Value.{Forest, one, kind, size, depth, text, table as table_of}
use Rattle.value.specs.Shape.{kind_in}
use Rattle.steps.specs.State.{Node}
use Rattle.steps.specs.NodeWords.{first, class_in}
use Rattle.reading.specs.Build.{at, tree}
use Rattle.reading.specs.Graph.{Graph}
use Rattle.reading.specs.Settle.{settle}
use Rattle.resolve.specs.Noted.{is_container}
use Rattle.resolve.specs.Shown.{node_label}
use Rattle.resolve.specs.Tree.{walked}
use Rattle.resolve.specs.Facts.{HoldsWalk}
use Rattle.de.specs.Rooms.{Zeros}

-- ---- given

-- the pickle p and the words ws say the nodes t: their labels, and that an Object's class is a Global. Leaves have no children, an Object has
-- its arguments and any state
pub record Worded (p ws : List ℕ) (t : List Node) : Type 0 where
  pub beyond : length t ≤ 4096
  pub short : length p ≤ 65536
  pub words_long : 2 * length t ≤ length ws
  pub labels_are : (i : ℕ) → i < length t → (at t i).label ≡ node_label p ws i
  pub classes : (i : ℕ) → i < length t → kind_in (first ws i) ≡ 12 → (class_in (first ws i) < length t) × (kind_in (first ws (class_in (first ws i))) ≡ 11)
  pub leafless : (i : ℕ) → i < length t → is_container (at t i).label ≡ false → (at t i).kids ≡ []
  pub few : (i : ℕ) → i < length t → kind (at t i).label ≡ 12 → length (at t i).kids ≤ 2

-- the root's tree is within the limits; the children were side by side before the walk
pub record Limited (p ws starts : List ℕ) (t : List Node) (root : ℕ) : Type 0 where
  pub worded : Worded p ws t
  pub before : List ℕ
  pub graph : Graph t starts before
  pub below : root < length t
  pub deep : depth (one (tree t root)) ≤ 64
  pub records : size (one (tree t root)) ≤ 2048
  pub texts : length (text (one (tree t root))) ≤ 65536

-- and the rooms hold what the walk from it left; `lent` is the room of dues before
pub record MeasuredAs (p ws starts sorted dues measures : List ℕ) (t : List Node) (root : ℕ) : Type 0 where
  pub limited : Limited p ws starts t root
  pub lent : List ℕ
  pub holds : HoldsWalk t limited.worded.beyond starts lent measures sorted dues (walked t 4096 64 root).after

-- there are such nodes
pub record Measured (p ws starts sorted dues measures : List ℕ) (root : ℕ) : Type 0 where
  pub nodes : List Node
  pub are : MeasuredAs p ws starts sorted dues measures nodes root

-- rooms to work in, and room for the outputs
pub record WorkRooms (decoded log list table bytes : List ℕ) : Type 0 where
  pub decoded_zero : Zeros 65536 decoded
  pub log_zero : Zeros 8192 log
  pub list_zero : list ≡ replicate 2048 0
  pub table-long : 8192 ≤ length table
  pub text-long : 65536 ≤ length bytes

-- ---- made

-- the table and text of f, what was behind them, and the number of records
pub record Produced (f : Forest) (table bytes table' bytes' : List ℕ) (records : ℕ) : Type 0 where
  pub counted : records ≡ size f
  pub table_is : table' ≡ table_of f 0 ++ drop (4 * size f) table
  pub text_is : bytes' ≡ text f ++ drop (length (text f)) bytes

-- of whatever nodes the rooms hold
abbrev pub Produces : (p ws starts sorted dues measures : List ℕ) (root : ℕ) (table bytes table' bytes' : List ℕ) (records : ℕ) → Type 0
Produces p ws starts sorted dues measures root table bytes table' bytes' records =
    (t : List Node) → MeasuredAs p ws starts sorted dues measures t root → Produced (settle (one (tree t root))) table bytes table' bytes' records

-- the rooms as they were lent
pub record Restored (decoded log list decoded' log' list' : List ℕ) : Type 0 where
  pub decoded_same : decoded' ≡ decoded
  pub log_same : log' ≡ log
  pub list_same : list' ≡ list
