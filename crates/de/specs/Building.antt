-- Building at STOP in zero rooms: what it asks for, and what it comes to.
use Rattle.std.specs.Prelude.{Result, Ok, Err, ℕ, ◌+◌, ◌*◌, ◌<◌, ◌≤◌, Bool, not, List, ◌++◌, ◌≡◌, refl, length, get_or, take, drop}
use Rattle.std.proofs.Common.{sym, ◌∙◌, get_or-take, arith}
use Rattle.std.proofs.Math.Seq.{length_front}
use Rattle.refusal.specs.declared.Refusal.{Refusal}
use Rattle.refusal.specs.declared.Refusal.TheVariants.{TrailingData}
use Rattle.value.specs.Value.{Forest, one, size, text, table}
use Rattle.rooms.specs.Cleared.{cleared}
use Rattle.steps.specs.State.{Res, ok, no, ◌>>=◌, need}
use Rattle.store.specs.declared.Counts.{Counts}
use Rattle.store.specs.Rooms.{Rooms, state_of}
use Rattle.store.specs.Effects.{AsLentBehind}
use Rattle.store.specs.RoomReads.{nodes-length}
use Rattle.reading.specs.Build.{tree}
use Rattle.resolve.specs.Standing.{SaysNodes}
use Rattle.reading.specs.Measure.{measured}
use Rattle.reading.specs.Settle.{settle}
use Rattle.resolve.specs.SideBySide.{Ended, SomeEnded, SideBySide}
use Rattle.resolve.specs.Rooted.{ReadyToResolve}
use Rattle.de.specs.Rooms.{Zeros, zeros_long, front_cleared, part_length, part_behind, zeros_at, part_back}
use Rattle.de.specs.Measured.{WorkRooms}

-- r and c are the machine's at its STOP, with this pickle, these words, this log, which was zero, and these counts
pub record At (p ws owners log : List ℕ) (count links : ℕ) (r : Rooms) (c : Counts) : Type 0 where
  pub ended : Ended ws owners log count links r c
  pub pickle : r.pickle ≡ p
  pub owners_zero : Zeros 8192 r.lent.owners
  pub log_zero : Zeros 8192 r.lent.children

-- the rooms behind STOP, zero up to their stated lengths, and room for the outputs
pub record Working (list decoded starts sorted measures table text : List ℕ) : Type 0 where
  pub list_zero : Zeros 2048 list
  pub decoded_zero : Zeros 65536 decoded
  pub starts_zero : Zeros 4098 starts
  pub sorted_zero : Zeros 16384 sorted
  pub measures_zero : Zeros 4096 measures
  pub table_room : 8192 ≤ length table
  pub text_room : 65536 ≤ length text

-- what is due of a tree: 17, 18, 19, then 11 where bytes are left that may not be
unfoldable pub due_of : Bool → Forest → Res (Unit {0})
due_of left f = measured f >>= λ x. need (not left) TrailingData

-- what building a tree comes to
unfoldable pub Comes : Bool → Forest → Result ℕ Refusal → List ℕ → List ℕ → List ℕ → List ℕ → Type 0
Comes left f (Err why) o q o' q' = (due_of left f ≡ no why) × (o' ≡ o) × (q' ≡ q)
Comes left f (Ok n) o q o' q' = (due_of left f ≡ ok tt) × (n ≡ size (settle f)) × (o' ≡ table (settle f) 0 ++ drop (4 * size (settle f)) o) × (q' ≡ text (settle f) ++ drop (length (text (settle f))) q)

-- of whatever nodes the rooms say, once the children of each stand side by side
unfoldable pub BuildsLaid : List ℕ → List ℕ → List ℕ → List ℕ → List ℕ → List ℕ → ℕ → Bool → Result ℕ Refusal → List ℕ → List ℕ → List ℕ → List ℕ → Type 0
BuildsLaid p ws starts sorted measures dues root left b o q o' q' = (k : ReadyToResolve p ws starts sorted measures dues root) → Comes left (one (tree k.nodes root)) b o q o' q'

-- ---- at STOP

module _ {p ws owners log : List ℕ} {count links : ℕ} {r : Rooms} {c : Counts} (a : At p ws owners log count links r c) where
  nodes_few : count ≤ 4096
  nodes_few = omega (arith, a.ended.sound.firm.nodes, a.ended.count_is)

  nodes-many : length (state_of r c).nodes ≡ count
  nodes-many = nodes-length r c ∙ a.ended.count_is

  stands : SaysNodes p ws (state_of r c).nodes
  stands = record { rooms = r; counts = c; sound = a.ended.sound; pickle = a.pickle; words = a.ended.words; nodes = refl }

  -- a room of the log, once its links are cleared
  links_cleared : {lent room : List ℕ} → Zeros 8192 lent → AsLentBehind c.links lent room → Zeros 8192 (cleared links room)
  links_cleared {lent} {room} z b = rw (front_cleared 8192 links lent room z (omega (arith, a.ended.sound.firm.links, a.ended.links_are)) (rw a.ended.links_are at b.same)) z

  owners-cleared : Zeros 8192 (cleared links owners)
  owners-cleared = rw a.ended.owners_are at (links_cleared a.owners_zero a.ended.sound.firm.clean.owners)

  log_cleared : Zeros 8192 (cleared links log)
  log_cleared = rw a.ended.log_is at (links_cleared a.log_zero a.ended.sound.firm.clean.children)

-- ---- from each step of `answer` to the next

module _ {p ws owners log : List ℕ} {count links root : ℕ} {r : Rooms} {c : Counts} (a : At p ws owners log count links r c) (known : root < count) {list decoded starts sorted measures o q : List ℕ} (w : Working list decoded starts sorted measures o q) where
  pub stopped : SomeEnded ws owners log count links
  stopped = record { rooms = r; counts = c; ended = a.ended }

  pub count_few : count ≤ 4096
  count_few = nodes_few a

  pub children_fit : (count < length starts) × (16384 ≤ length sorted)
  children_fit = (omega (arith, nodes_few a, zeros_long w.starts_zero), zeros_long w.sorted_zero)

  pub first_zero : get_or starts 0 0 ≡ 0
  first_zero = zeros_at w.starts_zero 0 (omega arith)

  pub list-long : 2048 ≤ length list
  list-long = zeros_long w.list_zero

  -- the children are laid out, and the log is cleared
  module _ {starts' sorted' owners' : List ℕ} {used : ℕ} (S : SideBySide ws owners log count links starts sorted starts' sorted' used) (sl : length sorted' ≡ length sorted) (e : owners' ≡ cleared links owners) where
    owners_zeros : Zeros 8192 owners'
    owners_zeros = rw e (owners-cleared a)

    pub rooms_lent : (log' : List ℕ) → log' ≡ cleared links log → WorkRooms decoded log' (take 2048 list) o q
    rooms_lent log' l =
        record {
          decoded_zero = w.decoded_zero;
          log_zero = rw l (log_cleared a);
          list_zero = w.list_zero.zero;
          table-long = w.table_room;
          text-long = w.text_room;
        }

    pub parts_fit : (used ≤ length sorted') × (count ≤ length measures) × (count + 1 ≤ length owners')
    parts_fit = (
      omega (arith, S.few, zeros_long w.sorted_zero),
      omega (arith, nodes_few a, zeros_long w.measures_zero),
      omega (arith, nodes_few a, zeros_long owners_zeros),
    )

    -- the parts lent to `build_laid`: the owners' room is for the dues
    pub laid_begins : ReadyToResolve p ws starts' (take used sorted') (take count measures) (take (count + 1) owners') root
    laid_begins =
        record {
          nodes = (state_of r c).nodes;
          stands = stands a;
          graph = S.graph r c a.ended;
          beyond = omega (arith, nodes-many a, nodes_few a);
          many = part_length count measures parts_fit.1 ∙ sym (nodes-many a);
          blank = λ i l. (get_or-take count measures i 0 (omega (arith, nodes-many a)) ∙ zeros_at w.measures_zero i (omega (arith, nodes-many a, nodes_few a)));
          roomy = omega (arith, nodes-many a, part_length (count + 1) owners' parts_fit.2);
          no_dues = (get_or-take (count + 1) owners' 0 0 (omega arith) ∙ zeros_at owners_zeros 0 (omega arith));
          below = omega (arith, known, nodes-many a);
        }

    pub laid_comes : (left : Bool) (b : Result ℕ Refusal) (o' q' : List ℕ) → BuildsLaid p ws starts' (take used sorted') (take count measures) (take (count + 1) owners') root left b o q o' q'
        → Comes left (one (tree (state_of r c).nodes root)) b o q o' q'
    unfolding BuildsLaid laid_begins
    laid_comes left b o' q' m = m laid_begins

    -- whatever the parts have come to: they are cleared, and the rooms are as they were
    pub clear_fits : (d m n : List ℕ) → length d ≡ length (take used sorted') → length m ≡ length (take count measures) → length n ≡ length (take (count + 1) owners') → length starts' ≡ length starts
        → (count + 1 ≤ length (n ++ drop (count + 1) owners')) × (count + 1 ≤ length starts')
        × (used ≤ length (d ++ drop used sorted')) × (count ≤ length (m ++ drop count measures))
    clear_fits d m n dl ml nl tl = (
      omega (arith, parts_fit.2, length_front owners' n (count + 1) nl),
      omega (arith, children_fit.0, tl),
      omega (arith, parts_fit.0, length_front sorted' d used dl),
      omega (arith, parts_fit.1, length_front measures m count ml),
    )

    pub rooms_back : (d m n : List ℕ) → length d ≡ length (take used sorted') → length m ≡ length (take count measures) → length n ≡ length (take (count + 1) owners')
        → (cleared (count + 1) (n ++ drop (count + 1) owners') ≡ cleared links owners) × (cleared (count + 1) starts' ≡ starts)
        × (cleared used (d ++ drop used sorted') ≡ sorted) × (cleared count (m ++ drop count measures) ≡ measures)
    rooms_back d m n dl ml nl = (
      part_back owners_zeros (count + 1) (omega (arith, nodes_few a)) n nl ∙ e,
      front_cleared 4098 (count + 1) starts starts' w.starts_zero (omega (arith, nodes_few a)) S.starts_behind,
      front_cleared 16384 used sorted (d ++ drop used sorted') w.sorted_zero S.few (part_behind used sorted' d parts_fit.0 dl ∙ S.sorted_behind),
      part_back w.measures_zero count (nodes_few a) m ml,
    )
