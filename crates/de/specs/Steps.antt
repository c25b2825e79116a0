-- The calls of `build_laid` behind the measuring: what each asks for, from what those before it left, and what they come to together.
use Rattle.std.specs.Prelude.{ℕ, ◌-◌, ◌≤◌, List, ◌++◌, ◌≡◌, length, take, drop}
use Rattle.std.proofs.Common.{◌∙◌, ap, arith}
use Rattle.std.proofs.lemmas.List.{length-replicate}
use Rattle.rooms.specs.Cleared.{cleared}
use Rattle.steps.specs.State.{Node}
use Rattle.resolve.specs.Tree.{walked}
use Rattle.resolve.specs.TextsDue.{due_text, Decodes}
use Rattle.emit.specs.Settling.{Unsettled, SettledRooms, SettlesAll}
use Rattle.emit.specs.declared.Place.{Place}
use Rattle.emit.specs.Roots.{Rooted, Emits}
use Rattle.de.specs.Rooms.{zeros_long, front_cleared, end_begins, end_fits, end_cleared}
use Rattle.de.specs.Measured.{MeasuredAs, Measured, WorkRooms, Produces}
use Rattle.de.specs.Texts.{measures_many, texts_fit}
use Rattle.de.specs.Spelt.{Spelt, spelt}
use Rattle.de.specs.Made.{rooted, produced}

-- ---- after the decoding

module _ {p ws starts sorted noted measures₀ : List ℕ} {root : ℕ} {decoded log list table bytes d measures : List ℕ} {used : ℕ} (m : Measured p ws starts sorted noted measures₀ root) (l : WorkRooms decoded log list table bytes) (D : Decodes p ws decoded measures₀ (length measures₀) d measures used) where
  pub log_long : 8192 ≤ length log
  log_long = zeros_long l.log_zero

  list-long : length list ≡ 2048
  list-long = ap length l.list_zero ∙ length-replicate {A = ℕ} 2048 0

  -- of whatever nodes the rooms hold
  spelt_as : {t : List Node} → MeasuredAs p ws starts sorted noted measures₀ t root → Spelt p d ws starts sorted noted measures log list t root
  spelt_as y = spelt y D log list log_long list-long

  pub unsettled : Unsettled noted p d ws starts sorted log measures list
  unsettled = record { t = m.nodes; s = _; lent = (spelt_as m.are).lent; ready = (spelt_as m.are).ready }

  used_few : used ≤ 65536
  used_few = let e : due_text p ws measures₀ (length measures₀) ≡ due_text p ws measures₀ (length m.nodes) = ap (due_text p ws measures₀) (measures_many m.are) in omega (arith, D.spent, texts_fit m.are)

  pub decoded_fits : used ≤ length d
  decoded_fits = omega (arith, used_few, zeros_long l.decoded_zero, D.same_room)

  pub decoded_again : cleared used d ≡ decoded
  decoded_again = front_cleared 65536 used decoded d l.decoded_zero used_few D.behind

  -- ---- and the settling

  module _ {sorted' log' measures' list' : List ℕ} {items most : ℕ} (x : SettlesAll noted p d ws starts sorted log measures list sorted' log' measures' list' items most) where
    settled_as : {t : List Node} → MeasuredAs p ws starts sorted noted measures₀ t root → SettledRooms t (walked t 4096 64 root).after p d ws starts log measures list sorted' log' measures' list' items most
    settled_as {t} y = x t _ (spelt_as y).lent (spelt_as y).ready

    pub root_ready : Rooted p d ws starts sorted' log' root measures' table bytes
    root_ready = rooted (spelt_as m.are) (settled_as m.are) l.table-long l.text-long

    pub produces : {table' bytes' : List ℕ} {r : Place} → Emits p d ws starts sorted' log' root measures' table bytes table' bytes' r → Produces p ws starts sorted noted measures₀ root table bytes table' bytes' r.records
    produces e t y = produced (spelt_as y) (settled_as y) l.table-long l.text-long e

    pub items_few : items ≤ 8192
    items_few = (settled_as m.are).used-within

    pub log_again : cleared items log' ≡ log
    log_again = front_cleared 8192 items log log' l.log_zero items_few (settled_as m.are).kept.behind

    pub most_few : most ≤ 2048
    most_few = omega (arith, list-long, (settled_as m.are).most_within)

    module _ (same : length list' ≡ length list) where
      pub list-begins : 2048 - most ≤ length list'
      list-begins = end_begins 2048 most list list' l.list_zero most_few same

      pub list_fits : most ≤ length (take (length list' - (2048 - most)) (drop (2048 - most) list'))
      list_fits = end_fits 2048 most list list' l.list_zero most_few same

      pub list_again : (part : List ℕ) → part ≡ cleared most (take (length list' - (2048 - most)) (drop (2048 - most) list'))
          → take (2048 - most) list' ++ (part ++ drop (length list' - (2048 - most)) (drop (2048 - most) list')) ≡ list
      list_again part e = end_cleared 2048 most list list' l.list_zero most_few same part (settled_as m.are).kept.before e
