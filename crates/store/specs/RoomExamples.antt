-- Worked rooms and the states that they say.
use Rattle.std.specs.Prelude.{◌+◌, ◌*◌, ◌^◌, true, [], ◌∷◌, ◌≡◌, refl}
use Rattle.op.specs.declared.Edition.TheVariants.{Full}
use Rattle.utf8.specs.Utf8.{evaluates as utf8-evaluates}
use Rattle.text.specs.Pieces.{bytes_of}
use Rattle.text.specs.Examples.{evaluates as text-evaluates}
use Rattle.value.specs.Value.{BytesL, StringL, TupleL, DictL, GlobalL, ObjectL}
use Rattle.value.specs.Shape.{kind_in, fresh_in, state_in}
use Rattle.steps.specs.State.{ok, kidless}
use Rattle.steps.specs.Run.{run}
use Rattle.steps.specs.Examples.{shared}
use Rattle.store.specs.Rooms.{LentAs, Rooms, Counts, tabulated, linked_items, entries, state_of}
use Rattle.steps.specs.NodeWords.{first, second, within, class_in, module_of, name_of, parts_of, node_is}

-- opens what the examples compute with
unfoldable evaluates : Unit {0}
unfolding utf8-evaluates text-evaluates bytes_of kind_in fresh_in state_in tabulated linked_items entries first second within class_in module_of name_of parts_of node_is state_of
evaluates = tt

-- how the rooms were lent does not count
abbrev no_rooms : LentAs
no_rooms = record { nodes = []; owners = []; children = []; stack = []; marks = []; keys = []; held = [] }

-- the pickle of `shared`: a List of the 5, and a Tuple of it twice; what lies behind the counts does not count
abbrev pub shared_rooms : Rooms
shared_rooms = record {
  lent = no_rooms;
  pickle = 0x80 ∷ 0x02 ∷ 0x5D ∷ 0x71 ∷ 0x00 ∷ 0x68 ∷ 0x00 ∷ 0x4B ∷ 0x05 ∷ 0x61 ∷ 0x86 ∷ 0x2E ∷ [];
  nodes = 6 ∷ 1 ∷ 2 ∷ 5 ∷ 7 ∷ 2 ∷ 9 ∷ 9 ∷ [];
  owners = 0 ∷ 2 ∷ 2 ∷ 0 ∷ [];
  children = 1 ∷ 0 ∷ 0 ∷ 7 ∷ [];
  stack = 2 ∷ 0 ∷ 1 ∷ [];
  marks = 3 ∷ [];
  keys = 0 ∷ 8 ∷ [];
  held = 0 ∷ 8 ∷ [];
}

abbrev pub shared_counts : Counts
shared_counts = record { at = 12; nodes = 3; links = 3; stack = 1; deepest = 2; marks = 0; most = 1; memo = 1; greatest = 0 }

pub shared-rooms : run Full shared_rooms.pickle ≡ ok (state_of shared_rooms shared_counts)
unfolding evaluates
shared-rooms = shared

-- cm\nC\n)\x81}b, an Object with a state; V\u00e9\n, X of one byte FF, U of one A, S'\n'\n
abbrev pub object_rooms : Rooms
object_rooms = record {
  lent = no_rooms;
  pickle = 99 ∷ 109 ∷ 10 ∷ 67 ∷ 10 ∷ 41 ∷ 129 ∷ 125 ∷ 98 ∷ 86 ∷ 92 ∷ 117 ∷ 48 ∷ 48 ∷ 101 ∷ 57 ∷ 10 ∷ 88 ∷ 1 ∷ 0 ∷ 0 ∷ 0 ∷ 255 ∷ 85 ∷ 1 ∷ 65 ∷ 83 ∷ 39 ∷ 92 ∷ 110 ∷ 39 ∷ 10 ∷ 46 ∷ [];
  nodes = (11 + 16 * (1 + 2 ^ 24 * 1)) ∷ (3 + 2 ^ 32 * 1) ∷ 7 ∷ 0 ∷ (12 + 16 * (1 + 2 * 1 + 4 * 0)) ∷ (1 + 2 ^ 32 * 3) ∷ 10 ∷ 0 ∷ 14 ∷ (10 + 2 ^ 32 * 6) ∷ 5 ∷ (22 + 2 ^ 32 * 1) ∷ 4 ∷ (25 + 2 ^ 32 * 1) ∷ 13 ∷ (27 + 2 ^ 32 * 4) ∷ [];
  owners = [];
  children = [];
  stack = 2 ∷ 4 ∷ 5 ∷ 6 ∷ 7 ∷ [];
  marks = [];
  keys = [];
  held = [];
}

abbrev pub object_counts : Counts
object_counts = record { at = 32; nodes = 8; links = 0; stack = 5; deepest = 7; marks = 0; most = 0; memo = 0; greatest = 0 }

pub object-rooms : state_of object_rooms object_counts
    ≡ record {
      input = 46 ∷ [];
      nodes = kidless (GlobalL (109 ∷ []) (67 ∷ [])) ∷ kidless TupleL ∷ (record { label = ObjectL (109 ∷ []) (67 ∷ []) true; kids = 1 ∷ 3 ∷ [] }) ∷ kidless DictL ∷ kidless (StringL (0xC3 ∷ 0xA9 ∷ [])) ∷ kidless (StringL (0xEF ∷ 0xBF ∷ 0xBD ∷ [])) ∷ kidless (BytesL (65 ∷ [])) ∷ kidless (BytesL (10 ∷ [])) ∷ [];
      stack = 2 ∷ 4 ∷ 5 ∷ 6 ∷ 7 ∷ [];
      marks = [];
      memo = [];
      links = 0;
    }
unfolding evaluates
object-rooms = refl
