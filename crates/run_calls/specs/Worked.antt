-- The premises are met, by the worked input of RULES A9.5: after five steps its list stands twice on the stack and is empty; the sixth, APPEND,
-- adds 5, and the eighth stops.
use Rattle.std.specs.Prelude.{[], ◌∷◌, ◌≡◌, refl}
use Rattle.std.proofs.Common.{arith}
use Rattle.op.specs.Table.{row_in, row_of, known_name, opcode_of}
use Rattle.op.specs.Edition.{evaluates as edition-evaluates}
use Rattle.op.specs.declared.Edition.TheVariants.{Full}
use Rattle.input.specs.Bytes.{low_first}
use Rattle.steps.specs.State.{State, ok, ◌>>=◌, need, bytes, byte, pop, top, pop_many, push_id, push_node, push, link, node_by, extend, memo_find, memo_has, memo_insert, get, put}
use Rattle.steps.specs.Opcodes.{proto, low_bytes, binint1, made, tuple_n, add_items, append, get_bytes, put_bytes}
use Rattle.steps.specs.Run.{goes, stops, going, does, decide, admit, step, start}
use Rattle.steps.specs.Keeps.{state_after}
use Rattle.machine.specs.Ran.{onward, after_steps}
use Rattle.de.specs.Shared.{shared}
use Rattle.run_laws.specs.Late.{Has, what}

unfoldable machine : Unit {0}
unfolding low_first row_in row_of known_name opcode_of edition-evaluates ◌>>=◌ need bytes byte pop top pop_many push_id push_node push link extend memo_find memo_has memo_insert get put proto low_bytes binint1 made tuple_n add_items append get_bytes put_bytes going does decide admit step start onward after_steps state_after
machine = tt

-- placed twice, and empty
pub placed_empty : (s : State) × (after_steps Full 5 shared ≡ ok (goes s)) × (s.stack ≡ 0 ∷ 0 ∷ 1 ∷ []) × ((node_by s 0).kids ≡ [])
unfolding machine
placed_empty = (_, refl, refl, refl)

-- then it has the node 1, the 5, at place 0
pub late_five : (s : State) × Has Full shared (goes s) 0 0 × (what (goes s) 0 0 ≡ 1)
unfolding machine
late_five = (_, record { steps = 6; there = refl; kind = tt; inside = omega arith }, refl)

pub eighth_stops : (s : State) × (after_steps Full 8 shared ≡ ok (stops s))
unfolding machine
eighth_stops = (_, refl)
