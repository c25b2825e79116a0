-- Items that an opcode takes off the stack for a container: what its code answers.
use Rattle.std.specs.Prelude.{ℕ, ◌-◌, ◌<◌, ◌≤◌, Bool, cond, List, Result, Ok, Err, ◌≡◌, eqb}
use Rattle.refusal.specs.declared.Refusal.{Refusal}
use Rattle.refusal.specs.declared.Refusal.TheVariants.{Invalid}
use Rattle.refusal.specs.declared.Wanted.{Wanted}
use Rattle.value.specs.Value.{Label}
use Rattle.store.specs.declared.Effect.{Effect}
use Rattle.steps.specs.State.{State, Res, ok, no, ◌>>=◌, pop_mark}
use Rattle.steps.specs.NodeWords.{label_in}
use Rattle.steps.specs.Opcodes.{is_list, is_dict, made, add_items}
use Rattle.steps.specs.Run.{going}
use Rattle.store.specs.declared.Counts.{Counts}
use Rattle.store.specs.Rooms.{Rooms, state_of}
use Rattle.store.specs.Effects.{Sound, IsStep, above}
use Rattle.decoder.specs.Reads.{cut_to}

-- what was found above the last mark
unfoldable pub Took : Result ℕ Refusal → Rooms → Counts → Type 0
Took (Err why) r c = pop_mark (state_of r c) ≡ no why
Took (Ok m) r c = (pop_mark (state_of r c) ≡ ok (above m c.stack r.stack, state_of r (cut_to c c.at m (c.marks - 1)))) × (m ≤ c.stack) × (0 < c.marks)

-- in all rooms with these marks
unfoldable pub TakesMark : Counts → List ℕ → Result ℕ Refusal → Type 0
TakesMark c marks t = (r : Rooms) → Sound r c → r.marks ≡ marks → Took t r c

-- what stands above the last mark, as a new container of the kind k
unfoldable pub gathered : ℕ → State → Res State
gathered k s = do
  (is, s₁) ← pop_mark s
  made (label_in k) is s₁

-- the containers that grow, by their kinds
pub data GrowingKind (k : ℕ) : Type 0 where
  lists : k ≡ 6 → GrowingKind k
  dicts : k ≡ 10 → GrowingKind k

unfoldable pub is_grown : ℕ → Label → Bool
is_grown k l = cond (eqb k 6) (is_list l) (is_dict l)

-- in all rooms with these words and this stack, e adds what stands above `keep`
unfoldable pub Adds : Counts → List ℕ → List ℕ → ℕ → ℕ → ℕ → Wanted → Result Effect Refusal → Type 0
Adds c nodes stack keep marks k why e =
    (r : Rooms) → Sound r c → r.nodes ≡ nodes → r.stack ≡ stack
    → IsStep e r c (going (add_items (is_grown k) (Invalid why) (above keep c.stack r.stack) (state_of r (cut_to c c.at keep marks))))
