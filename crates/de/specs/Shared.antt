-- Demand 3's premise is neither empty nor always true: a pickle that shares a list meets it, one whose lists contain each other does not. And
-- the bench of RULES A10, held to the public call.
use Rattle.std.specs.Prelude.{ℕ, zero, suc, ◌<◌, List, [], ◌∷◌, ◌≡◌, refl, get_or}
use Rattle.std.proofs.Common.{inr, ◌∙◌, ap, arith}
use Rattle.refusal.specs.declared.Answer.{Answer}
use Rattle.rooms.specs.Stated.{Slices}
use Rattle.op.specs.Table.{row_in, row_of, known_name, opcode_of}
use Rattle.op.specs.Edition.{evaluates as edition-evaluates}
use Rattle.op.specs.declared.Edition.TheVariants.{Full}
use Rattle.input.specs.Bytes.{low_first}
use Rattle.value.specs.Value.{Label, Forest, I64L, ListL, TupleL, nil, node}
use Rattle.steps.specs.State.{Node, State, ok, ◌>>=◌, need, bytes, byte, pop, top, pop_many, push_id, push_node, push, link, extend, memo_find, memo_has, memo_insert, get, put}
use Rattle.steps.specs.Out.{Every}
use Rattle.steps.specs.Opcodes.{proto, low_bytes, binint1, made, tuple_n, add_items, append, get_bytes, put_bytes}
use Rattle.steps.specs.Run.{going, does, decide, admit, step, runs, start, run}
use Rattle.reading.specs.Build.{at}
use Rattle.reading.specs.Unfold.{WritesOut, nothing, afresh, In, here, there, Contains, direct, through, Reachable, NothingContainsItself}
use Rattle.reading.specs.Reading.{Reading, reading_of, consumed, prefix}
use Rattle.reading.specs.Bench.{Line, ReadAs, bench, bench_holds}
use Rattle.de.specs.Call.{reading, ReadCall}
use Rattle.de.specs.Theorems.{ShownIn, shown_here, shown_inside, shown_after, call_never_shows_sharing}

abbrev first_of : Reading → List Reading → Reading
first_of d [] = d
first_of d (x ∷ l) = x

abbrev rest : List Reading → List Reading
rest [] = []
rest (x ∷ l) = l

unfoldable machine : Unit {0}
unfolding low_first row_in row_of known_name opcode_of edition-evaluates ◌>>=◌ need bytes byte pop top pop_many push_id push_node push link extend memo_find memo_has memo_insert get put proto low_bytes binint1 made tuple_n add_items append get_bytes put_bytes going does decide admit step runs start run
machine = tt

abbrev node_of : Label → List ℕ → Node
node_of l ks = record { label = l; kids = ks }

-- ---- the worked input of RULES A9.5: a list is placed twice, and 5 added after that

abbrev pub shared : List ℕ
shared = 0x80 ∷ 0x02 ∷ 0x5D ∷ 0x71 ∷ 0x00 ∷ 0x68 ∷ 0x00 ∷ 0x4B ∷ 0x05 ∷ 0x61 ∷ 0x86 ∷ 0x2E ∷ []

abbrev shared-nodes : List Node
shared-nodes = node_of ListL (1 ∷ []) ∷ node_of (I64L 5) [] ∷ node_of TupleL (0 ∷ 0 ∷ []) ∷ []

-- the nodes at STOP, and the root
pub shared_stops : (s : State) × (run Full shared ≡ ok s) × (s.nodes ≡ shared-nodes) × (s.stack ≡ 2 ∷ []) × (s.input ≡ [])
unfolding machine
shared_stops = (_, refl, refl, refl, refl)

-- contents have a lower rank
ranked : (t : List Node) (rank : ℕ → ℕ) → ((i j : ℕ) → In j (at t i).kids → rank j < rank i) → (root : ℕ) → NothingContainsItself t root
unfolding NothingContainsItself
ranked t rank h root i r c = let x = lower i i c in omega arith
  where
    lower : (i j : ℕ) → Contains t i j → rank j < rank i
    lower i j (direct m) = h i j m
    lower i j (through {k = k} m c) = let x = h i k m in let y = lower k j c in omega arith

in_all : (P : ℕ → Type 0) (is : List ℕ) (j : ℕ) → In j is → Every P is → P j
unfolding Every
in_all P _ _ here a = a.0
in_all P _ _ (there m) a = in_all P _ _ m a.1

rank : ℕ → ℕ
rank i = get_or (1 ∷ 0 ∷ 2 ∷ []) i 0

lower : (i : ℕ) → Every (λ (j : ℕ). rank j < rank i) (at shared-nodes i).kids
unfolding Every rank
lower zero = (omega arith, tt)
lower (suc zero) = tt
lower (suc (suc zero)) = (omega arith, (omega arith, tt))
lower (suc (suc (suc i))) = tt

-- it meets the premise
pub shared-apart : NothingContainsItself shared-nodes 2
shared-apart = ranked shared-nodes rank (λ i j m. in_all (λ (k : ℕ). rank k < rank i) (at shared-nodes i).kids j m (lower i)) 2

-- its plain write-out: the list with its 5, twice
abbrev pub shared-forest : Forest
shared-forest = node TupleL (node ListL (node (I64L 5) nil nil) (node ListL (node (I64L 5) nil nil) nil)) nil

abbrev pub shared-written : WritesOut shared-nodes (2 ∷ []) shared-forest
shared-written = afresh (afresh (afresh nothing nothing) (afresh (afresh nothing nothing) nothing)) nothing

-- at both places of the list stands the 5, which was added after it was placed
pub shared_places : ShownIn 0 (node (I64L 5) nil nil) (2 ∷ []) shared-forest shared-written × ShownIn 0 (node (I64L 5) nil nil) (2 ∷ []) shared-forest shared-written
shared_places = (shown_inside shown_here, shown_inside (shown_after shown_here))

-- so the call gives that write-out, by demand 3
pub shared-read : (l l' : Slices) (a : Answer) → ReadCall (prefix shared) l l' a → ReadCall (reading_of 12 shared-forest) l l' a
shared-read l l' a c =
    let x = shared_stops in
    let e : consumed shared x.0 ≡ 12 = rw x.4 refl in
    rw (← e)
    (call_never_shows_sharing Full shared x.0 (omega arith) x.1 (rw x.3 (omega arith)) (rw (x.2, x.3) shared-apart) shared-forest (rw (x.2, x.3) shared-written) l l' a c)

-- ---- two lists that contain each other

abbrev pub entwined : List ℕ
entwined = 0x5D ∷ 0x71 ∷ 0x00 ∷ 0x5D ∷ 0x71 ∷ 0x01 ∷ 0x68 ∷ 0x00 ∷ 0x61 ∷ 0x61 ∷ 0x68 ∷ 0x01 ∷ 0x86 ∷ 0x2E ∷ []

abbrev entwined-nodes : List Node
entwined-nodes = node_of ListL (1 ∷ []) ∷ node_of ListL (0 ∷ []) ∷ node_of TupleL (0 ∷ 1 ∷ []) ∷ []

pub entwined_stops : (s : State) × (run Full entwined ≡ ok s) × (s.nodes ≡ entwined-nodes) × (s.stack ≡ 2 ∷ [])
unfolding machine
entwined_stops = (_, refl, refl, refl)

-- it does not
pub entwined_not : ¬ NothingContainsItself entwined-nodes 2
unfolding NothingContainsItself Reachable
entwined_not h = h 0 (inr (direct here)) (through here (direct here))

-- ---- the bench of RULES A10

-- each of the nine pickles, read by the call, gives what stands beside it
pub Called : List Line → Type 0
Called t = Every (λ (n : Line). (l l' : Slices) (a : Answer) → ReadCall (prefix n.pickle) l l' a → ReadCall n.reading l l' a) t

called : (t : List Line) → ReadAs t → Called t
unfolding Every Called
called [] e = tt
called (n ∷ t) e =
    ((λ l l' a c. c ∙ ap (λ (x : Reading). reading x l) (ap (first_of n.reading) e)), called t (ap rest e))

pub bench-called : Called bench
bench-called = called bench bench_holds
