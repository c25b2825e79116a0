-- `Builder` of de.rs over the node table at STOP (RULES A6): the tree of a root, in which a
-- Set has its argument and a Dict all its entries. Measures are taken on this tree; Settle puts its sets and dicts in order.
use Rattle.std.specs.Prelude.{ℕ, suc, zero, Bool, true, false, cond, ◌&&◌, List, [], ◌∷◌, length, get_or, eqb}
use Rattle.value.specs.Value.{Forest, Value, NoneL, nil, node}
use Rattle.steps.specs.State.{Node, kidless}
use Rattle.steps.specs.Opcodes.{is_object}

-- A node: not reached yet; taken out while its contents are built; or finished and kept. The Rust keeps a finished node only when it is
-- referenced more than once (`refs > 1`). That needs no place here: a node's contents are gone through once at most, so that a node which
-- is referenced once is asked for once, and to keep every finished node changes no tree (`refs-same` of Refs).
pub data Stage : Type 0 where
  fresh taken : Stage
  kept : Value → Stage

abbrev pub Stages : Type 0
Stages = ℕ → Stage

-- at the beginning
abbrev pub unbuilt : Stages
unbuilt = λ j. fresh

abbrev pub stage : ℕ → Stage → Stages → Stages
stage i m d = λ j. cond (eqb j i) m (d j)

abbrev pub none : Value
none = record { label = NoneL; contents = nil }

-- a value before others
abbrev pub before : Value → Forest → Forest
before v r = node v.label v.contents r

-- a node by its number; one that no node has is an empty None
abbrev pub at : List Node → ℕ → Node
at t i = get_or t i (kidless NoneL)

abbrev pub is_taken : Stage → Bool
is_taken fresh = false
is_taken taken = true
is_taken (kept v) = false

unfoldable pub first_taken : Stages → List ℕ → Bool
first_taken d [] = false
first_taken d (i ∷ is) = is_taken (d i)

-- An Object whose arguments, its first child, are being built. (`Value::Tuple(args) = self.build(args) else`: arguments are a Tuple for
-- good, so that what is built for them is no Tuple exactly when they are taken out.)
unfoldable pub blocked : List Node → Stages → ℕ → Bool
blocked t d i = is_object (at t i).label && first_taken d (at t i).kids

-- a node whose contents are built is finished, and kept
unfoldable pub finish : List Node → ℕ → Forest × Stages → Value × Stages
finish t i p =
    let v : Value = record { label = (at t i).label; contents = p.0 } in
    (v, stage i (kept v) p.1)

-- nodes one after the other
unfoldable pub each : (ℕ → Stages → Value × Stages) → List ℕ → Stages → Forest × Stages
each g [] d = (nil, d)
each g (i ∷ is) d =
    let p = g i d in
    let q = each g is p.1 in
    (before p.0 q.0, q.1)

-- `build`. A kept node is copied; inside itself a node is None; an Object first reached while its arguments are being built is None there
-- and at every later place, and its state is not built; any other node is taken out while its contents are built. (The first number
-- bounds the calls in one another. More of it than there are fresh nodes never shows: Fuel.)
unfoldable pub build : List Node → ℕ → ℕ → Stages → Value × Stages
build t zero i d = (none, d)
build t (suc k) i d =
    elim (d i) [
      | kept v ↦ (v, d)
      | taken ↦ (none, d)
      | fresh ↦
          elim (blocked t d i) [
            | true ↦ (none, stage i (kept none) d)
            | false ↦ finish t i (each (build t k) (at t i).kids (stage i taken d))
          ]
    ]

-- the tree that `Builder` makes of a root
unfoldable pub tree : List Node → ℕ → Value
tree t root = (build t (suc (length t)) root unbuilt).0
