-- What the profile accepts contains no Global, Object, Set or FrozenSet: no opcode that it accepts makes one.
use Rattle.std.specs.Prelude.{ℕ, Bool, true, false, cond, List, ◌≡◌, refl, T}
use Rattle.std.proofs.Common.{arith}
use Rattle.refusal.specs.declared.Refusal.{Refusal}
use Rattle.refusal.specs.declared.Refusal.TheVariants.{TrailingData}
use Rattle.op.specs.Edition.{evaluates}
use Rattle.op.specs.declared.Edition.TheVariants.{Plain}
use Rattle.input.specs.Bytes.{Bytes}
use Rattle.value.specs.Value.{Label, Forest, one, NoneL, BoolL, I64L, F64L, BytesL, StringL, ListL, TupleL, SetL, FrozenSetL, DictL, GlobalL, ObjectL}
use Rattle.steps.specs.State.{State, Res, ok, no}
use Rattle.steps.specs.Run.{run}
use Rattle.steps.specs.Out.{Out, out, both_out, bind, bind_any, bind_need}
use Rattle.steps.specs.Shape.{Shaped, run_shaped}
use Rattle.reading.specs.Build.{at, tree}
use Rattle.reading.specs.Form.{All, tree_all}
use Rattle.reading.specs.Well.{object_of, right_at, settle-labels}
use Rattle.reading.specs.Letters.{Labelled, labelled_at, PlainLabels, Classes, run_labelled}
use Rattle.reading.specs.Measure.{measured}
use Rattle.reading.specs.Settle.{settle}
use Rattle.reading.specs.Reading.{Reading, refuses, reads, reading_of, consumed, stopped, prefix_in, whole_in, leaves}

abbrev pub classless : Label → Bool
classless NoneL = true
classless (BoolL b) = true
classless (I64L n) = true
classless (F64L n) = true
classless (BytesL t) = true
classless (StringL t) = true
classless ListL = true
classless TupleL = true
classless SetL = false
classless FrozenSetL = false
classless DictL = true
classless (GlobalL m n) = false
classless (ObjectL m n b) = false

abbrev IsClassless : Label → Type 0
IsClassless l = T (classless l)

-- every value in these is neither Global nor Object, Set nor FrozenSet
abbrev pub Classless : Forest → Type 0
Classless f = All (λ l c. IsClassless l) f

-- ---- the machine's nodes

abbrev plain_classless : PlainLabels IsClassless
plain_classless = record { none = tt; bool = λ b. tt; int = λ n. tt; float = λ n. tt; bytes = λ t. tt; string = λ t v. tt; list = tt; tuple = tt; dict = tt }

-- GLOBAL, REDUCE and NEWOBJ are outside the profile
outside_it : Classes IsClassless plain_classless Plain
unfolding evaluates
outside_it = record { globals = λ e. absurd (let z : ◌≡◌ {A = ℕ} 0 1 = cc in omega arith); reduces = λ e. absurd (let z : ◌≡◌ {A = ℕ} 0 1 = cc in omega arith); newobjs = λ e. absurd (let z : ◌≡◌ {A = ℕ} 0 1 = cc in omega arith) }

-- ---- the value

At-stop : State → Type 0
At-stop s = Shaped s.nodes × Labelled IsClassless s.nodes

stopped-classless : (p : List ℕ) → Bytes p → Out (λ (x : State × ℕ). At-stop x.0) (stopped Plain p)
unfolding stopped At-stop
stopped-classless p b = bind_need _ _ _ _ λ l. bind _ _ _ _ (both_out _ _ (run Plain p) (run_shaped Plain p) (run_labelled IsClassless plain_classless Plain outside_it p b)) λ s h. bind_any _ _ _ λ q e. out _ _ h

-- the tree of the value left, before equal keys and items collapse
abbrev pub built : State → ℕ → Forest
built s root = one (tree s.nodes root)

built-classless : (s : State) (root : ℕ) → At-stop s → Classless (built s root)
unfolding At-stop
built-classless s root h =
    tree_all s.nodes (λ l c. IsClassless l) tt
    (λ i c n a. labelled_at IsClassless tt s.nodes i h.1)
    (λ i o. object_of s.nodes (at s.nodes i).label (at s.nodes i).kids (right_at s.nodes h.0 i) o)
    root

-- ---- the readings

-- a reading x of p that refuses, or has read such a value: what it contains, what collapses included, is the tree at STOP
pub data ReadsClassless (p : List ℕ) (x : Reading) : Type 0 where
  refused : (why : Refusal) → x ≡ refuses why → ReadsClassless p x
  read : (s : State) (root : ℕ) → stopped Plain p ≡ ok (s, root) → x ≡ reads (consumed p s) (settle (built s root)) → Classless (built s root) → ReadsClassless p x

-- and so is what is left of it
pub settled-classless : (f : Forest) → Classless f → Classless (settle f)
settled-classless f h = settle-labels IsClassless f h

told-classless : (p : List ℕ) (s : State) (root : ℕ) → stopped Plain p ≡ ok (s, root) → Classless (built s root) → ReadsClassless p (reading_of (consumed p s) (built s root))
unfolding reading_of
told-classless p s root e h = go (measured (built s root)) refl
  where
    go : (r : Res (Unit {0})) → measured (built s root) ≡ r → ReadsClassless p (reading_of (consumed p s) (built s root))
    go (no why) m = refused why (rw (m, reading_of))
    go (ok u) m = read s root e (rw (m, reading_of)) h

pub prefix-classless : (p : List ℕ) → Bytes p → ReadsClassless p (prefix_in Plain p)
unfolding prefix_in Out
prefix-classless p b = go (stopped Plain p) refl (stopped-classless p b)
  where
    go : (r : Res (State × ℕ)) → stopped Plain p ≡ r → Out (λ (x : State × ℕ). At-stop x.0) r → ReadsClassless p (prefix_in Plain p)
    go (no why) e h = refused why (rw (e, prefix_in))
    go (ok x) e h = rw (e, prefix_in) (told-classless p x.0 x.1 e (built-classless x.0 x.1 h))

pub whole-classless : (p : List ℕ) → Bytes p → ReadsClassless p (whole_in Plain p)
unfolding whole_in
whole-classless p b = go (leaves p (prefix_in Plain p))
  where
    go : (c : Bool) → ReadsClassless p (cond c (refuses TrailingData) (prefix_in Plain p))
    go true = refused TrailingData refl
    go false = prefix-classless p b
