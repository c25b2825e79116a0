-- The premise on Objects: REDUCE on `__builtin__` `set` or `frozenset` with fewer than two arguments makes a set, so an Object made
-- so, without `new`, would not come back as an Object. No reading gives one; a table made by hand may have one.
use Rattle.std.specs.Prelude.{ℕ, Bool, true, false, cond, not, ◌&&◌, ◌||◌, List, ◌≡◌, refl, length, T, leb}
use Rattle.std.proofs.Common.{leb→le, arith}
use Rattle.std.proofs.lemmas.Bool.{lt-leb}
use Rattle.number.specs.Space.{same}
use Rattle.value.specs.Value.{Label, Forest, count, NoneL, BoolL, I64L, F64L, BytesL, StringL, ListL, TupleL, SetL, FrozenSetL, DictL, GlobalL, ObjectL, nil, node}
use Rattle.steps.specs.Opcodes.{reduced, object, builtin, set_name, frozenset_name}

-- `__builtin__` `set` or `frozenset`
unfoldable pub set_class : List ℕ → List ℕ → Bool
set_class m k = same m builtin && (same k set_name || same k frozenset_name)

-- an Object's first value is the Tuple of its arguments
abbrev pub arguments : Forest → ℕ
arguments nil = 0
arguments (node l c r) = count c

-- at least two arguments, if the class is one of these
abbrev pub enough_arguments : Bool → ℕ → Bool
enough_arguments of_sets n = not of_sets || leb 2 n

-- an Object made without `new` from `__builtin__` `set` or `frozenset` has at least two arguments
unfoldable pub two_arguments : Label → Forest → Bool
two_arguments NoneL c = true
two_arguments (BoolL b) c = true
two_arguments (I64L i) c = true
two_arguments (F64L i) c = true
two_arguments (BytesL t) c = true
two_arguments (StringL t) c = true
two_arguments ListL c = true
two_arguments TupleL c = true
two_arguments SetL c = true
two_arguments FrozenSetL c = true
two_arguments DictL c = true
two_arguments (GlobalL m k) c = true
two_arguments (ObjectL m k new) c = new || enough_arguments (set_class m k) (arguments c)

-- of values and all that is in them
unfoldable pub two_arguments_in : Forest → Bool
two_arguments_in nil = true
two_arguments_in (node l c r) = two_arguments l c && (two_arguments_in c && two_arguments_in r)

-- then REDUCE makes an Object
pub reduced-object : (m k : List ℕ) (i : ℕ) (items : List ℕ) → T (enough_arguments (set_class m k) (length items)) → reduced (m, k) i items ≡ object (m, k) false i
unfolding reduced set_class
reduced-object m k i items = go (same m builtin) refl (same k set_name) refl (same k frozenset_name) refl
  where
    either_way : (b : Bool) → cond b (object (m, k) false i) (object (m, k) false i) ≡ object (m, k) false i
    either_way true = refl
    either_way false = refl

    go : (x : Bool) → same m builtin ≡ x → (y : Bool) → same k set_name ≡ y → (z : Bool) → same k frozenset_name ≡ z → T (enough_arguments (x && (y || z)) (length items)) → reduced (m, k) i items ≡ object (m, k) false i
    go false p y q z r h = rw p
    go true p true q z r h = rw (p, lt-leb (length items) 1 (omega (arith, leb→le 2 (length items) h)))
    go true p false q true r h = rw (p, lt-leb (length items) 1 (omega (arith, leb→le 2 (length items) h)))
    go true p false q false r h = rw (p, q, r) (either_way (leb (length items) 1))
