-- What is asked of a value so that it comes back. This is the seam of the crate: bytes and opcodes (Leaves to Values) make it enough,
-- table words (Tables) give it.
use Rattle.std.specs.Prelude.{ℕ, ◌%◌, ◌^◌, ◌≤◌, ◌<◌, Bool, true, ◌||◌, List, ◌≡◌, length, T}
use Rattle.utf8.specs.Utf8.{valid}
use Rattle.value.specs.Value.{Label, Forest, count, NoneL, BoolL, I64L, F64L, BytesL, StringL, ListL, TupleL, SetL, FrozenSetL, DictL, GlobalL, ObjectL, nil, node}
use Rattle.ser.specs.Writable.{writable}
use Rattle.outback.specs.SetCalls.{set_class, enough_arguments}

-- a class, whose module and name are written a line each
pub record Named (m k : List ℕ) : Type 0 where
  pub module_line : T (writable m)
  pub name-line : T (writable k)
  pub module_valid : valid m ≡ true
  pub name-valid : valid k ≡ true

-- an Object's contents: the Tuple of its arguments, two at least where one would make a set; then its state, if any
pub data Arguments (m k : List ℕ) (new : Bool) : Forest → Type 0 where
  arguments : {a r : Forest} → count r ≤ 1 → T (new || enough_arguments (set_class m k) (count a)) → Arguments m k new (node TupleL a r)

unfoldable pub Returnable : Label → Forest → Type 0
Returnable NoneL c = c ≡ nil
Returnable (BoolL b) c = c ≡ nil
Returnable (I64L i) c = (c ≡ nil) × (i < 2 ^ 64)
Returnable (F64L i) c = (c ≡ nil) × (i < 2 ^ 64)
Returnable (BytesL t) c = (c ≡ nil) × (length t < 2 ^ 31)
Returnable (StringL t) c = (c ≡ nil) × (length t < 2 ^ 31) × (valid t ≡ true)
Returnable ListL c = Unit {0}
Returnable TupleL c = Unit {0}
Returnable SetL c = Unit {0}
Returnable FrozenSetL c = Unit {0}
Returnable DictL c = count c % 2 ≡ 0
Returnable (GlobalL m k) c = (c ≡ nil) × Named m k
Returnable (ObjectL m k new) c = Arguments m k new c × Named m k

-- values and all that is in them
unfoldable pub AllReturnable : Forest → Type 0
AllReturnable nil = Unit {0}
AllReturnable (node l c r) = Returnable l c × AllReturnable c × AllReturnable r
