-- What a value comes to: its depth, its values and its text, put together from those of its contents as the walk does it.
use Rattle.std.specs.Prelude.{ℕ, suc, ◌+◌, max, ◌≡◌, refl, length}
use Rattle.std.proofs.Common.{length-append, arith}
use Rattle.value.specs.Value.{Label, Forest, Value, nil, node, text_of, size, depth, text}

-- depth, values and text
pub record Measure : Type 0 where
  pub deep : ℕ
  pub values : ℕ
  pub texts : ℕ

abbrev pub nil_m : Measure
nil_m = record { deep = 0; values = 0; texts = 0 }

-- a label over its contents
abbrev pub make_m : Label → Measure → Measure
make_m l c = record { deep = suc c.deep; values = suc c.values; texts = length (text_of l) + c.texts }

-- a value before others
abbrev pub push_m : Measure → Measure → Measure
push_m v f = record { deep = max v.deep f.deep; values = v.values + f.values; texts = v.texts + f.texts }

-- of values one after the other
unfoldable pub measure : Forest → Measure
measure nil = nil_m
measure (node l c r) = push_m (make_m l (measure c)) (measure r)

abbrev pub value_measure : Value → Measure
value_measure v = make_m v.label (measure v.contents)

pub measure-deep : (f : Forest) → (measure f).deep ≡ depth f
unfolding measure depth
measure-deep nil = refl
measure-deep (node l c r) = rw (measure-deep c, measure-deep r)

pub measure_values : (f : Forest) → (measure f).values ≡ size f
unfolding measure size
measure_values nil = refl
measure_values (node l c r) = let a = measure_values c in let b = measure_values r in omega (arith, measure_values c, measure_values r)

pub measure-texts : (f : Forest) → (measure f).texts ≡ length (text f)
unfolding measure text
measure-texts nil = refl
measure-texts (node l c r) = rw (length-append, length-append, measure-texts c, measure-texts r) (omega arith)
