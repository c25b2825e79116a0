-- RULES A2.4: when a lent table, its stated count and its text are well formed. One predicate, and it says
-- which value they are of; there is one at most (`well_formed_one`).
use Prim.Native.Nat.{ℕ, ◌*◌, ◌≤◌, Ordering}
use Rattle.std.specs.Prelude.{Bool, true, false, ◌&&◌, List, ◌≡◌, refl, length, take, T}
use Rattle.std.proofs.Common.{sym, ◌∙◌}
use Rattle.utf8.specs.Utf8.{valid}
use Rattle.value.specs.Value.{Label, Forest, Value, one, text, count, size, depth, table, NoneL, BoolL, I64L, F64L, BytesL, StringL, ListL, TupleL, SetL, FrozenSetL, DictL, GlobalL, ObjectL, nil, node}
use Rattle.value.specs.Order.{order}
use Rattle.value.specs.Shape.{shaped, and_r}
use Rattle.value.specs.Tabled.{table_one}

abbrev pub less : Ordering → Bool
less Ordering.lt = true
less Ordering.eq = false
less Ordering.gt = false

-- each value before the next
unfoldable pub ascending : Forest → Bool
ascending nil = true
ascending (node l c nil) = true
ascending (node l c (node m d r)) = less (order (record { label = l; contents = c }) (record { label = m; contents = d })) && ascending (node m d r)

pub ascending-rest : (l : Label) (c r : Forest) → T (ascending (node l c r)) → T (ascending r)
unfolding ascending
ascending-rest l c nil h = tt
ascending-rest l c (node m d r) h = and_r (less (order (record { label = l; contents = c }) (record { label = m; contents = d }))) (ascending (node m d r)) h

-- the keys of a Dict's contents
unfoldable pub keys : Forest → Forest
keys nil = nil
keys (node l c nil) = node l c nil
keys (node l c (node m d r)) = node l c (keys r)

abbrev pub is_tuple : Label → Bool
is_tuple NoneL = false
is_tuple (BoolL b) = false
is_tuple (I64L n) = false
is_tuple (F64L n) = false
is_tuple (BytesL t) = false
is_tuple (StringL t) = false
is_tuple ListL = false
is_tuple TupleL = true
is_tuple SetL = false
is_tuple FrozenSetL = false
is_tuple DictL = false
is_tuple (GlobalL m n) = false
is_tuple (ObjectL m n b) = false

abbrev pub first_is_tuple : Forest → Bool
first_is_tuple nil = false
first_is_tuple (node l c r) = is_tuple l

-- What a label asks of its contents and its text: set items and dict keys strictly ascending, an Object's arguments a Tuple,
-- String and names valid UTF-8.
abbrev pub proper : Label → Forest → Bool
proper NoneL c = true
proper (BoolL b) c = true
proper (I64L i) c = true
proper (F64L i) c = true
proper (BytesL t) c = true
proper (StringL t) c = valid t
proper ListL c = true
proper TupleL c = true
proper SetL c = ascending c
proper FrozenSetL c = ascending c
proper DictL c = ascending (keys c)
proper (GlobalL m k) c = valid m && valid k
proper (ObjectL m k b) c = first_is_tuple c && (valid m && valid k)

unfoldable pub settled : Forest → Bool
settled nil = true
settled (node l c r) = proper l c && (settled c && settled r)

pub record WellFormed (w : List ℕ) (n : ℕ) (t : List ℕ) : Type 0 where
  pub value : Value
  pub shape : T (shaped (one value))
  pub settle : T (settled (one value))
  pub counted : size (one value) ≡ n
  pub few : n ≤ 2048
  pub shallow : depth (one value) ≤ 64
  pub lent : 4 * n ≤ length w
  pub records : take (4 * n) w ≡ table (one value) 0
  pub texts : t ≡ text (one value)
  pub short : length t ≤ 65536

-- table and text determine the value
pub well_formed_one : (w : List ℕ) (n : ℕ) (t : List ℕ) (a b : WellFormed w n t) → one a.value ≡ one b.value
unfolding count
well_formed_one w n t a b = table_one (one a.value) (one b.value) a.shape b.shape refl (sym a.records ∙ b.records) (sym a.texts ∙ b.texts)
