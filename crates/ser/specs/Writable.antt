-- RULES, Ask 5.1: the names that can be read back. A module and a name are written a line each: a newline in one ends its line
-- too early, and a reader drops one CR at a line's end.
use Prim.Native.Nat.{ℕ, suc, zero, ◌+◌, ◌-◌, ◌<◌, ◌≤◌, min}
use Rattle.std.specs.Prelude.{Bool, true, false, not, ◌||◌, List, [], ◌∷◌, ◌≡◌, eqb, length}
use Rattle.std.proofs.Math.Bool.{◌&&◌, and_assoc}
use Rattle.std.proofs.Math.Path.{refl, sym, ap₂}
use Rattle.std.proofs.Common.{◌∙◌, ap}
use Rattle.std.proofs.Math.Logic.{⊎_elim}
use native.Mathlib.Omega.{arith}
use Rattle.input.specs.Bytes.{lt_or_le, last_byte}
use Rattle.value.specs.Value.{Label, Forest, size, count-size, NoneL, BoolL, I64L, F64L, BytesL, StringL, ListL, TupleL, SetL, FrozenSetL, DictL, GlobalL, ObjectL, nil, node}
use Rattle.value.specs.Stands.{label_at, arity_at, Reads, Stands}
use Rattle.output.specs.Put.{newline_byte}

unfoldable pub has_newline : List ℕ → Bool
has_newline [] = false
has_newline (b ∷ s) = eqb b newline_byte || has_newline s

unfoldable pub ends_cr : List ℕ → Bool
ends_cr s = eqb (last_byte s) 0x0D

-- a module or a name
unfoldable pub writable : List ℕ → Bool
writable s = not (has_newline s || ends_cr s)

-- a Global, or an Object's class: both its module and its name
unfoldable pub writable_label : Label → Bool
writable_label NoneL = true
writable_label (BoolL b) = true
writable_label (I64L i) = true
writable_label (F64L i) = true
writable_label (BytesL t) = true
writable_label (StringL t) = true
writable_label ListL = true
writable_label TupleL = true
writable_label SetL = true
writable_label FrozenSetL = true
writable_label DictL = true
writable_label (GlobalL m k) = writable m && writable k
writable_label (ObjectL m k b) = writable m && writable k

-- values and all that is in them
unfoldable pub writable_in : Forest → Bool
writable_in nil = true
writable_in (node l c r) = writable_label l && (writable_in c && writable_in r)

-- ---- by computation: `m`, the empty name, and a CR inside; then newlines and CRs at every other place

abbrev m : ℕ
m = 0x6D

abbrev cr : ℕ
cr = 0x0D

unfoldable evaluates : Unit {0}
unfolding has_newline ends_cr writable last_byte
evaluates = tt

pub can_be : writable (m ∷ []) ∷ writable [] ∷ writable (m ∷ cr ∷ m ∷ []) ∷ writable (cr ∷ m ∷ []) ∷ [] ≡ true ∷ true ∷ true ∷ true ∷ []
unfolding evaluates
can_be = refl

pub can_not : writable (newline_byte ∷ []) ∷ writable (newline_byte ∷ m ∷ []) ∷ writable (m ∷ newline_byte ∷ m ∷ []) ∷ writable (m ∷ newline_byte ∷ []) ∷ writable (cr ∷ []) ∷ writable (m ∷ cr ∷ cr ∷ []) ∷ []
    ≡ false ∷ false ∷ false ∷ false ∷ false ∷ false ∷ []
unfolding evaluates
can_not = refl

-- ---- record by record, as the code goes through a table

module _ (w t : List ℕ) where
  -- n records from record i on
  unfoldable pub writable_from : ℕ → ℕ → Bool
  writable_from i zero = true
  writable_from i (suc n) = writable_label (label_at w t i) && writable_from (i + 1) n

  pub from_more : (i n : ℕ) → 0 < n → writable_from i n ≡ (writable_label (label_at w t i) && writable_from (i + 1) (n - 1))
  unfolding writable_from
  from_more i zero h = absurd (omega arith)
  from_more i (suc n) h = let e : suc n - 1 ≡ n = omega arith in rw e

  from-both : (a b i : ℕ) → writable_from i (a + b) ≡ (writable_from i a && writable_from (i + a) b)
  unfolding writable_from
  from-both zero b i = let e : i + 0 ≡ i = omega arith in let z : 0 + b ≡ b = omega arith in rw (e, z)
  from-both (suc a) b i =
      let e : i + 1 + a ≡ i + suc a = omega arith in
      let z : suc a + b ≡ suc (a + b) = omega arith in
      rw z (ap (λ (x : Bool). writable_label (label_at w t i) && x) (from-both a b (i + 1)) ∙ sym (and_assoc (writable_label (label_at w t i)) (writable_from (i + 1) a) (writable_from (i + 1 + a) b)) ∙ rw e)

  -- the records of values say whether the values can be read back
  pub from_values : (f : Forest) (i : ℕ) → Stands w t i f → writable_from i (size f) ≡ writable_in f
  unfolding Stands size writable_from writable_in
  from_values nil i s = refl
  from_values (node l c r) i s =
      ap₂ ◌&&◌ (ap writable_label s.0.label) (from-both (size c) (size r) (i + 1) ∙ ap₂ ◌&&◌ (from_values c (i + 1) s.1) (from_values r (i + 1 + size c) s.2))

  -- each of n records from record i on can be read, with no more values in it than a table has records
  abbrev pub RecordsReadable : ℕ → ℕ → Type 0
  RecordsReadable i n = (k : ℕ) → i ≤ k → k < i + n → Reads w t k × (arity_at w k ≤ min 2048 (length w))

  pub values_read : (f : Forest) (i : ℕ) → Stands w t i f → i + size f ≤ min 2048 (length w) → RecordsReadable i (size f)
  unfolding Stands size
  values_read nil i s m k a b = absurd (omega arith)
  values_read (node l c r) i s m k a b =
      ⊎_elim (λ h. let e : i ≡ k = omega arith in rw (← e) (s.0.reads, omega (arith, s.0.arity, count-size c)))
      (λ h. ⊎_elim (λ g. values_read c (i + 1) s.1 (omega arith) k (omega arith) (omega arith)) (λ g. values_read r (i + 1 + size c) s.2 (omega arith) k (omega arith) (omega arith)) (lt_or_le k (i + 1 + size c))) (lt_or_le k (i + 1))
