-- Records are written one value behind the other, and a value that stands already is copied: the copy's text places are those of its own text.
use Prim.Native.Nat.{ℕ, suc, ◌+◌, ◌-◌, ◌*◌, ◌%◌}
use Rattle.std.specs.Prelude.{Bool, cond, ◌||◌, ◌≡◌, eqb, ltb}
use mathlib.Core.List.{List, [], ◌∷◌, ◌++◌, append_assoc, append-nil}
use Rattle.std.proofs.Math.Path.{refl, sym, ap}
use Rattle.std.proofs.Common.{◌∙◌, length-append}
use Rattle.std.proofs.Math.ListN.{length}
use native.Mathlib.Omega.{arith}
use Rattle.value.specs.Value.{Label, Forest, Value, one, bit, half, text_of, text, count, size, record_of, table, NoneL, BoolL, I64L, F64L, BytesL, StringL, ListL, TupleL, SetL, FrozenSetL, DictL, GlobalL, ObjectL, nil, node}
use Rattle.steps.specs.State.{Node}
use Rattle.reading.specs.Build.{before}
use Rattle.resolve.specs.Resolved.{Kids, Stand, s_nil, s_node}

-- ---- one value and those behind it

pub text-before : (v : Value) (f : Forest) → text (before v f) ≡ text (one v) ++ text f
unfolding text
text-before v f = simp append_assoc

pub table_before : (v : Value) (f : Forest) (p : ℕ) → table (before v f) p ≡ table (one v) p ++ table f (p + length (text (one v)))
unfolding table text
table_before v f p =
    let n : length (text (one v)) ≡ length (text_of v.label) + length (text v.contents) = simp (length-append) (omega arith) in
    let e : p + length (text_of v.label) + length (text v.contents) ≡ p + length (text (one v)) = omega arith in
    rw e (simp append_assoc)

-- a list of nodes stands for as many values
pub stand_count : {t : List Node} {g : Kids} {is : List ℕ} {f : Forest} → Stand t g is f → count f ≡ length is
unfolding count
stand_count s_nil = refl
stand_count (s_node a b) = let e = stand_count b in omega arith

-- ---- copied

-- kinds whose second word is a text place: Bytes, String, Global, Object
unfoldable pub has_text_place : ℕ → Bool
has_text_place a = eqb (a % 16) 4 || (eqb (a % 16) 5 || ltb 10 (a % 16))

-- records with texts from p on, as they are with texts from q on
unfoldable pub moves : ℕ → ℕ → List ℕ → List ℕ
moves p q [] = []
moves p q (a ∷ []) = []
moves p q (a ∷ b ∷ []) = []
moves p q (a ∷ b ∷ c ∷ []) = []
moves p q (a ∷ b ∷ c ∷ d ∷ r) = a ∷ cond (has_text_place a) (b - p + q) b ∷ c ∷ d ∷ moves p q r

pub regroup : (a b c d : List ℕ) → (a ++ (b ++ c)) ++ d ≡ a ++ (b ++ (c ++ d))
regroup a b c d = simp append_assoc

module _ (p q : ℕ) where
  back : (o : ℕ) → p + o - p + q ≡ q + o
  back o = omega arith

  object-kind : (b : Bool) (n : ℕ) → (12 + 16 * bit b + 32 * half n) % 16 ≡ 12
  object-kind b n = omega arith

  record_moves : (l : Label) (o n z : ℕ) (r : List ℕ) → moves p q (record_of l (p + o) n z ++ r) ≡ record_of l (q + o) n z ++ moves p q r
  unfolding moves has_text_place
  record_moves NoneL o n z r = refl
  record_moves (BoolL b) o n z r = refl
  record_moves (I64L i) o n z r = refl
  record_moves (F64L i) o n z r = refl
  record_moves (BytesL x) o n z r = rw (back o)
  record_moves (StringL x) o n z r = rw (back o)
  record_moves ListL o n z r = refl
  record_moves TupleL o n z r = refl
  record_moves SetL o n z r = refl
  record_moves FrozenSetL o n z r = refl
  record_moves DictL o n z r = refl
  record_moves (GlobalL m k) o n z r = rw (back o)
  record_moves (ObjectL m k b) o n z r = rw (object-kind b n, back o)

  table-moves : (f : Forest) (o : ℕ) (r : List ℕ) → moves p q (table f (p + o) ++ r) ≡ table f (q + o) ++ moves p q r
  unfolding table moves
  table-moves nil o r = refl
  table-moves (node l c f) o r =
      let n = length (text_of l) in
      let m = length (text c) in
      let z = suc (size c) in
      let e₁ : p + (o + n) ≡ p + o + n = omega arith in
      let e₂ : q + (o + n) ≡ q + o + n = omega arith in
      let e₃ : p + (o + n + m) ≡ p + o + n + m = omega arith in
      let e₄ : q + (o + n + m) ≡ q + o + n + m = omega arith in
      let b : moves p q (table f (p + o + n + m) ++ r) ≡ table f (q + o + n + m) ++ moves p q r = rw (e₃, e₄) at (table-moves f (o + n + m) r) in
      let s = table f (p + o + n + m) ++ r in
      let a : moves p q (table c (p + o + n) ++ s) ≡ table c (q + o + n) ++ moves p q s = rw (e₁, e₂) at (table-moves c (o + n) s) in
      ap (moves p q) (regroup (record_of l (p + o) (count c) z) (table c (p + o + n)) (table f (p + o + n + m)) r)
      ∙ (record_moves l o (count c) z (table c (p + o + n) ++ s)
      ∙ (ap (λ (x : List ℕ). record_of l (q + o) (count c) z ++ x) (a ∙ ap (λ (x : List ℕ). table c (q + o + n) ++ x) b)
      ∙ sym (regroup (record_of l (q + o) (count c) z) (table c (q + o + n)) (table f (q + o + n + m)) (moves p q r))))

  -- so copied, the records of a forest are its records at the new text place
  pub moved : (f : Forest) → moves p q (table f p) ≡ table f q
  unfolding moves
  moved f =
      let e : p + 0 ≡ p = omega arith in
      let e' : q + 0 ≡ q = omega arith in
      let a : moves p q (table f p ++ []) ≡ table f q ++ [] = rw (e, e') at (table-moves f 0 []) in
      rw (append-nil (table f p), append-nil (table f q)) at a
