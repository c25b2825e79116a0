-- The text places in a table: each is a place of the table's own text, so that they can be moved.
use Prim.Native.Nat.{ℕ, suc, zero, ◌+◌, ◌-◌, ◌*◌, ◌^◌, ◌<◌, ◌≤◌}
use Rattle.std.specs.Prelude.{true, false, ◌≡◌, get_or, drop}
use mathlib.Core.List.{List, [], ◌∷◌, ◌++◌, append-nil}
use Rattle.std.proofs.Common.{sym, ◌∙◌, ap, get_or-take, get_or-drop}
use Rattle.std.proofs.Math.ListN.{length, length-append}
use native.Mathlib.Omega.{arith}
use Rattle.value.specs.Value.{Label, Forest, text_of, text, count, size, record_of, table, table-length, NoneL, BoolL, I64L, F64L, BytesL, StringL, ListL, TupleL, SetL, FrozenSetL, DictL, GlobalL, ObjectL, nil, node}
use Rattle.steps.specs.State.{Node}
use Rattle.resolve.specs.Resolved.{Kids}
use Rattle.resolve.specs.Moved.{has_text_place, regroup}
use Rattle.resolve.specs.Written.{Written}
use Rattle.emit.specs.Copies.{Copyable}

no : {A : Type 0} → false ≡ true → A
no e = absurd (let z : ◌≡◌ {A = ℕ} 0 1 = cc in omega arith)

module _ (lo hi : ℕ) where
  unfoldable pub Textual : List ℕ → Type 0
  Textual [] = Unit {0}
  Textual (a ∷ []) = Unit {0}
  Textual (a ∷ b ∷ []) = Unit {0}
  Textual (a ∷ b ∷ c ∷ []) = Unit {0}
  Textual (a ∷ b ∷ c ∷ d ∷ r) = (has_text_place a ≡ true → (lo ≤ b) × (b ≤ hi)) × Textual r

  record_textual : (l : Label) (p n z : ℕ) (r : List ℕ) → lo ≤ p → p ≤ hi → Textual r → Textual (record_of l p n z ++ r)
  unfolding Textual has_text_place
  record_textual NoneL p n z r g h t = (no, t)
  record_textual (BoolL b) p n z r g h t = (no, t)
  record_textual (I64L i) p n z r g h t = (no, t)
  record_textual (F64L i) p n z r g h t = (no, t)
  record_textual (BytesL s) p n z r g h t = ((λ e. (g, h)), t)
  record_textual (StringL s) p n z r g h t = ((λ e. (g, h)), t)
  record_textual ListL p n z r g h t = (no, t)
  record_textual TupleL p n z r g h t = (no, t)
  record_textual SetL p n z r g h t = (no, t)
  record_textual FrozenSetL p n z r g h t = (no, t)
  record_textual DictL p n z r g h t = (no, t)
  record_textual (GlobalL m k) p n z r g h t = ((λ e. (g, h)), t)
  record_textual (ObjectL m k b) p n z r g h t = ((λ e. (g, h)), t)

  table_textual : (f : Forest) (p : ℕ) (r : List ℕ) → lo ≤ p → p + length (text f) ≤ hi → Textual r → Textual (table f p ++ r)
  unfolding table text
  table_textual nil p r g h t = t
  table_textual (node l c f) p r g h t =
      let k = simp length-append at h in
      let q = p + length (text_of l) in
      rw (regroup (record_of l p (count c) (suc (size c))) (table c q) (table f (q + length (text c))) r)
      (record_textual l p (count c) (suc (size c)) _ g (omega arith)
      (table_textual c q _ (omega arith) (omega arith)
      (table_textual f (q + length (text c)) r (omega arith) (omega arith) t)))

  textual_at : (l : List ℕ) → Textual l → (k : ℕ) → 4 * k + 3 < length l → has_text_place (get_or l (4 * k) 0) ≡ true → (lo ≤ get_or l (4 * k + 1) 0) × (get_or l (4 * k + 1) 0 ≤ hi)
  unfolding Textual
  textual_at [] t k h e = absurd (omega arith)
  textual_at (a ∷ []) t k h e = absurd (omega arith)
  textual_at (a ∷ b ∷ []) t k h e = absurd (omega arith)
  textual_at (a ∷ b ∷ c ∷ []) t k h e = absurd (omega arith)
  textual_at (a ∷ b ∷ c ∷ d ∷ r) t zero h e = t.0 e
  textual_at (a ∷ b ∷ c ∷ d ∷ r) t (suc k) h e =
      let x : 4 * suc k ≡ suc (suc (suc (suc (4 * k)))) = omega arith in
      let y : suc (suc (suc (suc (4 * k)))) + 1 ≡ suc (suc (suc (suc (4 * k + 1)))) = omega arith in
      rw (x, y) (textual_at r t.1 k (omega arith) (rw x at e))

-- what is written from record a on can be copied behind it
pub written_copyable : {t : List Node} {h : Kids} {records bytes : List ℕ} {is : List ℕ} {f : Forest} (a p b q : ℕ) → Written t h records bytes is f a p → a + size f ≤ b → 4 * (b + size f) ≤ length records
    → p + length (text f) ≤ 65536 → q ≤ 65536 → Copyable records a (size f) b p q
unfolding Textual
written_copyable {records = records} {f = f} a p b q w g r x y = record { apart = g; room = r; places = places }
  where
    n : length (table f p) ≡ 4 * size f
    n = table-length f p

    there : (k : ℕ) → k < 4 * size f → get_or records (4 * a + k) 0 ≡ get_or (table f p) k 0
    there k l = sym (get_or-drop (4 * a) records k 0) ∙ (sym (get_or-take (length (table f p)) (drop (4 * a) records) k 0 (omega (arith, n))) ∙ ap (λ (s : List ℕ). get_or s k 0) w.table_is)

    textual : Textual p 65536 (table f p)
    textual = rw append-nil at (table_textual p 65536 f p [] (omega arith) x tt)

    places : (k : ℕ) → k < size f → has_text_place (get_or records (4 * (a + k)) 0) ≡ true → (p ≤ get_or records (4 * (a + k) + 1) 0) × (get_or records (4 * (a + k) + 1) 0 - p + q < 2 ^ 64)
    places k l e =
        let e₀ : 4 * (a + k) ≡ 4 * a + 4 * k = omega arith in
        let e₁ : 4 * (a + k) + 1 ≡ 4 * a + (4 * k + 1) = omega arith in
        let c = textual_at p 65536 (table f p) textual k (omega (arith, n)) (rw (e₀, there (4 * k) (omega arith)) at e) in
        rw (e₁, there (4 * k + 1) (omega arith)) (c.0, omega arith)
