-- RULES, Ask 6, over the definitions. A table's pickle, whatever follows it, is read back as exactly that table and text, and
-- exactly what was written is consumed, unless an added refusal is met. So among pickles read without one none is the beginning of another,
-- and different values have different pickles.
use Rattle.std.specs.Prelude.{ℕ, List, [], ◌∷◌, ◌++◌, ◌≡◌, length}
use Rattle.std.proofs.Common.{append-nil, sym, ◌∙◌, ap, length-append, arith}
use Rattle.std.proofs.Math.Path.{refl}
use Rattle.value.specs.Value.{one, count}
use Rattle.value.specs.Tabled.{table_one}
use Rattle.table.specs.CompareLaws.{Identical}
use Rattle.reading.specs.Reading as Readings
use Rattle.reading.specs.Reading.{prefix}
use Rattle.outback.specs.Reading.{Unhindered}
use Rattle.outback.proofs.Reading.{value_back}
use Rattle.outback.specs.Tables.{table_returnable}
use Rattle.outback.specs.Theorem.{Outgoing, image, gives}

pub out_and_back : (w : List ℕ) (n : ℕ) (t : List ℕ) (g : Outgoing w n t) (rest : List ℕ) → Unhindered (prefix (image g ++ rest)) → prefix (image g ++ rest) ≡ gives (length (image g)) w n t
out_and_back w n t g rest u =
    value_back g.formed.value (table_returnable w n t g.formed g.words g.names g.objects) g.formed.settle rest u
    ∙ rw (g.formed.counted, g.formed.records, g.formed.texts)

-- ---- two tables

module _ (w : List ℕ) (n : ℕ) (t : List ℕ) (v : List ℕ) (m : ℕ) (u : List ℕ) (g : Outgoing w n t) (h : Outgoing v m u) where
  -- bytes that begin with both pickles, and are read without an added refusal: one table, and one length
  pub one_reading : (rest more : List ℕ) → image g ++ rest ≡ image h ++ more → Unhindered (prefix (image g ++ rest)) → Identical w n t v m u × (length (image g) ≡ length (image h))
  one_reading rest more e free =
      let x = out_and_back w n t g rest free in
      let y = out_and_back v m u h more (rw e at free) in
      let z : gives (length (image g)) w n t ≡ gives (length (image h)) v m u = sym x ∙ ap prefix e ∙ y in (
        record {
          counts = ap (λ (r : Readings.Reading). r.answer.count) z;
          records = ap (λ (r : Readings.Reading). r.words) z;
          texts = ap (λ (r : Readings.Reading). r.bytes) z;
        },
        ap (λ (r : Readings.Reading). r.answer.length) z,
      )

  nothing_left : (a : List ℕ) → length a ≡ 0 → a ≡ []
  nothing_left [] e = refl
  nothing_left (x ∷ a) e = absurd (omega arith)

  -- a pickle that begins with another is that one, of an identical table
  pub no_beginning : (rest : List ℕ) → image h ≡ image g ++ rest → Unhindered (prefix (image h)) → (rest ≡ []) × Identical w n t v m u
  no_beginning rest e free =
      let x = one_reading rest [] (sym e ∙ sym (append-nil (image h))) (rw e at free) in
      let y = ap length e in
      let z = length-append (image g) rest in
      (nothing_left rest (omega (arith, x.1)), x.0)

  identical_values : Identical w n t v m u → one g.formed.value ≡ one h.formed.value
  unfolding count
  identical_values i =
      let a = g.formed in
      let b = h.formed in
      table_one (one a.value) (one b.value) a.shape b.shape refl (sym a.records ∙ i.records ∙ b.records) (sym a.texts ∙ i.texts ∙ b.texts)

  -- different values, different pickles
  pub different : (one g.formed.value ≡ one h.formed.value → ⊥) → Unhindered (prefix (image h)) → image g ≡ image h → ⊥
  different d free e = d (identical_values (no_beginning [] (sym e ∙ sym (append-nil (image g))) free).1)
