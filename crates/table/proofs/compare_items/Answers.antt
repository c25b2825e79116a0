-- Two values with nothing in them are ordered as their labels are.
use Rattle.std.proofs.Common.{◌≡◌, ◌≢◌, ◌∙◌, ◌*◌, ℕ, List, false, get_or, refl, sym, ap, ap₂, arith, add-zero}
use Prim.Native.Nat.{Ordering}
use Rattle.value.specs.Value.{Label, Forest, Value, one, bit, count, nil, node}
use Rattle.value.specs.Shape.{kind_in, holding, nothing_held}
use Rattle.value.specs.Stands.{word_at, label_at, arity_at, Says, Stands}
use Rattle.value.specs.Order.{◌then◌, lex, labels, forests, new, order}
use Rattle.value.specs.Walk.{compare_same, then_end}
use Rattle.value.specs.Left.{new_at_lem, new_other}
use Rattle.value.specs.Labels.{records_int, records_text, text_inside}
use Rattle.table.proofs.ByKind.{kind_of}
use Rattle.table.proofs.compare_items.Goals as goal

nothing_more : (o : Ordering) (x y : ℕ) (c d : Forest) → c ≡ nil → d ≡ nil → x ≡ y → o ≡ (o then forests x y c d)
unfolding forests
nothing_more o x y c d e f g = rw (e, f, g, compare_same y) (sym (then_end o))

module _ (w t : List ℕ) {k : ℕ} (none : holding k ≡ false) (other : k ≢ 12) where
  bare : {i : ℕ} {l : Label} → k ≡ kind_in (get_or w (4 * i) 0) → (c : Forest) → Says w t i l (count c) → c ≡ nil
  unfolding arity_at count
  bare e nil s = refl
  bare {i} e (node l c r) s =
      let z = nothing_held (word_at w i 0) (word_at w i 1) (rw (add-zero, ← e) none) in
      absurd (omega (arith, z, s.arity))

  by_labels : (p q : ℕ) → k ≡ kind_in (get_or w (4 * p) 0) → k ≡ kind_in (get_or w (4 * q) 0) → (v u : Value) → Stands w t p (one v) → Stands w t q (one u) → labels (label_at w t p) (label_at w t q) ≡ order v u
  unfolding Stands order
  by_labels p q e f v u x y =
      let a = x.0 in
      let b = y.0 in
      let n : new v.label ≡ new u.label = sym (ap new a.label) ∙ new_at_lem w t p a.reads ∙ ap bit (sym (new_other w p k e other) ∙ new_other w q k f other) ∙ sym (new_at_lem w t q b.reads) ∙ ap new b.label in
      ap₂ labels a.label b.label ∙ nothing_more _ _ _ _ _ (bare e v.contents a) (bare f u.contents b) n

pub returns-then-kind-eq-KIND_I64 : goal.returns-then-kind-eq-KIND_I64
returns-then-kind-eq-KIND_I64 c v u x y =
    let e = kind_of (get_or c.args.words.now (4 * c.args.p) 0) c.head_of-kind.ensures in
    let f = kind_of (get_or c.args.words.now (4 * c.args.q) 0) c.head_of.ensures in
    let same = c.if-kind-head_of.true in
    let k = c.if-kind-eq-KIND_I64.true in
    c.compare_ints.ensures ∙ records_int _ _ _ _ _ _ _ _ c.requires.p_reads c.requires.q_reads e f same k ∙ by_labels _ _ (rw k) (λ z. omega arith) c.args.p c.args.q e (same ∙ f) v u x y

pub part-requires : goal.part-requires
part-requires c = text_inside _ _ _ _ c.requires.p_reads (kind_of (get_or c.args.words.now (4 * c.args.p) 0) c.head_of-kind.ensures) (omega arith) (omega arith)

pub part-requires-then-kind-eq-KIND_BYTES : goal.part-requires-then-kind-eq-KIND_BYTES
part-requires-then-kind-eq-KIND_BYTES c = text_inside _ _ _ _ c.requires.q_reads (c.if-kind-head_of.true ∙ kind_of (get_or c.args.words.now (4 * c.args.q) 0) c.head_of.ensures) (omega arith) (omega arith)

pub returns-then-kind-eq-KIND_BYTES : goal.returns-then-kind-eq-KIND_BYTES
returns-then-kind-eq-KIND_BYTES c v u x y =
    let e = kind_of (get_or c.args.words.now (4 * c.args.p) 0) c.head_of-kind.ensures in
    let f = kind_of (get_or c.args.words.now (4 * c.args.q) 0) c.head_of.ensures in
    let same = c.if-kind-head_of.true in
    let k = c.if-kind-eq-KIND_BYTES.true in
    c.compare_bytes.ensures ∙ ap₂ lex c.part.ensures c.part-then-kind-eq-KIND_BYTES.ensures ∙ records_text _ _ _ _ _ _ _ _ c.requires.p_reads c.requires.q_reads e f same (omega arith) (omega arith) ∙ by_labels _ _ (rw k) (λ z. omega arith) c.args.p c.args.q e (same ∙ f) v u x y
