-- The order of values is total: equal exactly for equal values, turned round the other way (`order-swap`), and transitive.
use Prim.Native.Nat.{ℕ, Ordering}
use Rattle.std.specs.Prelude.{◌≡◌}
use Rattle.std.proofs.Common.{◌∙◌, ap₂}
use Rattle.value.specs.Value.{Label, Forest, Value, kind, nil, node}
use Rattle.value.specs.Order.{key, name, new, labels, forests, order}
use Rattle.value.specs.OrderLaws.{Chain, then_eq, then_chain, label_eq, labels_chain, forests_eq, forests_chain}
use Rattle.value.specs.Walk.{compare_same, eq_then}
use Rattle.value.specs.Told.{lex_same}

labels-same : (l : Label) → labels l l ≡ Ordering.eq
unfolding labels
labels-same l = rw (compare_same (kind l), lex_same (key l), lex_same (name l)) (eq_then _ ∙ eq_then _)

forests-same : (x : ℕ) (f : Forest) → forests x x f f ≡ Ordering.eq
unfolding forests
forests-same x nil = compare_same x
forests-same x (node l c r) =
    rw (labels-same l, forests-same (new l) c, compare_same x, forests-same 0 r) (eq_then _ ∙ eq_then _ ∙ eq_then _)

pub order_same : (v : Value) → order v v ≡ Ordering.eq
unfolding order
order_same v = rw (labels-same v.label, forests-same (new v.label) v.contents) (eq_then _)

pub order_equal : (v w : Value) → order v w ≡ Ordering.eq → v ≡ w
unfolding order
order_equal v w e =
    let p = then_eq (labels v.label w.label) _ e in
    let q = forests_eq (new v.label) (new w.label) v.contents w.contents p.1 in
    let value : Label → Forest → Value = λ l c. record { label = l; contents = c } in
    ap₂ value (label_eq v.label w.label p.0 q.0) q.1

pub order_chain : (u v w : Value) → Chain (order u v) (order v w) (order u w)
unfolding order
order_chain u v w =
    then_chain _ _ _ _ _ _ (labels_chain u.label v.label w.label)
    (forests_chain (new u.label) (new v.label) (new w.label) u.contents v.contents w.contents)

-- so what is before what is before another is before it
pub order-less : (u v w : Value) → order u v ≡ Ordering.lt → order v w ≡ Ordering.lt → order u w ≡ Ordering.lt
unfolding Chain
order-less u v w e f = go (order u v) (order v w) e f (order_chain u v w)
  where
    go : (a b : Ordering) → a ≡ Ordering.lt → b ≡ Ordering.lt → Chain a b (order u w) → order u w ≡ Ordering.lt
    go Ordering.lt Ordering.lt e f c = c
    go Ordering.lt Ordering.eq e f c = c
    go Ordering.lt Ordering.gt e f c = cc
    go Ordering.eq b e f c = cc
    go Ordering.gt b e f c = cc
