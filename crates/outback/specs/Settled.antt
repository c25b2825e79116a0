-- What the machine holds of a value before its sets and dicts are put in order, and that putting them in order gives the value, if it was
-- in order when it was written.
use Prim.Native.Nat.{suc, ◌%◌, Ordering}
use Rattle.std.specs.Prelude.{Bool, true, ◌&&◌, ◌≡◌, refl, T}
use Rattle.std.proofs.Common.{◌∙◌, ap, ap₂, arith}
use Rattle.value.specs.Value.{Label, Forest, Value, count, NoneL, BoolL, I64L, F64L, BytesL, StringL, ListL, TupleL, SetL, FrozenSetL, DictL, GlobalL, ObjectL, nil, node}
use Rattle.value.specs.Order.{order}
use Rattle.value.specs.Shape.{and_l, and_r}
use Rattle.value.specs.WellFormed.{less, ascending, ascending-rest, keys, proper, settled}
use Rattle.reading.specs.Build.{before}
use Rattle.reading.specs.Settle.{by, insert, as_set, enter, as_dict, items, arrange, settle}
use Rattle.outback.specs.Returnable.{Returnable, AllReturnable}

-- ---- a set holds its argument, a List of its items

unfoldable pub in_node : Label → Forest → Forest
in_node NoneL c = c
in_node (BoolL b) c = c
in_node (I64L n) c = c
in_node (F64L n) c = c
in_node (BytesL t) c = c
in_node (StringL t) c = c
in_node ListL c = c
in_node TupleL c = c
in_node SetL c = node ListL c nil
in_node FrozenSetL c = node ListL c nil
in_node DictL c = c
in_node (GlobalL m n) c = c
in_node (ObjectL m n b) c = c

unfoldable pub unsettled : Forest → Forest
unsettled nil = nil
unsettled (node l c r) = node l (in_node l (unsettled c)) (unsettled r)

pub unsettled-count : (f : Forest) → count (unsettled f) ≡ count f
unfolding unsettled count
unsettled-count nil = refl
unsettled-count (node l c r) = ap suc (unsettled-count r)

-- ---- what is in order stays so

below : (o : Ordering) → T (less o) → o ≡ Ordering.lt
below Ordering.lt h = refl
below Ordering.eq h = absurd h
below Ordering.gt h = absurd h

-- v is before the first
unfoldable leads : Value → Forest → Bool
leads v nil = true
leads v (node l c r) = less (order v (record { label = l; contents = c }))

ascending-first : (l : Label) (c r : Forest) → T (ascending (node l c r)) → T (leads (record { label = l; contents = c }) r)
unfolding ascending leads
ascending-first l c nil h = tt
ascending-first l c (node m d r) h = and_l (less (order (record { label = l; contents = c }) (record { label = m; contents = d }))) (ascending (node m d r)) h

insert-first : (v : Value) (f : Forest) → T (leads v f) → insert v f ≡ before v f
unfolding insert by leads
insert-first v nil h = refl
insert-first v (node l c r) h = rw (below (order v (record { label = l; contents = c })) h)

enter-first : (v w : Value) (f : Forest) → T (leads v (keys f)) → count f % 2 ≡ 0 → enter v w f ≡ before v (before w f)
unfolding enter by leads keys count
enter-first v w nil h p = refl
enter-first v w (node l c nil) h p = absurd (omega arith)
enter-first v w (node l c (node m d r)) h p = rw (below (order v (record { label = l; contents = c })) h)

set_same : (f : Forest) → T (ascending f) → as_set f ≡ f
unfolding as_set
set_same nil h = refl
set_same (node l c r) h =
    let v : Value = record { label = l; contents = c } in
    ap (insert v) (set_same r (ascending-rest l c r h)) ∙ insert-first v r (ascending-first l c r h)

dict-same : (f : Forest) → T (ascending (keys f)) → count f % 2 ≡ 0 → as_dict f ≡ f
unfolding as_dict keys count
dict-same nil h p = refl
dict-same (node l c nil) h p = absurd (omega arith)
dict-same (node l c (node m d r)) h p =
    let v : Value = record { label = l; contents = c } in
    let w : Value = record { label = m; contents = d } in
    let e : count r % 2 ≡ 0 = omega arith in
    ap (enter v w) (dict-same r (ascending-rest l c (keys r) h) e) ∙ enter-first v w r (ascending-first l c (keys r) h) e

arranged : (l : Label) (c : Forest) → T (proper l c) → Returnable l c → settle (unsettled c) ≡ c → arrange l (settle (in_node l (unsettled c))) ≡ c
unfolding arrange in_node settle items Returnable
arranged NoneL c p q e = e
arranged (BoolL b) c p q e = e
arranged (I64L i) c p q e = e
arranged (F64L i) c p q e = e
arranged (BytesL t) c p q e = e
arranged (StringL t) c p q e = e
arranged ListL c p q e = e
arranged TupleL c p q e = e
arranged SetL c p q e = ap as_set e ∙ set_same c p
arranged FrozenSetL c p q e = ap as_set e ∙ set_same c p
arranged DictL c p q e = ap as_dict e ∙ dict-same c p q
arranged (GlobalL m k) c p q e = e
arranged (ObjectL m k b) c p q e = e

pub settle-unsettled : (f : Forest) → AllReturnable f → T (settled f) → settle (unsettled f) ≡ f
unfolding settle unsettled settled AllReturnable
settle-unsettled nil g h = refl
settle-unsettled (node l c r) g h =
    let p = and_r (proper l c) (settled c && settled r) h in
    ap₂ (node l) (arranged l c (and_l (proper l c) (settled c && settled r) h) g.0 (settle-unsettled c g.1 (and_l (settled c) (settled r) p))) (settle-unsettled r g.2 (and_r (settled c) (settled r) p))
