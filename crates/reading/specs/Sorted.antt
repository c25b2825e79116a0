-- What putting in order comes to: a Set's items ascend strictly and are those that were given; a Dict's keys ascend strictly, and its
-- entries are, for each key that was given, its last.
use Prim.Native.Nat.{ℕ, ◌≤◌, Ordering}
use Rattle.std.specs.Prelude.{◌⊎◌, ◌≡◌, refl, T}
use Rattle.std.proofs.Common.{inl, inr, sym, ◌∙◌, ap, arith}
use Rattle.value.specs.Value.{Label, Forest, Value, one, count, nil, node}
use Rattle.value.specs.Order.{order}
use Rattle.value.specs.OrderLaws.{swap, order-swap}
use Rattle.value.specs.Total.{order_equal, order-less}
use Rattle.value.specs.WellFormed.{ascending, keys}
use Rattle.reading.specs.Build.{before}
use Rattle.reading.specs.Settle.{by, insert, as_set, enter, as_dict}

-- a value is not below itself
pub order_self : (v : Value) → order v v ≡ Ordering.lt → ⊥
order_self v h = let e : Ordering.lt ≡ Ordering.gt = sym h ∙ order-swap v v ∙ ap swap h in let z : ◌≡◌ {A = ℕ} 0 1 = cc in omega arith

-- ---- strictly ascending

-- below the first of them
unfoldable pub Under : Value → Forest → Type 0
Under v nil = Unit {0}
Under v (node l c r) = order v (record { label = l; contents = c }) ≡ Ordering.lt

unfoldable pub Ascending : Forest → Type 0
Ascending nil = Unit {0}
Ascending (node l c r) = Under (record { label = l; contents = c }) r × Ascending r

-- as a well-formed table has it
pub ascending_test : (f : Forest) → Ascending f → T (ascending f)
unfolding Ascending Under ascending
ascending_test nil a = tt
ascending_test (node l c nil) a = tt
ascending_test (node l c (node m d r)) a = rw a.0 (ascending_test (node m d r) a.1)

-- ---- sets

insert-under : (u v : Value) (f : Forest) → Under u f → order u v ≡ Ordering.lt → Under u (insert v f)
unfolding insert by Under
insert-under u v nil h e = e
insert-under u v (node l c r) h e = go (order v (record { label = l; contents = c }))
  where
    go : (o : Ordering) → Under u (by o (before v (node l c r)) (node l c r) (node l c (insert v r)))
    go Ordering.lt = e
    go Ordering.eq = h
    go Ordering.gt = h

insert-ascending : (v : Value) (f : Forest) → Ascending f → Ascending (insert v f)
unfolding insert by Ascending Under
insert-ascending v nil h = (tt, tt)
insert-ascending v (node l c r) h = go (order v w) refl (insert-ascending v r h.1)
  where
    w : Value
    w = record { label = l; contents = c }

    go : (o : Ordering) → order v w ≡ o → Ascending (insert v r) → Ascending (by o (before v (node l c r)) (node l c r) (node l c (insert v r)))
    go Ordering.lt q i = (q, h)
    go Ordering.eq q i = h
    go Ordering.gt q i = (insert-under w v r h.0 (order-swap v w ∙ ap swap q), i)

pub set-ascending : (f : Forest) → Ascending (as_set f)
unfolding as_set Ascending
set-ascending nil = tt
set-ascending (node l c r) = insert-ascending (record { label = l; contents = c }) (as_set r) (set-ascending r)

-- v is one of them
pub data Among (v : Value) : Forest → Type 0 where
  first : {l : Label} {c r : Forest} → v ≡ record { label = l; contents = c } → Among v (node l c r)
  after : {l : Label} {c r : Forest} → Among v r → Among v (node l c r)

insert_has : (v : Value) (f : Forest) → Among v (insert v f)
unfolding insert by
insert_has v nil = first refl
insert_has v (node l c r) = go (order v w) refl (insert_has v r)
  where
    w : Value
    w = record { label = l; contents = c }

    go : (o : Ordering) → order v w ≡ o → Among v (insert v r) → Among v (by o (before v (node l c r)) (node l c r) (node l c (insert v r)))
    go Ordering.lt q i = first refl
    go Ordering.eq q i = first (order_equal v w q)
    go Ordering.gt q i = after i

insert_keeps : (u v : Value) (f : Forest) → Among u f → Among u (insert v f)
unfolding insert by
insert_keeps u v nil a = elim a [ ]
insert_keeps u v (node l c r) a = go (order v (record { label = l; contents = c })) a (insert_keeps u v r)
  where
    go : (o : Ordering) → Among u (node l c r) → (Among u r → Among u (insert v r)) → Among u (by o (before v (node l c r)) (node l c r) (node l c (insert v r)))
    go Ordering.lt b i = after b
    go Ordering.eq b i = b
    go Ordering.gt (first e) i = first e
    go Ordering.gt (after b) i = after (i b)

insert-only : (u v : Value) (f : Forest) → Among u (insert v f) → Among u (before v f)
unfolding insert by
insert-only u v nil a = a
insert-only u v (node l c r) a = go (order v (record { label = l; contents = c })) a (insert-only u v r)
  where
    pass : Among u (before v r) → Among u (before v (node l c r))
    pass (first e) = first e
    pass (after b) = after (after b)

    go : (o : Ordering) → Among u (by o (before v (node l c r)) (node l c r) (node l c (insert v r))) → (Among u (insert v r) → Among u (before v r)) → Among u (before v (node l c r))
    go Ordering.lt b i = b
    go Ordering.eq b i = after b
    go Ordering.gt (first e) i = after (first e)
    go Ordering.gt (after b) i = pass (i b)

-- every item given is there, and no other
pub set_has : (v : Value) (f : Forest) → Among v f → Among v (as_set f)
unfolding as_set
set_has v nil x' = elim x' [ ]
set_has v (node l c r) (first e) = rw e (insert_has (record { label = l; contents = c }) (as_set r))
set_has v (node l c r) (after a) = insert_keeps v (record { label = l; contents = c }) (as_set r) (set_has v r a)

pub set-only : (v : Value) (f : Forest) → Among v (as_set f) → Among v f
unfolding as_set
set-only v nil a = elim a [ ]
set-only v (node l c r) a = go (insert-only v (record { label = l; contents = c }) (as_set r) a) (set-only v r)
  where
    go : Among v (node l c (as_set r)) → (Among v (as_set r) → Among v r) → Among v (node l c r)
    go (first e) i = first e
    go (after b) i = after (i b)

-- ---- dicts

enter-under : (u v w : Value) (f : Forest) → Under u (keys f) → order u v ≡ Ordering.lt → Under u (keys (enter v w f))
unfolding enter by Under keys
enter-under u v w nil h e = e
enter-under u v w (node l c nil) h e = e
enter-under u v w (node l c (node m d r)) h e = go (order v (record { label = l; contents = c }))
  where
    go : (o : Ordering) → Under u (keys (by o (before v (before w (node l c (node m d r)))) (node l c (node m d r)) (node l c (node m d (enter v w r)))))
    go Ordering.lt = e
    go Ordering.eq = h
    go Ordering.gt = h

enter-ascending : (v w : Value) (f : Forest) → Ascending (keys f) → Ascending (keys (enter v w f))
unfolding enter by Ascending Under keys
enter-ascending v w nil h = (tt, tt)
enter-ascending v w (node l c nil) h = (tt, tt)
enter-ascending v w (node l c (node m d r)) h = go (order v x) refl (enter-ascending v w r h.1)
  where
    x : Value
    x = record { label = l; contents = c }

    go : (o : Ordering) → order v x ≡ o → Ascending (keys (enter v w r)) → Ascending (keys (by o (before v (before w (node l c (node m d r)))) (node l c (node m d r)) (node l c (node m d (enter v w r)))))
    go Ordering.lt q i = (q, h)
    go Ordering.eq q i = h
    go Ordering.gt q i = (enter-under x v w r h.0 (order-swap v x ∙ ap swap q), i)

pub dict-ascending : (f : Forest) → Ascending (keys (as_dict f))
unfolding as_dict Ascending keys
dict-ascending nil = tt
dict-ascending (node l c nil) = tt
dict-ascending (node l c (node m d r)) = enter-ascending (record { label = l; contents = c }) (record { label = m; contents = d }) (as_dict r) (dict-ascending r)

-- v has w as a value in these entries
pub data Entry (v w : Value) : Forest → Type 0 where
  first : {l m : Label} {c d r : Forest} → v ≡ record { label = l; contents = c } → w ≡ record { label = m; contents = d } → Entry v w (node l c (node m d r))
  after : {l m : Label} {c d r : Forest} → Entry v w r → Entry v w (node l c (node m d r))

-- v has w as its last value
pub data Last (v w : Value) : Forest → Type 0 where
  first : {l m : Label} {c d r : Forest} → v ≡ record { label = l; contents = c } → w ≡ record { label = m; contents = d } → ((x : Value) → ¬ Entry v x r) → Last v w (node l c (node m d r))
  after : {l m : Label} {c d r : Forest} → Last v w r → Last v w (node l c (node m d r))

enter_keeps : (u x v w : Value) (f : Forest) → Entry u x f → Entry u x (enter v w f)
unfolding enter by
enter_keeps u x v w nil a = elim a [ ]
enter_keeps u x v w (node l c nil) a = elim a [ ]
enter_keeps u x v w (node l c (node m d r)) a = go (order v (record { label = l; contents = c })) a (enter_keeps u x v w r)
  where
    go : (o : Ordering) → Entry u x (node l c (node m d r)) → (Entry u x r → Entry u x (enter v w r)) → Entry u x (by o (before v (before w (node l c (node m d r)))) (node l c (node m d r)) (node l c (node m d (enter v w r))))
    go Ordering.lt b i = after b
    go Ordering.eq b i = b
    go Ordering.gt (first e f) i = first e f
    go Ordering.gt (after b) i = after (i b)

-- the key entered is there, with the value entered if there was none
enter_key : (v w : Value) (f : Forest) → (x : Value) × Entry v x (enter v w f)
unfolding enter by
enter_key v w nil = (w, first refl refl)
enter_key v w (node l c nil) = (w, first refl refl)
enter_key v w (node l c (node m d r)) = go (order v k) refl (enter_key v w r)
  where
    k : Value
    k = record { label = l; contents = c }

    go : (o : Ordering) → order v k ≡ o → (x : Value) × Entry v x (enter v w r) → (x : Value) × Entry v x (by o (before v (before w (node l c (node m d r)))) (node l c (node m d r)) (node l c (node m d (enter v w r))))
    go Ordering.lt q i = (w, first refl refl)
    go Ordering.eq q i = (record { label = m; contents = d }, first (order_equal v k q) refl)
    go Ordering.gt q i = (i.0, after i.1)

enter_has : (v w : Value) (f : Forest) → ((x : Value) → ¬ Entry v x f) → Entry v w (enter v w f)
unfolding enter by
enter_has v w nil n = first refl refl
enter_has v w (node l c nil) n = first refl refl
enter_has v w (node l c (node m d r)) n = go (order v k) refl (enter_has v w r (λ x a. n x (after a)))
  where
    k : Value
    k = record { label = l; contents = c }

    go : (o : Ordering) → order v k ≡ o → Entry v w (enter v w r) → Entry v w (by o (before v (before w (node l c (node m d r)))) (node l c (node m d r)) (node l c (node m d (enter v w r))))
    go Ordering.lt q i = first refl refl
    go Ordering.eq q i = absurd (n (record { label = m; contents = d }) (first (order_equal v k q) refl))
    go Ordering.gt q i = after i

-- a key below the first of ascending ones is none of them
not_under : (v x : Value) (f : Forest) → Ascending (keys f) → Under v (keys f) → Entry v x f → ⊥
unfolding Ascending Under keys
not_under v x nil a h x7 = elim x7 [ ]
not_under v x (node l c nil) a h x12 = elim x12 [ ]
not_under v x (node l c (node m d r)) a h (first e f) = order_self v (rw (← e) at h)
not_under v x (node l c (node m d r)) a h (after b) = not_under v x r a.1 (under (keys r) a.0) b
  where
    under : (g : Forest) → Under (record { label = l; contents = c }) g → Under v g
    under nil u = tt
    under (node n k s) u = order-less v (record { label = l; contents = c }) (record { label = n; contents = k }) h u

-- no entry in fewer than two
busy : (v x : Value) (f : Forest) → count f ≤ 1 → Entry v x f → ⊥
unfolding count
busy v x f h (first e g) = omega arith
busy v x f h (after b) = omega arith

-- nor is a key above another
order_self_gt : (v : Value) → order v v ≡ Ordering.gt → ⊥
order_self_gt v h = order_self v (order-swap v v ∙ ap swap h)

-- what is there after entering was there, or is what was entered where the key was not
enter-only : (u x v w : Value) (f : Forest) → Ascending (keys f) → Entry u x (enter v w f) → Entry u x f ⊎ ((u ≡ v) × (x ≡ w) × ((y : Value) → ¬ Entry v y f))
unfolding enter by Ascending Under keys count
enter-only u x v w nil s a = go a
  where
    go : Entry u x (before v (one w)) → Entry u x nil ⊎ ((u ≡ v) × (x ≡ w) × ((y : Value) → ¬ Entry v y nil))
    go (first e g) = inr (e, g, λ y b. busy v y nil (omega arith) b)
    go (after b) = inl b
enter-only u x v w (node l c nil) s a = go a
  where
    go : Entry u x (before v (one w)) → Entry u x (node l c nil) ⊎ ((u ≡ v) × (x ≡ w) × ((y : Value) → ¬ Entry v y (node l c nil)))
    go (first e g) = inr (e, g, λ y b. busy v y (node l c nil) (omega arith) b)
    go (after b) = absurd (busy u x nil (omega arith) b)
enter-only u x v w (node l c (node m d r)) s a = go (order v k) refl a (enter-only u x v w r s.1)
  where
    k : Value
    k = record { label = l; contents = c }

    Got : Forest → Type 0
    Got f = Entry u x f ⊎ ((u ≡ v) × (x ≡ w) × ((y : Value) → ¬ Entry v y f))

    no_more : (y : Value) → order v k ≡ Ordering.gt → ((z : Value) → ¬ Entry v z r) → Entry v y (node l c (node m d r)) → ⊥
    no_more y q n (first e g) = order_self_gt v (rw (← e) at q)
    no_more y q n (after b) = n y b

    pass : order v k ≡ Ordering.gt → Got r → Got (node l c (node m d r))
    pass q (inl b) = inl (after b)
    pass q (inr b) = inr (b.0, b.1, λ y. no_more y q b.2)

    go : (o : Ordering) → order v k ≡ o → Entry u x (by o (before v (before w (node l c (node m d r)))) (node l c (node m d r)) (node l c (node m d (enter v w r)))) → (Entry u x (enter v w r) → Got r) → Got (node l c (node m d r))
    go Ordering.lt q (first e g) i = inr (e, g, λ y. not_under v y (node l c (node m d r)) s q)
    go Ordering.lt q (after b) i = inl b
    go Ordering.eq q b i = inl b
    go Ordering.gt q (first e g) i = inl (first e g)
    go Ordering.gt q (after b) i = pass q (i b)

-- every key given is there
pub dict_key : (v x : Value) (f : Forest) → Entry v x f → (y : Value) × Entry v y (as_dict f)
unfolding as_dict
dict_key v x nil x3 = elim x3 [ ]
dict_key v x (node l c nil) x6 = elim x6 [ ]
dict_key v x (node l c (node m d r)) (first e g) = rw e (enter_key (record { label = l; contents = c }) (record { label = m; contents = d }) (as_dict r))
dict_key v x (node l c (node m d r)) (after b) = let h = dict_key v x r b in (h.0, enter_keeps v h.0 (record { label = l; contents = c }) (record { label = m; contents = d }) (as_dict r) h.1)

-- and its value is its last one
pub dict-only : (v x : Value) (f : Forest) → Entry v x (as_dict f) → Last v x f
unfolding as_dict
dict-only v x nil a = elim a [ ]
dict-only v x (node l c nil) a = elim a [ ]
dict-only v x (node l c (node m d r)) a = go (enter-only v x k (record { label = m; contents = d }) (as_dict r) (dict-ascending r) a) (dict-only v x r)
  where
    k : Value
    k = record { label = l; contents = c }

    none : v ≡ k → ((y : Value) → ¬ Entry k y (as_dict r)) → (y : Value) → Entry v y r → ⊥
    none q n y e = let h = dict_key k y r (rw q at e) in n h.0 h.1

    go : Entry v x (as_dict r) ⊎ ((v ≡ k) × (x ≡ record { label = m; contents = d }) × ((y : Value) → ¬ Entry k y (as_dict r))) → (Entry v x (as_dict r) → Last v x r) → Last v x (node l c (node m d r))
    go (inl b) i = after (i b)
    go (inr b) i = first b.0 b.1 (λ y e. none b.0 b.2 y e)

pub dict-last : (v x : Value) (f : Forest) → Last v x f → Entry v x (as_dict f)
unfolding as_dict
dict-last v x nil x3 = elim x3 [ ]
dict-last v x (node l c nil) x6 = elim x6 [ ]
dict-last v x (node l c (node m d r)) (first e g n) =
    rw (e, g) (enter_has (record { label = l; contents = c }) (record { label = m; contents = d }) (as_dict r) (λ y b. n y (was y (dict-only (record { label = l; contents = c }) y r b))))
  where
    entry : (k y : Value) (h : Forest) → Last k y h → Entry k y h
    entry k y h (first p q o) = first p q
    entry k y h (after b) = after (entry k y _ b)

    was : (y : Value) → Last (record { label = l; contents = c }) y r → Entry v y r
    was y b = rw e (entry _ y r b)
dict-last v x (node l c (node m d r)) (after b) = enter_keeps v x (record { label = l; contents = c }) (record { label = m; contents = d }) (as_dict r) (dict-last v x r b)
