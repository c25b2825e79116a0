-- The comparison of two values as a walk through both tables at once, record by record. What is left to compare is two forests of
-- equally many values, and what decides if they are equal.
use Prim.Native.Nat.{ℕ, suc, zero, ◌+◌, ◌≤◌, ◌<◌, compare, Ordering}
use Rattle.std.specs.Prelude.{List, ◌≡◌, refl, T}
use Rattle.std.proofs.Common.{sym, ◌∙◌, ap, arith}
use Rattle.std.proofs.Math.Dec.{eqb_refl, compare_is_eq}
use Rattle.value.specs.Value.{Label, Forest, Value, one, count, size, nil, node}
use Rattle.value.specs.Order.{◌then◌, labels, forests, order, new}
use Rattle.value.specs.OrderLaws.{swap, then_swap, forests-swap}
use Rattle.value.specs.Stands.{◌⊕◌, Stands}

-- ---- `then`

pub then_assoc : (a b c : Ordering) → ((a then b) then c) ≡ (a then (b then c))
unfolding ◌then◌
then_assoc Ordering.lt b c = refl
then_assoc Ordering.eq b c = refl
then_assoc Ordering.gt b c = refl

pub then_end : (a : Ordering) → (a then Ordering.eq) ≡ a
unfolding ◌then◌
then_end Ordering.lt = refl
then_end Ordering.eq = refl
then_end Ordering.gt = refl

pub eq_then : (b : Ordering) → (Ordering.eq then b) ≡ b
unfolding ◌then◌
eq_then b = refl

pub lt_then : (b : Ordering) → (Ordering.lt then b) ≡ Ordering.lt
unfolding ◌then◌
lt_then b = refl

pub gt_then : (b : Ordering) → (Ordering.gt then b) ≡ Ordering.gt
unfolding ◌then◌
gt_then b = refl

pub compare_same : (x : ℕ) → compare x x ≡ Ordering.eq
compare_same x = go (compare x x) (eqb_refl x)
  where
    go : (o : Ordering) → T (compare_is_eq o) → o ≡ Ordering.eq
    go Ordering.lt h = absurd h
    go Ordering.eq h = refl
    go Ordering.gt h = absurd h

-- ---- the first k values of a forest

unfoldable pub first_values : ℕ → Forest → Forest
first_values zero f = nil
first_values (suc k) nil = nil
first_values (suc k) (node l c r) = node l c (first_values k r)

pub count-first : (k : ℕ) (f : Forest) → k ≤ count f → count (first_values k f) ≡ k
unfolding first_values count
count-first zero f h = refl
count-first (suc k) nil h = absurd (omega arith)
count-first (suc k) (node l c r) h = ap suc (count-first k r (omega arith))

pub stands_first : (w t : List ℕ) (k : ℕ) (f : Forest) (i : ℕ) → Stands w t i f → Stands w t i (first_values k f)
unfolding first_values Stands
stands_first w t zero f i h = tt
stands_first w t (suc k) nil i h = tt
stands_first w t (suc k) (node l c r) i h = (h.0, h.1, stands_first w t k r (i + 1 + size c) h.2)

-- ---- what is left after two equal labels

-- equally many values in them: these, and then what followed
join : (x : ℕ) (c d r s : Forest) → count c ≡ count d → (forests x x c d then forests 0 0 r s) ≡ forests 0 0 (c ⊕ r) (d ⊕ s)
unfolding forests ◌⊕◌ count
join x nil nil r s e = rw (compare_same x) (eq_then _)
join x nil (node m d s₁) r s e = absurd (omega arith)
join x (node l c r₁) nil r s e = absurd (omega arith)
join x (node l c r₁) (node m d s₁) r s e =
    rw (compare_same x, compare_same 0)
    (simp (then_assoc, eq_then) (rw (← (join 0 r₁ s₁ r s (omega arith)))))

-- ---- fewer values in the first: as many of the second, and then the first is before it
shorter : (x : ℕ) (c d : Forest) → count c < count d → forests x x c d ≡ (forests 0 0 c (first_values (count c) d) then Ordering.lt)
unfolding forests first_values count
shorter x nil nil h = absurd (omega arith)
shorter x nil (node m d s) h = rw (compare_same 0) (sym (eq_then _))
shorter x (node l c r) nil h = absurd (omega arith)
shorter x (node l c r) (node m d s) h =
    rw (compare_same x, compare_same 0)
    (simp (then_assoc, eq_then) (rw (← (shorter 0 r s (omega arith)))))

longer : (x : ℕ) (c d : Forest) → count d < count c → forests x x c d ≡ (forests 0 0 (first_values (count d) c) d then Ordering.gt)
longer x c d h = forests-swap x x d c ∙ ap swap (shorter x d c h) ∙ then_swap _ Ordering.lt ∙ ap (λ (o : Ordering). o then Ordering.gt) (sym (forests-swap 0 0 d (first_values (count d) c)))

-- an Object's `new` decides after its arguments
newer : (x y : ℕ) (c d : Forest) (o : Ordering) → 0 < count c → 0 < count d → compare x y ≡ o → ((b : Ordering) → (o then b) ≡ o) → forests x y c d ≡ (forests 0 0 (first_values 1 c) (first_values 1 d) then o)
unfolding forests first_values count
newer x y nil d o p q e k = absurd (omega arith)
newer x y (node l c r) nil o p q e k = absurd (omega arith)
newer x y (node l c r) (node m d s) o p q e k = rw (e, compare_same 0) (simp (then_assoc, eq_then) (rw (k _)))

-- ---- one step of the walk: two labels, and what is then left

module _ (l m : Label) (c d r s : Forest) (v : Ordering) where
  abbrev pub before : Ordering
  before = forests 0 0 (node l c r) (node m d s) then v

  pub step_less : labels l m ≡ Ordering.lt → before ≡ Ordering.lt
  unfolding forests
  step_less e = rw e (simp (lt_then))

  pub step_greater : labels l m ≡ Ordering.gt → before ≡ Ordering.gt
  unfolding forests
  step_greater e = rw e (simp (gt_then))

  module _ (e : labels l m ≡ Ordering.eq) where
    opened : before ≡ ((forests (new l) (new m) c d then forests 0 0 r s) then v)
    unfolding forests
    opened = rw (e, compare_same 0) (simp (then_assoc, eq_then))

    pub step_same : new l ≡ new m → count c ≡ count d → before ≡ (forests 0 0 (c ⊕ r) (d ⊕ s) then v)
    step_same n h = opened ∙ rw n (rw (join (new m) c d r s h))

    pub step_shorter : new l ≡ new m → count c < count d → before ≡ (forests 0 0 c (first_values (count c) d) then Ordering.lt)
    step_shorter n h = opened ∙ rw n (rw (shorter (new m) c d h) (simp (then_assoc, lt_then)))

    pub step_longer : new l ≡ new m → count d < count c → before ≡ (forests 0 0 (first_values (count d) c) d then Ordering.gt)
    step_longer n h = opened ∙ rw n (rw (longer (new m) c d h) (simp (then_assoc, gt_then)))

    pub step_newer : (o : Ordering) → 0 < count c → 0 < count d → compare (new l) (new m) ≡ o → ((b : Ordering) → (o then b) ≡ o) → before ≡ (forests 0 0 (first_values 1 c) (first_values 1 d) then o)
    step_newer o p q h k = opened ∙ rw (newer (new l) (new m) c d o p q h k) (simp (then_assoc) (rw (k _)))

-- two values side by side
pub step-first : (v w : Value) → (forests 0 0 (one v) (one w) then Ordering.eq) ≡ order v w
unfolding forests order
step-first v w = rw (compare_same 0) (simp (then_assoc, eq_then, then_end))
