-- Values side by side in a table: from one to the next by their sizes, and the order of items and of keys on the way.
use Prim.Native.Nat.{ℕ, suc, zero, ◌+◌, ◌-◌, ◌*◌, ◌≤◌, ◌<◌, Ordering}
use Rattle.std.specs.Prelude.{Bool, true, false, cond, ◌&&◌, List, ◌≡◌, refl, ◌≢◌, length, ltb}
use Rattle.std.proofs.Common.{sym, ◌∙◌}
use Rattle.std.proofs.Math.Path.{ap, subst}
use Rattle.std.proofs.Math.Dec.{eqb}
use borrow.Author.Tests.{lt-ltb, le-ltb}
use native.Mathlib.Omega.{arith}
use Rattle.value.specs.Value.{Label, Forest, Value, one, count, size, nil, node}
use Rattle.value.specs.Shape.{kind_in, fresh_in, label_of}
use Rattle.value.specs.Stands.{word_at, label_at, Stands, stands_one}
use Rattle.value.specs.Order.{order}
use Rattle.value.specs.Told.{told}
use Rattle.std.specs.declared.cmp.Ordering.{Ordering as Answer}
use Rattle.std.specs.declared.cmp.Ordering.TheVariants.{Less, Equal, Greater}
use Rattle.std.specs.Ordering.{is_lt}
use Rattle.value.specs.WellFormed.{less, ascending, keys, first_is_tuple, is_tuple}
use Rattle.table.specs.Record.{EachBelow, each_below, label_by}
use Rattle.table.specs.Sound.{size_at, Sized}
use Rattle.table.specs.Names.{ordered_in}

-- m values that stand from record i on, each saying its size
pub record Held (w t : List ℕ) (i m : ℕ) : Type 0 where
  pub values : Forest
  pub stands : Stands w t i values
  pub sized : Sized w i values
  pub counted : count values ≡ m

-- the items (1), or the keys of entries (2)
unfoldable pub picked : ℕ → Forest → Forest
picked e f = cond (eqb e 1) f (keys f)

-- what a label with word 0 a asks of its contents
unfoldable pub arranged_by : ℕ → Forest → Bool
arranged_by k f = cond (ltb k 8) true (cond (ltb k 10) (ascending (picked 1 f)) (cond (ltb k 11) (ascending (picked 2 f)) (cond (ltb k 12) true (first_is_tuple f))))

pub ordered_back : (a b c : ℕ) (x : List ℕ) (f : Forest) → kind_in a < 13 → ordered_in (label_of a b c x) f ≡ arranged_by (kind_in a) f
unfolding ordered_in label_of label_by arranged_by picked EachBelow
ordered_back a b c x f known =
    each_below 13 (λ k. ordered_in (label_by (fresh_in a) b c x k) f ≡ arranged_by k f)
    (refl, (refl, (refl, (refl, (refl, (refl, (refl, (refl, (refl, (refl, (refl, (refl, (refl, tt))))))))))))) (kind_in a) known

-- the record behind an item, or behind a key and its value
unfoldable pub next_at : List ℕ → ℕ → ℕ → ℕ
next_at w e i = let q = i + size_at w i in cond (eqb e 1) q (q + size_at w q)

-- the records on the way there are inside
pub record ItemInside (w : List ℕ) (e i : ℕ) : Type 0 where
  pub here : 4 * i + 4 ≤ length w
  pub behind : i + size_at w i ≤ length w
  pub there : e ≢ 1 → 4 * (i + size_at w i) + 4 ≤ length w
  pub beyond : e ≢ 1 → i + size_at w i + size_at w (i + size_at w i) ≤ length w

-- ---- a step from one item or key to the next

abbrev value : Label → Forest → Value
value l c = record { label = l; contents = c }

-- an item or key, the next one, and what is left from that one on
pub record ItemStep (w t : List ℕ) (e p : ℕ) (f : Forest) : Type 0 where
  pub steps : ItemInside w e p
  pub first : Value
  pub second : Value
  pub rest : Forest
  pub first_stands : Stands w t p (one first)
  pub second_stands : Stands w t (next_at w e p) (one second)
  pub rest_stands : Stands w t (next_at w e p) rest
  pub rest_sized : Sized w (next_at w e p) rest
  pub fewer : count rest ≡ count f - e
  pub ordered : ascending (picked e f) ≡ (less (order first second) && ascending (picked e rest))

keys_after : Forest → Forest
keys_after nil = nil
keys_after (node m d r) = keys r

keys_node : (l : Label) (c r : Forest) → keys (node l c r) ≡ node l c (keys_after r)
unfolding keys keys_after
keys_node l c nil = refl
keys_node l c (node m d r) = refl

keys-order : (l m k : Label) (c d g r : Forest) → ascending (keys (node l c (node m d (node k g r)))) ≡ (less (order (value l c) (value k g)) && ascending (keys (node k g r)))
unfolding ascending keys
keys-order l m k c d g r = rw (keys_node k g r)

module _ (w t : List ℕ) where
  items : (p : ℕ) (l m : Label) (c d r : Forest) → Stands w t p (node l c (node m d r)) → Sized w p (node l c (node m d r)) → ItemStep w t 1 p (node l c (node m d r))
  unfolding Stands Sized next_at picked ascending count
  items p l m c d r s z =
      let q : p + 1 + size c ≡ p + size_at w p = let h = z.0 in omega arith in
      let a = s.0.reads.inside in
      let b = s.2.0.reads.inside in
      let h = z.0 in
      record {
        steps = record { here = a; behind = omega arith; there = λ n. absurd (n refl); beyond = λ n. absurd (n refl) };
        first = value l c;
        second = value m d;
        rest = node m d r;
        first_stands = (s.0, s.1, tt);
        second_stands = subst (λ (x : ℕ). Stands w t x (node m d nil)) q (s.2.0, s.2.1, tt);
        rest_stands = subst (λ (x : ℕ). Stands w t x (node m d r)) q s.2;
        rest_sized = subst (λ (x : ℕ). Sized w x (node m d r)) q z.1;
        fewer = omega arith;
        ordered = refl;
      }

  entries : (p : ℕ) (l m k : Label) (c d g r : Forest) → Stands w t p (node l c (node m d (node k g r))) → Sized w p (node l c (node m d (node k g r))) → ItemStep w t 2 p (node l c (node m d (node k g r)))
  unfolding Stands Sized next_at picked count
  entries p l m k c d g r s z =
      let h = z.0 in
      let q : p + 1 + size c ≡ p + size_at w p = omega arith in
      let h₁ : size_at w (p + size_at w p) ≡ suc (size d) = rw (← q) z.1.0 in
      let u : p + 1 + size c + 1 + size d ≡ p + size_at w p + size_at w (p + size_at w p) = omega arith in
      let a = s.0.reads.inside in
      let b = s.2.0.reads.inside in
      let e = s.2.2.0.reads.inside in
      record {
        steps = record { here = a; behind = omega arith; there = λ n. omega arith; beyond = λ n. omega arith };
        first = value l c;
        second = value k g;
        rest = node k g r;
        first_stands = (s.0, s.1, tt);
        second_stands = subst (λ (x : ℕ). Stands w t x (node k g nil)) u (s.2.2.0, s.2.2.1, tt);
        rest_stands = subst (λ (x : ℕ). Stands w t x (node k g r)) u s.2.2;
        rest_sized = subst (λ (x : ℕ). Sized w x (node k g r)) u z.1.1;
        fewer = omega arith;
        ordered = keys-order l m k c d g r;
      }

  -- more than one item, or more than one entry
  pub step : (e p : ℕ) (f : Forest) → 1 ≤ e → e ≤ 2 → Stands w t p f → Sized w p f → e < count f → ItemStep w t e p f
  unfolding count
  step zero p f x y s z h = absurd (omega arith)
  step (suc zero) p nil x y s z h = absurd (omega arith)
  step (suc zero) p (node l c nil) x y s z h = absurd (omega arith)
  step (suc zero) p (node l c (node m d r)) x y s z h = items p l m c d r s z
  step (suc (suc zero)) p nil x y s z h = absurd (omega arith)
  step (suc (suc zero)) p (node l c nil) x y s z h = absurd (omega arith)
  step (suc (suc zero)) p (node l c (node m d nil)) x y s z h = absurd (omega arith)
  step (suc (suc zero)) p (node l c (node m d (node k g r))) x y s z h = entries p l m k c d g r s z
  step (suc (suc (suc e))) p f x y s z h = absurd (omega arith)

  -- an Object's first value, by its record
  tuple-kind : (a b c : ℕ) (x : List ℕ) → kind_in a < 13 → is_tuple (label_of a b c x) ≡ eqb (kind_in a) 7
  unfolding label_of label_by EachBelow
  tuple-kind a b c x known =
      each_below 13 (λ k. is_tuple (label_by (fresh_in a) b c x k) ≡ eqb k 7)
      (refl, (refl, (refl, (refl, (refl, (refl, (refl, (refl, (refl, (refl, (refl, (refl, (refl, tt))))))))))))) (kind_in a) known

  pub first_kind : (i : ℕ) (f : Forest) → Stands w t i f → 1 ≤ count f → first_is_tuple f ≡ eqb (kind_in (word_at w i 0)) 7
  unfolding Stands count label_at
  first_kind i nil s h = absurd (omega arith)
  first_kind i (node l c r) s h = ap is_tuple (sym s.0.label) ∙ tuple-kind (word_at w i 0) (word_at w i 1) (word_at w i 2) _ s.0.reads.known

-- one item, or one entry, or none
pub few_ascend : (e : ℕ) (f : Forest) → 1 ≤ e → e ≤ 2 → count f ≤ e → ascending (picked e f) ≡ true
unfolding picked ascending keys count
few_ascend zero f x y h = absurd (omega arith)
few_ascend (suc zero) nil x y h = refl
few_ascend (suc zero) (node l c nil) x y h = refl
few_ascend (suc zero) (node l c (node m d r)) x y h = absurd (omega arith)
few_ascend (suc (suc zero)) nil x y h = refl
few_ascend (suc (suc zero)) (node l c nil) x y h = refl
few_ascend (suc (suc zero)) (node l c (node m d nil)) x y h = refl
few_ascend (suc (suc zero)) (node l c (node m d (node k g r))) x y h = absurd (omega arith)
few_ascend (suc (suc (suc e))) f x y h = absurd (omega arith)

-- ---- the way from item to item: what is left decides for all

-- what is left of m values from record i on stands from p on
pub record Rest (w t : List ℕ) (i m e p left : ℕ) : Type 0 where
  pub values : Forest
  pub stands : Stands w t p values
  pub sized : Sized w p values
  pub counted : count values ≡ left
  pub same : (f : Forest) → Stands w t i f → count f ≡ m → ascending (picked e f) ≡ ascending (picked e values)

module _ (w t : List ℕ) (i m e : ℕ) (low : 1 ≤ e) (high : e ≤ 2) where
  pub rest-start : Held w t i m → Rest w t i m e i m
  rest-start h =
      record {
        values = h.values;
        stands = h.stands;
        sized = h.sized;
        counted = h.counted;
        same = λ f s c. ap (λ (x : Forest). ascending (picked e x)) (stands_one w t f h.values i s h.stands (c ∙ sym h.counted));
      }

  module _ (p left : ℕ) (r : Rest w t i m e p left) where
    pub rest-done : left ≤ e → (f : Forest) → Stands w t i f → count f ≡ m → true ≡ ascending (picked e f)
    rest-done h f s c = let n = r.counted in sym (r.same f s c ∙ few_ascend e r.values low high (omega arith))

    module _ (more : e < left) where
      pub rest-step : ItemStep w t e p r.values
      rest-step = let n = r.counted in step w t e p r.values low high r.stands r.sized (omega arith)

      module _ (o : Ordering) (told : (v u : Value) → Stands w t p (one v) → Stands w t (next_at w e p) (one u) → o ≡ order v u) where
        decided : (f : Forest) → Stands w t i f → count f ≡ m → ascending (picked e f) ≡ (less o && ascending (picked e rest-step.rest))
        decided f s c = r.same f s c ∙ rest-step.ordered ∙ rw (told rest-step.first rest-step.second rest-step.first_stands rest-step.second_stands)

        pub rest_not : less o ≡ false → (f : Forest) → Stands w t i f → count f ≡ m → false ≡ ascending (picked e f)
        rest_not q f s c = sym (decided f s c ∙ rw q)

        pub rest-less : less o ≡ true → Rest w t i m e (next_at w e p) (left - e)
        rest-less q =
            record {
              values = rest-step.rest;
              stands = rest-step.rest_stands;
              sized = rest-step.rest_sized;
              counted = rest-step.fewer ∙ ap (λ (x : ℕ). x - e) r.counted;
              same = λ f s c. decided f s c ∙ rw q;
            }

-- ---- what a label asks of its contents, by its kind k

module _ (a k : ℕ) (f : Forest) (e : k ≡ kind_in a) where
  pub arranged_items : 8 ≤ k → k < 10 → ascending (picked 1 f) ≡ arranged_by (kind_in a) f
  unfolding arranged_by
  arranged_items g h = rw (← e, le-ltb k 8 g, lt-ltb k 10 h)

  pub arranged_keys : 10 ≤ k → k < 11 → ascending (picked 2 f) ≡ arranged_by (kind_in a) f
  unfolding arranged_by
  arranged_keys g h = rw (← e, le-ltb k 8 (omega arith), le-ltb k 10 g, lt-ltb k 11 h)

  pub arranged_object : 12 ≤ k → first_is_tuple f ≡ arranged_by (kind_in a) f
  unfolding arranged_by
  arranged_object g = rw (← e, le-ltb k 8 (omega arith), le-ltb k 10 (omega arith), le-ltb k 11 (omega arith), le-ltb k 12 g)

-- the first of some values is inside
pub held_first : (w t : List ℕ) (i m : ℕ) → Held w t i m → 1 ≤ m → 4 * i + 4 ≤ length w
unfolding Stands count
held_first w t i m h l = go h.values h.stands h.counted
  where
    go : (f : Forest) → Stands w t i f → count f ≡ m → 4 * i + 4 ≤ length w
    go nil s c = absurd (omega arith)
    go (node x c r) s q = s.0.reads.inside

-- strictly before, as the code asks it
pub told_less : (o : Answer) → less (told o) ≡ is_lt o
unfolding told
told_less Less = refl
told_less Equal = refl
told_less Greater = refl
