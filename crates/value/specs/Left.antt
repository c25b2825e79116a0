-- What is left of a comparison as it walks through two tables, and that each step of the walk keeps it.
use Prim.Native.Nat.{ℕ, suc, zero, ◌+◌, ◌-◌, ◌*◌, ◌^◌, ◌≤◌, ◌<◌, min, compare, Ordering}
use Rattle.std.specs.Prelude.{Bool, true, false, ◌&&◌, not, List, ◌≡◌, refl, ◌≢◌, ◌⊎◌, length, get_or, drop, eqb}
use Rattle.std.specs.Bool.{beq}
use Rattle.std.proofs.Math.Path.{sym, ap}
use Rattle.std.proofs.Common.{◌∙◌, ap₂, eqb→eq, inl, inr}
use Rattle.std.proofs.Math.Nat.{add-zero}
use borrow.Author.Tests.{ne_eqb, eqb-true}
use native.Mathlib.Omega.{arith}
use Rattle.value.specs.Value.{Forest, bit, kind, count, size, count-size, NoneL, nil, node}
use Rattle.value.specs.Order.{◌then◌, labels, forests, new}
use Rattle.value.specs.OrderLaws.{then_eq, compare_eq}
use Rattle.value.specs.Shape.{kind_in, fresh_in, holding, labels_of, label_of, arity_of, arity_dict, nothing_held}
use Rattle.value.specs.Stands.{◌⊕◌, count-append, word_at, label_at, arity_at, Reads, Stands, stands_append}
use Rattle.value.specs.Walk.{first_values, count-first, stands_first, eq_then, compare_same, step_less, step_greater, step_same, step_shorter, step_longer, step_newer}
use Rattle.value.specs.Labels.{kind_in_lem}
use Rattle.value.specs.Told.{three, compare_less, compare_more}

-- an Object's `new`, of the record at i
unfoldable pub new_at : List ℕ → ℕ → Bool
new_at w i = eqb (kind_in (word_at w i 0)) 12 && fresh_in (word_at w i 0)

-- ---- where the walk stands

pub record StillToCompare (a s b t : List ℕ) (k l left : ℕ) (v o : Ordering) : Type 0 where
  pub first : Forest
  pub second : Forest
  pub stands₁ : Stands a s k first
  pub stands₂ : Stands b t l second
  pub count₁ : count first ≡ left
  pub count₂ : count second ≡ left
  pub same : (forests 0 0 first second then v) ≡ o

-- the values still to compare, and what decides if they are equal, after two records with equal labels: n and m values are in
-- them, x and y say `new`
pub data NextToCompare (left : ℕ) (v : Ordering) (n m : ℕ) (x y : Bool) (left' : ℕ) (v' : Ordering) : Type 0 where
  newer : x ≢ y → left' ≡ 1 → v' ≡ compare (bit x) (bit y) → NextToCompare left v n m x y left' v'
  same : x ≡ y → n ≡ m → left' ≡ left - 1 + n → v' ≡ v → NextToCompare left v n m x y left' v'
  shorter : x ≡ y → n < m → left' ≡ n → v' ≡ Ordering.lt → NextToCompare left v n m x y left' v'
  longer : x ≡ y → m < n → left' ≡ m → v' ≡ Ordering.gt → NextToCompare left v n m x y left' v'

-- two records of one kind, with so many values still to compare: what is in them fits
pub record Matched (a b : List ℕ) (k l left : ℕ) : Type 0 where
  pub some : 0 < left
  pub inside₁ : 4 * k + 4 ≤ length a
  pub inside₂ : 4 * l + 4 ≤ length b
  pub arity₁ : arity_at a k ≤ length a
  pub arity₂ : arity_at b l ≤ length b
  pub room : left + arity_at a k < 2 ^ 64
  pub kinds : kind_in (word_at a k 0) ≡ kind_in (word_at b l 0)

-- ---- records

stands_inside : (w t : List ℕ) (f : Forest) (i : ℕ) → Stands w t i f → 0 < size f → 4 * (i + size f) ≤ length w
unfolding Stands size
stands_inside w t nil i h p = absurd (omega arith)
stands_inside w t (node l nil nil) i h p = let r = h.0.reads.inside in omega arith
stands_inside w t (node l (node m d r) nil) i h p = let b = stands_inside w t (node m d r) (i + 1) h.1 (omega arith) in omega arith
stands_inside w t (node l c (node m d r)) i h p = let b = stands_inside w t (node m d r) (i + 1 + size c) h.2 (omega arith) in omega arith

-- `new` of a label, by the words of its record
new_in : (a x p : ℕ) (s : List ℕ) (k : ℕ) → k < 13 → new (get_or (labels_of a x p s) k NoneL) ≡ bit (eqb k 12 && fresh_in a)
new_in a x p s zero h = refl
new_in a x p s (suc zero) h = refl
new_in a x p s (suc (suc zero)) h = refl
new_in a x p s (suc (suc (suc zero))) h = refl
new_in a x p s (suc (suc (suc (suc zero)))) h = refl
new_in a x p s (suc (suc (suc (suc (suc zero))))) h = refl
new_in a x p s (suc (suc (suc (suc (suc (suc zero)))))) h = refl
new_in a x p s (suc (suc (suc (suc (suc (suc (suc zero))))))) h = refl
new_in a x p s (suc (suc (suc (suc (suc (suc (suc (suc zero)))))))) h = refl
new_in a x p s (suc (suc (suc (suc (suc (suc (suc (suc (suc zero))))))))) h = refl
new_in a x p s (suc (suc (suc (suc (suc (suc (suc (suc (suc (suc zero)))))))))) h = refl
new_in a x p s (suc (suc (suc (suc (suc (suc (suc (suc (suc (suc (suc zero))))))))))) h = refl
new_in a x p s (suc (suc (suc (suc (suc (suc (suc (suc (suc (suc (suc (suc zero)))))))))))) h = refl
new_in a x p s (suc (suc (suc (suc (suc (suc (suc (suc (suc (suc (suc (suc (suc k))))))))))))) h = absurd (omega arith)

pub new_at_lem : (w t : List ℕ) (i : ℕ) → Reads w t i → new (label_at w t i) ≡ bit (new_at w i)
unfolding label_at label_of new_at
new_at_lem w t i r = new_in (word_at w i 0) (word_at w i 1) (word_at w i 2) (drop (word_at w i 1) t) (kind_in (word_at w i 0)) r.known

pub kind_at : (w t : List ℕ) (i : ℕ) → Reads w t i → kind (label_at w t i) ≡ kind_in (word_at w i 0)
unfolding label_at label_of
kind_at w t i r = kind_in_lem (word_at w i 0) (word_at w i 1) (word_at w i 2) (drop (word_at w i 1) t) (kind_in (word_at w i 0)) r.known

-- two records whose labels are equal have one kind, and an Object has contents
object_arity : (w : List ℕ) (i : ℕ) → kind_in (word_at w i 0) ≡ 12 → 0 < arity_at w i
unfolding arity_at arity_of
object_arity w i e = rw e (omega arith)

is_object_lem : (w : List ℕ) (i : ℕ) → new_at w i ≡ true → kind_in (word_at w i 0) ≡ 12
unfolding new_at
is_object_lem w i e = go (eqb (kind_in (word_at w i 0)) 12) refl
  where
    go : (b : Bool) → eqb (kind_in (word_at w i 0)) 12 ≡ b → kind_in (word_at w i 0) ≡ 12
    go true d = eqb→eq _ _ (rw d tt)
    go false d = let z : false ≡ true = rw d at e in cc

pub same_kind : (a s b t : List ℕ) (k l : ℕ) → Reads a s k → Reads b t l → labels (label_at a s k) (label_at b t l) ≡ Ordering.eq → kind_in (word_at a k 0) ≡ kind_in (word_at b l 0)
unfolding labels
same_kind a s b t k l r q e =
    let d = compare_eq (kind (label_at a s k)) (kind (label_at b t l)) (then_eq _ _ e).0 in
    sym (kind_at a s k r) ∙ d ∙ kind_at b t l q

both_objects : (a s b t : List ℕ) (k l : ℕ) → Reads a s k → Reads b t l → labels (label_at a s k) (label_at b t l) ≡ Ordering.eq → new_at a k ≢ new_at b l → (0 < arity_at a k) × (0 < arity_at b l)
both_objects a s b t k l r q e n = go (new_at a k) (new_at b l) refl refl
  where
    d : kind_in (word_at a k 0) ≡ kind_in (word_at b l 0)
    d = same_kind a s b t k l r q e

    go : (x y : Bool) → new_at a k ≡ x → new_at b l ≡ y → (0 < arity_at a k) × (0 < arity_at b l)
    go true y p u = let g = is_object_lem a k p in (object_arity a k g, object_arity b l (sym d ∙ g))
    go false true p u = let g = is_object_lem b l u in (object_arity a k (d ∙ g), object_arity b l g)
    go false false p u = absurd (n (p ∙ sym u))

-- two different bools decide
decides : (x y : Bool) → x ≢ y → (d : Ordering) → (compare (bit x) (bit y) then d) ≡ compare (bit x) (bit y)
unfolding ◌then◌
decides true true n d = absurd (n refl)
decides true false n d = refl
decides false true n d = refl
decides false false n d = absurd (n refl)

-- ---- the walk ends, reads, decides, and goes on

module _ (a s b t : List ℕ) (k l : ℕ) (v o : Ordering) where
  pub left_done : StillToCompare a s b t k l 0 v o → v ≡ o
  unfolding forests count
  left_done h = go h.first h.second h.count₁ h.count₂ h.same
    where
      go : (f g : Forest) → count f ≡ 0 → count g ≡ 0 → (forests 0 0 f g then v) ≡ o → v ≡ o
      go nil nil p q e = sym (rw (compare_same 0) (eq_then v)) ∙ e
      go nil (node m d r) p q e = absurd (omega arith)
      go (node m d r) g p q e = absurd (omega arith)

  -- the next two records can be read, and what they say does not wrap
  pub record NextReadable (left : ℕ) : Type 0 where
    pub reads₁ : Reads a s k
    pub reads₂ : Reads b t l
    pub arity₁ : arity_at a k ≤ length a
    pub arity₂ : arity_at b l ≤ length b
    pub more : 4 * (k + left + arity_at a k) ≤ length a

  pub left_reads : (left : ℕ) → left ≢ 0 → StillToCompare a s b t k l left v o → NextReadable left
  unfolding Stands count size
  left_reads left n h = go h.first h.second h.stands₁ h.stands₂ h.count₁ h.count₂
    where
      go : (f g : Forest) → Stands a s k f → Stands b t l g → count f ≡ left → count g ≡ left → NextReadable left
      go nil g x y p q = absurd (n (sym p))
      go (node m d r) nil x y p q = absurd (n (sym q))
      go (node m d r) (node m' d' r') x y p q =
          let i₁ = stands_inside a s (node m d r) k x (omega arith) in
          let i₂ = stands_inside b t (node m' d' r') l y (omega arith) in
          let c₁ = count-size d in
          let c₂ = count-size d' in
          let c₃ = count-size r in
          let e₁ = x.0.arity in
          let e₂ = y.0.arity in
          record { reads₁ = x.0.reads; reads₂ = y.0.reads; arity₁ = omega arith; arity₂ = omega arith; more = omega arith }

  pub left_less : (left : ℕ) → left ≢ 0 → StillToCompare a s b t k l left v o → labels (label_at a s k) (label_at b t l) ≡ Ordering.lt → Ordering.lt ≡ o
  unfolding Stands count
  left_less left n h e = go h.first h.second h.stands₁ h.stands₂ h.count₁ h.count₂ h.same
    where
      go : (f g : Forest) → Stands a s k f → Stands b t l g → count f ≡ left → count g ≡ left → (forests 0 0 f g then v) ≡ o → Ordering.lt ≡ o
      go nil g x y p q w = absurd (n (sym p))
      go (node m d r) nil x y p q w = absurd (n (sym q))
      go (node m d r) (node m' d' r') x y p q w = sym (step_less m m' d d' r r' v (sym (ap₂ labels x.0.label y.0.label) ∙ e)) ∙ w

  pub left_greater : (left : ℕ) → left ≢ 0 → StillToCompare a s b t k l left v o → labels (label_at a s k) (label_at b t l) ≡ Ordering.gt → Ordering.gt ≡ o
  unfolding Stands count
  left_greater left n h e = go h.first h.second h.stands₁ h.stands₂ h.count₁ h.count₂ h.same
    where
      go : (f g : Forest) → Stands a s k f → Stands b t l g → count f ≡ left → count g ≡ left → (forests 0 0 f g then v) ≡ o → Ordering.gt ≡ o
      go nil g x y p q w = absurd (n (sym p))
      go (node m d r) nil x y p q w = absurd (n (sym q))
      go (node m d r) (node m' d' r') x y p q w = sym (step_greater m m' d d' r r' v (sym (ap₂ labels x.0.label y.0.label) ∙ e)) ∙ w

  pub left_decided : (left : ℕ) → left ≢ 0 → StillToCompare a s b t k l left v o → (d : Ordering) → labels (label_at a s k) (label_at b t l) ≡ d → d ≢ Ordering.eq → d ≡ o
  left_decided left n h Ordering.lt e f = left_less left n h e
  left_decided left n h Ordering.eq e f = absurd (f refl)
  left_decided left n h Ordering.gt e f = left_greater left n h e

  pub left_next : (left left' : ℕ) (v' : Ordering) → left ≢ 0 → StillToCompare a s b t k l left v o → labels (label_at a s k) (label_at b t l) ≡ Ordering.eq
      → NextToCompare left v (arity_at a k) (arity_at b l) (new_at a k) (new_at b l) left' v' → StillToCompare a s b t (k + 1) (l + 1) left' v' o
  unfolding Stands count
  left_next left left' v' n h e z = go h.first h.second h.stands₁ h.stands₂ h.count₁ h.count₂ h.same z
    where
      go : (f g : Forest) → Stands a s k f → Stands b t l g → count f ≡ left → count g ≡ left → (forests 0 0 f g then v) ≡ o
          → NextToCompare left v (arity_at a k) (arity_at b l) (new_at a k) (new_at b l) left' v' → StillToCompare a s b t (k + 1) (l + 1) left' v' o
      go nil g x y p q w z = absurd (n (sym p))
      go (node m d r) nil x y p q w z = absurd (n (sym q))
      go (node m d r) (node m' d' r') x y p q w (newer u f g) =
          let e₀ : labels m m' ≡ Ordering.eq = sym (ap₂ labels x.0.label y.0.label) ∙ e in
          let n₁ : new m ≡ bit (new_at a k) = sym (ap new x.0.label) ∙ new_at_lem a s k x.0.reads in
          let n₂ : new m' ≡ bit (new_at b l) = sym (ap new y.0.label) ∙ new_at_lem b t l y.0.reads in
          let both = both_objects a s b t k l x.0.reads y.0.reads e u in
          let c₁ : 0 < count d = rw x.0.arity at both.0 in
          let c₂ : 0 < count d' = rw y.0.arity at both.1 in
          record {
            first = first_values 1 d;
            second = first_values 1 d';
            stands₁ = stands_first a s 1 d (k + 1) x.1;
            stands₂ = stands_first b t 1 d' (l + 1) y.1;
            count₁ = count-first 1 d c₁ ∙ sym f;
            count₂ = count-first 1 d' c₂ ∙ sym f;
            same = rw g (sym (step_newer m m' d d' r r' v e₀ (compare (bit (new_at a k)) (bit (new_at b l))) c₁ c₂ (ap₂ compare n₁ n₂) (decides (new_at a k) (new_at b l) u)) ∙ w);
          }
      go (node m d r) (node m' d' r') x y p q w (same u f g i) =
          let e₀ : labels m m' ≡ Ordering.eq = sym (ap₂ labels x.0.label y.0.label) ∙ e in
          let n₀ : new m ≡ new m' = sym (ap new x.0.label) ∙ new_at_lem a s k x.0.reads ∙ ap bit u ∙ sym (new_at_lem b t l y.0.reads) ∙ ap new y.0.label in
          let a₁ = x.0.arity in
          let a₂ = y.0.arity in
          let j₁ = count-append d r in
          let j₂ = count-append d' r' in
          record {
            first = d ⊕ r;
            second = d' ⊕ r';
            stands₁ = stands_append a s d r (k + 1) x.1 x.2;
            stands₂ = stands_append b t d' r' (l + 1) y.1 y.2;
            count₁ = omega arith;
            count₂ = omega arith;
            same = rw i (sym (step_same m m' d d' r r' v e₀ n₀ (sym a₁ ∙ f ∙ a₂)) ∙ w);
          }
      go (node m d r) (node m' d' r') x y p q w (shorter u f g i) =
          let e₀ : labels m m' ≡ Ordering.eq = sym (ap₂ labels x.0.label y.0.label) ∙ e in
          let n₀ : new m ≡ new m' = sym (ap new x.0.label) ∙ new_at_lem a s k x.0.reads ∙ ap bit u ∙ sym (new_at_lem b t l y.0.reads) ∙ ap new y.0.label in
          let a₁ = x.0.arity in
          let a₂ = y.0.arity in
          record {
            first = d;
            second = first_values (count d) d';
            stands₁ = x.1;
            stands₂ = stands_first b t (count d) d' (l + 1) y.1;
            count₁ = sym a₁ ∙ sym g;
            count₂ = count-first (count d) d' (omega arith) ∙ sym a₁ ∙ sym g;
            same = rw i (sym (step_shorter m m' d d' r r' v e₀ n₀ (omega arith)) ∙ w);
          }
      go (node m d r) (node m' d' r') x y p q w (longer u f g i) =
          let e₀ : labels m m' ≡ Ordering.eq = sym (ap₂ labels x.0.label y.0.label) ∙ e in
          let n₀ : new m ≡ new m' = sym (ap new x.0.label) ∙ new_at_lem a s k x.0.reads ∙ ap bit u ∙ sym (new_at_lem b t l y.0.reads) ∙ ap new y.0.label in
          let a₁ = x.0.arity in
          let a₂ = y.0.arity in
          record {
            first = first_values (count d') d;
            second = d';
            stands₁ = stands_first a s (count d') d (k + 1) x.1;
            stands₂ = y.1;
            count₁ = count-first (count d') d (omega arith) ∙ sym a₂ ∙ sym g;
            count₂ = sym a₂ ∙ sym g;
            same = rw i (sym (step_longer m m' d d' r r' v e₀ n₀ (omega arith)) ∙ w);
          }

-- ---- the two, by what a record's head says

module _ (w : List ℕ) (i k : ℕ) (e : k ≡ kind_in (get_or w (4 * i) 0)) where
  pub dict_arity : k ≡ 10 → get_or w (4 * i + 1) 0 + get_or w (4 * i + 1) 0 ≡ arity_at w i
  unfolding arity_at
  dict_arity h = rw add-zero (arity_dict _ _ _ e h)

  pub new_object : (n : Bool) → n ≡ fresh_in (get_or w (4 * i) 0) → k ≡ 12 → n ≡ new_at w i
  unfolding new_at
  new_object n f h = rw (add-zero, ← e, h) f

  pub new_other : k ≢ 12 → false ≡ new_at w i
  unfolding new_at
  new_other h = rw (add-zero, ← e, ne_eqb k 12 h)

-- ---- what `step` answers

no_object : (k : ℕ) → holding k ≡ false → eqb k 12 ≡ false
no_object k h = go (eqb k 12) refl
  where
    go : (x : Bool) → eqb k 12 ≡ x → x ≡ false
    go false e = refl
    go true e = rw (eqb-true k 12 e) at h

-- two records with nothing in them
pub step_past : (a b : List ℕ) (k l left : ℕ) (v : Ordering) → Matched a b k l left → holding (kind_in (word_at a k 0)) ≡ false → NextToCompare left v (arity_at a k) (arity_at b l) (new_at a k) (new_at b l) (left - 1) v
unfolding arity_at new_at
step_past a b k l left v m h =
    let x = nothing_held (word_at a k 0) (word_at a k 1) h in
    let y = nothing_held (word_at b l 0) (word_at b l 1) (rw m.kinds at h) in
    let p = no_object (kind_in (word_at a k 0)) h in
    let q = no_object (kind_in (word_at b l 0)) (rw m.kinds at h) in
    same (rw (p, q)) (x ∙ sym y) (rw x (omega arith)) refl

-- ---- what `next` answers

differ : (x y : Bool) → not (beq x y) ≡ true → x ≢ y
differ true true e f = let z : ◌≡◌ {A = ℕ} 0 1 = cc in omega arith
differ true false e f = let z : ◌≡◌ {A = ℕ} 0 1 = cc in omega arith
differ false true e f = let z : ◌≡◌ {A = ℕ} 0 1 = cc in omega arith
differ false false e f = let z : ◌≡◌ {A = ℕ} 0 1 = cc in omega arith

agree : (x y : Bool) → not (beq x y) ≡ false → x ≡ y
agree true true e = refl
agree true false e = e
agree false true e = sym e
agree false false e = refl

-- the tests of the code, x and y being different or not
module _ (left : ℕ) (v : Ordering) (n m : ℕ) (x y : Bool) where
  pub next_newer : not (beq x y) ≡ true → (o : Ordering) → o ≡ compare (bit x) (bit y) → NextToCompare left v n m x y 1 o
  next_newer u o e = newer (differ x y u) refl e

  pub next_sized : not (beq x y) ≡ false → n ≢ m → (k : ℕ) → k ≡ min n m → (o : Ordering) → o ≡ compare n m → NextToCompare left v n m x y k o
  next_sized u d k h o e = go (three n m)
    where
      go : (n < m) ⊎ ((n ≡ m) ⊎ (m < n)) → NextToCompare left v n m x y k o
      go (inl l) = shorter (agree x y u) l (h ∙ omega arith) (e ∙ compare_less n m l)
      go (inr (inl q)) = absurd (d q)
      go (inr (inr l)) = longer (agree x y u) l (h ∙ omega arith) (e ∙ compare_more n m l)

  pub next_same : not (beq x y) ≡ false → n ≡ m → NextToCompare left v n m x y (left - 1 + n) v
  next_same u e = same (agree x y u) e refl refl
