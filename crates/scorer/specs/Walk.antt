-- The walk over the answers and the reversed items together, as the code makes it. Both ascend, so it says what the definitions say.
use Prim.Native.Nat.{ℕ, ◌+◌, Ordering}
use Rattle.std.specs.Prelude.{Bool, ◌&&◌, ◌||◌, ◌≡◌, eqb}
use Rattle.std.proofs.Math.Bool.{true, false, cond, and-false}
use Rattle.std.proofs.Math.Path.{refl, ap}
use Rattle.std.proofs.Common.{sym, ◌∙◌, ap₂, eqb→eq, eqb-true, eq-eqb}
use Rattle.std.proofs.Math.Dec.{T}
use native.Mathlib.Omega.{arith}
use Rattle.utf8.specs.Rows.{both}
use Rattle.value.specs.Value.{Label, Forest, Value, kind, count, NoneL, BoolL, I64L, F64L, BytesL, StringL, ListL, TupleL, SetL, FrozenSetL, DictL, GlobalL, ObjectL, nil, node}
use Rattle.value.specs.Shape.{fitting, shaped, and_l, and_r}
use Rattle.value.specs.Order.{order}
use Rattle.value.specs.Total.{order_same, order-less}
use Rattle.value.specs.WellFormed.{less, ascending, ascending-rest, keys}
use Rattle.scorer.specs.Sheet.{bits, between, same_int, holds_int, in_range, all_answered, counted, answers_sum}
use Rattle.std.specs.declared.option.Option.{Option}
use Rattle.std.specs.declared.option.Option.TheVariants.{None, Some}

abbrev value : Label → Forest → Value
value l c = record { label = l; contents = c }

-- ---- true and false

true_false : {A : Type 0} → ◌≡◌ {A = Bool} true false → A
true_false e = let z : ◌≡◌ {A = ℕ} 0 1 = cc in absurd (omega arith)

neither : {a b : Bool} → (a || b) ≡ false → (a ≡ false) × (b ≡ false)
neither {a = true} h = true_false h
neither {a = false} h = (refl, h)

T_and : (a b : Bool) → T a → T b → T (a && b)
T_and true b x y = y
T_and false b x y = absurd x

alike : (a b : Bool) → (a ≡ true → b ≡ true) → (b ≡ true → a ≡ true) → a ≡ b
alike true b f g = sym (f refl)
alike false true f g = g refl
alike false false f g = refl

-- ---- the same number

pub same_parts : (l m : Label) → same_int l m ≡ true → (kind l ≡ 2) × (kind m ≡ 2) × (bits l ≡ bits m)
unfolding same_int
same_parts l m e =
    let p = both {a = eqb (kind l) 2} e in
    let q = both {a = eqb (kind m) 2} p.1 in
    (eqb-true (kind l) 2 p.0, eqb-true (kind m) 2 q.0, eqb-true (bits l) (bits m) q.1)

parts_same : (l m : Label) → kind l ≡ 2 → kind m ≡ 2 → bits l ≡ bits m → same_int l m ≡ true
unfolding same_int
parts_same l m x y z = rw (eq-eqb (kind l) 2 x, eq-eqb (kind m) 2 y) (eq-eqb (bits l) (bits m) z)

same-turned : (l m : Label) → same_int l m ≡ true → same_int m l ≡ true
same-turned l m e = let p = same_parts l m e in parts_same m l p.1 p.0 (sym p.2)

same_sym : (l m : Label) → same_int l m ≡ same_int m l
same_sym l m = alike _ _ (same-turned l m) (same-turned m l)

same_via : (l r x : Label) → same_int l r ≡ true → same_int x r ≡ same_int l x
same_via l r x e =
    let p = same_parts l r e in
    alike _ _
    (λ h. let q = same_parts x r h in parts_same l x p.0 q.0 (p.2 ∙ sym q.2))
    (λ h. let q = same_parts l x h in parts_same x r q.1 p.1 (sym q.2 ∙ p.2))

pub int_label_lem : (l : Label) → kind l ≡ 2 → l ≡ I64L (bits l)
int_label_lem NoneL h = absurd (omega arith)
int_label_lem (BoolL b) h = absurd (omega arith)
int_label_lem (I64L n) h = refl
int_label_lem (F64L n) h = absurd (omega arith)
int_label_lem (BytesL t) h = absurd (omega arith)
int_label_lem (StringL t) h = absurd (omega arith)
int_label_lem ListL h = absurd (omega arith)
int_label_lem TupleL h = absurd (omega arith)
int_label_lem SetL h = absurd (omega arith)
int_label_lem FrozenSetL h = absurd (omega arith)
int_label_lem DictL h = absurd (omega arith)
int_label_lem (GlobalL m n) h = absurd (omega arith)
int_label_lem (ObjectL m n b) h = absurd (omega arith)

none_in : (c : Forest) → count c ≡ 0 → c ≡ nil
unfolding count
none_in nil h = refl
none_in (node l c r) h = absurd (omega arith)

-- an I64 has no contents
pub int_leaf : (l : Label) (c : Forest) → kind l ≡ 2 → T (fitting l (count c)) → c ≡ nil
int_leaf l c k h =
    let e = int_label_lem l k in
    let q : T (fitting (I64L (bits l)) (count c)) = rw e at h in
    none_in c (eqb→eq (count c) 0 q)

same-value : (l m : Label) (c d : Forest) → same_int l m ≡ true → T (fitting l (count c)) → T (fitting m (count d)) → value l c ≡ value m d
same-value l m c d e x y =
    let p = same_parts l m e in
    let a : l ≡ m = int_label_lem l p.0 ∙ ap I64L p.2 ∙ sym (int_label_lem m p.1) in
    let b : c ≡ d = int_leaf l c p.0 x ∙ sym (int_leaf m d p.1 y) in
    ap₂ value a b

-- ---- a value before all of some values

unfoldable Before : Value → Forest → Type 0
Before v nil = Unit {0}
Before v (node l c r) = (order v (value l c) ≡ Ordering.lt) × Before v r

before_through : (u v : Value) (f : Forest) → order u v ≡ Ordering.lt → Before v f → Before u f
unfolding Before
before_through u v nil e h = tt
before_through u v (node l c r) e h = (order-less u v (value l c) e h.0, before_through u v r e h.1)

pub less_lt : (o : Ordering) → T (less o) → o ≡ Ordering.lt
less_lt Ordering.lt h = refl
less_lt Ordering.eq h = absurd h
less_lt Ordering.gt h = absurd h

ascending-before : (l : Label) (c r : Forest) → T (ascending (node l c r)) → Before (value l c) r
unfolding Before ascending
ascending-before l c nil h = tt
ascending-before l c (node m d r) h =
    let o = order (value l c) (value m d) in
    let e : o ≡ Ordering.lt = less_lt o (and_l (less o) (ascending (node m d r)) h) in
    (e, before_through (value l c) (value m d) r e (ascending-before m d r (and_r (less o) (ascending (node m d r)) h)))

holds_before : (v : Value) (l : Label) (c f : Forest) → T (fitting l (count c)) → T (shaped f) → Before v f → holds_int l f ≡ true → order v (value l c) ≡ Ordering.lt
unfolding holds_int Before shaped
holds_before v l c nil x y h e = true_false (sym e)
holds_before v l c (node m d r) x y h e =
    let fits : T (fitting m (count d)) = and_l (fitting m (count d)) (shaped d && shaped r) y in
    let rest : T (shaped r) = and_r (shaped d) (shaped r) (and_r (fitting m (count d)) (shaped d && shaped r) y) in
    go fits (same_int l m) refl (λ q. holds_before v l c r x rest h.1 q)
  where
    go : T (fitting m (count d)) → (b : Bool) → same_int l m ≡ b → (holds_int l r ≡ true → order v (value l c) ≡ Ordering.lt) → order v (value l c) ≡ Ordering.lt
    go fits true q k = ap (order v) (same-value l m c d q x fits) ∙ h.0
    go fits false q k = k (rw q at e)

holds_none : (l : Label) (c f : Forest) → T (fitting l (count c)) → T (shaped f) → Before (value l c) f → holds_int l f ≡ false
holds_none l c f x y h = go (holds_int l f) refl
  where
    go : (b : Bool) → holds_int l f ≡ b → holds_int l f ≡ false
    go true e = let p = holds_before (value l c) l c f x y h e in let q = order_same (value l c) in let z : ◌≡◌ {A = ℕ} 0 1 = cc in absurd (omega arith)
    go false e = e

-- ---- one item more or less that is not among them

answered_skip : (l : Label) (c items f : Forest) → holds_int l f ≡ false → all_answered (node l c items) f ≡ all_answered items f
unfolding all_answered holds_int
answered_skip l c items nil h = refl
answered_skip l c items (node x d r) h =
    let p = neither {a = same_int l x} h in
    let e : same_int x l ≡ false = same_sym x l ∙ p.0 in
    rw (e, answered_skip l c items r p.1)

sum_skip : (m : ℕ) (mark : Bool) (l r : Label) (c f g : Forest) → same_int l r ≡ true → holds_int l (keys g) ≡ false → answers_sum m mark (node r c f) g ≡ answers_sum m mark f g
unfolding answers_sum holds_int keys
sum_skip m mark l r c f nil e h = refl
sum_skip m mark l r c f (node x d nil) e h = refl
sum_skip m mark l r c f (node x d (node a b g)) e h =
    let p = neither {a = same_int l x} h in
    let q : same_int x r ≡ false = same_via l r x e ∙ p.0 in
    rw (q, sum_skip m mark l r c f g e p.1)

keys-shaped : (f : Forest) → T (shaped f) → T (shaped (keys f))
unfolding keys shaped
keys-shaped nil h = tt
keys-shaped (node l c nil) h = h
keys-shaped (node l c (node m d r)) h =
    let x = and_l (fitting l (count c)) (shaped c && (fitting m (count d) && (shaped d && shaped r))) h in
    let y = and_r (fitting l (count c)) (shaped c && (fitting m (count d) && (shaped d && shaped r))) h in
    let a = and_l (shaped c) (fitting m (count d) && (shaped d && shaped r)) y in
    let b = and_r (shaped c) (fitting m (count d) && (shaped d && shaped r)) y in
    let z = and_r (shaped d) (shaped r) (and_r (fitting m (count d)) (shaped d && shaped r) b) in
    T_and (fitting l (count c)) (shaped c && shaped (keys r)) x (T_and (shaped c) (shaped (keys r)) a (keys-shaped r z))

-- ---- the walk

-- the first of the reversed items that are left is this item
unfoldable pub is_first : Label → Forest → Bool
is_first l nil = false
is_first l (node m c r) = same_int l m

unfoldable pub past_if : Bool → Forest → Forest
past_if false f = f
past_if true nil = nil
past_if true (node l c r) = r

-- with the score s so far, of n items
unfoldable pub tally_walk : ℕ → Bool → ℕ → ℕ → Forest → Forest → Option (ℕ × ℕ)
tally_walk m mark n s nil nil = Some (s, n)
tally_walk m mark n s nil (node r e f) = None
tally_walk m mark n s (node l c nil) f = None
tally_walk m mark n s (node l c (node a d g)) f =
    cond (between 1 200 l) (cond (between 0 m a) (tally_walk m mark n (s + counted m mark (is_first l f) (bits a)) g (past_if (is_first l f) f)) None) None

verdict : ℕ → Bool → ℕ → Option (ℕ × ℕ)
verdict n b s = cond {A = Option (ℕ × ℕ)} b (Some (s, n)) None

module _ (m : ℕ) (mark : Bool) (n : ℕ) where
  walk_end : (s : ℕ) (f : Forest) → tally_walk m mark n s nil f ≡ verdict n (in_range m nil && all_answered (keys nil) f) (s + answers_sum m mark f nil)
  unfolding tally_walk verdict in_range all_answered keys holds_int answers_sum
  walk_end s nil = let e : s + 0 ≡ s = omega arith in rw e
  walk_end s (node l c r) = refl

  -- an entry whose item and answer are in range
  module _ (s : ℕ) (l a : Label) (c d g : Forest) (x : T (fitting l (count c))) (before : Before (value l c) (keys g)) (items : T (shaped (keys g))) where
    -- what is left of the reversed items after it decides as all of them do
    abbrev Decides : Forest → Type 0
    Decides f =
        verdict n (in_range m g && all_answered (keys g) (past_if (is_first l f) f)) (s + counted m mark (is_first l f) (bits a) + answers_sum m mark (past_if (is_first l f) f) g)
        ≡ verdict n (in_range m g && all_answered (node l c (keys g)) f) (s + (counted m mark (holds_int l f) (bits a) + answers_sum m mark f g))

    regroup : (b : Bool) (f : Forest) → s + counted m mark b (bits a) + answers_sum m mark f g ≡ s + (counted m mark b (bits a) + answers_sum m mark f g)
    regroup b f = let u = counted m mark b (bits a) in let v = answers_sum m mark f g in omega arith

    -- the item is reversed
    hit : (r : Label) (e f : Forest) → T (shaped f) → Before (value r e) f → T (fitting r (count e)) → same_int l r ≡ true → Decides (node r e f)
    unfolding is_first past_if all_answered holds_int
    hit r e f y h z q =
        let t : same_int r l ≡ true = same-turned l r q in
        let v : value l c ≡ value r e = same-value l r c e q x z in
        let none : holds_int l f ≡ false = holds_none l c f x y (rw v h) in
        let absent : holds_int l (keys g) ≡ false = holds_none l c (keys g) x items before in
        rw (q, t, answered_skip l c (keys g) f none, sum_skip m mark l r e f g q absent, regroup true f)

    -- it is not
    miss : (f : Forest) → is_first l f ≡ false → holds_int l f ≡ false → Decides f
    unfolding past_if
    miss f q none = rw (q, none, answered_skip l c (keys g) f none, regroup false f)

    -- it is, but a reversed item before it has no answer
    lost : (r : Label) (e f : Forest) → T (shaped f) → Before (value r e) f → T (fitting r (count e)) → same_int l r ≡ false → holds_int l f ≡ true → Decides (node r e f)
    unfolding is_first past_if all_answered holds_int verdict
    lost r e f y h z q there =
        let t : same_int r l ≡ false = same_sym r l ∙ q in
        let o : order (value r e) (value l c) ≡ Ordering.lt = holds_before (value r e) l c f x y h there in
        let k : holds_int r (keys g) ≡ false = holds_none r e (keys g) z items (before_through (value r e) (value l c) (keys g) o before) in
        rw (q, t, k, and-false (in_range m g))

    decides : (f : Forest) → T (shaped f) → T (ascending f) → Decides f
    unfolding is_first holds_int shaped
    decides nil y h = miss nil refl refl
    decides (node r e f) y h = go (same_int l r) (holds_int l f) refl refl
      where
        z : T (fitting r (count e))
        z = and_l (fitting r (count e)) (shaped e && shaped f) y

        u : T (shaped f)
        u = and_r (shaped e) (shaped f) (and_r (fitting r (count e)) (shaped e && shaped f) y)

        go : (p q : Bool) → same_int l r ≡ p → holds_int l f ≡ q → Decides (node r e f)
        go true q i j = hit r e f u (ascending-before r e f h) z i
        go false true i j = lost r e f u (ascending-before r e f h) z i j
        go false false i j = miss (node r e f) i (rw (i, j))

  past-shaped : (b : Bool) (f : Forest) → T (shaped f) → T (shaped (past_if b f))
  unfolding past_if shaped
  past-shaped false f h = h
  past-shaped true nil h = tt
  past-shaped true (node r e f) h = and_r (shaped e) (shaped f) (and_r (fitting r (count e)) (shaped e && shaped f) h)

  past-ascending : (b : Bool) (f : Forest) → T (ascending f) → T (ascending (past_if b f))
  unfolding past_if ascending
  past-ascending false f h = h
  past-ascending true nil h = tt
  past-ascending true (node r e f) h = ascending-rest r e f h

  pub walk_is : (s : ℕ) (g f : Forest) → T (shaped g) → T (shaped f) → T (ascending (keys g)) → T (ascending f) → tally_walk m mark n s g f ≡ cond {A = Option (ℕ × ℕ)} (in_range m g && all_answered (keys g) f) (Some (s + answers_sum m mark f g, n)) None
  unfolding tally_walk in_range keys answers_sum shaped verdict
  walk_is s nil f x y h k = walk_end s f
  walk_is s (node l c nil) f x y h k = refl
  walk_is s (node l c (node a d g)) f x y h k =
      let fits : T (fitting l (count c)) = and_l (fitting l (count c)) (shaped c && (fitting a (count d) && (shaped d && shaped g))) x in
      let after : T (fitting a (count d) && (shaped d && shaped g)) = and_r (shaped c) (fitting a (count d) && (shaped d && shaped g)) (and_r (fitting l (count c)) (shaped c && (fitting a (count d) && (shaped d && shaped g))) x) in
      let rest : T (shaped g) = and_r (shaped d) (shaped g) (and_r (fitting a (count d)) (shaped d && shaped g) after) in
      let others = walk_is (s + counted m mark (is_first l f) (bits a)) g (past_if (is_first l f) f) rest (past-shaped (is_first l f) f y) (ascending-rest l c (keys g) h) (past-ascending (is_first l f) f k) in
      go (between 1 200 l) (between 0 m a) refl refl (others ∙ decides s l a c d g fits (ascending-before l c (keys g) h) (keys-shaped g rest) f y k)
    where
      go : (p q : Bool) → between 1 200 l ≡ p → between 0 m a ≡ q
          → tally_walk m mark n (s + counted m mark (is_first l f) (bits a)) g (past_if (is_first l f) f) ≡ cond {A = Option (ℕ × ℕ)} (in_range m g && all_answered (node l c (keys g)) f) (Some (s + (counted m mark (holds_int l f) (bits a) + answers_sum m mark f g), n)) None
          → tally_walk m mark n s (node l c (node a d g)) f ≡ cond {A = Option (ℕ × ℕ)} (in_range m (node l c (node a d g)) && all_answered (keys (node l c (node a d g))) f) (Some (s + answers_sum m mark f (node l c (node a d g)), n)) None
      go false q i j o = rw i
      go true false i j o = rw (i, j)
      go true true i j o = rw (i, j) o
