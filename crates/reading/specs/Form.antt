-- The tree of a node table in which every node has the contents that its label asks for (as the machine's have at STOP) has that form
-- itself: a Dict's contents come in pairs, an Object has its arguments, a Tuple, and at most one state; a plain value has nothing in it.
use Prim.Native.Nat.{ℕ, suc, zero, ◌<◌, ◌≤◌}
use Rattle.std.specs.Prelude.{Bool, true, ◌&&◌, get_or}
use Rattle.std.proofs.Math.Bool.{false}
use mathlib.Core.List.{List, [], ◌∷◌}
use Rattle.std.proofs.Math.Path.{◌≡◌, refl, ap}
use Rattle.std.proofs.Common.{sym, ◌∙◌}
use Rattle.std.proofs.Math.ListN.{length}
use Rattle.std.proofs.Math.Dec.{T}
use native.Mathlib.Omega.{arith}
use Rattle.std.proofs.Math.Decide.{dec_lt}
use Rattle.value.specs.Value.{Label, Forest, Value, one, count, NoneL, BoolL, I64L, F64L, BytesL, StringL, ListL, TupleL, SetL, FrozenSetL, DictL, GlobalL, ObjectL, nil, node}
use Rattle.value.specs.WellFormed.{is_tuple, first_is_tuple}
use Rattle.steps.specs.State.{Node}
use Rattle.steps.specs.Opcodes.{is_object}
use Rattle.reading.specs.Build.{Stage, Stages, taken, kept, unbuilt, stage, none, is_taken, at, first_taken, blocked, finish, each, build, tree}
use Rattle.reading.specs.Unfold.{Staged, same, other, staged, freshness, fresh_left, left_stage, left_less, fresh_left-all, outside-nodes}
use Rattle.reading.specs.Fuel.{BuildCase, build_case, copied, inside, stuck, entered}

-- P of every label and its contents
unfoldable pub All : (Label → Forest → Type 0) → Forest → Type 0
All P nil = Unit {0}
All P (node l c r) = P l c × All P c × All P r

pub and_first : (a b : Bool) → (a && b) ≡ true → T a
and_first true b h = tt
and_first false b h = let z : ◌≡◌ {A = ℕ} 0 1 = cc in absurd (omega arith)

and_no : (a b : Bool) → (a && b) ≡ false → T a → b ≡ false
and_no true b h t = h
and_no false b h t = absurd t

pub tuple-object : (l : Label) → T (is_tuple l) → T (is_object l) → ⊥
tuple-object NoneL a b = a
tuple-object (BoolL v) a b = a
tuple-object (I64L v) a b = a
tuple-object (F64L v) a b = a
tuple-object (BytesL v) a b = a
tuple-object (StringL v) a b = a
tuple-object ListL a b = a
tuple-object TupleL a b = b
tuple-object SetL a b = a
tuple-object FrozenSetL a b = a
tuple-object DictL a b = a
tuple-object (GlobalL v w) a b = a
tuple-object (ObjectL v w n) a b = a

-- what holds of None, and of a node's label over contents as many as its children, an Object's beginning with a Tuple, holds of the tree
module _
    (t : List Node) (P : Label → Forest → Type 0)
    (of_none : P NoneL nil)
    (of_node : (i : ℕ) (c : Forest) → count c ≡ length (at t i).kids → (T (is_object (at t i).label) → T (first_is_tuple c)) → P (at t i).label c)
    (object-args : (i : ℕ) → T (is_object (at t i).label) → (0 < length (at t i).kids) × T (is_tuple (at t (get_or (at t i).kids 0 0)).label))
  where
    -- a kept value has the form; a Tuple's is a Tuple
    Sound : Stages → Type 0
    Sound d = (j : ℕ) (v : Value) → d j ≡ kept v → All P (one v) × (T (is_tuple (at t j).label) → T (is_tuple v.label))

    record HasForm (i : ℕ) (d : Stages) (v : Value) (d' : Stages) : Type 0 where
      formed : All P (one v)
      tuple : is_taken (d i) ≡ false → T (is_tuple (at t i).label) → T (is_tuple v.label)
      sound : Sound d'
      less : fresh_left d' (length t) ≤ fresh_left d (length t)

    record HaveForm (is : List ℕ) (d : Stages) (f : Forest) (d' : Stages) : Type 0 where
      formed : All P f
      counted : count f ≡ length is
      first : 0 < length is → first_taken d is ≡ false → T (is_tuple (at t (get_or is 0 0)).label) → T (first_is_tuple f)
      sound : Sound d'
      less : fresh_left d' (length t) ≤ fresh_left d (length t)

    each-built : (k : ℕ) (g : ℕ → Stages → Value × Stages) → ((i : ℕ) (d : Stages) → fresh_left d (length t) < k → Sound d → HasForm i d (g i d).0 (g i d).1)
        → (is : List ℕ) (d : Stages) → fresh_left d (length t) < k → Sound d → HaveForm is d (each g is d).0 (each g is d).1
    unfolding each All count first_taken
    each-built k g h [] d l s = record { formed = tt; counted = refl; first = λ z. absurd (omega arith); sound = s; less = omega arith }
    each-built k g h (i ∷ is) d l s =
        let a : HasForm i d (g i d).0 (g i d).1 = h i d l s in
        let m = a.less in
        let b : HaveForm is (g i d).1 (each g is (g i d).1).0 (each g is (g i d).1).1 = each-built k g h is (g i d).1 (omega arith) a.sound in
        let n = b.less in
        record { formed = (a.formed.0, a.formed.1, b.formed); counted = ap suc b.counted; first = λ z u v. a.tuple u v; sound = b.sound; less = omega arith }

    staged_sound : (i : ℕ) (m : Stage) (d : Stages) → ((v : Value) → m ≡ kept v → All P (one v) × (T (is_tuple (at t i).label) → T (is_tuple v.label))) → Sound d → Sound (stage i m d)
    unfolding Sound
    staged_sound i m d h s j v e = go (staged i m d j)
      where
        go : Staged i m d j → All P (one v) × (T (is_tuple (at t j).label) → T (is_tuple v.label))
        go (same p q) = let u = h v (sym q ∙ e) in (u.0, λ x. u.1 (rw p at x))
        go (other p q) = s j v (sym q ∙ e)

    taken_sound : (i : ℕ) (d : Stages) → Sound d → Sound (stage i taken d)
    taken_sound i d s = staged_sound i taken d (λ v e. absurd (let z : ◌≡◌ {A = ℕ} 0 1 = cc in omega arith)) s

    none_formed : All P (one none)
    unfolding All
    none_formed = (of_none, tt, tt)

    -- the arguments of an Object that is not blocked are not taken out, nor are they the Object itself
    args_free : (i : ℕ) (d : Stages) → T (is_object (at t i).label) → blocked t d i ≡ false → first_taken (stage i taken d) (at t i).kids ≡ false
    unfolding blocked first_taken
    args_free i d o b = go (at t i).kids refl (and_no (is_object (at t i).label) _ b o)
      where
        go : (l : List ℕ) → (at t i).kids ≡ l → first_taken d l ≡ false → first_taken (stage i taken d) l ≡ false
        go [] e f = refl
        go (a ∷ l) e f = at_a (staged i taken d a)
          where
            is_tuple_lem : T (is_tuple (at t a).label)
            is_tuple_lem = let h = (object-args i o).1 in rw e at h

            at_a : Staged i taken d a → is_taken (stage i taken d a) ≡ false
            at_a (same p q) = absurd (tuple-object (at t i).label (rw p at is_tuple_lem) o)
            at_a (other p q) = rw q f

    finish-built : (i : ℕ) (d : Stages) (p : Forest × Stages) → blocked t d i ≡ false → HaveForm (at t i).kids (stage i taken d) p.0 p.1 → HasForm i d (finish t i p).0 (finish t i p).1
    unfolding finish freshness All
    finish-built i d p b m =
        let v : Value = record { label = (at t i).label; contents = p.0 } in
        let f : All P (one v) = (of_node i p.0 m.counted (λ o. m.first (object-args i o).0 (args_free i d o b) (object-args i o).1), m.formed, tt) in
        record {
          formed = f;
          tuple = λ u h. h;
          sound = staged_sound i (kept v) p.1 (λ w e. let q : v ≡ w = cc in rw (← q) (f, λ h. h)) m.sound;
          less = omega (arith, m.less, left_stage p.1 i (kept v) (length t) refl, left_stage d i taken (length t) refl);
        }

    build-built : (k i : ℕ) (d : Stages) → fresh_left d (length t) < k → Sound d → HasForm i d (build t k i d).0 (build t k i d).1
    unfolding each freshness blocked All count Sound
    build-built zero i d l s = absurd (omega arith)
    build-built (suc k) i d l s = go (build_case t i d) (build-built k)
      where
        go : BuildCase t i d → ((j : ℕ) (c : Stages) → fresh_left c (length t) < k → Sound c → HasForm j c (build t k j c).0 (build t k j c).1) → HasForm i d (build t (suc k) i d).0 (build t (suc k) i d).1
        go (copied v e f) ih = rw (f k) (record { formed = (s i v e).0; tuple = λ u. (s i v e).1; sound = s; less = omega arith })
        go (inside e f) ih = rw (f k) (record { formed = none_formed; tuple = λ u. absurd (let w : is_taken taken ≡ false = rw e at u in let z : ◌≡◌ {A = ℕ} 0 1 = cc in omega arith); sound = s; less = omega arith })
        go (stuck e b f) ih = rw (f k) (record { formed = none_formed; tuple = λ u. no_tuple; sound = staged_sound i (kept none) d (λ v q. let r : none ≡ v = cc in rw (← r) (none_formed, no_tuple)) s; less = left_stage d i (kept none) (length t) refl })
          where
            no_tuple : T (is_tuple (at t i).label) → T (is_tuple NoneL)
            no_tuple h = tuple-object (at t i).label h (and_first (is_object (at t i).label) (first_taken d (at t i).kids) b)
        go (entered e b f) ih = rw (f k) (finish-built i d _ b (contents (dec_lt i (length t))))
          where
            contents : Dec (i < length t) → HaveForm (at t i).kids (stage i taken d) (each (build t k) (at t i).kids (stage i taken d)).0 (each (build t k) (at t i).kids (stage i taken d)).1
            contents (yes h) = each-built k (build t k) ih (at t i).kids (stage i taken d) (let u = left_less d i taken (length t) refl e h in omega arith) (taken_sound i d s)
            contents (no h) = rw (outside-nodes t i h) (record { formed = tt; counted = refl; first = λ z. absurd (omega arith); sound = taken_sound i d s; less = omega arith })

    pub tree_all : (root : ℕ) → All P (one (tree t root))
    unfolding tree Sound
    tree_all root = (build-built (suc (length t)) root unbuilt (omega (arith, fresh_left-all (length t))) (λ j v e. absurd (let z : ◌≡◌ {A = ℕ} 0 1 = cc in omega arith))).formed
