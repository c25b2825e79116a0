-- The measures of the code, a word a node, beside the stages of the walk. A container's is 0 while it is fresh, 1 while it is taken, 3 when it is
-- None for good, else the word of the value that is kept. A leaf's word is stored when the walk comes to it; one that was wanted before, as
-- an Object's class, is stored with the bit `ahead`, which goes when the walk comes there too. So the measures tell which texts are in the tree.
use Rattle.std.specs.Prelude.{ℕ, suc, ◌+◌, ◌<◌, ◌≤◌, Bool, cond, List, [], ◌∷◌, ◌≡◌, ◌≢◌, set}
use Rattle.std.proofs.Math.Bool.{true, false}
use Rattle.std.proofs.Math.Path.{refl, ap}
use Rattle.std.proofs.Common.{sym, ◌∙◌, length-set, get_or-set_same, get_or-set_other, arith}
use Rattle.std.proofs.Math.ListN.{length, get_or}
use Rattle.std.proofs.Math.Decide.{ℕ_discrete}
use Rattle.value.specs.Value.{Label, Value, nil, NoneL, BoolL, I64L, F64L, BytesL, StringL, ListL, TupleL, SetL, FrozenSetL, DictL, GlobalL, ObjectL}
use Rattle.steps.specs.State.{Node}
use Rattle.steps.specs.Opcodes.{is_object}
use Rattle.reading.specs.Build.{Stage, fresh, taken, kept, stage, at, blocked}
use Rattle.reading.specs.Unfold.{In, here, there, Staged, same, other, staged}
use Rattle.resolve.specs.Resolved.{s_nil, s_node, StandsFor, value_unique}
use Rattle.resolve.specs.Ordered.{in_rest}
use Rattle.resolve.specs.Walk.{WalkState, WalkMade, gone, stage_r, each_r, finish_r, walk}
use Rattle.resolve.specs.Resolves.{Resolves, childless}

-- what has children
abbrev pub is_container : Label → Bool
is_container NoneL = false
is_container (BoolL b) = false
is_container (I64L n) = false
is_container (F64L n) = false
is_container (BytesL t) = false
is_container (StringL t) = false
is_container ListL = true
is_container TupleL = true
is_container SetL = true
is_container FrozenSetL = true
is_container DictL = true
is_container (GlobalL m n) = false
is_container (ObjectL m n b) = true

not_object : (l : Label) → is_container l ≡ false → is_object l ≡ false
not_object NoneL e = refl
not_object (BoolL b) e = refl
not_object (I64L n) e = refl
not_object (F64L n) e = refl
not_object (BytesL t) e = refl
not_object (StringL t) e = refl
not_object ListL e = refl
not_object TupleL e = refl
not_object SetL e = refl
not_object FrozenSetL e = refl
not_object DictL e = refl
not_object (GlobalL m n) e = refl
not_object (ObjectL m n b) e = e

-- the leaves that hold text
abbrev pub is_text_leaf : Label → Bool
is_text_leaf NoneL = false
is_text_leaf (BoolL b) = false
is_text_leaf (I64L n) = false
is_text_leaf (F64L n) = false
is_text_leaf (BytesL t) = true
is_text_leaf (StringL t) = true
is_text_leaf ListL = false
is_text_leaf TupleL = false
is_text_leaf SetL = false
is_text_leaf FrozenSetL = false
is_text_leaf DictL = false
is_text_leaf (GlobalL m n) = true
is_text_leaf (ObjectL m n b) = false

-- 2^41, above every word: this one was read ahead of the walk
abbrev pub ahead : ℕ
ahead = 2199023255552

-- the value of a leaf
abbrev pub leaf_of : List Node → ℕ → Value
leaf_of t i = record { label = (at t i).label; contents = nil }

both : (b : Bool) → b ≡ true → b ≡ false → ⊥
both b p q = let z : ◌≡◌ {A = ℕ} 0 1 = cc in omega arith

module _ (t : List Node) (word : Value → ℕ) where
  -- the measure of a container by its stage
  abbrev pub noted : ℕ → Stage → ℕ
  noted i fresh = 0
  noted i taken = 1
  noted i (kept v) = cond (gone t i v) 3 (word v)

  -- the measure of a leaf, where the walk has finished these nodes
  pub data LeafNoted (done : List ℕ) (j w : ℕ) : Type 0 where
    unseen : w ≡ 0 → (is_text_leaf (at t j).label ≡ true → ¬ In j done) → LeafNoted done j w
    early : w ≡ word (leaf_of t j) + ahead → (is_text_leaf (at t j).label ≡ true → ¬ In j done) → LeafNoted done j w
    reached : w ≡ word (leaf_of t j) → In j done → LeafNoted done j w

  pub record Noted (words : List ℕ) (s : WalkState) : Type 0 where
    pub long : length words ≡ length t
    pub container : (j : ℕ) → j < length t → is_container (at t j).label ≡ true → get_or words j 0 ≡ noted j (s.stages j)
    pub leaf : (j : ℕ) → j < length t → is_container (at t j).label ≡ false → LeafNoted s.done j (get_or words j 0)
    -- no leaf is walked in
    pub calm : (j : ℕ) → is_container (at t j).label ≡ false → s.stages j ≢ taken

  -- another node is finished
  leaf_more : {done : List ℕ} {i j w : ℕ} → j ≢ i → LeafNoted done j w → LeafNoted (i ∷ done) j w
  leaf_more n (unseen e f) = unseen e (λ h m. f h (in_rest n m))
  leaf_more n (early e f) = early e (λ h m. f h (in_rest n m))
  leaf_more n (reached e m) = reached e (there m)

  leaf_other : (i j : ℕ) → is_container (at t i).label ≡ true → is_container (at t j).label ≡ false → j ≢ i
  leaf_other i j c d q = let x : is_container (at t i).label ≡ false = rw q at d in both _ c x

  -- ---- a container gets a stage, and is finished

  pub noted-stage : (words : List ℕ) (s : WalkState) (i w : ℕ) (m : Stage) → Noted words s → i < length t → is_container (at t i).label ≡ true
      → w ≡ noted i m
      → Noted (set words i w) (stage_r i m s)
  noted-stage words s i w m n l c e =
      record {
        long = length-set words i w ∙ n.long;
        container = go;
        leaf = λ j k d. rw (get_or-set_other words i j w 0 (leaf_other i j c d)) (n.leaf j k d);
        calm = go3;
      }
    where
      go : (j : ℕ) → j < length t → is_container (at t j).label ≡ true → get_or (set words i w) j 0 ≡ noted j (stage i m s.stages j)
      go j k d = pick (staged i m s.stages j)
        where
          pick : Staged i m s.stages j → get_or (set words i w) j 0 ≡ noted j (stage i m s.stages j)
          pick (same p q) = let k' : i < length words = omega (arith, n.long) in rw (q, p, get_or-set_same words i w 0 k') e
          pick (other p q) = rw (q, get_or-set_other words i j w 0 p) (n.container j k d)

      go3 : (j : ℕ) → is_container (at t j).label ≡ false → stage i m s.stages j ≢ taken
      go3 j d f = pick (staged i m s.stages j)
        where
          pick : Staged i m s.stages j → ⊥
          pick (same p q) = leaf_other i j c d p
          pick (other p q) = n.calm j d (sym q ∙ f)

  pub noted-done : (words : List ℕ) (s : WalkState) (i : ℕ) → Noted words s → is_container (at t i).label ≡ true
      → Noted words (record { stages = s.stages; kids = s.kids; done = i ∷ s.done })
  noted-done words s i n c = record { long = n.long; container = n.container; leaf = λ j k d. leaf_more (leaf_other i j c d) (n.leaf j k d); calm = n.calm }

  -- ---- the walk comes to a leaf

  -- the words when it has: no other has changed, and the leaf's says so
  pub record Stamped (words words' : List ℕ) (i : ℕ) : Type 0 where
    pub long : length words' ≡ length words
    pub others : (j : ℕ) → j ≢ i → get_or words' j 0 ≡ get_or words j 0
    pub own : (done : List ℕ) → In i done → LeafNoted done i (get_or words' i 0)

  pub stamp_store : (words : List ℕ) (i : ℕ) → i < length words → Stamped words (set words i (word (leaf_of t i))) i
  stamp_store words i l =
      record {
        long = length-set words i _;
        others = λ j n. get_or-set_other words i j _ 0 n;
        own = λ done m. reached (get_or-set_same words i _ 0 l) m;
      }

  pub stamp_there : (words : List ℕ) (i : ℕ) → get_or words i 0 ≡ word (leaf_of t i) → Stamped words words i
  stamp_there words i e = record { long = refl; others = λ j n. refl; own = λ done m. reached e m }

  -- nothing is stored for a leaf without text
  pub stamp_textless : (words : List ℕ) (s : WalkState) (i : ℕ) → Noted words s → i < length t → is_container (at t i).label ≡ false
      → is_text_leaf (at t i).label ≡ false
      → Stamped words words i
  stamp_textless words s i n l c h = record { long = refl; others = λ j k. refl; own = λ done m. go done m (n.leaf i l c) }
    where
      go : (done : List ℕ) → In i done → LeafNoted s.done i (get_or words i 0) → LeafNoted done i (get_or words i 0)
      go done m (unseen e f) = unseen e (λ x. absurd (both _ x h))
      go done m (early e f) = early e (λ x. absurd (both _ x h))
      go done m (reached e f) = reached e m

  -- a leaf's word is stored ahead
  pub noted_early : (words : List ℕ) (s : WalkState) (i : ℕ) → Noted words s → i < length t → is_container (at t i).label ≡ false
      → (is_text_leaf (at t i).label ≡ true → ¬ In i s.done) → Noted (set words i (word (leaf_of t i) + ahead)) s
  noted_early words s i n l c f =
      record {
        long = length-set words i w ∙ n.long;
        container = λ j k d. rw (get_or-set_other words i j w 0 (λ q. leaf_other j i d c (sym q))) (n.container j k d);
        leaf = λ j k d. pick j k d (ℕ_discrete j i);
        calm = n.calm;
      }
    where
      w : ℕ
      w = word (leaf_of t i) + ahead

      own : LeafNoted s.done i (get_or (set words i w) i 0)
      own = let k' : i < length words = omega (arith, n.long) in early (get_or-set_same words i w 0 k') f

      pick : (j : ℕ) → j < length t → is_container (at t j).label ≡ false → Dec (j ≡ i) → LeafNoted s.done j (get_or (set words i w) j 0)
      pick j k d (yes q) = rw q own
      pick j k d (no q) = rw (get_or-set_other words i j w 0 q) (n.leaf j k d)

  -- ---- what a container's word says

  pub data WordSays (s : WalkState) (i w : ℕ) : Type 0 where
    is_fresh : s.stages i ≡ fresh → w ≡ 0 → WordSays s i w
    is_taken_lem : s.stages i ≡ taken → w ≡ 1 → WordSays s i w
    is_gone : (v : Value) → s.stages i ≡ kept v → gone t i v ≡ true → w ≡ 3 → WordSays s i w
    is_kept : (v : Value) → s.stages i ≡ kept v → gone t i v ≡ false → w ≡ word v → WordSays s i w

  pub reads : (words : List ℕ) (s : WalkState) (i : ℕ) → Noted words s → i < length t → is_container (at t i).label ≡ true → WordSays s i (get_or words i 0)
  reads words s i n l c = go (s.stages i) refl (n.container i l c)
    where
      go : (m : Stage) → s.stages i ≡ m → get_or words i 0 ≡ noted i (s.stages i) → WordSays s i (get_or words i 0)
      go fresh e h = is_fresh e (h ∙ ap (noted i) e)
      go taken e h = is_taken_lem e (h ∙ ap (noted i) e)
      go (kept v) e h = go2 (gone t i v) refl (h ∙ ap (noted i) e)
        where
          go2 : (b : Bool) → gone t i v ≡ b → get_or words i 0 ≡ cond (gone t i v) 3 (word v) → WordSays s i (get_or words i 0)
          go2 true f k = is_gone v e f (let f' = f in rw f' at k)
          go2 false f k = is_kept v e f (let f' = f in rw f' at k)

  -- ---- a leaf needs no walk

  -- what is made of leaf i, and that the words fit what is then
  pub record Leaf (words : List ℕ) (i : ℕ) (m : WalkMade) : Type 0 where
    pub value : m.value ≡ leaf_of t i
    pub slot : m.slot ≡ i
    pub noted_still : Noted words m.after

  module _ (nowhere : ℕ) (beyond : length t ≤ nowhere) (words words' : List ℕ) (i : ℕ) (s : WalkState) (n : Noted words s) (c : is_container (at t i).label ≡ false) (x : Stamped words words' i) where
    leaf_stamped : (done : List ℕ) → In i done → ((j : ℕ) → j ≢ i → LeafNoted s.done j (get_or words j 0) → LeafNoted done j (get_or words j 0))
        → (j : ℕ) → j < length t → is_container (at t j).label ≡ false → LeafNoted done j (get_or words' j 0)
    leaf_stamped done m more j k d = pick (ℕ_discrete j i)
      where
        pick : Dec (j ≡ i) → LeafNoted done j (get_or words' j 0)
        pick (yes q) = rw q (x.own done m)
        pick (no q) = rw (x.others j q) (more j q (n.leaf j k d))

    -- finished before
    leaf_kept : In i s.done → Noted words' s
    leaf_kept m =
        record {
          long = x.long ∙ n.long;
          container = λ j k d. x.others j (λ q. leaf_other j i d c (sym q)) ∙ n.container j k d;
          leaf = leaf_stamped s.done m (λ j q a. a);
          calm = n.calm;
        }

    -- finished now
    leaf-finish : Leaf words' i (finish_r t i (nil, stage_r i taken s))
    unfolding finish_r
    leaf-finish = record { value = refl; slot = refl; noted_still = record { long = x.long ∙ n.long; container = go; leaf = leaf_stamped (i ∷ s.done) here (λ j q a. leaf_more q a); calm = go2 } }
      where
        go : (j : ℕ) → j < length t → is_container (at t j).label ≡ true
            → get_or words' j 0 ≡ noted j (stage i (kept (leaf_of t i)) (stage i taken s.stages) j)
        go j k d = pick (staged i (kept (leaf_of t i)) (stage i taken s.stages) j) (staged i taken s.stages j)
          where
            pick : Staged i (kept (leaf_of t i)) (stage i taken s.stages) j → Staged i taken s.stages j
                → get_or words' j 0 ≡ noted j (stage i (kept (leaf_of t i)) (stage i taken s.stages) j)
            pick (same p q) y = absurd (leaf_other j i d c (sym p))
            pick (other p q) (same p' q') = absurd (p p')
            pick (other p q) (other p' q') = x.others j p ∙ (n.container j k d ∙ ap (noted j) (sym (q ∙ q')))

        go2 : (j : ℕ) → is_container (at t j).label ≡ false → stage i (kept (leaf_of t i)) (stage i taken s.stages) j ≢ taken
        go2 j d f = pick (staged i (kept (leaf_of t i)) (stage i taken s.stages) j) (staged i taken s.stages j)
          where
            pick : Staged i (kept (leaf_of t i)) (stage i taken s.stages) j → Staged i taken s.stages j → ⊥
            pick (same p q) y = let z : ◌≡◌ {A = ℕ} 0 1 = cc in omega arith
            pick (other p q) (same p' q') = p p'
            pick (other p q) (other p' q') = n.calm j d (sym (q ∙ q') ∙ f)

    pub leaf-walk : (k : ℕ) → Resolves t nowhere s → (at t i).kids ≡ [] → Leaf words' i (walk t nowhere (suc k) i s)
    unfolding walk blocked each_r
    leaf-walk k r e = go (s.stages i) refl
      where
        o : is_object (at t i).label ≡ false
        o = not_object (at t i).label c

        go : (m : Stage) → s.stages i ≡ m → Leaf words' i (walk t nowhere (suc k) i s)
        go (kept v) f =
            let g : gone t i v ≡ false = rw o in
            let m = r.kept_done i v f g in
            let y = r.done_stands i m in
            let z : kept y.value ≡ kept v = sym y.keeps ∙ f in
            let z' : y.value ≡ v = cc in
            let w : StandsFor t s.kids i v = rw z' at y.stands in
            rw (f, walk) (record { value = leaf-only v w; slot = rw g; noted_still = leaf_kept m })
          where
            leaf-only : (u : Value) → StandsFor t s.kids i u → u ≡ leaf_of t i
            leaf-only u w = value_unique w (s_node (rw (childless t nowhere beyond r i e) s_nil) s_nil)
        go taken f = absurd (n.calm i c f)
        go fresh f = rw (f, o, e, walk) leaf-finish
