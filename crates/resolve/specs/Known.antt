-- What a node comes to without a walk: what its kind and its measure say is what the walk would make of it.
use Rattle.std.specs.Prelude.{ℕ, suc, ◌+◌, ◌-◌, ◌*◌, ◌<◌, ◌≤◌, min, Bool, true, cond, List, ◌∷◌, ◌≡◌, ◌≢◌, length, get_or, set}
use Rattle.std.proofs.Math.Bool.{false}
use Rattle.std.proofs.Math.Path.{refl}
use Rattle.std.proofs.Common.{sym, ◌∙◌, ap, lt-ltb, le-ltb, ne_eqb, arith}
use Rattle.std.proofs.Math.Decide.{dec_lt}
use Rattle.value.specs.Value.{Label, Value, text_of, NoneL, BoolL, I64L, F64L, BytesL, StringL, ListL, TupleL, SetL, FrozenSetL, DictL, GlobalL, ObjectL}
use Rattle.steps.specs.State.{Node}
use Rattle.reading.specs.Build.{fresh, taken, kept, stage, none, at}
use Rattle.reading.specs.Unfold.{Staged, same, other, staged}
use Rattle.reading.specs.Measures.{value_measure, measure}
use Rattle.resolve.specs.Length.{text_bytes, len_nothing}
use Rattle.resolve.specs.MeasureWord.{pack_w, word_large}
use Rattle.resolve.specs.Walk.{WalkState, WalkMade, WalkCase, copied, inside, stuck, entered, walk_case, gone, stage_r, each_r, finish_r, walk}
use Rattle.resolve.specs.Resolves.{Resolves}
use Rattle.resolve.specs.Dues.{is_due, dues}
use Rattle.resolve.specs.Noted.{is_container, ahead, leaf_of, LeafNoted, unseen, early, reached, Noted, Stamped, stamp_store, stamp_there, stamp_textless, leaf-walk, WordSays, is_fresh, is_taken_lem, is_gone, is_kept, reads}
use Rattle.resolve.specs.Kinds.{container_kind}
use Rattle.resolve.specs.Facts.{value_word, kind_at, Facts, Shallow}
use Rattle.resolve.specs.declared.Seen.{Seen}
use Rattle.resolve.specs.declared.Seen.TheVariants.{Open, Empty, Word}

-- what the walk m makes of a node in the state s: its word is w and `slot` stands for it; children and dues stay, the measures are these
pub record Yields (t : List Node) (measures : List ℕ) (s : WalkState) (m : WalkMade) (slot w : ℕ) : Type 0 where
  pub is : w ≡ value_word m.value
  pub slot_is : m.slot ≡ slot
  pub deep : (value_measure m.value).deep ≤ 64
  pub noted_still : Noted t value_word measures m.after
  pub small : Shallow m.after
  pub kids : m.after.kids ≡ s.kids
  pub dues_stay : dues t m.after.done ≡ dues t s.done

pub data Knows (t : List Node) (before after : List ℕ) (s : WalkState) (i : ℕ) : Seen → Type 0 where
  k_open : is_container (at t i).label ≡ true → s.stages i ≡ fresh → after ≡ before → Knows t before after s i Open
  k_empty : ((k : ℕ) → Yields t after s (walk t 4096 (suc k) i s) 4096 129) → Knows t before after s i Empty
  k_word : (w : ℕ) → ((k : ℕ) → Yields t after s (walk t 4096 (suc k) i s) i w) → Knows t before after s i (Word w)

-- whatever nodes and state they are
unfoldable pub Learns : List ℕ → List ℕ → List ℕ → List ℕ → ℕ → Seen → Type 0
Learns p ws before after i r =
    (starts : List ℕ) (t : List Node) (s : WalkState) → Facts p ws starts t → Resolves t 4096 s → Noted t value_word before s → Shallow s → i < length t → Knows t before after s i r

-- ---- words and kinds

pub low_leaf : (k : ℕ) → k < 6 → container_kind k ≡ false
unfolding container_kind
low_leaf k h = rw (lt-ltb k 6 h)

pub word_big : (v : Value) → 128 ≤ value_word v
word_big v = word_large (value_measure v) (omega arith)

pub word_low : (v : Value) → (value_measure v).deep ≤ 64 → value_word v < ahead
unfolding pack_w
word_low v h = omega arith

pub leaf-word : (t : List Node) (i l : ℕ) → l ≡ length (text_of (at t i).label) → pack_w 1 1 l ≡ value_word (leaf_of t i)
unfolding pack_w measure
leaf-word t i l e = rw e (omega arith)

pub leaf-deep : (t : List Node) (i : ℕ) → (value_measure (leaf_of t i)).deep ≤ 64
unfolding measure
leaf-deep t i = omega arith

none-word : 129 ≡ value_word none
unfolding pack_w measure
none-word = refl

leaf_not_due : (l : Label) → is_container l ≡ false → is_due l ≡ false
leaf_not_due NoneL e = refl
leaf_not_due (BoolL b) e = refl
leaf_not_due (I64L n) e = refl
leaf_not_due (F64L n) e = refl
leaf_not_due (BytesL t) e = refl
leaf_not_due (StringL t) e = refl
leaf_not_due ListL e = refl
leaf_not_due TupleL e = refl
leaf_not_due SetL e = e
leaf_not_due FrozenSetL e = e
leaf_not_due DictL e = e
leaf_not_due (GlobalL m n) e = refl
leaf_not_due (ObjectL m n b) e = refl

-- ---- what the walk keeps

record WalkStays (t : List Node) (s s' : WalkState) : Type 0 where
  small : Shallow s'
  kids : s'.kids ≡ s.kids
  dues_stay : dues t s'.done ≡ dues t s.done

module _ (p ws starts : List ℕ) (t : List Node) (s : WalkState) (f : Facts p ws starts t) (r : Resolves t 4096 s) (i : ℕ) (l : i < length t) where
  leaf_stays : (k : ℕ) → Shallow s → is_container (at t i).label ≡ false → WalkStays t s (walk t 4096 (suc k) i s).after
  unfolding finish_r each_r measure dues
  leaf_stays k z c = go (walk_case t 4096 k i s)
    where
      same_state : WalkStays t s s
      same_state = record { small = z; kids = refl; dues_stay = refl }

      go : WalkCase t 4096 k i s → WalkStays t s (walk t 4096 (suc k) i s).after
      go (copied v e q) = rw q same_state
      go (inside e q) = rw q same_state
      go (stuck e b q) = rw q (record { small = small-none; kids = refl; dues_stay = refl })
        where
          small-none : Shallow (stage_r i (kept none) s)
          small-none j v x = pick (staged i (kept none) s.stages j)
            where
              pick : Staged i (kept none) s.stages j → (value_measure v).deep ≤ 64
              pick (same a d) = let y : none ≡ v = cc in rw (← y) (omega arith)
              pick (other a d) = z j v (sym d ∙ x)
      go (entered e b q) =
          let n = f.leafless i l c in
          let d = leaf_not_due (at t i).label c in
          rw (q, n) (record { small = small-leaf; kids = refl; dues_stay = rw d })
        where
          small-leaf : Shallow (record { stages = stage i (kept (leaf_of t i)) (stage i taken s.stages); kids = s.kids; done = i ∷ s.done })
          small-leaf j v x = pick (staged i (kept (leaf_of t i)) (stage i taken s.stages) j) (staged i taken s.stages j)
            where
              pick : Staged i (kept (leaf_of t i)) (stage i taken s.stages) j → Staged i taken s.stages j → (value_measure v).deep ≤ 64
              pick (same a d) w = let y : leaf_of t i ≡ v = cc in rw (← y) (leaf-deep t i)
              pick (other a d) (same a' d') = absurd (a a')
              pick (other a d) (other a' d') = z j v (sym (d ∙ d') ∙ x)

  -- ---- a leaf

  leaf_yields : (before after : List ℕ) (k w : ℕ) → Noted t value_word before s → Shallow s → is_container (at t i).label ≡ false
      → Stamped t value_word before after i → w ≡ value_word (leaf_of t i)
      → Yields t after s (walk t 4096 (suc k) i s) i w
  leaf_yields before after k w n z c x e =
      let a = leaf-walk t value_word 4096 f.beyond before after i s n c x k r (f.leafless i l c) in
      let b = leaf_stays k z c in
      let q = a.value in
      record { is = e ∙ ap value_word (sym q); slot_is = a.slot; deep = rw q (leaf-deep t i); noted_still = a.noted_still; small = b.small; kids = b.kids; dues_stay = b.dues_stay }

  module _ (before : List ℕ) (n : Noted t value_word before s) (z : Shallow s) where
    -- one without text
    pub know_textless : kind_at ws i < 4 → Knows t before before s i (Word 129)
    unfolding pack_w measure
    know_textless h =
        let c : is_container (at t i).label ≡ false = f.containers i l ∙ low_leaf (kind_at ws i) (omega arith) in
        let e : 0 ≡ text_bytes p ws i = len_nothing p ws i (get_or ws (2 * i) 0) (get_or ws (2 * i + 1) 0) refl refl (λ x. omega arith) (λ x. omega arith) (λ x. omega arith) (λ x. omega arith) (λ x. omega arith) (λ x. omega arith) in
        k_word 129 (λ k. leaf_yields before before k 129 n z c (stamp_textless t value_word before s i n l c (f.textless i l h)) (leaf-word t i 0 (e ∙ f.lens_are i l)))

    store : (w : ℕ) → is_container (at t i).label ≡ false → w ≡ value_word (leaf_of t i) → Knows t before (set before i w) s i (Word w)
    store w c q =
        let x : Stamped t value_word before (set before i w) i = rw q (stamp_store t value_word before i (omega (arith, n.long))) in
        k_word w (λ k. leaf_yields before (set before i w) k w n z c x q)

    -- one whose word is not there yet
    pub know_leaf : (w : ℕ) → container_kind (kind_at ws i) ≡ false → w ≡ pack_w 1 1 (text_bytes p ws i) → Knows t before (set before i w) s i (Word w)
    know_leaf w h e = store w (f.containers i l ∙ h) (e ∙ leaf-word t i (text_bytes p ws i) (f.lens_are i l))

    -- ---- a stage that is there

    kept_yields : (k : ℕ) (v : Value) → s.stages i ≡ kept v → Yields t before s (walk t 4096 (suc k) i s) (cond (gone t i v) 4096 i) (value_word v)
    unfolding walk
    kept_yields k v e = rw (e, walk) (record { is = refl; slot_is = refl; deep = z i v e; noted_still = n; small = z; kids = refl; dues_stay = refl })

    taken_yields : (k : ℕ) → s.stages i ≡ taken → Yields t before s (walk t 4096 (suc k) i s) 4096 129
    unfolding walk measure pack_w
    taken_yields k e = rw (e, walk) (record { is = refl; slot_is = refl; deep = omega arith; noted_still = n; small = z; kids = refl; dues_stay = refl })

    -- a fresh container
    pub know_open : get_or before i 0 ≡ 0 → container_kind (kind_at ws i) ≡ true → Knows t before before s i Open
    know_open e h = let c : is_container (at t i).label ≡ true = f.containers i l ∙ h in go c (reads t value_word before s i n l c)
      where
        go : is_container (at t i).label ≡ true → WordSays t value_word s i (get_or before i 0) → Knows t before before s i Open
        go c (is_fresh x y) = k_open c x refl
        go c (is_taken_lem x y) = absurd (omega arith)
        go c (is_gone v x g y) = absurd (omega arith)
        go c (is_kept v x g y) = absurd (omega (arith, word_big v))

    -- taken out, or None for good
    pub know_empty : get_or before i 0 ≢ 0 → get_or before i 0 < 4 → Knows t before before s i Empty
    know_empty e h = go (is_container (at t i).label) refl
      where
        go : (b : Bool) → is_container (at t i).label ≡ b → Knows t before before s i Empty
        go true c = box (reads t value_word before s i n l c)
          where
            box : WordSays t value_word s i (get_or before i 0) → Knows t before before s i Empty
            box (is_fresh x y) = absurd (e y)
            box (is_taken_lem x y) = k_empty (λ k. taken_yields k x)
            box (is_gone v x g y) =
                let q : v ≡ none = r.kept_none i v x g in
                let u : 129 ≡ value_word v = none-word ∙ ap value_word (sym q) in
                k_empty (λ k. let a = kept_yields k v x in record { is = u ∙ a.is; slot_is = a.slot_is ∙ rw g; deep = a.deep; noted_still = a.noted_still; small = a.small; kids = a.kids; dues_stay = a.dues_stay })
            box (is_kept v x g y) = absurd (omega (arith, word_big v))
        go false c = leafy (n.leaf i l c)
          where
            leafy : LeafNoted t value_word s.done i (get_or before i 0) → Knows t before before s i Empty
            leafy (unseen x q) = absurd (e x)
            leafy (early x q) = absurd (omega arith)
            leafy (reached x q) = absurd (omega (arith, word_big (leaf_of t i)))

    -- a word
    pub know_kept : 4 ≤ get_or before i 0 → get_or before i 0 < ahead → Knows t before before s i (Word (get_or before i 0))
    know_kept h b = go (is_container (at t i).label) refl
      where
        go : (b : Bool) → is_container (at t i).label ≡ b → Knows t before before s i (Word (get_or before i 0))
        go true c = box (reads t value_word before s i n l c)
          where
            box : WordSays t value_word s i (get_or before i 0) → Knows t before before s i (Word (get_or before i 0))
            box (is_fresh x y) = absurd (omega arith)
            box (is_taken_lem x y) = absurd (omega arith)
            box (is_gone v x g y) = absurd (omega arith)
            box (is_kept v x g y) =
                k_word (get_or before i 0) (λ k. let a = kept_yields k v x in record { is = y ∙ a.is; slot_is = a.slot_is ∙ rw g; deep = a.deep; noted_still = a.noted_still; small = a.small; kids = a.kids; dues_stay = a.dues_stay })
        go false c = leafy (n.leaf i l c)
          where
            leafy : LeafNoted t value_word s.done i (get_or before i 0) → Knows t before before s i (Word (get_or before i 0))
            leafy (unseen x q) = absurd (omega arith)
            leafy (early x q) = absurd (omega arith)
            leafy (reached x q) = k_word (get_or before i 0) (λ k. leaf_yields before before k (get_or before i 0) n z c (stamp_there t value_word before i x) x)

    -- a word that was read ahead
    pub know_early : (w : ℕ) → ahead ≤ get_or before i 0 → w ≡ get_or before i 0 - ahead → Knows t before (set before i w) s i (Word w)
    know_early w h e = go (is_container (at t i).label) refl
      where
        go : (b : Bool) → is_container (at t i).label ≡ b → Knows t before (set before i w) s i (Word w)
        go true c = box (reads t value_word before s i n l c)
          where
            box : WordSays t value_word s i (get_or before i 0) → Knows t before (set before i w) s i (Word w)
            box (is_fresh x y) = absurd (omega arith)
            box (is_taken_lem x y) = absurd (omega arith)
            box (is_gone v x g y) = absurd (omega arith)
            box (is_kept v x g y) = absurd (omega (arith, word_low v (z i v x)))
        go false c = leafy (n.leaf i l c)
          where
            leafy : LeafNoted t value_word s.done i (get_or before i 0) → Knows t before (set before i w) s i (Word w)
            leafy (unseen x q) = absurd (omega arith)
            leafy (early x q) = store w c (omega arith)
            leafy (reached x q) = absurd (omega (arith, word_low (leaf_of t i) (leaf-deep t i)))

-- a container that is no Object has no text
pub no_text : (p ws : List ℕ) (i k : ℕ) → k ≡ kind_at ws i → container_kind k ≡ true → k ≢ 12 → 0 ≡ min (text_bytes p ws i) 65537
unfolding container_kind
no_text p ws i k e b n = go (dec_lt k 6) (dec_lt k 11)
  where
    go : Dec (k < 6) → Dec (k < 11) → 0 ≡ min (text_bytes p ws i) 65537
    go (yes x) y = absurd (let f = lt-ltb k 6 x in let q : false ≡ true = rw f at b in let z : ◌≡◌ {A = ℕ} 0 1 = cc in omega arith)
    go (no x) (yes y) =
        let e' : 0 ≡ text_bytes p ws i = len_nothing p ws i (get_or ws (2 * i) 0) (get_or ws (2 * i + 1) 0) refl refl (λ q. omega arith) (λ q. omega arith) (λ q. omega arith) (λ q. omega arith) (λ q. omega arith) (λ q. omega arith) in
        omega arith
    go (no x) (no y) =
        absurd
        (let l : 6 ≤ k = omega arith in
        let m : 11 ≤ k = omega arith in
        let f = le-ltb k 6 l in
        let g = le-ltb k 11 m in
        let d = ne_eqb k 12 n in
        let q : false ≡ true = rw (f, g, d) at b in
        let z : ◌≡◌ {A = ℕ} 0 1 = cc in
        omega arith)
