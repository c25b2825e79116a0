-- `refs` of de.rs. The Rust keeps a finished node only when it is referenced more than once, and moves any other into its value, so that
-- None stands in its place; nor does it keep an Object that it makes None. This builder makes the same tree as `build`, which keeps all.
use Prim.Native.Nat.{ℕ, suc, zero, ◌+◌, ◌<◌, ◌≤◌}
use Rattle.std.specs.Prelude.{Bool, cond, ◌&&◌, ◌≡◌, get_or, ltb}
use Rattle.std.proofs.Math.Bool.{true, false}
use mathlib.Core.List.{List, [], ◌∷◌, ◌++◌}
use Rattle.std.proofs.Math.Path.{refl, ap, ap₂}
use Rattle.std.proofs.Common.{sym, ◌∙◌}
use Rattle.std.proofs.Math.ListN.{length}
use Rattle.std.proofs.Math.Dec.{T, eqb}
use native.Mathlib.Omega.{arith}
use Rattle.std.proofs.Math.Decide.{dec_lt}
use borrow.Author.Tests.{eq-eqb, eqb-true, ltb-false}
use Rattle.value.specs.Value.{Forest, Value}
use Rattle.value.specs.WellFormed.{is_tuple}
use Rattle.steps.specs.State.{Node}
use Rattle.steps.specs.Opcodes.{is_object}
use Rattle.steps.specs.Shape.{Shaped}
use Rattle.reading.specs.Build.{Stage, Stages, fresh, taken, kept, unbuilt, stage, none, before, is_taken, at, first_taken, blocked, finish, each, build, tree}
use Rattle.reading.specs.Unfold.{In, here, there, Staged, same, other, staged, freshness, outside-nodes}
use Rattle.reading.specs.Form.{tuple-object, and_first}
use Rattle.reading.specs.Well.{object_of, right_at}

-- how often j stands in a list
unfoldable pub times : ℕ → List ℕ → ℕ
times j [] = 0
times j (i ∷ l) = cond (eqb j i) 1 0 + times j l

times-append : (j : ℕ) (a b : List ℕ) → times j (a ++ b) ≡ times j a + times j b
unfolding times
times-append j [] b = omega arith
times-append j (x ∷ a) b = let h = times-append j a b in omega arith

times-here : (j : ℕ) (l : List ℕ) → times j (j ∷ l) ≡ suc (times j l)
unfolding times
times-here j l = rw (eq-eqb j j refl) (omega arith)

times_more : (j i : ℕ) (l : List ℕ) → times j l ≤ times j (i ∷ l)
unfolding times
times_more j i l = omega arith

module _ (t : List Node) (reached : ℕ → Bool) where
  -- references to j from the nodes below n that are reached
  unfoldable pub refs_below : ℕ → ℕ → ℕ
  refs_below j zero = 0
  refs_below j (suc n) = cond (reached n) (times j (at t n).kids) 0 + refs_below j n

  -- `count`: one for the root, and one for each reference from a node that is reached
  unfoldable pub refs : ℕ → ℕ → ℕ
  refs root j = times j (root ∷ []) + refs_below j (length t)

-- `build` as the Rust has it, keeping the nodes that `keep` says
unfoldable pub finish_moving : List Node → (ℕ → Bool) → ℕ → Forest × Stages → Value × Stages
finish_moving t keep i p =
    let v : Value = record { label = (at t i).label; contents = p.0 } in
    (v, cond (keep i) (stage i (kept v) p.1) p.1)

unfoldable pub build_refs : List Node → (ℕ → Bool) → ℕ → ℕ → Stages → Value × Stages
build_refs t keep zero i d = (none, d)
build_refs t keep (suc k) i d =
    elim (d i) [
      | kept v ↦ (v, d)
      | taken ↦ (none, d)
      | fresh ↦
          elim (blocked t d i) [ true ↦ (none, stage i taken d) | false ↦ finish_moving t keep i (each (build_refs t keep k) (at t i).kids (stage i taken d)) ]
    ]

-- ---- references still to come

abbrev waits : Stage → ℕ → ℕ
waits fresh x = x
waits taken x = 0
waits (kept v) x = 0

waits-none : (m : Stage) (x : ℕ) → freshness m ≡ 0 → waits m x ≡ 0
unfolding freshness
waits-none fresh x e = absurd (omega arith)
waits-none taken x e = refl
waits-none (kept v) x e = refl

module _ (t : List Node) (reached : ℕ → Bool) where
  -- references to j from nodes below n that are reached and fresh
  unfoldable open_refs : Stages → ℕ → ℕ → ℕ
  open_refs d j zero = 0
  open_refs d j (suc n) = cond (reached n) (waits (d n) (times j (at t n).kids)) 0 + open_refs d j n

  open_all : (j n : ℕ) → open_refs unbuilt j n ≡ refs_below t reached j n
  unfolding open_refs refs_below
  open_all j zero = refl
  open_all j (suc n) = let h = open_all j n in omega arith

  cond_none : (b : Bool) (x : ℕ) → x ≡ 0 → cond b x 0 ≡ 0
  cond_none true x e = e
  cond_none false x e = refl

  open_stage : (d : Stages) (i j : ℕ) (m : Stage) (n : ℕ) → freshness m ≡ 0 → open_refs (stage i m d) j n ≤ open_refs d j n
  unfolding open_refs
  open_stage d i j m zero z = omega arith
  open_stage d i j m (suc n) z = go (staged i m d n) (open_stage d i j m n z)
    where
      go : Staged i m d n → open_refs (stage i m d) j n ≤ open_refs d j n → open_refs (stage i m d) j (suc n) ≤ open_refs d j (suc n)
      go (same p e) h = rw (e, cond_none (reached n) (waits m (times j (at t n).kids)) (waits-none m (times j (at t n).kids) z)) (omega arith)
      go (other p e) h = rw e (omega arith)

  open_below : (d : Stages) (i j : ℕ) (m : Stage) (n : ℕ) → freshness m ≡ 0 → d i ≡ fresh → reached i ≡ true → i < n → open_refs (stage i m d) j n + times j (at t i).kids ≤ open_refs d j n
  unfolding open_refs
  open_below d i j m zero z f r l = absurd (omega arith)
  open_below d i j m (suc n) z f r l = go (staged i m d n) (open_below d i j m n z f r)
    where
      go : Staged i m d n → (i < n → open_refs (stage i m d) j n + times j (at t i).kids ≤ open_refs d j n) → open_refs (stage i m d) j (suc n) + times j (at t i).kids ≤ open_refs d j (suc n)
      go (same p e) h =
          let q : d n ≡ fresh = ap d p ∙ f in
          let w : reached n ≡ true = ap reached p ∙ r in
          let k : times j (at t n).kids ≡ times j (at t i).kids = ap (λ (x : ℕ). times j (at t x).kids) p in
          let u = open_stage d i j m n z in
          let c = waits-none m (times j (at t n).kids) z in
          rw (e, q, w) (omega arith)
      go (other p e) h = rw e (let u = h (omega arith) in omega arith)

  -- a fresh node that is reached has its references among those to come
  open_enter : (d : Stages) (i j : ℕ) (m : Stage) → freshness m ≡ 0 → d i ≡ fresh → reached i ≡ true → open_refs (stage i m d) j (length t) + times j (at t i).kids ≤ open_refs d j (length t)
  unfolding times
  open_enter d i j m z f r = go (dec_lt i (length t))
    where
      go : Dec (i < length t) → open_refs (stage i m d) j (length t) + times j (at t i).kids ≤ open_refs d j (length t)
      go (yes l) = open_below d i j m (length t) z f r l
      go (no l) = rw (outside-nodes t i l) (let u = open_stage d i j m (length t) z in omega arith)

-- ---- the two builders side by side

module _
    (t : List Node) (reached keep : ℕ → Bool)
    (reached-in : (i j : ℕ) → reached i ≡ true → In j (at t i).kids → reached j ≡ true)
    (object-args : (i : ℕ) → T (is_object (at t i).label) → (0 < length (at t i).kids) × T (is_tuple (at t (get_or (at t i).kids 0 0)).label))
  where
    -- the stage of j there and here: the same, but for a node that was moved into its value, and for an Object that is None
    data Like (j : ℕ) : Stage → Stage → Type 0 where
      alike : (m : Stage) → Like j m m
      moved : (v : Value) → keep j ≡ false → Like j (kept v) taken
      void : T (is_object (at t j).label) → Like j (kept none) taken

    Likes : Stages → Stages → Type 0
    Likes d e = (j : ℕ) → Like j (d j) (e j)

    -- a node that is not kept has at most one reference to come while it is fresh, and none after
    Once : Stages → List ℕ → Type 0
    Once d l = (j : ℕ) → keep j ≡ false → open_refs t reached d j (length t) + times j l ≤ freshness (d j)

    record Follows (d : Stages) (rest : List ℕ) (v w : Value) (d' e' : Stages) : Type 0 where
      value : w ≡ v
      likes : Likes d' e'
      once : Once d' rest
      later : (j : ℕ) → freshness (d' j) ≤ freshness (d j)
      stays : (j : ℕ) → d j ≡ taken → d' j ≡ taken

    record FollowsEach (d : Stages) (rest : List ℕ) (f g : Forest) (d' e' : Stages) : Type 0 where
      forest : g ≡ f
      likes : Likes d' e'
      once : Once d' rest
      later : (j : ℕ) → freshness (d' j) ≤ freshness (d j)
      stays : (j : ℕ) → d j ≡ taken → d' j ≡ taken

    once_rest : (d : Stages) (i : ℕ) (rest : List ℕ) → Once d (i ∷ rest) → Once d rest
    unfolding Once
    once_rest d i rest o j k = omega (arith, o j k, times_more j i rest)

    each_follows : (g h : ℕ → Stages → Value × Stages)
        → ((i : ℕ) (rest : List ℕ) (d e : Stages) → reached i ≡ true → Likes d e → Once d (i ∷ rest) → Follows d rest (g i d).0 (h i e).0 (g i d).1 (h i e).1)
        → (is rest : List ℕ) (d e : Stages) → ((i : ℕ) → In i is → reached i ≡ true) → Likes d e → Once d (is ++ rest)
        → FollowsEach d rest (each g is d).0 (each h is e).0 (each g is d).1 (each h is e).1
    unfolding each
    each_follows g h s [] rest d e r l o = record { forest = refl; likes = l; once = o; later = λ j. omega arith; stays = λ j x. x }
    each_follows g h s (i ∷ is) rest d e r l o =
        let a : Follows d (is ++ rest) (g i d).0 (h i e).0 (g i d).1 (h i e).1 = s i (is ++ rest) d e (r i here) l o in
        let b : FollowsEach (g i d).1 rest (each g is (g i d).1).0 (each h is (h i e).1).0 (each g is (g i d).1).1 (each h is (h i e).1).1 =
        each_follows g h s is rest (g i d).1 (h i e).1 (λ j m. r j (there m)) a.likes a.once in
        record { forest = ap₂ before a.value b.forest; likes = b.likes; once = b.once; later = λ j. omega (arith, a.later j, b.later j); stays = λ j x. b.stays j (a.stays j x) }

    -- an Object's arguments are taken out there where they are here
    blocked-same : (i : ℕ) (rest : List ℕ) (d e : Stages) → d i ≡ fresh → reached i ≡ true → Likes d e → Once d (i ∷ rest) → blocked t e i ≡ blocked t d i
    unfolding blocked first_taken Likes Once freshness
    blocked-same i rest d e f r l o = go (is_object (at t i).label) refl
      where
        first : T (is_object (at t i).label) → (ks : List ℕ) → (at t i).kids ≡ ks → first_taken e ks ≡ first_taken d ks
        first ob [] q = refl
        first ob (a ∷ ks) q = look (d a) (e a) refl refl (l a)
          where
            is_tuple_lem : T (is_tuple (at t a).label)
            is_tuple_lem = let h = (object-args i ob).1 in rw q at h

            look : (m n : Stage) → d a ≡ m → e a ≡ n → Like a m n → is_taken (e a) ≡ is_taken (d a)
            look m n p u (alike x) = rw (p, u)
            look m n p u (moved v k) =
                let c : open_refs t reached d a (length t) + times a (i ∷ rest) ≤ 0 = let h = o a k in rw p at h in
                let b = open_enter t reached d i a taken refl f r in
                let y : times a (at t i).kids ≡ suc (times a ks) = ap (times a) q ∙ times-here a ks in
                absurd (omega arith)
            look m n p u (void ox) = absurd (tuple-object (at t a).label is_tuple_lem ox)

        go : (b : Bool) → is_object (at t i).label ≡ b → (is_object (at t i).label && first_taken e (at t i).kids) ≡ (is_object (at t i).label && first_taken d (at t i).kids)
        go true q = rw q (first (rw q tt) (at t i).kids refl)
        go false q = rw q

    -- after i gets a stage that is not fresh, which was to be visited
    once_stage : (i : ℕ) (rest : List ℕ) (d : Stages) (m : Stage) → freshness m ≡ 0 → d i ≡ fresh → reached i ≡ true → Once d (i ∷ rest) → Once (stage i m d) ((at t i).kids ++ rest)
    unfolding Once freshness
    once_stage i rest d m z f r o j k = go (staged i m d j)
      where
        go : Staged i m d j → open_refs t reached (stage i m d) j (length t) + times j ((at t i).kids ++ rest) ≤ freshness (stage i m d j)
        go (same p q) =
            let c : open_refs t reached d i (length t) + times i (i ∷ rest) ≤ 1 = let h = o i (rw p at k) in rw f at h in
            let b = open_enter t reached d i i m z f r in
            rw (q, z, p) (omega (arith, times-append i (at t i).kids rest, times-here i rest))
        go (other p q) = rw q (omega (arith, o j k, open_enter t reached d i j m z f r, times-append j (at t i).kids rest, times_more j i rest))

    likes_stage : (i : ℕ) (d e : Stages) (m n : Stage) → Like i m n → Likes d e → Likes (stage i m d) (stage i n e)
    unfolding Likes
    likes_stage i d e m n h l j = go (eqb j i) refl
      where
        go : (b : Bool) → eqb j i ≡ b → Like j (cond (eqb j i) m (d j)) (cond (eqb j i) n (e j))
        go true q = let p : j ≡ i = eqb-true j i q in rw (q, p) h
        go false q = rw q (l j)

    like_taken : (j : ℕ) (m n : Stage) → m ≡ taken → Like j m n → n ≡ taken
    like_taken j m n e (alike x) = e
    like_taken j m n e (moved v k) = refl
    like_taken j m n e (void o) = refl

    -- a new stage of a fresh node leaves what is taken out
    stage_stays : (i : ℕ) (m : Stage) (d c : Stages) (j : ℕ) → d i ≡ fresh → d j ≡ taken → c j ≡ taken → stage i m c j ≡ taken
    stage_stays i m d c j f x y = go (staged i m c j)
      where
        go : Staged i m c j → stage i m c j ≡ taken
        go (same p q) = absurd (let u : d i ≡ taken = ap d (sym p) ∙ x in let z : ◌≡◌ {A = ℕ} 0 1 = cc in omega arith)
        go (other p q) = q ∙ y

    taken_at : (i : ℕ) (d : Stages) → stage i taken d i ≡ taken
    taken_at i d = rw (eq-eqb i i refl)

    finish_follows : (i : ℕ) (rest : List ℕ) (d e : Stages) (p q : Forest × Stages) → d i ≡ fresh → FollowsEach (stage i taken d) rest p.0 q.0 p.1 q.1
        → Follows d rest (finish t i p).0 (finish_moving t keep i q).0 (finish t i p).1 (finish_moving t keep i q).1
    unfolding finish finish_moving freshness Once Likes
    finish_follows i rest d e p q f m =
        record { value = ap (λ (c : Forest). record { label = (at t i).label; contents = c }) m.forest; likes = go (keep i) refl; once = λ j k. after j k (staged i (kept v) p.1 j); later = λ j. less j (staged i (kept v) p.1 j) (staged i taken d j); stays = λ j x. stage_stays i (kept v) d p.1 j f x (m.stays j (kept_out j x (staged i taken d j))) }
      where
        v : Value
        v = record { label = (at t i).label; contents = p.0 }

        w : Value
        w = record { label = (at t i).label; contents = q.0 }

        w_v : w ≡ v
        w_v = ap (λ (c : Forest). record { label = (at t i).label; contents = c }) m.forest

        out_i : p.1 i ≡ taken
        out_i = m.stays i (taken_at i d)

        kept_out : (j : ℕ) → d j ≡ taken → Staged i taken d j → stage i taken d j ≡ taken
        kept_out j x (same a b) = b
        kept_out j x (other a b) = b ∙ x

        one_like : keep i ≡ false → (j : ℕ) → Staged i (kept v) p.1 j → Like j (stage i (kept v) p.1 j) (q.1 j)
        one_like k j (same a b) =
            let u : q.1 j ≡ taken = ap q.1 a ∙ like_taken i (p.1 i) (q.1 i) out_i (m.likes i) in
            rw (b, u) (moved v (ap keep a ∙ k))
        one_like k j (other a b) = rw b (m.likes j)

        go : (b : Bool) → keep i ≡ b → Likes (stage i (kept v) p.1) (cond (keep i) (stage i (kept w) q.1) q.1)
        go true k = rw (k, w_v) (likes_stage i p.1 q.1 (kept v) (kept v) (alike (kept v)) m.likes)
        go false k = rw k (λ j. one_like k j (staged i (kept v) p.1 j))

        after : (j : ℕ) → keep j ≡ false → Staged i (kept v) p.1 j → open_refs t reached (stage i (kept v) p.1) j (length t) + times j rest ≤ freshness (stage i (kept v) p.1 j)
        after j k (same a b) =
            let u : freshness (p.1 j) ≡ 0 = let y : p.1 j ≡ taken = ap p.1 a ∙ out_i in rw y in
            rw b (omega (arith, m.once j k, open_stage t reached p.1 i j (kept v) (length t) refl))
        after j k (other a b) = rw b (omega (arith, m.once j k, open_stage t reached p.1 i j (kept v) (length t) refl))

        less : (j : ℕ) → Staged i (kept v) p.1 j → Staged i taken d j → freshness (stage i (kept v) p.1 j) ≤ freshness (d j)
        less j (same a b) x = rw b (omega arith)
        less j (other a b) (same a' b') = absurd (a a')
        less j (other a b) (other a' b') = let y : freshness (p.1 j) ≤ freshness (d j) = let h = m.later j in rw b' at h in rw b y

    build_follows : (k i : ℕ) (rest : List ℕ) (d e : Stages) → reached i ≡ true → Likes d e → Once d (i ∷ rest)
        → Follows d rest (build t k i d).0 (build_refs t keep k i e).0 (build t k i d).1 (build_refs t keep k i e).1
    unfolding build build_refs freshness Once Likes blocked
    build_follows zero i rest d e r l o = record { value = refl; likes = l; once = once_rest d i rest o; later = λ j. omega arith; stays = λ j x. x }
    build_follows (suc k) i rest d e r l o = go (d i) (e i) refl refl (l i) (build_follows k)
      where
        More : Type 0
        More = (j : ℕ) (s : List ℕ) (c b : Stages) → reached j ≡ true → Likes c b → Once c (j ∷ s) → Follows c s (build t k j c).0 (build_refs t keep k j b).0 (build t k j c).1 (build_refs t keep k j b).1

        Goal : Type 0
        Goal = Follows d rest (build t (suc k) i d).0 (build_refs t keep (suc k) i e).0 (build t (suc k) i d).1 (build_refs t keep (suc k) i e).1

        new : d i ≡ fresh → e i ≡ fresh → (x : Bool) → blocked t d i ≡ x → More → Goal
        new f u true b ih =
            let c : blocked t e i ≡ true = blocked-same i rest d e f r l o ∙ b in
            rw (f, u, b, c, build, build_refs) (record {
              value = refl;
              likes = likes_stage i d e (kept none) taken (void (and_first (is_object (at t i).label) (first_taken d (at t i).kids) b)) l;
              once = λ j q. omega (arith, once_stage i rest d (kept none) refl f r o j q, times-append j (at t i).kids rest);
              later = λ j. late j (staged i (kept none) d j);
              stays = λ j x. stage_stays i (kept none) d d j f x x;
            })
          where
            late : (j : ℕ) → Staged i (kept none) d j → freshness (stage i (kept none) d j) ≤ freshness (d j)
            late j (same p q) = rw q (omega arith)
            late j (other p q) = rw q (omega arith)
        new f u false b ih =
            let c : blocked t e i ≡ false = blocked-same i rest d e f r l o ∙ b in
            rw (f, u, b, c, build, build_refs) (finish_follows i rest d e _ _ f (each_follows (build t k) (build_refs t keep k) ih (at t i).kids rest (stage i taken d) (stage i taken e) (λ j m. reached-in i j r m) (likes_stage i d e taken taken (alike taken) l) (once_stage i rest d taken refl f r o)))

        go : (m n : Stage) → d i ≡ m → e i ≡ n → Like i m n → More → Goal
        go m n p u (alike (kept v)) ih = rw (p, u, build, build_refs) (record { value = refl; likes = l; once = once_rest d i rest o; later = λ j. omega arith; stays = λ j x. x })
        go m n p u (alike taken) ih = rw (p, u, build, build_refs) (record { value = refl; likes = l; once = once_rest d i rest o; later = λ j. omega arith; stays = λ j x. x })
        go m n p u (alike fresh) ih = new p u (blocked t d i) refl ih
        go m n p u (moved v q) ih = absurd (let c : open_refs t reached d i (length t) + times i (i ∷ rest) ≤ 0 = let h = o i q in rw p at h in omega (arith, c, times-here i rest))
        go m n p u (void ob) ih = rw (p, u, build, build_refs) (record { value = refl; likes = l; once = once_rest d i rest o; later = λ j. omega arith; stays = λ j x. x })

-- The tree of the Rust's builder. `reached` are the nodes that `count` goes through: the root, and with a node its children.
unfoldable pub tree_refs : List Node → (ℕ → Bool) → ℕ → Value
tree_refs t reached root = (build_refs t (λ j. ltb 1 (refs t reached root j)) (suc (length t)) root unbuilt).0

pub refs-same : (t : List Node) (reached : ℕ → Bool) (root : ℕ) → Shaped t → reached root ≡ true
    → ((i j : ℕ) → reached i ≡ true → In j (at t i).kids → reached j ≡ true)
    → tree_refs t reached root ≡ tree t root
unfolding tree_refs tree Likes Once freshness refs
refs-same t reached root h r c =
    (build_follows t reached (λ j. ltb 1 (refs t reached root j)) c (λ i o. object_of t (at t i).label (at t i).kids (right_at t h i) o) (suc (length t)) root [] unbuilt unbuilt r (λ j. alike fresh)
    (λ j k. let u = ltb-false 1 (refs t reached root j) k in omega (arith, u, open_all t reached j (length t)))).value
