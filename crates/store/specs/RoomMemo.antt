-- The memo as two rooms, its numbers and their nodes: what `memo_find`, `memo_has` and `memo_insert` say of them.
use Prim.Native.Nat.{ℕ, suc, zero, ◌+◌, ◌<◌, ◌≤◌, max}
use Rattle.std.specs.Prelude.{Bool, true, false, cond, ◌≢◌, ◌≡◌, refl, length, get_or, take, set, eqb, ltb}
use mathlib.Core.List.{List, [], ◌∷◌, ◌++◌}
use Rattle.std.proofs.Common.{sym, ◌∙◌, ap, take-suc-set, length-take-le, get_or-take, get_or-set_same, get_or-set_other}
use Rattle.std.proofs.Math.Seq.{take-set-lt}
use borrow.Author.Tests.{eq-eqb, ne_eqb, ltb-true, ltb-false}
use Rattle.std.proofs.Math.Decide.{ℕ_discrete}
use native.Mathlib.Omega.{arith}
use Rattle.refusal.specs.declared.Refusal.TheVariants.{MissingMemo}
use Rattle.steps.specs.State.{ok, memo_find, memo_has, memo_insert}
use Rattle.steps.specs.State as state
use Rattle.steps.specs.Memo.{find_missing}
use Rattle.store.specs.Rooms.{entries, Absent, Passed, Numbered}

entries-append : (ks hs : List ℕ) (k h : ℕ) → length ks ≡ length hs → entries (ks ++ (k ∷ [])) (hs ++ (h ∷ [])) ≡ entries ks hs ++ ((k, h) ∷ [])
unfolding entries
entries-append [] [] k h e = refl
entries-append [] (y ∷ hs) k h e = absurd (omega arith)
entries-append (x ∷ ks) [] k h e = absurd (omega arith)
entries-append (x ∷ ks) (y ∷ hs) k h e = ap ((x, y) ∷◌) (entries-append ks hs k h (omega arith))

entries-length : (ks hs : List ℕ) → length ks ≡ length hs → length (entries ks hs) ≡ length ks
unfolding entries
entries-length [] hs e = refl
entries-length (x ∷ ks) [] e = absurd (omega arith)
entries-length (x ∷ ks) (y ∷ hs) e = ap suc (entries-length ks hs (omega arith))

insert_new : (m : List (ℕ × ℕ)) (k i : ℕ) → memo_has m k ≡ false → memo_insert m k i ≡ m ++ ((k, i) ∷ [])
unfolding memo_insert memo_has
insert_new [] k i h = refl
insert_new (e ∷ m) k i h = go (eqb k e.0) h (insert_new m k i)
  where
    go : (b : Bool) → cond b true (memo_has m k) ≡ false → (memo_has m k ≡ false → memo_insert m k i ≡ m ++ ((k, i) ∷ [])) → cond b ((k, i) ∷ m) (e ∷ memo_insert m k i) ≡ e ∷ (m ++ ((k, i) ∷ []))
    go true h f = let c : ◌≡◌ {A = ℕ} 0 1 = cc in absurd (omega arith)
    go false h f = ap (e ∷◌) (f h)

has_entries : (ks hs : List ℕ) (k : ℕ) → Absent ks (length ks) k → memo_has (entries ks hs) k ≡ false
unfolding memo_has entries Absent
has_entries [] hs k h = refl
has_entries (x ∷ ks) [] k h = refl
has_entries (x ∷ ks) (y ∷ hs) k h = rw (ne_eqb k x (λ e. h 0 (omega arith) (sym e))) (has_entries ks hs k (λ i l. h (suc i) (omega arith)))

module _ (k i : ℕ) where
  insert-entries : (ks hs : List ℕ) (j : ℕ) → j < length ks → j < length hs → get_or ks j 0 ≡ k → Absent ks j k → entries ks (set hs j i) ≡ memo_insert (entries ks hs) k i
  unfolding entries memo_insert Absent
  insert-entries [] hs j l l' e h = absurd (omega arith)
  insert-entries (x ∷ ks) [] j l l' e h = absurd (omega arith)
  insert-entries (x ∷ ks) (y ∷ hs) zero l l' e h = rw (e, eq-eqb k k refl)
  insert-entries (x ∷ ks) (y ∷ hs) (suc j) l l' e h = rw (ne_eqb k x (λ q. h 0 (omega arith) (sym q))) (ap ((x, y) ∷◌) (insert-entries ks hs j (omega arith) (omega arith) e (λ n m. h (suc n) (omega arith))))

find-entries : (k : ℕ) (ks hs : List ℕ) (j : ℕ) → j < length ks → j < length hs → get_or ks j 0 ≡ k → Absent ks j k → memo_find (entries ks hs) k ≡ ok (get_or hs j 0)
unfolding entries memo_find Absent
find-entries k [] hs j l l' e h = absurd (omega arith)
find-entries k (x ∷ ks) [] j l l' e h = absurd (omega arith)
find-entries k (x ∷ ks) (y ∷ hs) zero l l' e h = rw (e, eq-eqb k k refl)
find-entries k (x ∷ ks) (y ∷ hs) (suc j) l l' e h = rw (ne_eqb k x (λ q. h 0 (omega arith) (sym q))) (find-entries k ks hs j (omega arith) (omega arith) e (λ n m. h (suc n) (omega arith)))

-- the memo of the first n of two rooms
module _ (keys held : List ℕ) (n k : ℕ) (h : n ≤ length keys) (h' : n ≤ length held) where
  absent_take : (j : ℕ) → j ≤ n → Absent keys j k → Absent (take n keys) j k
  unfolding Absent
  absent_take j l a i m = rw (get_or-take n keys i 0 (omega arith)) (a i m)

  pub memo_length : length (entries (take n keys) (take n held)) ≡ n
  memo_length = entries-length (take n keys) (take n held) (length-take-le n keys h ∙ sym (length-take-le n held h')) ∙ length-take-le n keys h

  -- a number that is not there
  module _ (none : Absent keys n k) where
    pub has_absent : memo_has (entries (take n keys) (take n held)) k ≡ false
    has_absent = has_entries (take n keys) (take n held) k (rw (length-take-le n keys h) (absent_take n (omega arith) none))

    pub find_absent : memo_find (entries (take n keys) (take n held)) k ≡ state.no (MissingMemo k)
    find_absent = find_missing (entries (take n keys) (take n held)) k has_absent

    pub insert_absent : (i : ℕ) → n < length keys → n < length held → entries (take (suc n) (set keys n k)) (take (suc n) (set held n i)) ≡ memo_insert (entries (take n keys) (take n held)) k i
    insert_absent i l l' =
        rw (take-suc-set keys n k l, take-suc-set held n i l')
        (entries-append (take n keys) (take n held) k i (length-take-le n keys h ∙ sym (length-take-le n held h')) ∙ sym (insert_new (entries (take n keys) (take n held)) k i has_absent))

  -- one that stands at j first
  module _ (j : ℕ) (l : j < n) (e : get_or keys j 0 ≡ k) (before : Absent keys j k) where
    pub find_present : memo_find (entries (take n keys) (take n held)) k ≡ ok (get_or held j 0)
    find_present =
        find-entries k (take n keys) (take n held) j (rw (length-take-le n keys h) l) (rw (length-take-le n held h') l) (get_or-take n keys j 0 l ∙ e) (absent_take j (omega arith) before)
        ∙ ap ok (get_or-take n held j 0 l)

    pub insert_present : (i : ℕ) → entries (take n keys) (take n (set held j i)) ≡ memo_insert (entries (take n keys) (take n held)) k i
    insert_present i =
        rw (take-set-lt n held j i l)
        (insert-entries k i (take n keys) (take n held) j (rw (length-take-le n keys h) l) (rw (length-take-le n held h') l) (get_or-take n keys j 0 l ∙ e) (absent_take j (omega arith) before))

-- ---- different numbers, all below m

pub numbered-none : (keys : List ℕ) (m : ℕ) → Numbered keys 0 m
numbered-none keys m = record { once = λ i h. absurd (omega arith); below = λ i h. absurd (omega arith) }

module _ (keys : List ℕ) (n m : ℕ) (numbered : Numbered keys n m) where
  -- a number that is not below m is not there
  pub absent_above : (k : ℕ) → m ≤ k → Absent keys n k
  unfolding Absent
  absent_above k h i l e = let x = numbered.below i l in omega arith

  -- one that is there stands nowhere before
  pub absent_before : (i k : ℕ) → i < n → get_or keys i 0 ≡ k → Absent keys i k
  absent_before i k l e = rw e at (numbered.once i l)

  -- a number more
  module _ (k : ℕ) (room : n < length keys) (none : Absent keys n k) where
    earlier : (i : ℕ) → i < n → get_or (set keys n k) i 0 ≡ get_or keys i 0
    earlier i l = get_or-set_other keys n i k 0 (λ e. omega arith)

    latest : get_or (set keys n k) n 0 ≡ k
    latest = get_or-set_same keys n k 0 room

    same_absent : (i x : ℕ) → i ≤ n → Absent keys i x → Absent (set keys n k) i x
    unfolding Absent
    same_absent i x l a j h = rw (earlier j (omega arith)) (a j h)

    pub numbered_more : Numbered (set keys n k) (n + 1) (max m (k + 1))
    numbered_more = record { once = λ i h. first i h (ℕ_discrete i n); below = λ i h. under i h (ℕ_discrete i n) }
      where
        first : (i : ℕ) → i < n + 1 → Dec (i ≡ n) → Absent (set keys n k) i (get_or (set keys n k) i 0)
        first i h (yes e) = rw (e, latest) (same_absent n k (omega arith) none)
        first i h (no d) = let l : i < n = omega arith in rw (earlier i l) (same_absent i (get_or keys i 0) (omega arith) (numbered.once i l))

        under : (i : ℕ) → i < n + 1 → Dec (i ≡ n) → get_or (set keys n k) i 0 < max m (k + 1)
        under i h (yes e) = rw (e, latest) (omega arith)
        under i h (no d) = let l : i < n = omega arith in let x = numbered.below i l in rw (earlier i l) (omega arith)

-- ---- a search

-- none up to m, and none from there on or from before
pub passed_join : (keys : List ℕ) (i m l n k : ℕ) → Passed keys i m k → Passed keys l n k → l ≤ m → Passed keys i n k
passed_join keys i m l n k p q h j a b = go (ltb j m) refl
  where
    go : (x : Bool) → ltb j m ≡ x → get_or keys j 0 ≢ k
    go true e = p j a (ltb-true j m e)
    go false e = let z = ltb-false j m e in q j (omega arith) b
