-- What the code's answers say, and one law for each of its returns.
use Prim.Native.Nat.{ℕ, suc, zero, ◌+◌, ◌-◌, ◌*◌, ◌≤◌, ◌<◌}
use Rattle.std.specs.Prelude.{Bool, ◌&&◌, List, ◌≡◌, ◌≢◌, ◌⊎◌, length, get_or, eqb, ltb}
use Rattle.std.proofs.Math.Bool.{true, false, cond, and-false}
use Rattle.std.proofs.Math.Path.{refl, sym, ap}
use Rattle.std.proofs.Common.{◌∙◌, inl, inr, length-drop}
use Rattle.std.proofs.Math.ListN.{drop}
use borrow.Author.Tests.{eq-eqb, ne_eqb, lt-ltb, le-ltb}
use native.Mathlib.Omega.{arith}
use Rattle.value.specs.Value.{Forest, text_of, count, size, record_of, count-size, nil, node}
use Rattle.value.specs.Shape.{kind_in, holding}
use Rattle.value.specs.Stands.{word_at, label_at, arity_at, Stands}
use Rattle.value.specs.WellFormed.{proper, ascending, keys}
use Rattle.table.specs.Find.{Found, bad, good, has_record, close, join, find_many, find}
use Rattle.table.specs.Record.{EachBelow, each_below, right0, right1, right2, right3, span_of, back0, back1, back2, back3, back_text, misfit, right_known, arity_object}
use Rattle.table.specs.Sound.{find-placed, contents-placed, placed_stands}
use Rattle.table.specs.Names.{valid_in, proper_parts, names_right, names_back}
use Rattle.table.specs.Items.{Held, picked, arranged_by, ordered_back}
use Rattle.std.specs.declared.option.Option.{Option}
use Rattle.std.specs.declared.option.Option.TheVariants.{None, Some}

-- n records and a text that have been lent, within the numbers of RULES A2.4
pub record Lent (w : List ℕ) (n : ℕ) (t : List ℕ) : Type 0 where
  pub room : 4 * n ≤ length w
  pub few : n ≤ 2048
  pub short : length t ≤ 65536

-- the code keeps the places of what is found, and not the value
unfoldable pub checked_of : Found → Option (ℕ × ℕ)
checked_of bad = None
checked_of (good f j e) = Some (j, e)

-- words 2 and 3 of record i are right for z records
unfoldable pub sizes_right : List ℕ → ℕ → ℕ → Bool
sizes_right w i z = eqb (word_at w i 2) (right2 (kind_in (word_at w i 0)) (word_at w i 2) z) && eqb (word_at w i 3) (right3 (kind_in (word_at w i 0)) z)

-- a right head: s bytes of text at p, m values directly in it
pub record Header (w : List ℕ) (n : ℕ) (t : List ℕ) (i p s m : ℕ) : Type 0 where
  pub known : kind_in (word_at w i 0) < 13
  pub first : word_at w i 0 ≡ right0 (word_at w i 0)
  pub second : word_at w i 1 ≡ right1 (kind_in (word_at w i 0)) (word_at w i 1) p
  pub fit : span_of (kind_in (word_at w i 0)) (word_at w i 2) ≤ length (drop (word_at w i 1) t)
  pub long : s ≡ length (text_of (label_at w t i))
  pub inside : p + s ≤ length t
  pub arity : m ≡ arity_at w i
  pub few : i + 1 + m ≤ n
  pub names : valid_in (label_at w t i) ≡ true

-- a wrong head is found at no depth
unfoldable pub HeadSays : List ℕ → ℕ → List ℕ → ℕ → ℕ → Option (ℕ × ℕ) → Type 0
HeadSays w n t i p None = (k : ℕ) → find w n t k i p ≡ bad
HeadSays w n t i p (Some (s, m)) = Header w n t i p s m

-- what is found at a record with nothing in it, whatever the table's count and at any depth
abbrev pub LeafSays : List ℕ → List ℕ → ℕ → ℕ → Option (ℕ × ℕ) → Type 0
LeafSays w t i p r = (n k : ℕ) → Lent w n t → i < n → k ≢ 0 → r ≡ checked_of (find w n t k i p)

-- record i is right for the m values behind it as far as record j: its sizes are, and their order
abbrev pub Closes : List ℕ → List ℕ → ℕ → ℕ → ℕ → Bool → Type 0
Closes w t i j m r = (f : Forest) → Stands w t (i + 1) f → count f ≡ m → r ≡ (sizes_right w i (j - i) && arranged_by (kind_in (word_at w i 0)) f)

-- ---- an answer read back

-- a value was found
pub record Good-of (s : Found) (j e : ℕ) : Type 0 where
  pub forest : Forest
  pub is : s ≡ good forest j e

pub was_good : (s : Found) {j e : ℕ} → checked_of s ≡ Some (j, e) → Good-of s j e
unfolding checked_of
was_good bad h = let z : ◌≡◌ {A = ℕ} 0 1 = cc in absurd (omega arith)
was_good (good f j₁ e₁) {j} {e} h = record { forest = f; is = let q : ◌≡◌ {A = ℕ × ℕ} (j₁, e₁) (j, e) = cc in rw (ap (λ x. x.0) q, ap (λ x. x.1) q) }

pub was_bad : (s : Found) → checked_of s ≡ None → s ≡ bad
unfolding checked_of
was_bad bad h = refl
was_bad (good f j e) h = let z : ◌≡◌ {A = ℕ} 0 1 = cc in absurd (omega arith)

pub is_bad : (s : Found) → s ≡ bad → None ≡ checked_of s
unfolding checked_of
is_bad s e = rw e

-- ---- no value at all

pub find_out : (w : List ℕ) (n : ℕ) (t : List ℕ) (k i p : ℕ) → k ≡ 0 → find w n t k i p ≡ bad
unfolding find
find_out w n t k i p h = rw h

pub find_past : (w : List ℕ) (n : ℕ) (t : List ℕ) (k i p : ℕ) → i ≡ n → find w n t k i p ≡ bad
unfolding find
find_past w n t zero i p h = refl
find_past w n t (suc k) i p h = rw (le-ltb i n (omega arith))

-- ---- m values one after the other

answer_join : (f : Forest) (s : Found) → checked_of (join f s) ≡ checked_of s
unfolding checked_of join
answer_join f bad = refl
answer_join f (good r j e) = refl

module _ (g : ℕ → ℕ → Found) (m i p : ℕ) where
  pub row_done : m ≡ 0 → Some (i, p) ≡ checked_of (find_many g m i p)
  unfolding find_many checked_of
  row_done h = rw h

  pub row_bad : 0 < m → checked_of (g i p) ≡ None → None ≡ checked_of (find_many g m i p)
  unfolding find_many checked_of
  row_bad h e = go m h
    where
      go : (x : ℕ) → 0 < x → None ≡ checked_of (find_many g x i p)
      go zero l = absurd (omega arith)
      go (suc x) l = rw (was_bad (g i p) e, find_many)

  pub row_next : {j e : ℕ} → 0 < m → checked_of (g i p) ≡ Some (j, e) → checked_of (find_many g (m - 1) j e) ≡ checked_of (find_many g m i p)
  unfolding find_many
  row_next {j} {e} h q = go m h
    where
      go : (x : ℕ) → 0 < x → checked_of (find_many g (x - 1) j e) ≡ checked_of (find_many g x i p)
      go zero l = absurd (omega arith)
      go (suc x) l = let a : suc x - 1 ≡ x = omega arith in let b = was_good (g i p) q in rw (a, b.is, find_many) (sym (answer_join b.forest (find_many g x j e)))

-- ---- a record's head

-- a record has no text, or its text is where it says
span_place : (a b c p : ℕ) → kind_in a < 13 → b ≡ right1 (kind_in a) b p → (span_of (kind_in a) c ≡ 0) ⊎ (b ≡ p)
unfolding right1 span_of EachBelow
span_place a b c p known =
    each_below 13 (λ k. b ≡ right1 k b p → (span_of k c ≡ 0) ⊎ (b ≡ p))
    ((λ e. inl refl), ((λ e. inl refl), ((λ e. inl refl), ((λ e. inl refl), ((λ e. inr e), ((λ e. inr e), ((λ e. inl refl), ((λ e. inl refl), ((λ e. inl refl), ((λ e. inl refl), ((λ e. inl refl), ((λ e. inr e), ((λ e. inr e), tt))))))))))))) (kind_in a) known

second_no : (a b c d x : Bool) → b ≡ false → (((a && b) && (c && d)) && x) ≡ false
second_no true b c d x e = rw e
second_no false b c d x e = refl

third_no : (a b c d x : Bool) → c ≡ false → (((a && b) && (c && d)) && x) ≡ false
third_no true true c d x e = rw e
third_no true false c d x e = refl
third_no false b c d x e = refl

module _ (w : List ℕ) (n : ℕ) (t : List ℕ) (lent : Lent w n t) (i p : ℕ) (b : p ≤ length t) where
  close_bad : (s : Found) → ((c : Forest) (j e : ℕ) → s ≡ good c j e → (has_record w i (record_of (label_at w t i) p (arity_at w i) (suc (size c))) && proper (label_at w t i) c) ≡ false) → close w i p (label_at w t i) (arity_at w i) s ≡ bad
  unfolding close
  close_bad bad h = refl
  close_bad (good c j e) h = rw (h c j e refl)

  -- whatever its contents are, the record is wrong, or they do not suit it
  wrong : ((k : ℕ) (c : Forest) (j e : ℕ) → find_many (find w n t k) (arity_at w i) (i + 1) (p + length (text_of (label_at w t i))) ≡ good c j e → (has_record w i (record_of (label_at w t i) p (arity_at w i) (suc (size c))) && proper (label_at w t i) c) ≡ false) → (k : ℕ) → find w n t k i p ≡ bad
  unfolding find
  wrong h zero = refl
  wrong h (suc k) = go (ltb i n) (close_bad _ (h k))
    where
      go : (q : Bool) {s : Found} → s ≡ bad → cond q s bad ≡ bad
      go true e = e
      go false e = refl

  same0 : (z : ℕ) (x : Bool) → word_at w i 0 ≢ right0 (word_at w i 0) → (has_record w i (record_of (label_at w t i) p (arity_at w i) z) && x) ≡ false
  unfolding has_record label_at arity_at
  same0 z x h = rw (back0 (word_at w i 0) (word_at w i 1) (word_at w i 2) (drop (word_at w i 1) t), ne_eqb _ _ h)

  pub wrong_first : word_at w i 0 ≢ right0 (word_at w i 0) → (k : ℕ) → find w n t k i p ≡ bad
  wrong_first h = wrong (λ k c j e q. same0 (suc (size c)) (proper (label_at w t i) c) h)

  module _ (first : word_at w i 0 ≡ right0 (word_at w i 0)) where
    pub known : kind_in (word_at w i 0) < 13
    known = right_known (word_at w i 0) first

    same1 : (z : ℕ) (x : Bool) → word_at w i 1 ≢ right1 (kind_in (word_at w i 0)) (word_at w i 1) p → (has_record w i (record_of (label_at w t i) p (arity_at w i) z) && x) ≡ false
    unfolding has_record label_at arity_at
    same1 z x h =
        let r = record_of (label_at w t i) p (arity_at w i) z in
        let e = back1 (word_at w i 0) (word_at w i 1) (word_at w i 2) p z (drop (word_at w i 1) t) known in
        second_no (eqb (word_at w i 0) (get_or r 0 0)) (eqb (word_at w i 1) (get_or r 1 0)) (eqb (word_at w i 2) (get_or r 2 0)) (eqb (word_at w i 3) (get_or r 3 0)) x (ne_eqb (word_at w i 1) (get_or r 1 0) (λ q. h (q ∙ e)))

    pub wrong_second : word_at w i 1 ≢ right1 (kind_in (word_at w i 0)) (word_at w i 1) p → (k : ℕ) → find w n t k i p ≡ bad
    wrong_second h = wrong (λ k c j e q. same1 (suc (size c)) (proper (label_at w t i) c) h)

    module _ (second : word_at w i 1 ≡ right1 (kind_in (word_at w i 0)) (word_at w i 1) p) where
      same2 : (z : ℕ) (x : Bool) → length (drop (word_at w i 1) t) < span_of (kind_in (word_at w i 0)) (word_at w i 2) → (has_record w i (record_of (label_at w t i) p (arity_at w i) z) && x) ≡ false
      unfolding has_record label_at arity_at
      same2 z x h =
          let r = record_of (label_at w t i) p (arity_at w i) z in
          third_no (eqb (word_at w i 0) (get_or r 0 0)) (eqb (word_at w i 1) (get_or r 1 0)) (eqb (word_at w i 2) (get_or r 2 0)) (eqb (word_at w i 3) (get_or r 3 0)) x (ne_eqb (word_at w i 2) (get_or r 2 0) (λ q. misfit (word_at w i 0) (word_at w i 1) (word_at w i 2) p z (drop (word_at w i 1) t) known h (sym q)))

      pub wrong_span : length t - p < span_of (kind_in (word_at w i 0)) (word_at w i 2) → (k : ℕ) → find w n t k i p ≡ bad
      wrong_span h = wrong (λ k c j e q. same2 (suc (size c)) (proper (label_at w t i) c) (go (span_place (word_at w i 0) (word_at w i 1) (word_at w i 2) p known second)))
        where
          go : (span_of (kind_in (word_at w i 0)) (word_at w i 2) ≡ 0) ⊎ (word_at w i 1 ≡ p) → length (drop (word_at w i 1) t) < span_of (kind_in (word_at w i 0)) (word_at w i 2)
          go (inl e) = absurd (omega arith)
          go (inr e) = rw (e, length-drop p t) h

      module _ (third : span_of (kind_in (word_at w i 0)) (word_at w i 2) ≤ length t - p) where
        fit : span_of (kind_in (word_at w i 0)) (word_at w i 2) ≤ length (drop (word_at w i 1) t)
        fit = go (span_place (word_at w i 0) (word_at w i 1) (word_at w i 2) p known second)
          where
            go : (span_of (kind_in (word_at w i 0)) (word_at w i 2) ≡ 0) ⊎ (word_at w i 1 ≡ p) → span_of (kind_in (word_at w i 0)) (word_at w i 2) ≤ length (drop (word_at w i 1) t)
            go (inl e) = omega arith
            go (inr e) = rw (e, length-drop p t) third

        long : length (text_of (label_at w t i)) ≡ span_of (kind_in (word_at w i 0)) (word_at w i 2)
        unfolding label_at
        long = back_text (word_at w i 0) (word_at w i 1) (word_at w i 2) p 0 (drop (word_at w i 1) t) known fit

        pub wrong_many : i < n → n - i - 1 < arity_at w i → (k : ℕ) → find w n t k i p ≡ bad
        wrong_many lt h = wrong (λ k c j e q.
            let l = long in
            let a = contents-placed w n t lent.room k (arity_at w i) (i + 1) (p + length (text_of (label_at w t i))) (omega arith) q in
            let m = a.counted in
            let x = a.next in
            let y = count-size c in
            let z = a.within (omega arith) in
            absurd (omega arith))

        pub wrong_names : names_right (kind_in (word_at w i 0)) (word_at w i 2) (drop p t) ≡ false → (k : ℕ) → find w n t k i p ≡ bad
        unfolding label_at
        wrong_names h = wrong (λ k c j e q. rw (proper_parts (label_at w t i) c, names_back (word_at w i 0) (word_at w i 1) (word_at w i 2) p t known second, h) (and-false (has_record w i (record_of (label_at w t i) p (arity_at w i) (suc (size c))))))

        pub header : {s m : ℕ} → s ≡ span_of (kind_in (word_at w i 0)) (word_at w i 2) → m ≡ arity_at w i → i + 1 + m ≤ n → names_right (kind_in (word_at w i 0)) (word_at w i 2) (drop p t) ≡ true → Header w n t i p s m
        unfolding label_at
        header x y few names =
            record {
              known = known;
              first = first;
              second = second;
              fit = fit;
              long = x ∙ sym long;
              inside = omega arith;
              arity = y;
              few = few;
              names = names_back (word_at w i 0) (word_at w i 1) (word_at w i 2) p t known second ∙ names;
            }

-- ---- what is left to do after a right head: its contents, its sizes, their order

module _ (w : List ℕ) (n : ℕ) (t : List ℕ) (i p s m : ℕ) (h : Header w n t i p s m) where
  head_same : (z : ℕ) → has_record w i (record_of (label_at w t i) p m z) ≡ sizes_right w i z
  unfolding has_record label_at arity_at sizes_right
  head_same z =
      let a = word_at w i 0 in
      let b = word_at w i 1 in
      let c = word_at w i 2 in
      let x = drop b t in
      rw (h.arity, back0 a b c x, back1 a b c p z x h.known, back2 a b c p z x h.known h.fit, back3 a b c p z x h.known, eq-eqb a (right0 a) h.first, eq-eqb b (right1 (kind_in a) b p) h.second)

  head_proper : (f : Forest) → proper (label_at w t i) f ≡ arranged_by (kind_in (word_at w i 0)) f
  unfolding label_at
  head_proper f = proper_parts (label_at w t i) f ∙ rw h.names (ordered_back (word_at w i 0) (word_at w i 1) (word_at w i 2) _ f h.known)

  module _ (k : ℕ) (some : k ≢ 0) where
    inner : Found
    inner = find_many (find w n t (k - 1)) m (i + 1) (p + s)

    opened : find w n t k i p ≡ close w i p (label_at w t i) m inner
    unfolding find inner
    opened = go k some
      where
        go : (q : ℕ) → q ≢ 0 → find w n t q i p ≡ close w i p (label_at w t i) m (find_many (find w n t (q - 1)) m (i + 1) (p + s))
        go zero x = absurd (x refl)
        go (suc q) x = let e : suc q - 1 ≡ q = omega arith in let f = h.few in rw (lt-ltb i n (omega arith), ← h.arity, ← h.long, e)

    inner_bad : checked_of (find_many (find w n t (k - 1)) m (i + 1) (p + s)) ≡ None → find w n t k i p ≡ bad
    unfolding close inner
    inner_bad e = opened ∙ rw (was_bad inner e)

    -- where the contents are found, their sizes and their order decide
    ended : (c : Forest) (j e : ℕ) → find_many (find w n t (k - 1)) m (i + 1) (p + s) ≡ good c j e → checked_of (find w n t k i p) ≡ cond {A = Option (ℕ × ℕ)} (sizes_right w i (suc (size c)) && arranged_by (kind_in (word_at w i 0)) c) (Some (j, e)) None
    unfolding close inner checked_of
    ended c j e found =
        let q : find w n t k i p ≡ cond (sizes_right w i (suc (size c)) && arranged_by (kind_in (word_at w i 0)) c) (good (node (label_at w t i) c nil) j e) bad = opened ∙ rw (found, head_same (suc (size c)), head_proper c) in
        ap checked_of q ∙ go (sizes_right w i (suc (size c)) && arranged_by (kind_in (word_at w i 0)) c)
      where
        go : (q : Bool) → checked_of (cond q (good (node (label_at w t i) c nil) j e) bad) ≡ cond {A = Option (ℕ × ℕ)} q (Some (j, e)) None
        go true = refl
        go false = refl

-- nothing has to be in order in a record with nothing in it
nothing_arranged : (k : ℕ) → k < 13 → holding k ≡ false → arranged_by k nil ≡ true
unfolding arranged_by picked ascending keys EachBelow
nothing_arranged =
    each_below 13 (λ k. holding k ≡ false → arranged_by k nil ≡ true)
    ((λ e. refl), ((λ e. refl), ((λ e. refl), ((λ e. refl), ((λ e. refl), ((λ e. refl), ((λ e. refl), ((λ e. refl), ((λ e. refl), ((λ e. refl), ((λ e. refl), ((λ e. refl), ((λ e. sym e), tt)))))))))))))

-- a right head with nothing in it: its sizes decide
module _ (w : List ℕ) (n : ℕ) (t : List ℕ) (i p s : ℕ) (h : Header w n t i p s 0) (none : holding (kind_in (word_at w i 0)) ≡ false) (k : ℕ) (some : k ≢ 0) where
  pub leaf-ended : (r : Bool) → r ≡ sizes_right w i 1 → cond {A = Option (ℕ × ℕ)} r (Some (i + 1, p + s)) None ≡ checked_of (find w n t k i p)
  unfolding find_many size
  leaf-ended r e = sym (ended w n t i p s 0 h k some nil (i + 1) (p + s) refl ∙ rw (nothing_arranged (kind_in (word_at w i 0)) h.known none, ← e) (go r))
    where
      go : (b : Bool) → cond {A = Option (ℕ × ℕ)} (b && true) (Some (i + 1, p + s)) None ≡ cond {A = Option (ℕ × ℕ)} b (Some (i + 1, p + s)) None
      go true = refl
      go false = refl

-- ---- a head and contents that the code was told of

pub told_wrong : {r : Option (ℕ × ℕ)} (w : List ℕ) (n : ℕ) (t : List ℕ) (i p : ℕ) → HeadSays w n t i p r → r ≡ None → (k : ℕ) → find w n t k i p ≡ bad
unfolding HeadSays
told_wrong w n t i p h e = rw e at h

pub told_right : {r : Option (ℕ × ℕ)} (w : List ℕ) (n : ℕ) (t : List ℕ) (i p : ℕ) {s m : ℕ} → HeadSays w n t i p r → r ≡ Some (s, m) → Header w n t i p s m
unfolding HeadSays
told_right w n t i p h e = rw e at h

-- the contents of a right head, found up to record j and e in the text
pub record ContentsFound (w : List ℕ) (n : ℕ) (t : List ℕ) (i p s m k j e : ℕ) : Type 0 where
  pub contents : Forest
  pub found : find_many (find w n t (k - 1)) m (i + 1) (p + s) ≡ good contents j e
  pub held : Held w t (i + 1) m
  pub stands : Stands w t (i + 1) contents
  pub counted : count contents ≡ m
  pub whole : j - i ≡ suc (size contents)
  pub after : i ≤ j

pub contents_found : (w : List ℕ) (n : ℕ) (t : List ℕ) (i p s m k j e : ℕ) → Lent w n t → Header w n t i p s m → checked_of (find_many (find w n t (k - 1)) m (i + 1) (p + s)) ≡ Some (j, e) → ContentsFound w n t i p s m k j e
contents_found w n t i p s m k j e lent h q =
    let a = was_good (find_many (find w n t (k - 1)) m (i + 1) (p + s)) q in
    let b = contents-placed w n t lent.room (k - 1) m (i + 1) (p + s) h.inside a.is in
    let x = placed_stands w n t m (k - 1) (i + 1) (p + s) a.forest j e h.inside b in
    let y = b.next in
    record {
      contents = a.forest;
      found = a.is;
      held = record { values = a.forest; stands = x; sized = b.sized; counted = b.counted };
      stands = x;
      counted = b.counted;
      whole = omega arith;
      after = omega arith;
    }

-- one law for each of the answers about a record with values in it
module _ (w : List ℕ) (n : ℕ) (t : List ℕ) (i p k : ℕ) (lent : Lent w n t) (some : k ≢ 0) {r : Option (ℕ × ℕ)} (says : HeadSays w n t i p r) where
  pub answer_wrong : r ≡ None → None ≡ checked_of (find w n t k i p)
  answer_wrong e = is_bad _ (told_wrong w n t i p says e k)

  module _ {s m : ℕ} (e : r ≡ Some (s, m)) where
    pub right : Header w n t i p s m
    right = told_right w n t i p says e

    pub answer_bad : checked_of (find_many (find w n t (k - 1)) m (i + 1) (p + s)) ≡ None → None ≡ checked_of (find w n t k i p)
    answer_bad q = is_bad _ (inner_bad w n t i p s m right k some q)

    module _ {j u : ℕ} (q : checked_of (find_many (find w n t (k - 1)) m (i + 1) (p + s)) ≡ Some (j, u)) where
      pub held : ContentsFound w n t i p s m k j u
      held = contents_found w n t i p s m k j u lent right q

      pub answer_closed : (b : Bool) → Closes w t i j m b → cond {A = Option (ℕ × ℕ)} b (Some (j, u)) None ≡ checked_of (find w n t k i p)
      answer_closed b h =
          sym (ended w n t i p s m right k some held.contents j u held.found ∙ rw (← held.whole, ← h held.contents held.stands held.counted))

-- where a value is found its end is inside
pub find-within : (w : List ℕ) (n : ℕ) (t : List ℕ) (k i p : ℕ) {j e : ℕ} → Lent w n t → i ≤ n → p ≤ length t → checked_of (find w n t k i p) ≡ Some (j, e) → (j ≤ n) × (e ≤ length t)
find-within w n t k i p lent l b q =
    let a = was_good (find w n t k i p) q in
    let c = find-placed w n t lent.room k i p a.forest _ _ b a.is in
    (c.within l, c.inside)

-- an Object has arguments
pub object-some : (w : List ℕ) (n : ℕ) (t : List ℕ) (i p s m : ℕ) → Header w n t i p s m → kind_in (word_at w i 0) ≡ 12 → 1 ≤ m
unfolding arity_at
object-some w n t i p s m h e = let q = arity_object (word_at w i 0) (word_at w i 1) 12 (sym e) refl in let x = h.arity in omega arith
