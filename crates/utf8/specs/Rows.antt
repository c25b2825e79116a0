-- How the table cuts a text: only the rows of the first byte count, there is one at most, and the piece goes along that row as far
-- as the bytes do.
use Prim.Native.Nat.{ℕ, suc, zero, ◌≤◌, ◌<◌}
use native.Mathlib.Omega.{arith}
use Rattle.std.specs.Prelude.{Bool, ◌&&◌, ◌||◌, drop, leb, ltb}
use Rattle.std.proofs.Math.Bool.{true, false, cond}
use mathlib.Core.List.{List, [], ◌∷◌, ◌++◌}
use Rattle.std.proofs.Math.Path.{◌≡◌, refl, ap}
use Rattle.std.proofs.Common.{sym, ◌∙◌, le_of_suc-le-suc, lt_of_not-le, leb-true, ltb-true}
use Rattle.std.proofs.Math.ListN.{length, take}
use Rattle.std.proofs.Math.Seq.{take-append_seam}
use Rattle.std.proofs.lemmas.Bool.{lt-leb}
use Rattle.utf8.specs.Utf8.{ByteRow, table37, in_column, whole_row, begins, some, well_formed, initial, longest, piece}

pub and_left : (x y : Bool) → (x && y) ≡ true → x ≡ true
and_left true y h = refl
and_left false y h = h

pub and_right : (x y : Bool) → (x && y) ≡ true → y ≡ true
and_right true y h = h
and_right false y h = cc

pub both : {a b : Bool} → (a && b) ≡ true → (a ≡ true) × (b ≡ true)
both {a} {b} h = (and_left a b h, and_right a b h)

pub or-false : (x : Bool) → (x || false) ≡ x
or-false true = refl
or-false false = refl

-- what the rows whose first column has b ask of the bytes after it
unfoldable pub rows_after : ℕ → List ByteRow → List ByteRow
rows_after b [] = []
rows_after b ([] ∷ t) = rows_after b t
rows_after b ((e ∷ r) ∷ t) = cond (in_column e b) (r ∷ rows_after b t) (rows_after b t)

module _ (p : ByteRow → List ℕ → Bool) (b : ℕ) (s : List ℕ) (none : p [] (b ∷ s) ≡ false) (one : (e : ℕ × ℕ) (r : ByteRow) → p (e ∷ r) (b ∷ s) ≡ (in_column e b && p r s)) where
  some_after : (t : List ByteRow) → some (λ r. p r (b ∷ s)) t ≡ some (λ r. p r s) (rows_after b t)
  unfolding some rows_after
  some_after [] = refl
  some_after ([] ∷ t) = rw none (some_after t)
  some_after ((e ∷ r) ∷ t) = rw (one e r) (go (in_column e b) (some_after t))
    where
      go : (x : Bool) → some (λ q. p q (b ∷ s)) t ≡ some (λ q. p q s) (rows_after b t)
          → (x && p r s || some (λ q. p q (b ∷ s)) t) ≡ some (λ q. p q s) (cond x (r ∷ rows_after b t) (rows_after b t))
      go true h = ap (p r s ||◌) h
      go false h = h

pub initial-after : (b : ℕ) (s : List ℕ) → initial (b ∷ s) ≡ some (λ r. begins r s) (rows_after b table37)
unfolding initial begins
initial-after b s = some_after begins b s refl (λ e r. refl) table37

pub well_formed-after : (b : ℕ) (s : List ℕ) → well_formed (b ∷ s) ≡ some (λ r. whole_row r s) (rows_after b table37)
unfolding well_formed whole_row
well_formed-after b s = some_after whole_row b s refl (λ e r. refl) table37

-- every row of the table begins above h
unfoldable begin_above : ℕ → List ByteRow → Bool
begin_above h [] = true
begin_above h ([] ∷ t) = begin_above h t
begin_above h ((e ∷ r) ∷ t) = ltb h e.0 && begin_above h t

-- the first columns lie apart, in order, and no row has more than four columns
unfoldable apart : List ByteRow → Bool
apart [] = true
apart ([] ∷ t) = apart t
apart ((e ∷ r) ∷ t) = leb (length r) 3 && (begin_above e.1 t && apart t)

none_above : (t : List ByteRow) (h b : ℕ) → begin_above h t ≡ true → b ≤ h → rows_after b t ≡ []
unfolding begin_above rows_after in_column
none_above [] h b a l = refl
none_above ([] ∷ t) h b a l = none_above t h b a l
none_above ((e ∷ r) ∷ t) h b a l =
    let k : b < e.0 = omega (arith, ltb-true h e.0 (and_left _ _ a)) in
    rw (lt-leb e.0 b k) (none_above t h b (and_right (ltb h e.0) (begin_above h t) a) l)

-- no row, or one
pub data Few : List ByteRow → Type 0 where
  none : Few []
  one : (r : ByteRow) → length r ≤ 3 → Few (r ∷ [])

few_of : (t : List ByteRow) (b : ℕ) → apart t ≡ true → Few (rows_after b t)
unfolding apart rows_after in_column
few_of [] b h = none
few_of ([] ∷ t) b h = few_of t b h
few_of ((e ∷ r) ∷ t) b h =
    let k : (begin_above e.1 t && apart t) ≡ true = and_right (leb (length r) 3) (begin_above e.1 t && apart t) h in
    go (in_column e b) k (few_of t b (and_right (begin_above e.1 t) (apart t) k)) refl
  where
    go : (x : Bool) → (begin_above e.1 t && apart t) ≡ true → Few (rows_after b t) → in_column e b ≡ x → Few (cond x (r ∷ rows_after b t) (rows_after b t))
    go true k f w = rw (none_above t e.1 b (and_left _ (apart t) k) (leb-true b e.1 (and_right (leb e.0 b) (leb b e.1) w))) (one r (leb-true (length r) 3 (and_left _ (begin_above e.1 t && apart t) h)))
    go false k f w = f

pub few : (b : ℕ) → Few (rows_after b table37)
unfolding apart begin_above
few b = few_of table37 b refl

-- as many of the bytes as go along the row
unfoldable pub along : ByteRow → List ℕ → List ℕ
along r [] = []
along [] (c ∷ t) = []
along (e ∷ r) (c ∷ t) = cond (in_column e c) (c ∷ along r t) []

-- along the first of the rows
unfoldable pub goes : List ByteRow → List ℕ → List ℕ
goes [] t = []
goes (r ∷ x) t = along r t

-- the bytes along a row, and those that are left
pub along_split : (r : ByteRow) (t : List ℕ) → along r t ++ drop (length (along r t)) t ≡ t
unfolding along
along_split r [] = refl
along_split [] (c ∷ t) = refl
along_split (e ∷ r) (c ∷ t) = go (in_column e c) (along_split r t)
  where
    go : (x : Bool) → along r t ++ drop (length (along r t)) t ≡ t
        → cond x (c ∷ along r t) [] ++ drop (length (cond x (c ∷ along r t) [])) (c ∷ t) ≡ c ∷ t
    go true h = ap (c ∷◌) h
    go false h = refl

pub along-length : (r : ByteRow) (t : List ℕ) → length (along r t) ≤ length r
unfolding along
along-length r [] = omega arith
along-length [] (c ∷ t) = omega arith
along-length (e ∷ r) (c ∷ t) = go (in_column e c) (along-length r t)
  where
    go : (x : Bool) → length (along r t) ≤ length r → length (cond x (c ∷ along r t) []) ≤ suc (length r)
    go true h = omega arith
    go false h = omega arith

pub along-take : (r : ByteRow) (t : List ℕ) → take (length (along r t)) t ≡ along r t
along-take r t =
    ap (λ (y : List ℕ). take (length (along r t)) y) (sym (along_split r t)) ∙ take-append_seam (along r t) (drop (length (along r t)) t)

-- they begin a sequence of the row
along-begins : (r : ByteRow) (t : List ℕ) → begins r (along r t) ≡ true
unfolding along begins
along-begins r [] = refl
along-begins [] (c ∷ t) = refl
along-begins (e ∷ r) (c ∷ t) = go (in_column e c) refl (along-begins r t)
  where
    go : (x : Bool) → in_column e c ≡ x → begins r (along r t) ≡ true → begins (e ∷ r) (cond x (c ∷ along r t) []) ≡ true
    go true w h = rw w h
    go false w h = refl

-- no more of the bytes do
along_most : (r : ByteRow) (t : List ℕ) (k : ℕ) → length (along r t) ≤ k → begins r (take k t) ≡ true → take k t ≡ along r t
unfolding along begins
along_most r [] zero l h = refl
along_most r [] (suc k) l h = refl
along_most [] (c ∷ t) zero l h = refl
along_most [] (c ∷ t) (suc k) l h = cc
along_most (e ∷ r) (c ∷ t) zero l h = go (in_column e c) l
  where
    go : (x : Bool) → length (cond x (c ∷ along r t) []) ≤ 0 → [] ≡ cond x (c ∷ along r t) []
    go true l = let z : ◌≡◌ {A = ℕ} 0 1 = omega arith in cc
    go false l = refl
along_most (e ∷ r) (c ∷ t) (suc k) l h =
    let w : in_column e c ≡ true = and_left _ _ h in
    let m : suc (length (along r t)) ≤ suc k = rw w at l in
    rw w (ap (c ∷◌) (along_most r t k (omega arith) (and_right (in_column e c) (begins r (take k t)) h)))

-- a beginning of the row's sequences is no longer
pub along-longest : (r : ByteRow) (t : List ℕ) (k : ℕ) → begins r (take k t) ≡ true → length (take k t) ≤ length (along r t)
unfolding along begins
along-longest r [] zero h = omega arith
along-longest r [] (suc k) h = omega arith
along-longest [] (c ∷ t) zero h = omega arith
along-longest [] (c ∷ t) (suc k) h = let z : ◌≡◌ {A = ℕ} 0 1 = cc in omega arith
along-longest (e ∷ r) (c ∷ t) zero h = omega arith
along-longest (e ∷ r) (c ∷ t) (suc k) h =
    let w : in_column e c ≡ true = and_left _ _ h in
    rw w (omega (arith, along-longest r t k (and_right (in_column e c) (begins r (take k t)) h)))

-- a whole sequence of a row goes along it to its end
pub along-whole : (r : ByteRow) (u x : List ℕ) → whole_row r u ≡ true → along r (u ++ x) ≡ u
unfolding along whole_row
along-whole [] [] [] h = refl
along-whole [] [] (c ∷ x) h = refl
along-whole [] (c ∷ u) x h = cc
along-whole (e ∷ r) [] x h = cc
along-whole (e ∷ r) (c ∷ u) x h = rw (and_left (in_column e c) (whole_row r u) h) (ap (c ∷◌) (along-whole r u x (and_right (in_column e c) (whole_row r u) h)))

module _ (b : ℕ) (t : List ℕ) where
  longest-none : rows_after b table37 ≡ [] → (k : ℕ) → longest k (b ∷ t) ≡ b ∷ []
  unfolding longest some
  longest-none e zero = refl
  longest-none e (suc k) = rw (initial-after b (take k t), e) (longest-none e k)

  longest_one : (r : ByteRow) → rows_after b table37 ≡ r ∷ [] → (k : ℕ) → length (along r t) ≤ k → longest (suc k) (b ∷ t) ≡ b ∷ along r t
  unfolding longest some begins
  longest_one r e zero l = rw (initial-after b [], e) (ap (b ∷◌) (along_most r t 0 l refl))
  longest_one r e (suc k) l = rw (initial-after b (take (suc k) t), e, or-false) (go (begins r (take (suc k) t)) refl (longest_one r e k))
    where
      go : (x : Bool) → begins r (take (suc k) t) ≡ x → (length (along r t) ≤ k → longest (suc k) (b ∷ t) ≡ b ∷ along r t)
          → cond x (b ∷ take (suc k) t) (longest (suc k) (b ∷ t)) ≡ b ∷ along r t
      go true h f = ap (b ∷◌) (along_most r t (suc k) l h)
      go false h f = f (le_of_suc-le-suc (lt_of_not-le (λ (g : suc k ≤ length (along r t)).
          let q : length (along r t) ≡ suc k = omega arith in
          let m : begins r (take (suc k) t) ≡ true = rw (← q, along-take r t) (along-begins r t) in
          let z : ◌≡◌ {A = ℕ} 0 1 = cc in omega arith)))

  pub piece-goes : piece (b ∷ t) ≡ b ∷ goes (rows_after b table37) t
  unfolding piece goes
  piece-goes = go (few b) refl
    where
      go : {x : List ByteRow} → Few x → rows_after b table37 ≡ x → longest 4 (b ∷ t) ≡ b ∷ goes x t
      go none e = longest-none e 4
      go (one r l) e = longest_one r e 3 (omega (arith, along-length r t))
