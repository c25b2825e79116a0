-- What follows for whole texts: the pieces are the text; a run of well-formed sequences is cut into those sequences; well-formed text is not
-- changed; what is repaired is well formed.
use Rattle.std.specs.Prelude.{ℕ, suc, zero, ◌-◌, ◌*◌, ◌≤◌, ◌<◌, Bool, true, false, cond, ◌&&◌, ◌≡◌, refl, length, take, drop}
use Rattle.std.proofs.Common.{arith, sym, ◌∙◌, length-append}
use mathlib.Core.List.{List, [], ◌∷◌, ◌++◌, map, flatten, append_assoc, append-nil}
use Rattle.std.proofs.Math.Path.{ap}
use Rattle.std.proofs.Math.Seq.{take-append_seam, drop-append_seam}
use Rattle.utf8.specs.Utf8.{ByteRow, table37, whole_row, begins, some, initial, well_formed, piece, pieces_after, pieces, every, valid, fffd, mend, repair, evaluates}
use Rattle.utf8.specs.Rows.{rows_after, Few, none, one, few, along_split, along-longest, along-whole, goes, or-false, and_left, and_right, initial-after, well_formed-after, piece-goes}

-- ---- a piece

goes_split : (x : List ByteRow) (t : List ℕ) → goes x t ++ drop (length (goes x t)) t ≡ t
unfolding goes
goes_split [] t = refl
goes_split (r ∷ x) t = along_split r t

-- a text is its first piece, and the rest
pub piece_split : (s : List ℕ) → piece s ++ drop (length (piece s)) s ≡ s
unfolding evaluates
piece_split [] = refl
piece_split (b ∷ t) = rw (piece-goes b t) (ap (b ∷◌) (goes_split (rows_after b table37) t))

-- it has a byte, if the text has one, and is the text's beginning
pub piece_pos : (s : List ℕ) → 0 < length s → 0 < length (piece s)
piece_pos [] h = omega arith
piece_pos (b ∷ t) h = rw (piece-goes b t) (omega arith)

pub piece-within : (s : List ℕ) → length (piece s) ≤ length s
piece-within s = omega (arith, simp length-append at (ap length (piece_split s)))

pub piece-take : (s : List ℕ) → take (length (piece s)) s ≡ piece s
piece-take s =
    ap (λ (x : List ℕ). take (length (piece s)) x) (sym (piece_split s)) ∙ take-append_seam (piece s) (drop (length (piece s)) s)

-- D93b: no initial subsequence of a well-formed sequence is longer than the piece
pub piece-longest : (s : List ℕ) (k : ℕ) → initial (take k s) ≡ true → length (take k s) ≤ length (piece s)
unfolding goes some
piece-longest [] zero h = omega arith
piece-longest [] (suc k) h = omega arith
piece-longest (b ∷ t) zero h = omega arith
piece-longest (b ∷ t) (suc k) h = rw (piece-goes b t) (go (few b) (sym (initial-after b (take k t)) ∙ h))
  where
    go : {y : List ByteRow} → Few y → some (λ r. begins r (take k t)) y ≡ true → suc (length (take k t)) ≤ suc (length (goes y t))
    go none h = let z : ◌≡◌ {A = ℕ} 0 1 = cc in omega arith
    go (one r l) h = omega (arith, along-longest r t k (sym (or-false (begins r (take k t))) ∙ h))

-- a well-formed sequence is the piece at its start
pub piece-whole : (p x : List ℕ) → well_formed p ≡ true → piece (p ++ x) ≡ p
unfolding well_formed whole_row some goes
piece-whole [] x h = cc
piece-whole (b ∷ u) x h = piece-goes b (u ++ x) ∙ ap (b ∷◌) (go (few b) (sym (well_formed-after b u) ∙ h))
  where
    go : {y : List ByteRow} → Few y → some (λ r. whole_row r u) y ≡ true → goes y (u ++ x) ≡ u
    go none h = cc
    go (one r l) h = along-whole r u x (sym (or-false (whole_row r u)) ∙ h)

-- ---- the pieces

pieces-drop : (n : ℕ) (s : List ℕ) → pieces_after n s ≡ pieces (drop n s)
unfolding pieces_after pieces
pieces-drop zero s = refl
pieces-drop (suc n) [] = refl
pieces-drop (suc n) (b ∷ s) = pieces-drop n s

rest-drop : (b : ℕ) (t : List ℕ) → drop (length (piece (b ∷ t)) - 1) t ≡ drop (length (piece (b ∷ t))) (b ∷ t)
rest-drop b t =
    let u = goes (rows_after b table37) t in
    let e : suc (length u) - 1 ≡ length u = omega arith in
    rw (piece-goes b t, e)

-- a text that is not empty is cut into its first piece and the pieces of the rest
pub pieces_step : (s : List ℕ) → 0 < length s → pieces s ≡ piece s ∷ pieces (drop (length (piece s)) s)
unfolding pieces_after pieces
pieces_step [] h = let z : ◌≡◌ {A = ℕ} 0 1 = omega arith in cc
pieces_step (b ∷ t) h = ap (piece (b ∷ t) ∷◌) (pieces-drop (length (piece (b ∷ t)) - 1) t ∙ ap pieces (rest-drop b t))

-- nothing is lost
flatten-after : (n : ℕ) (s : List ℕ) → flatten (pieces_after n s) ≡ drop n s
unfolding flatten pieces_after
flatten-after zero [] = refl
flatten-after (suc n) [] = refl
flatten-after zero (b ∷ s) = rw (flatten-after (length (piece (b ∷ s)) - 1) s, rest-drop b s) (piece_split (b ∷ s))
flatten-after (suc n) (b ∷ s) = flatten-after n s

pub flatten-pieces : (s : List ℕ) → flatten (pieces s) ≡ s
unfolding pieces
flatten-pieces s = flatten-after 0 s

-- a run of well-formed sequences is cut into those sequences
pub pieces-flatten : (ps : List (List ℕ)) → every ps ≡ true → pieces (flatten ps) ≡ ps
unfolding flatten every pieces pieces_after well_formed whole_row some
pieces-flatten [] h = refl
pieces-flatten ([] ∷ q) h = cc
pieces-flatten ((b ∷ u) ∷ q) h =
    let e = piece-whole (b ∷ u) (flatten q) (and_left (well_formed (b ∷ u)) (every q) h) in
    pieces_step (b ∷ (u ++ flatten q)) (omega arith)
    ∙ rw (e, drop-append_seam u (flatten q)) (ap ((b ∷ u) ∷◌) (pieces-flatten q (and_right (well_formed (b ∷ u)) (every q) h)))

-- ---- validity and repair

-- D85: a well-formed text is a run of well-formed sequences, and such a run is a well-formed text
pub valid_is_run : (s : List ℕ) → valid s ≡ true → (every (pieces s) ≡ true) × (flatten (pieces s) ≡ s)
unfolding valid
valid_is_run s h = (h, flatten-pieces s)

pub valid_run : (ps : List (List ℕ)) → every ps ≡ true → valid (flatten ps) ≡ true
unfolding valid
valid_run ps h = rw (pieces-flatten ps h) h

fffd-well_formed : well_formed fffd ≡ true
unfolding evaluates
fffd-well_formed = refl

every-mend : (ps : List (List ℕ)) → every (map mend ps) ≡ true
unfolding every mend
every-mend [] = refl
every-mend (p ∷ q) = go (well_formed p) refl (every-mend q)
  where
    go : (x : Bool) → well_formed p ≡ x → every (map mend q) ≡ true → (well_formed (cond x p fffd) && every (map mend q)) ≡ true
    go true e h = rw (e, h)
    go false e h = rw (fffd-well_formed, h)

mend-all : (ps : List (List ℕ)) → every ps ≡ true → map mend ps ≡ ps
unfolding every mend
mend-all [] h = refl
mend-all (p ∷ q) h = rw (and_left (well_formed p) (every q) h, mend-all q (and_right (well_formed p) (every q) h))

-- well-formed text is not changed
pub repair-valid : (s : List ℕ) → valid s ≡ true → repair s ≡ s
unfolding repair valid
repair-valid s h = rw (mend-all (pieces s) h) (flatten-pieces s)

-- what is repaired is well formed
pub valid-repair : (s : List ℕ) → valid (repair s) ≡ true
unfolding repair
valid-repair s = valid_run (map mend (pieces s)) (every-mend (pieces s))

-- to repair it again changes nothing
pub repair-repair : (s : List ℕ) → repair (repair s) ≡ repair s
repair-repair s = repair-valid (repair s) (valid-repair s)

-- two well-formed texts make a well-formed text
every_append : (p q : List (List ℕ)) → every p ≡ true → every q ≡ true → every (p ++ q) ≡ true
unfolding every
every_append [] q h k = k
every_append (x ∷ p) q h k = rw (and_left (well_formed x) (every p) h) (every_append p q (and_right (well_formed x) (every p) h) k)

pub flatten-append : (p q : List (List ℕ)) → flatten (p ++ q) ≡ flatten p ++ flatten q
unfolding flatten
flatten-append [] q = refl
flatten-append (x ∷ p) q = rw (flatten-append p q, append_assoc)

pub valid-append : (s t : List ℕ) → valid s ≡ true → valid t ≡ true → valid (s ++ t) ≡ true
unfolding valid
valid-append s t h k =
    let e : flatten (pieces s ++ pieces t) ≡ s ++ t = flatten-append (pieces s) (pieces t) ∙ rw (flatten-pieces s, flatten-pieces t) in
    rw (← e) (valid_run (pieces s ++ pieces t) (every_append (pieces s) (pieces t) h k))

-- a well-formed sequence is a well-formed text
pub valid_one : (p : List ℕ) → well_formed p ≡ true → valid p ≡ true
unfolding flatten every
valid_one p h = rw append-nil at (valid_run (p ∷ []) (rw h))

-- ---- lengths

mend-length : (p : List ℕ) → 0 < length p → length (mend p) ≤ 3 * length p
unfolding mend
mend-length p h = go (well_formed p)
  where
    go : (x : Bool) → length (cond x p fffd) ≤ 3 * length p
    go true = omega arith
    go false = omega arith

repair-length-after : (n : ℕ) (s : List ℕ) → length (flatten (map mend (pieces_after n s))) ≤ 3 * length (drop n s)
unfolding flatten pieces_after
repair-length-after zero [] = omega arith
repair-length-after (suc n) [] = omega arith
repair-length-after zero (b ∷ s) =
    let p = piece (b ∷ s) in
    simp length-append
    (omega (arith, rw (rest-drop b s) at (repair-length-after (length p - 1) s), mend-length p (piece_pos (b ∷ s) (omega arith)), simp length-append at (ap length (piece_split (b ∷ s)))))
repair-length-after (suc n) (b ∷ s) = repair-length-after n s

-- a repaired text is at most three times as long
pub repair-length : (s : List ℕ) → length (repair s) ≤ 3 * length s
unfolding repair pieces
repair-length s = repair-length-after 0 s

-- ---- from piece to piece

module _ (s : List ℕ) (h : 0 < length s) where
  pub valid-step : valid s ≡ (well_formed (piece s) && valid (drop (length (piece s)) s))
  unfolding valid every
  valid-step = ap every (pieces_step s h)

  pub repair-step : repair s ≡ mend (piece s) ++ repair (drop (length (piece s)) s)
  unfolding repair flatten
  repair-step = ap (λ (x : List (List ℕ)). flatten (map mend x)) (pieces_step s h)
