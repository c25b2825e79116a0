-- The batch sheet by sheet, over the definitions: where a sheet and its four numbers lie, and what the sheets leave of table and text.
use Rattle.std.specs.Prelude.{ℕ, ◌+◌, ◌-◌, ◌*◌, ◌<◌, ◌≤◌, zero, suc, Bool, true, false, List, [], ◌∷◌, ◌++◌, map, ◌≡◌, refl, length, get_or, take, drop, ltb}
use Rattle.std.proofs.Common.{sym, ◌∙◌, ap, drop-drop, take-take, ltb-true, ltb-false, suc-add, arith}
use Rattle.lengths.specs.Sum.{sum}
use Rattle.rooms.specs.Stated.{Slices, table_slice, text_slice, begun, filled, Ready, filled_ready, rooms-filled, table_again, text_again}
use Rattle.reading.specs.Reading.{whole}
use Rattle.resolve.specs.Written.{drop-take}
use Rattle.batch.specs.Batch.{sheets_of, four, answers_of, after}

-- sheet i, from 0 on
abbrev pub sheet_at : List ℕ → List ℕ → ℕ → List ℕ
sheet_at s ns i = get_or (sheets_of s ns) i []

-- its four places of the answers
abbrev pub four_at : List ℕ → ℕ → List ℕ
four_at o i = take 4 (drop (4 * i) o)

-- the sheets before sheet i fill the buffer up to here
abbrev pub start_of : List ℕ → ℕ → ℕ
start_of ns i = sum (take i ns)

-- ---- a sheet's place

pub start_next : (ns : List ℕ) (i : ℕ) → i < length ns → start_of ns (i + 1) ≡ start_of ns i + get_or ns i 0
unfolding sum
start_next [] i h = absurd (omega arith)
start_next (n ∷ ns) zero h = omega arith
start_next (n ∷ ns) (suc i) h = let e = start_next ns i (omega arith) in rw (suc-add, e) (omega arith)

-- later sheets start later
pub start_later : (ns : List ℕ) (i j : ℕ) → i ≤ j → start_of ns i ≤ start_of ns j
unfolding sum
start_later [] zero j h = omega arith
start_later [] (suc i) j h = omega arith
start_later (n ∷ ns) zero j h = omega arith
start_later (n ∷ ns) (suc i) zero h = absurd (omega arith)
start_later (n ∷ ns) (suc i) (suc j) h = let e = start_later ns i j (omega arith) in omega arith

pub sheet_at_lem : (s ns : List ℕ) (i : ℕ) → i < length ns → sheet_at s ns i ≡ take (get_or ns i 0) (drop (start_of ns i) s)
unfolding sheets_of sum
sheet_at_lem s [] i h = absurd (omega arith)
sheet_at_lem s (n ∷ ns) zero h = refl
sheet_at_lem s (n ∷ ns) (suc i) h = sheet_at_lem (drop n s) ns i (omega arith) ∙ ap (take (get_or ns i 0)) (drop-drop (start_of ns i) n s)

-- ---- its four numbers

pub four_at_lem : (ps : List (List ℕ)) (r : List ℕ) (i : ℕ) → i < length ps → four_at (answers_of ps ++ r) i ≡ four (whole (get_or ps i [])).answer
unfolding answers_of
four_at_lem [] r i h = absurd (omega arith)
four_at_lem (p ∷ ps) r zero h = refl
four_at_lem (p ∷ ps) r (suc i) h =
    let e : 4 * suc i ≡ 4 + 4 * i = omega arith in
    ap (take 4) (ap (λ (k : ℕ). drop k (answers_of (p ∷ ps) ++ r)) e ∙ sym (drop-drop (4 * i) 4 (answers_of (p ∷ ps) ++ r))) ∙ four_at_lem ps r i (omega arith)

-- ---- buffers that are alike but for one sheet

-- alike up to where sheet i starts, and from where it ends
pub record AlikeBut (ns : List ℕ) (i : ℕ) (s t : List ℕ) : Type 0 where
  pub front : take (start_of ns i) s ≡ take (start_of ns i) t
  pub back : drop (start_of ns (i + 1)) s ≡ drop (start_of ns (i + 1)) t

module _ (ns : List ℕ) (i : ℕ) (s t : List ℕ) (a : AlikeBut ns i s t) (j : ℕ) (h : j < length ns) where
  before : j < i → take (get_or ns j 0) (drop (start_of ns j) s) ≡ take (get_or ns j 0) (drop (start_of ns j) t)
  before k = sym (drop-take (start_of ns j) (get_or ns j 0) s) ∙ ap (drop (start_of ns j)) same ∙ drop-take (start_of ns j) (get_or ns j 0) t
    where
      inside : start_of ns j + get_or ns j 0 ≤ start_of ns i
      inside = let e = start_next ns j h in let m = start_later ns (j + 1) i (omega arith) in omega arith

      same : take (start_of ns j + get_or ns j 0) s ≡ take (start_of ns j + get_or ns j 0) t
      same = sym (take-take (start_of ns j + get_or ns j 0) (start_of ns i) s inside) ∙ ap (take (start_of ns j + get_or ns j 0)) a.front ∙ take-take (start_of ns j + get_or ns j 0) (start_of ns i) t inside

  behind : i < j → drop (start_of ns j) s ≡ drop (start_of ns j) t
  behind k = sym (farther s) ∙ ap (drop (start_of ns j - start_of ns (i + 1))) a.back ∙ farther t
    where
      farther : (x : List ℕ) → drop (start_of ns j - start_of ns (i + 1)) (drop (start_of ns (i + 1)) x) ≡ drop (start_of ns j) x
      farther x =
          let m = start_later ns (i + 1) j (omega arith) in
          let e : start_of ns (i + 1) + (start_of ns j - start_of ns (i + 1)) ≡ start_of ns j = omega arith in
          drop-drop (start_of ns j - start_of ns (i + 1)) (start_of ns (i + 1)) x ∙ ap (λ (n : ℕ). drop n x) e

  pub other_sheet : (j ≡ i → ⊥) → sheet_at s ns j ≡ sheet_at t ns j
  other_sheet d = sheet_at_lem s ns j h ∙ go (ltb j i) refl ∙ sym (sheet_at_lem t ns j h)
    where
      go : (b : Bool) → ltb j i ≡ b → take (get_or ns j 0) (drop (start_of ns j) s) ≡ take (get_or ns j 0) (drop (start_of ns j) t)
      go true e = before (ltb-true j i e)
      go false e = let k = ltb-false j i e in ap (take (get_or ns j 0)) (behind (omega (arith, d)))

-- ---- what the sheets leave

pub after-append : (ps qs : List (List ℕ)) (l : Slices) → after (ps ++ qs) l ≡ after qs (after ps l)
unfolding after
after-append [] qs l = refl
after-append (p ∷ ps) qs l = after-append ps qs (filled (whole p).words (whole p).bytes l)

pub after_ready : (ps : List (List ℕ)) (l : Slices) → Ready l → Ready (after ps l)
unfolding after
after_ready [] l r = r
after_ready (p ∷ ps) l r = after_ready ps (filled (whole p).words (whole p).bytes l) (filled_ready (whole p).words (whole p).bytes l r)

-- the rooms as they were
pub after-rooms : (ps : List (List ℕ)) (l : Slices) → take 11 (after ps l) ≡ take 11 l
unfolding after
after-rooms [] l = refl
after-rooms (p ∷ ps) l = after-rooms ps (filled (whole p).words (whole p).bytes l) ∙ rooms-filled (whole p).words (whole p).bytes l

-- begun with each of these in turn
unfoldable pub begun_all : List (List ℕ) → List ℕ → List ℕ
begun_all [] t = t
begun_all (w ∷ ws) t = begun_all ws (begun w t)

-- of three texts, the third shorter: it, then what the second left, then what the first did
three-begun : begun_all ((1 ∷ 1 ∷ 1 ∷ []) ∷ (2 ∷ 2 ∷ []) ∷ (3 ∷ []) ∷ []) (0 ∷ 0 ∷ 0 ∷ 0 ∷ []) ≡ 3 ∷ 2 ∷ 1 ∷ 0 ∷ []
unfolding begun_all
three-begun = refl

abbrev pub tables : List (List ℕ) → List (List ℕ)
tables ps = map (λ (p : List ℕ). (whole p).words) ps

abbrev pub sheet_texts : List (List ℕ) → List (List ℕ)
sheet_texts ps = map (λ (p : List ℕ). (whole p).bytes) ps

pub after_table : (ps : List (List ℕ)) (l : Slices) → Ready l → table_slice (after ps l) ≡ begun_all (tables ps) (table_slice l)
unfolding after begun_all
after_table [] l r = refl
after_table (p ∷ ps) l r = after_table ps (filled (whole p).words (whole p).bytes l) (filled_ready (whole p).words (whole p).bytes l r) ∙ ap (begun_all (tables ps)) (table_again (whole p).words (whole p).bytes l r)

pub after_text : (ps : List (List ℕ)) (l : Slices) → Ready l → text_slice (after ps l) ≡ begun_all (sheet_texts ps) (text_slice l)
unfolding after begun_all
after_text [] l r = refl
after_text (p ∷ ps) l r = after_text ps (filled (whole p).words (whole p).bytes l) (filled_ready (whole p).words (whole p).bytes l r) ∙ ap (begun_all (sheet_texts ps)) (text_again (whole p).words (whole p).bytes l r)
