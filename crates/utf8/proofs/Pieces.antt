-- What the code finds at a place is the piece there, and the rest of the text follows from it. Assumes nothing.
use Prim.Native.Nat.{ℕ, suc, zero, ◌+◌, ◌-◌, ◌≤◌, ◌<◌}
use native.Mathlib.Omega.{arith}
use native.Mathlib.Numerals.{add-one, one-add}
use native.Mathlib.Nat.{add-zero}
use mathlib.Core.Bool.{Bool, true, false, cond, ◌&&◌}
use mathlib.Core.List.{List, [], ◌∷◌, ◌++◌}
use mathlib.Core.Path.{◌≡◌, refl, sym, ap, ◌∙◌}
use lib.ListN.{length, get_or, set, take, drop, length-append, length-drop, drop_of_length-le}
use lib.Seq.{drop-cons, drop-drop, sets}
use lib.Dec.{ltb}
use borrow.Author.Tests.{lt-ltb, le-ltb, ltb-true, ltb-false}
use Rattle.utf8.specs.declared.Piece.{Piece}
use Rattle.utf8.specs.declared.Piece.TheVariants.{Whole, Part}
use Rattle.utf8.specs.Utf8.{ByteRow, in_column, whole_row, some, well_formed, piece, valid, fffd, mend, repair, evaluates}
use Rattle.utf8.specs.Rows.{Few, none, one, few, along, goes, piece-goes, well_formed-after, or-false}
use Rattle.utf8.specs.Laws.{piece_pos, piece-within, piece-take, valid-step, repair-step}
use Rattle.utf8.specs.Place.{Ascii, piece_is, piece_of, second_of, next_in}
use Rattle.utf8.specs.Stores.{sets_append}
use Rattle.utf8.proofs.Table.{more, lead, table-lead}

-- ---- the piece, column by column

-- from n bytes on: along the row as far as the text does
unfoldable run : ByteRow → ℕ → List ℕ → Piece
run [] n t = Whole n
run (e ∷ r) n t = cond (next_in e t) (run r (n + 1) (drop 1 t)) (Part n)

run_along : (r : ByteRow) (n : ℕ) (t : List ℕ) → piece_is (whole_row r (along r t)) (n + length (along r t)) ≡ run r n t
unfolding run next_in along whole_row
run_along [] n [] = rw (add-zero n)
run_along [] n (c ∷ t) = rw (add-zero n)
run_along (e ∷ r) n [] = rw (add-zero n)
run_along (e ∷ r) n (c ∷ t) = go (in_column e c) refl (run_along r (n + 1) t)
  where
    go : (x : Bool) → in_column e c ≡ x → piece_is (whole_row r (along r t)) ((n + 1) + length (along r t)) ≡ run r (n + 1) t
        → piece_is (whole_row (e ∷ r) (cond x (c ∷ along r t) [])) (n + length (cond x (c ∷ along r t) []))
        ≡ cond x (run r (n + 1) t) (Part n)
    go true w h = let q : n + suc (length (along r t)) ≡ (n + 1) + length (along r t) = omega arith in rw (w, q) h
    go false w h = rw (add-zero n)

-- from a first byte on, by the rows that have it
unfoldable runs : List ByteRow → List ℕ → Piece
runs [] t = Part 1
runs (r ∷ x) t = run r 1 t

module _ (s : List ℕ) (at : ℕ) (h : at < length s) where
  -- the byte at the place
  abbrev first : ℕ
  first = get_or s at 0

  here : drop at s ≡ first ∷ drop (at + 1) s
  here = drop-cons s at 0 h ∙ rw add-one

  hop : (i j : ℕ) → i + 1 ≡ j → drop 1 (drop i s) ≡ drop j s
  hop i j e = drop-drop 1 i s ∙ ap (λ (k : ℕ). drop k s) e

  piece-runs : first < 256 → piece_of (drop at s) ≡ runs (lead first) (drop (at + 1) s)
  unfolding piece_of runs goes some
  piece-runs f =
      rw (here, piece-goes first (drop (at + 1) s), well_formed-after) (go (few first))
      ∙ ap (λ (x : List ByteRow). runs x (drop (at + 1) s)) (table-lead first f)
    where
      go : {x : List ByteRow} → Few x
          → piece_is (some (λ r. whole_row r (goes x (drop (at + 1) s))) x) (suc (length (goes x (drop (at + 1) s)))) ≡ runs x (drop (at + 1) s)
      go none = refl
      go (one r l) = rw (or-false, ← one-add (length (along r (drop (at + 1) s)))) (run_along r 1 (drop (at + 1) s))

  -- the answers of `piece_at`, each from the tests that lead to it
  pub one_whole : first < 0x80 → Whole 1 ≡ piece_of (drop at s)
  unfolding lead runs run
  one_whole l = sym (rw (piece-runs (omega arith), lt-ltb first 0x80 l))

  pub never_first : 0x80 ≤ first → first < 0xC2 → Part 1 ≡ piece_of (drop at s)
  unfolding lead runs
  never_first l u = sym (rw (piece-runs (omega arith), le-ltb first 0x80 l, lt-ltb first 0xC2 u))

  pub above-first : first < 256 → 0xF4 < first → Part 1 ≡ piece_of (drop at s)
  unfolding lead runs
  above-first f l = sym (rw (piece-runs f, le-ltb first 0x80 (omega arith), le-ltb first 0xC2 (omega arith), lt-ltb 0xF4 first l))

  module _ (l : 0xC2 ≤ first) (u : first ≤ 0xF4) where
    row : piece_of (drop at s) ≡ run (second_of first ∷ cond (ltb first 0xE0) [] (more ∷ cond (ltb first 0xF0) [] (more ∷ []))) 1 (drop (at + 1) s)
    unfolding lead runs
    row = rw (piece-runs (omega arith), le-ltb first 0x80 (omega arith), le-ltb first 0xC2 l, le-ltb 0xF4 first u)

    pub one_part : next_in (second_of first) (drop (at + 1) s) ≡ false → Part 1 ≡ piece_of (drop at s)
    unfolding run
    one_part n = sym (rw (row, n))

    module _ (n₁ : next_in (second_of first) (drop (at + 1) s) ≡ true) where
      pub two_whole : first < 0xE0 → Whole 2 ≡ piece_of (drop at s)
      unfolding run
      two_whole m = sym (rw (row, n₁, lt-ltb first 0xE0 m))

      module _ (m : 0xE0 ≤ first) where
        row₂ : piece_of (drop at s) ≡ run (more ∷ cond (ltb first 0xF0) [] (more ∷ [])) 2 (drop (at + 2) s)
        unfolding run
        row₂ = rw (row, n₁, le-ltb first 0xE0 m, hop (at + 1) (at + 2) (omega arith))

        pub two_part : next_in more (drop (at + 2) s) ≡ false → Part 2 ≡ piece_of (drop at s)
        unfolding run
        two_part n = sym (rw (row₂, n))

        module _ (n₂ : next_in more (drop (at + 2) s) ≡ true) where
          pub three-whole : first < 0xF0 → Whole 3 ≡ piece_of (drop at s)
          unfolding run
          three-whole o = sym (rw (row₂, n₂, lt-ltb first 0xF0 o))

          module _ (o : 0xF0 ≤ first) where
            row₃ : piece_of (drop at s) ≡ run (more ∷ []) 3 (drop (at + 3) s)
            unfolding run
            row₃ = rw (row₂, n₂, le-ltb first 0xF0 o, hop (at + 2) (at + 3) (omega arith))

            pub three_part : next_in more (drop (at + 3) s) ≡ false → Part 3 ≡ piece_of (drop at s)
            unfolding run
            three_part n = sym (rw (row₃, n))

            pub four-whole : next_in more (drop (at + 3) s) ≡ true → Whole 4 ≡ piece_of (drop at s)
            unfolding run
            four-whole n = sym (rw (row₃, n))

-- ---- from a place to the place after its piece

-- what a turn of a loop needs: at i stands a piece of len bytes, well formed or not by g
pub record Turn (s : List ℕ) (i : ℕ) (g : Bool) (len : ℕ) : Type 0 where
  pub pos : 0 < len
  pub fits : i + len ≤ length s
  pub judged : valid (drop i s) ≡ (g && valid (drop (i + len) s))
  pub sized : cond g len 3 + length (repair (drop (i + len) s)) ≡ length (repair (drop i s))
  pub stored : (out : List ℕ) (n : ℕ)
      → sets (sets out n (cond g (take len (drop i s)) fffd)) (n + cond g len 3) (repair (drop (i + len) s)) ≡ sets out n (repair (drop i s))

-- a piece's answer tells its length, and whether it is well formed
told : (g : Bool) (n : ℕ) (w : Bool) (m : ℕ) → piece_is g n ≡ piece_is w m → (g ≡ w) × (n ≡ m)
told true n true m e = (refl, (cc))
told true n false m e = ((cc), (cc))
told false n true m e = ((cc), (cc))
told false n false m e = (refl, (cc))

module _ (s : List ℕ) (i : ℕ) (h : i < length s) (g : Bool) (len : ℕ) (e : piece_is g len ≡ piece_of (drop i s)) where
  is : (g ≡ well_formed (piece (drop i s))) × (len ≡ length (piece (drop i s)))
  unfolding piece_of
  is = told g len (well_formed (piece (drop i s))) (length (piece (drop i s))) e

  left : 0 < length (drop i s)
  left = simp length-drop (omega arith)

  rest : drop (length (piece (drop i s))) (drop i s) ≡ drop (i + len) s
  rest = drop-drop (length (piece (drop i s))) i s ∙ rw is.1

  mended : repair (drop i s) ≡ cond g (take len (drop i s)) fffd ++ repair (drop (i + len) s)
  unfolding mend
  mended = repair-step (drop i s) left ∙ rw (← is.0, rest, is.1, piece-take)

  mended_length : length (cond g (take len (drop i s)) fffd) ≡ cond g len 3
  mended_length = go g
    where
      go : (x : Bool) → length (cond x (take len (drop i s)) fffd) ≡ cond x len 3
      go true = rw (is.1, piece-take)
      go false = refl

  pub turn : Turn s i g len
  turn = record {
    pos = rw is.1 (piece_pos (drop i s) left);
    fits = rw is.1 (omega (arith, simp length-drop at (piece-within (drop i s))));
    judged = valid-step (drop i s) left ∙ rw (← is.0, rest);
    sized = sym (rw (mended, length-append, mended_length));
    stored = λ out n. rw (← mended_length, sets_append, mended);
  }

-- an ASCII byte is a piece
module _ (s : List ℕ) (i : ℕ) (h : i < length s) (a : get_or s i 0 < 0x80) where
  pub turn_ascii : Turn s i true 1
  turn_ascii = turn s i h true 1 (one_whole s i h a)

  pub stored_ascii : (out : List ℕ) (n : ℕ) → sets (set out n (get_or s i 0)) (n + 1) (repair (drop (i + 1) s)) ≡ sets out n (repair (drop i s))
  stored_ascii out n =
      let m : take 1 (drop i s) ≡ get_or s i 0 ∷ [] = ap (λ (y : List ℕ). take 1 y) (here s i h) in
      rw m at (turn_ascii.stored out n)

-- n bytes behind m others
pub ascii-join : (s : List ℕ) (i m j n : ℕ) → j ≡ i + m → Ascii s i m → Ascii s j n → Ascii s i (m + n)
ascii-join s i m j n e h g k l = go (ltb k m) refl
  where
    go : (b : Bool) → ltb k m ≡ b → get_or s (i + k) 0 < 0x80
    go true q = h k (ltb-true k m q)
    go false q = let x = ltb-false k m q in let d : j + (k - m) ≡ i + k = omega arith in rw d at (g (k - m) (omega arith))

-- ASCII bytes at the start do not matter
pub after-ascii : (s : List ℕ) (n : ℕ) → n ≤ length s → Ascii s 0 n → valid (drop n s) ≡ valid s
after-ascii s zero l h = refl
after-ascii s (suc n) l h =
    let e : 0 + n ≡ n = omega arith in
    let t = turn_ascii s n (omega arith) (rw e at (h n (omega arith))) in
    rw (← add-one) (sym t.judged) ∙ after-ascii s n (omega arith) (λ k g. h k (omega arith))

-- where nothing is left
module _ (s : List ℕ) (i : ℕ) (l : length s ≤ i) where
  pub valid_end : true ≡ valid (drop i s)
  unfolding evaluates
  valid_end = rw (drop_of_length-le s l)

  pub repair_end : repair (drop i s) ≡ []
  unfolding evaluates
  repair_end = rw (drop_of_length-le s l)
