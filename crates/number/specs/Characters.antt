-- That on well-formed text `trimmed` is `str::trim` by characters: the bytes of a White_Space form that are found at either end
-- are a whole character there, since the first byte of a sequence never stands inside another. Assumes nothing.
use Prim.Native.Nat.{ℕ, zero, suc, ◌≤◌}
use Rattle.std.specs.Prelude.{Bool, true, false, cond, ◌&&◌, ◌||◌, ◌≡◌, T, leb, length, take, drop}
use Rattle.std.proofs.lemmas.Bool.{false≢true}
use mathlib.Core.List.{List, [], ◌∷◌, ◌++◌, map, map-id, map-append, reverse, flatten, reverse-cons, reverse-append, reverse-reverse, append-nil}
use Rattle.std.proofs.Math.Path.{refl}
use Rattle.std.proofs.Common.{sym, ap, subst, ◌∙◌, arith, leb→le, take-append-drop, drop_at, length-take-le}
use Rattle.std.proofs.lemmas.List.{length-reverse}
use Rattle.utf8.specs.Utf8.{ByteRow, table37, in_column, whole_row, some, well_formed, piece, pieces, every, valid, encode, trail}
use Rattle.utf8.specs.Laws.{piece-whole, flatten-pieces, flatten-append}
use Rattle.number.specs.Space.{white_space, spaces, space, width, strip, trim_start, trim_end, trimmed}
use Rattle.number.specs.Trims.{and_parts, no_space, space-all, space_sized, width_le, width-space, width_finds, strip_more, strip-stop}

-- the characters without those of White_Space at the start
unfoldable pub drop_spaces : List (List ℕ) → List (List ℕ)
drop_spaces [] = []
drop_spaces (p ∷ ps) = cond (space p) (drop_spaces ps) (p ∷ ps)

-- `str::trim`, on the characters of a text
unfoldable pub trimmed_characters : List (List ℕ) → List (List ℕ)
trimmed_characters ps = reverse (drop_spaces (reverse (drop_spaces ps)))

-- a byte 10xxxxxx, which begins no sequence
abbrev Trail : ℕ → Type 0
Trail b = (0x80 ≤ b) × (b ≤ 0xBF)

-- nothing but such bytes
abbrev Trails : List ℕ → Type 0
Trails [] = Unit
Trails (b ∷ s) = Trail b × Trails s

-- the shape of a sequence: such bytes after one that is none
abbrev SequenceShape : List ℕ → Type 0
SequenceShape [] = ⊥
SequenceShape (b ∷ s) = (Trail b → ⊥) × Trails s

-- the columns of a row of Table 3-7 have only such bytes
abbrev trail_columns : ByteRow → Bool
trail_columns [] = true
trail_columns (e ∷ r) = (leb 0x80 e.0 && leb e.1 0xBF) && trail_columns r

-- the row has the shape of a sequence
abbrev shaped_row : ByteRow → Bool
shaped_row [] = false
shaped_row (e ∷ r) = (leb e.1 0x7F || leb 0xC0 e.0) && trail_columns r

-- every row has
abbrev shaped_rows : List ByteRow → Bool
shaped_rows [] = true
shaped_rows (r ∷ t) = shaped_row r && shaped_rows t

so : (x : Bool) → x ≡ true → T x
so true h = tt
so false h = absurd (false≢true h)

range : (a b c : ℕ) → T (leb a b && leb b c) → (a ≤ b) × (b ≤ c)
range a b c t = let p = and_parts (leb a b) (leb b c) t in (leb→le a b p.0, leb→le b c p.1)

whole_trails : (r : ByteRow) (s : List ℕ) → T (trail_columns r) → T (whole_row r s) → Trails s
unfolding whole_row in_column
whole_trails [] [] c h = tt
whole_trails [] (b ∷ s) c h = absurd h
whole_trails (e ∷ r) [] c h = tt
whole_trails (e ∷ r) (b ∷ s) c h =
    let k = and_parts (leb 0x80 e.0 && leb e.1 0xBF) (trail_columns r) c in
    let m = and_parts (leb 0x80 e.0) (leb e.1 0xBF) k.0 in
    let w = and_parts (leb e.0 b && leb b e.1) (whole_row r s) h in
    let i = range e.0 b e.1 w.0 in
    ((omega (arith, leb→le 0x80 e.0 m.0), omega (arith, leb→le e.1 0xBF m.1)), whole_trails r s k.1 w.1)

lead : (x y : Bool) (b : ℕ) → (T x → b ≤ 0x7F) → (T y → 0xC0 ≤ b) → T (x || y) → Trail b → ⊥
lead true y b f g t k = omega (arith, f tt)
lead false y b f g t k = omega (arith, g t)

whole-shaped : (r : ByteRow) (s : List ℕ) → T (shaped_row r) → T (whole_row r s) → SequenceShape s
unfolding whole_row in_column
whole-shaped [] s c h = absurd c
whole-shaped (e ∷ r) [] c h = h
whole-shaped (e ∷ r) (b ∷ s) c h =
    let k = and_parts (leb e.1 0x7F || leb 0xC0 e.0) (trail_columns r) c in
    let w = and_parts (leb e.0 b && leb b e.1) (whole_row r s) h in
    let i = range e.0 b e.1 w.0 in (
      lead (leb e.1 0x7F) (leb 0xC0 e.0) b (λ t. omega (arith, leb→le e.1 0x7F t)) (λ t. omega (arith, leb→le 0xC0 e.0 t)) k.0,
      whole_trails r s k.1 w.1,
    )

some-shaped : (t : List ByteRow) (s : List ℕ) → T (shaped_rows t) → T (some (λ r. whole_row r s) t) → SequenceShape s
unfolding some
some-shaped [] s c h = absurd h
some-shaped (r ∷ t) s c h = go (whole_row r s) (whole-shaped r s k.0) (some-shaped t s k.1) h
  where
    k : T (shaped_row r) × T (shaped_rows t)
    k = and_parts (shaped_row r) (shaped_rows t) c

    go : (x : Bool) → (T x → SequenceShape s) → (T (some (λ r. whole_row r s) t) → SequenceShape s) → T (x || some (λ r. whole_row r s) t) → SequenceShape s
    go true f g q = f tt
    go false f g q = g q

well_formed-shaped : (s : List ℕ) → well_formed s ≡ true → SequenceShape s
unfolding well_formed
well_formed-shaped s h = some-shaped table37 s tt (so (some (λ r. whole_row r s) table37) h)

-- no sequence begins inside another
no_lead : (r f : List ℕ) → Trails (r ++ f) → SequenceShape f → ⊥
no_lead [] [] t k = k
no_lead [] (b ∷ f) t k = k.0 t.0
no_lead (x ∷ r) f t k = no_lead r f t.1 k

-- so two sequences that end the same bytes are the same
suffix_one : (q p r f : List ℕ) → SequenceShape p → SequenceShape f → q ++ p ≡ r ++ f → p ≡ f
suffix_one [] p [] f a b e = e
suffix_one [] p (y ∷ r) f a b e = absurd (no_lead r f (subst SequenceShape e a).1 b)
suffix_one (x ∷ q) p [] f a b e = absurd (no_lead q p (subst SequenceShape (sym e) b).1 a)
suffix_one (x ∷ q) p (y ∷ r) f a b e = let i : q ++ p ≡ r ++ f = cc in suffix_one q p r f a b i

space-well_formed : (f : List ℕ) → space f ≡ true → well_formed f ≡ true
unfolding spaces white_space encode trail well_formed some whole_row in_column
space-well_formed f h = is (well_formed f) (space-all well_formed tt f h)
  where
    is : (x : Bool) → T x → x ≡ true
    is true t = refl
    is false t = absurd t

-- characters, each well formed
abbrev AllWellFormed : List (List ℕ) → Type 0
AllWellFormed [] = Unit
AllWellFormed (p ∷ ps) = (well_formed p ≡ true) × AllWellFormed ps

every-all : (ps : List (List ℕ)) → every ps ≡ true → AllWellFormed ps
unfolding every
every-all [] h = tt
every-all (p ∷ ps) h = go (well_formed p) refl h (every-all ps)
  where
    go : (x : Bool) → well_formed p ≡ x → (x && every ps) ≡ true → (every ps ≡ true → AllWellFormed ps) → AllWellFormed (p ∷ ps)
    go true e q i = (e, i q)
    go false e q i = absurd (false≢true q)

all_append : (ps qs : List (List ℕ)) → AllWellFormed ps → AllWellFormed qs → AllWellFormed (ps ++ qs)
all_append [] qs a b = b
all_append (p ∷ ps) qs a b = (a.0, all_append ps qs a.1 b)

all-reverse : (ps : List (List ℕ)) → AllWellFormed ps → AllWellFormed (reverse ps)
all-reverse [] a = tt
all-reverse (p ∷ ps) a = rw (reverse-cons p ps) (all_append (reverse ps) (p ∷ []) (all-reverse ps a.1) (a.0, tt))

all_drop : (ps : List (List ℕ)) → AllWellFormed ps → AllWellFormed (drop_spaces ps)
unfolding drop_spaces
all_drop [] a = tt
all_drop (p ∷ ps) a = go (space p) (all_drop ps a.1)
  where
    go : (x : Bool) → AllWellFormed (drop_spaces ps) → AllWellFormed (cond x (drop_spaces ps) (p ∷ ps))
    go true i = i
    go false i = a

-- characters read forwards or backwards, of which one at most begins a text
module _
    (read : List ℕ → List ℕ)
    (back : (p : List ℕ) → read (read p) ≡ p)
    (len : (p : List ℕ) → length (read p) ≡ length p)
    (one : (p f x y : List ℕ) → well_formed (read p) ≡ true → well_formed (read f) ≡ true → p ++ x ≡ f ++ y → p ≡ f)
    (none : space (read []) ≡ false) where
  sized : (f : List ℕ) → space (read f) ≡ true → (1 ≤ length f) × (length f ≤ 3)
  sized f h = rw (len f) at (space_sized (read f) h)

  code-width : (p r : List ℕ) → well_formed (read p) ≡ true → width read (p ++ r) ≡ cond (space (read p)) (length p) 0
  code-width p r a = go (width read (p ++ r)) refl
    where
      clear : (x : Bool) → space (read p) ≡ x → width read (p ++ r) ≡ 0 → 0 ≡ cond x (length p) 0
      clear true h e = absurd (width_finds read p r h (sized p h) e)
      clear false h e = refl

      go : (k : ℕ) → width read (p ++ r) ≡ k → width read (p ++ r) ≡ cond (space (read p)) (length p) 0
      go zero e = e ∙ clear (space (read p)) refl e
      go (suc k) e =
          let h = width-space read (p ++ r) k e in
          let q = one p (take (suc k) (p ++ r)) r (drop (suc k) (p ++ r)) a (space-well_formed _ h) (sym (take-append-drop (suc k) (p ++ r))) in
          let l : suc k ≤ length (p ++ r) = rw e at (width_le read none (p ++ r)) in
          let n : length p ≡ suc k = ap length q ∙ length-take-le (suc k) (p ++ r) l in
          let t : space (read p) ≡ true = ap (λ f. space (read f)) q ∙ h in
          e ∙ rw (t, n) refl

  strip_characters : (ps : List (List ℕ)) → AllWellFormed ps → strip read 0 (flatten (map read ps)) ≡ flatten (map read (drop_spaces ps))
  unfolding strip flatten drop_spaces
  strip_characters [] a = refl
  strip_characters (p ∷ ps) a = go (space p) refl (strip_characters ps a.1)
    where
      s : List ℕ
      s = read p ++ flatten (map read ps)

      w : width read s ≡ cond (space (read (read p))) (length (read p)) 0
      w = code-width (read p) (flatten (map read ps)) (rw (back p) a.0)

      go : (x : Bool) → space p ≡ x → strip read 0 (flatten (map read ps)) ≡ flatten (map read (drop_spaces ps))
          → strip read 0 s ≡ flatten (map read (cond x (drop_spaces ps) (p ∷ ps)))
      go true h i =
          let v : length (read p) ≡ width read s = sym (w ∙ rw (back p, h) refl) in
          let n = sized (read p) (rw (back p) h) in
          sym (strip_more read s (length (read p)) v n.0) ∙ ap (strip read 0) (drop_at (read p) (flatten (map read ps)) (length (read p)) refl) ∙ i
      go false h i = strip-stop read s (sym (w ∙ rw (back p, h) refl))

flatten-reverse : (ps : List (List ℕ)) → reverse (flatten ps) ≡ flatten (map reverse (reverse ps))
unfolding flatten
flatten-reverse [] = refl
flatten-reverse (p ∷ ps) =
    reverse-append p (flatten ps) ∙ ap (◌++ reverse p) (flatten-reverse ps)
    ∙ sym (ap (λ l. flatten (map reverse l)) (reverse-cons p ps) ∙ ap flatten (map-append reverse (reverse ps) (p ∷ []))
    ∙ flatten-append (map reverse (reverse ps)) (reverse p ∷ []) ∙ ap (flatten (map reverse (reverse ps)) ++◌) (append-nil (reverse p)))

prefix_one : (p f x y : List ℕ) → well_formed p ≡ true → well_formed f ≡ true → p ++ x ≡ f ++ y → p ≡ f
prefix_one p f x y a b e = sym (piece-whole p x a) ∙ ap piece e ∙ piece-whole f y b

reversed_one : (p f x y : List ℕ) → well_formed (reverse p) ≡ true → well_formed (reverse f) ≡ true → p ++ x ≡ f ++ y → p ≡ f
reversed_one p f x y a b e =
    let i = suffix_one (reverse x) (reverse p) (reverse y) (reverse f) (well_formed-shaped _ a) (well_formed-shaped _ b)
    (sym (reverse-append p x) ∙ ap reverse e ∙ reverse-append f y) in
    sym (reverse-reverse p) ∙ ap reverse i ∙ reverse-reverse f

start_characters : (ps : List (List ℕ)) → AllWellFormed ps → trim_start (flatten ps) ≡ flatten (drop_spaces ps)
unfolding trim_start
start_characters ps a =
    ap (λ l. strip (λ p. p) 0 (flatten l)) (sym (map-id ps))
    ∙ strip_characters (λ p. p) (λ p. refl) (λ p. refl) prefix_one no_space ps a ∙ ap flatten (map-id (drop_spaces ps))

end_characters : (ps : List (List ℕ)) → AllWellFormed ps → trim_end (flatten ps) ≡ flatten (reverse (drop_spaces (reverse ps)))
unfolding trim_end
end_characters ps a =
    let q = drop_spaces (reverse ps) in
    ap (λ l. reverse (strip reverse 0 l)) (flatten-reverse ps)
    ∙ ap reverse (strip_characters reverse reverse-reverse length-reverse reversed_one no_space (reverse ps) (all-reverse ps a)
    ∙ ap (λ l. flatten (map reverse l)) (sym (reverse-reverse q)) ∙ sym (flatten-reverse (reverse q)))
    ∙ reverse-reverse (flatten (reverse q))

-- the characters of a well-formed text are its pieces
pub trimmed_characters_lem : (s : List ℕ) → valid s ≡ true → trimmed s ≡ flatten (trimmed_characters (pieces s))
unfolding trimmed trimmed_characters valid
trimmed_characters_lem s h =
    let a = every-all (pieces s) h in
    ap trimmed (sym (flatten-pieces s)) ∙ ap trim_end (start_characters (pieces s) a)
    ∙ end_characters (drop_spaces (pieces s)) (all_drop (pieces s) a)
