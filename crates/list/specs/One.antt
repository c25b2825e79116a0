-- RULES, Ask 2.2: two well-formed values with the same listing are the same value.
use Rattle.std.specs.Prelude.{ℕ, suc, ◌+◌, ◌*◌, ◌^◌, ◌<◌, List, [], ◌++◌, ◌≡◌, refl, T, length, drop}
use Rattle.std.proofs.Common.{append_assoc, sym, ◌∙◌, ap, arith, take-append-drop}
use Rattle.input.specs.Bytes.{Bytes}
use Rattle.value.specs.Value.{Label, Forest, one, text_of, text, count, size, count-size, record_of, table, nil, node}
use Rattle.value.specs.Shape.{Words, fitting, shaped, and_l, and_r}
use Rattle.value.specs.WellFormed.{WellFormed}
use Rattle.table.specs.CompareLaws.{Identical}
use Rattle.list.specs.Listing.{record_line, listing}
use Rattle.list.specs.Back.{words_left, words_right, bytes_left, bytes_right, LineReadable, line_one}

-- values whose table, with the texts from p on, is of words, and whose text is of bytes
record InTable (f : Forest) (p : ℕ) : Type 0 where
  pub shape : T (shaped f)
  pub words : Words (table f p)
  pub bytes : Bytes (text f)
  pub few : size f < 10 ^ 20

module _ (l : Label) (c r : Forest) (p : ℕ) (a : InTable (node l c r) p) where
  abbrev q : ℕ
  q = p + length (text_of l)

  abbrev u : ℕ
  u = q + length (text c)

  abbrev record₀ : List ℕ
  record₀ = record_of l p (count c) (suc (size c))

  all_words : Words (record₀ ++ (table c q ++ table r u))
  unfolding table
  all_words = a.words

  all-bytes : Bytes (text_of l ++ (text c ++ text r))
  unfolding text
  all-bytes = a.bytes

  all-shaped : T (fitting l (count c)) × T (shaped c) × T (shaped r)
  unfolding shaped
  all-shaped =
      let h = a.shape in
      let cr = and_r (fitting l (count c)) _ h in
      (and_l (fitting l (count c)) _ h, and_l (shaped c) _ cr, and_r (shaped c) _ cr)

  all_few : suc (size c + size r) < 10 ^ 20
  unfolding size
  all_few = a.few

  first_readable : LineReadable l (count c)
  first_readable =
      let w = words_left record₀ _ all_words in
      record {
        place = p;
        records = suc (size c);
        words = λ i. w (suc i);
        bytes = bytes_left (text_of l) _ all-bytes;
        fits = all-shaped.0;
        few = omega (arith, count-size c, all_few);
      }

  contents_in : InTable c q
  contents_in =
      record {
        shape = all-shaped.1;
        words = words_left (table c q) _ (words_right record₀ _ all_words);
        bytes = bytes_left (text c) _ (bytes_right (text_of l) _ all-bytes);
        few = omega (arith, all_few);
      }

  after_in : InTable r u
  after_in =
      record {
        shape = all-shaped.2;
        words = words_right (table c q) _ (words_right record₀ _ all_words);
        bytes = bytes_right (text c) _ (bytes_right (text_of l) _ all-bytes);
        few = omega (arith, all_few);
      }

listing-apart : (d : ℕ) (l : Label) (c r : Forest) (x : List ℕ) → listing d (node l c r) ++ x ≡ record_line d l (count c) ++ (listing (suc d) c ++ (listing d r ++ x))
unfolding listing
listing-apart d l c r x = rw (append_assoc (record_line d l (count c)), append_assoc (listing (suc d) c))

-- as many values, listed alike, are the same values, and what stands behind the listings is the same
forest_one : (f g : Forest) (d p q : ℕ) (x y : List ℕ) → InTable f p → InTable g q → count f ≡ count g → listing d f ++ x ≡ listing d g ++ y → (f ≡ g) × (x ≡ y)
unfolding count listing
forest_one nil nil d p q x y a b n e = (refl, e)
forest_one nil (node m c' r') d p q x y a b n e = absurd (omega arith)
forest_one (node l c r) nil d p q x y a b n e = absurd (omega arith)
forest_one (node l c r) (node m c' r') d p q x y a b n e =
    let e₀ = sym (listing-apart d l c r x) ∙ e ∙ listing-apart d m c' r' y in
    let h = line_one d l m (count c) (count c') _ _ (first_readable l c r p a) (first_readable m c' r' q b) e₀ in
    let i = forest_one c c' (suc d) _ _ _ _ (contents_in l c r p a) (contents_in m c' r' q b) h.1 h.2 in
    let j = forest_one r r' d _ _ x y (after_in l c r p a) (after_in m c' r' q b) (omega arith) i.1 in
    (cc (h.0, i.0, j.0), j.1)

well_formed_in : (w : List ℕ) (n : ℕ) (t : List ℕ) (f : WellFormed w n t) → Words w → Bytes t → InTable (one f.value) 0
well_formed_in w n t f W B =
    let v = one f.value in
    let rest = drop (4 * n) w in
    let e : w ≡ table v 0 ++ rest = sym (take-append-drop (4 * n) w) ∙ ap (λ (x : List ℕ). x ++ rest) f.records in
    record {
      shape = f.shape;
      words = words_left (table v 0) rest (rw (← e) W);
      bytes = rw (← f.texts) B;
      few = omega (arith, f.counted, f.few);
    }

-- Words and bytes are what the lent slices are of.
pub listing_one : (w : List ℕ) (n : ℕ) (t w' : List ℕ) (n' : ℕ) (t' : List ℕ) (f : WellFormed w n t) (g : WellFormed w' n' t') → Words w → Bytes t → Words w' → Bytes t'
    → listing 0 (one f.value) ≡ listing 0 (one g.value) → (one f.value ≡ one g.value) × Identical w n t w' n' t'
unfolding count
listing_one w n t w' n' t' f g W B W' B' e =
    let v = one f.value in
    let v' = one g.value in
    let e₀ : listing 0 v ++ [] ≡ listing 0 v' ++ [] = ap (λ (s : List ℕ). s ++ []) e in
    let h : v ≡ v' = (forest_one v v' 0 0 0 [] [] (well_formed_in w n t f W B) (well_formed_in w' n' t' g W' B') refl e₀).0 in (
      h,
      record {
        counts = sym f.counted ∙ ap size h ∙ g.counted;
        records = f.records ∙ ap (λ (x : Forest). table x 0) h ∙ sym g.records;
        texts = f.texts ∙ ap text h ∙ sym g.texts;
      },
    )
