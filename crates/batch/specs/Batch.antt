-- RULES, Ask 1: sheets that lie end to end in one buffer, read by one call. The batch is defined on `whole` alone, the reading of a
-- sheet as whole data.
use Rattle.std.specs.Prelude.{ℕ, ◌*◌, ◌/◌, ◌≤◌, Bool, true, false, cond, ◌||◌, List, [], ◌∷◌, ◌++◌, ◌≡◌, length, take, drop, ltb, eqb}
use Rattle.std.proofs.Math.Path.{refl}
use Rattle.std.proofs.Common.{sym, ◌∙◌, ap, ap₂, ltb-true, ltb-false, lt-ltb, le-ltb, arith}
use Rattle.refusal.specs.declared.Refusal.TheVariants.{ShortRoom}
use Rattle.refusal.specs.declared.Answer.{Answer}
use Rattle.refusal.specs.Numbers.{refused_answer}
use Rattle.lengths.specs.Sum.{bad_lengths, sum}
use Rattle.rooms.specs.Stated.{Slices, room_lengths, stated, short, blank, begun, filled}
use Rattle.reading.specs.Reading.{whole}

-- the sheets of a buffer, end to end, each of its length
unfoldable pub sheets_of : List ℕ → List ℕ → List (List ℕ)
sheets_of s [] = []
sheets_of s (n ∷ ns) = take n s ∷ sheets_of (drop n s) ns

-- a sheet's four numbers
abbrev pub four : Answer → List ℕ
four a = a.number ∷ a.detail ∷ a.length ∷ a.count ∷ []

-- those of all sheets, end to end
unfoldable pub answers_of : List (List ℕ) → List ℕ
answers_of [] = []
answers_of (p ∷ ps) = four (whole p).answer ++ answers_of ps

-- what the sheets leave of slices whose rooms are zero: table and text begun with each accepted one in turn (a refused one has nothing
-- to begin them with)
unfoldable pub after : List (List ℕ) → Slices → Slices
after [] l = l
after (p ∷ ps) l = after ps (filled (whole p).words (whole p).bytes l)

-- what the call answers, and what it leaves of the slice for the answers and of the slices of a reading
pub record BatchLeft : Type 0 where
  pub answer : Answer
  pub answers : List ℕ
  pub slices : Slices

-- number and detail, with length 0 and count 0
abbrev pub bare : ℕ × ℕ → Answer
bare x = record { number = x.0; detail = x.1; length = 0; count = 0 }

-- 1 where a slice of a reading is short, or the one for the answers has fewer than four places a sheet; then 23 where the lengths do not add
-- up to the buffer's; neither touches anything. Else the rooms are zero, and every sheet is read.
unfoldable pub batch : List ℕ → List ℕ → List ℕ → Slices → BatchLeft
batch s ns o l =
    cond (short stated l || ltb (length o) (4 * length ns))
    (record { answer = refused_answer ShortRoom; answers = o; slices = l })
    (cond (eqb (length s) (sum ns))
    (record { answer = bare (0, 0); answers = begun (answers_of (sheets_of s ns)) o; slices = after (sheets_of s ns) (blank room_lengths l) })
    (record { answer = bare bad_lengths; answers = o; slices = l }))

-- a call that was lent the buffer s, the lengths ns, o for the answers and the slices l, leaves o' and l' and answers a
abbrev pub BatchCall : List ℕ → List ℕ → List ℕ → Slices → List ℕ → Slices → Answer → Type 0
BatchCall s ns o l o' l' a = record { answer = a; answers = o'; slices = l' } ≡ batch s ns o l

module _ (s ns o : List ℕ) (l : Slices) where
  -- answer, answers and slices are determined
  pub batch_one : (o' o'' : List ℕ) (l' l'' : Slices) (a b : Answer) → BatchCall s ns o l o' l' a → BatchCall s ns o l o'' l'' b → (a ≡ b) × (o' ≡ o'') × (l' ≡ l'')
  batch_one o' o'' l' l'' a b e f = (ap (λ (y : BatchLeft). y.answer) (e ∙ sym f), ap (λ (y : BatchLeft). y.answers) (e ∙ sym f), ap (λ (y : BatchLeft). y.slices) (e ∙ sym f))

  -- ---- the call, case by case

  -- 1
  pub batch-short : (a : Answer) → (short stated l || ltb (length o) (4 * length ns)) ≡ true → a ≡ refused_answer ShortRoom → BatchCall s ns o l o l a
  unfolding batch
  batch-short a e r = rw (e, r)

  -- as the code tests it, without a product that could wrap
  pub batch_test : (b : Bool) → b ≡ short stated l → (b || ltb (length o / 4) (length ns)) ≡ (short stated l || ltb (length o) (4 * length ns))
  batch_test b e = ap₂ (λ (x y : Bool). x || y) e (go (ltb (length o / 4) (length ns)) refl)
    where
      go : (b : Bool) → ltb (length o / 4) (length ns) ≡ b → b ≡ ltb (length o) (4 * length ns)
      go true h = let k = ltb-true (length o / 4) (length ns) h in sym (lt-ltb (length o) (4 * length ns) (omega arith))
      go false h = let k = ltb-false (length o / 4) (length ns) h in sym (le-ltb (length o) (4 * length ns) (omega arith))

  module _ (enough : (short stated l || ltb (length o) (4 * length ns)) ≡ false) where
    pub batch-long : short stated l ≡ false
    batch-long = go (short stated l) enough
      where
        go : (b : Bool) → (b || ltb (length o) (4 * length ns)) ≡ false → b ≡ false
        go false e = refl
        go true e = e

    pub batch_places : 4 * length ns ≤ length o
    batch_places = ltb-false (length o) (4 * length ns) (sym (ap (λ (b : Bool). b || ltb (length o) (4 * length ns)) batch-long) ∙ enough)

    -- 23
    pub batch_bad : eqb (length s) (sum ns) ≡ false → BatchCall s ns o l o l (bare bad_lengths)
    unfolding batch
    batch_bad e = rw (enough, e)

    -- every sheet read, in rooms made zero
    pub batch-read : (o' : List ℕ) (m l' : Slices) → eqb (length s) (sum ns) ≡ true → m ≡ blank room_lengths l → o' ≡ begun (answers_of (sheets_of s ns)) o → l' ≡ after (sheets_of s ns) m → BatchCall s ns o l o' l' (bare (0, 0))
    unfolding batch
    batch-read o' m l' e z f g = rw (enough, e, f, g, z)

-- ---- examples

-- a buffer of six bytes as sheets of three, none and two, and one byte that no length has
cut_up : sheets_of (1 ∷ 2 ∷ 3 ∷ 4 ∷ 5 ∷ 6 ∷ []) (3 ∷ 0 ∷ 2 ∷ []) ≡ (1 ∷ 2 ∷ 3 ∷ []) ∷ [] ∷ (4 ∷ 5 ∷ []) ∷ []
unfolding sheets_of
cut_up = refl

-- no slices are short ones, whatever else is wrong: 1
none_lent : batch (7 ∷ []) (2 ∷ []) [] [] ≡ record { answer = bare (1, 0); answers = []; slices = [] }
unfolding batch short
none_lent = refl

module _ (l : Slices) (long : short stated l ≡ false) where
  -- seven places for two sheets: 1, and not 23
  seven_places : batch (7 ∷ []) (2 ∷ 2 ∷ []) (7 ∷ 7 ∷ 7 ∷ 7 ∷ 7 ∷ 7 ∷ 7 ∷ []) l ≡ record { answer = bare (1, 0); answers = 7 ∷ 7 ∷ 7 ∷ 7 ∷ 7 ∷ 7 ∷ 7 ∷ []; slices = l }
  unfolding batch
  seven_places = rw long refl

  -- a byte too many, one too few, and lengths that wrap to two bytes: 23
  too_many : batch (7 ∷ 7 ∷ []) (1 ∷ []) (7 ∷ 7 ∷ 7 ∷ 7 ∷ []) l ≡ record { answer = bare (23, 0); answers = 7 ∷ 7 ∷ 7 ∷ 7 ∷ []; slices = l }
  unfolding batch sum
  too_many = rw long refl

  too_few : batch (7 ∷ 7 ∷ []) (3 ∷ []) (7 ∷ 7 ∷ 7 ∷ 7 ∷ []) l ≡ record { answer = bare (23, 0); answers = 7 ∷ 7 ∷ 7 ∷ 7 ∷ []; slices = l }
  unfolding batch sum
  too_few = rw long refl

  wrapping : batch (7 ∷ 7 ∷ []) (18446744073709551615 ∷ 3 ∷ []) (7 ∷ 7 ∷ 7 ∷ 7 ∷ 7 ∷ 7 ∷ 7 ∷ 7 ∷ []) l ≡ record { answer = bare (23, 0); answers = 7 ∷ 7 ∷ 7 ∷ 7 ∷ 7 ∷ 7 ∷ 7 ∷ 7 ∷ []; slices = l }
  unfolding batch sum
  wrapping = rw long refl

  -- no sheets and nothing in the buffer: success, the rooms zero, the answers kept
  no_sheets : batch [] [] (7 ∷ []) l ≡ record { answer = bare (0, 0); answers = 7 ∷ []; slices = blank room_lengths l }
  unfolding batch sum sheets_of answers_of after
  no_sheets = rw long refl
