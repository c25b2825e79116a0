-- RULES, Ask 1, on three sheets, of A9.5 and the bench (A10): one that is accepted, one that is refused, and one that is accepted and shorter.
use Rattle.std.specs.Prelude.{ℕ, true, false, List, [], ◌∷◌, ◌++◌, ◌≡◌, refl, get_or, replicate}
use Rattle.std.proofs.Common.{◌∙◌, ap, arith}
use Rattle.refusal.specs.declared.Refusal.TheVariants.{StackUnderflow}
use Rattle.refusal.specs.declared.Answer.{Answer}
use Rattle.op.specs.declared.Edition.TheVariants.{Full}
use Rattle.lengths.specs.Sum.{sum}
use Rattle.rooms.specs.Stated.{Slices, room_lengths, stated, short, blank, filled, filled_none}
use Rattle.value.specs.Value.{BoolL, nil, node, size, text, table}
use Rattle.reading.specs.Reading.{Reading, refuses, reads, reading_of, consumed, prefix, whole, leaves, whole-prefix}
use Rattle.reading.specs.Bench.{bench_holds, building_holds}
use Rattle.de.specs.Shared.{shared, shared_stops, shared-apart, shared-forest, shared-written}
use Rattle.batch.specs.Batch.{sheets_of, four, answers_of, after, bare, batch, BatchCall}
use Rattle.batch.specs.Each.{four_at}
use Rattle.batch.specs.Theorems.{batch_succeeds, or_trailing, sheet_never_shows_sharing}

-- STOP with nothing to give
abbrev pub stop : List ℕ
stop = 0x2E ∷ []

-- True
abbrev pub yes : List ℕ
yes = 0x49 ∷ 0x30 ∷ 0x31 ∷ 0x0A ∷ 0x2E ∷ []

-- the first sheet is a list that is placed twice, and 5 added after that
abbrev pub night : List ℕ
night = shared ++ stop ++ yes

abbrev pub night_lengths : List ℕ
night_lengths = 12 ∷ 1 ∷ 5 ∷ []

-- ---- by computation

-- a row of a table of readings
abbrev nth : ℕ → List Reading → Reading
nth i t = get_or t i (refuses StackUnderflow)

shared-read : whole shared ≡ reads 12 shared-forest
unfolding leaves
shared-read = let e : prefix shared ≡ reads 12 shared-forest = ap (nth 0) building_holds in whole-prefix Full shared (rw e refl) ∙ e

stop_refused : whole stop ≡ refuses StackUnderflow
unfolding leaves
stop_refused = let e : prefix stop ≡ refuses StackUnderflow = ap (nth 1) bench_holds in whole-prefix Full stop (rw e refl) ∙ e

yes_read : whole yes ≡ reads 5 (node (BoolL true) nil nil)
unfolding leaves
yes_read = let e : prefix yes ≡ reads 5 (node (BoolL true) nil nil) = ap (nth 3) bench_holds in whole-prefix Full yes (rw e refl) ∙ e

-- The batch, in slices that are long enough and thirteen places that held 7: success; the three sheets' numbers, and the last place as it was;
-- the one record of True, behind it what the first sheet's five left, and behind them the table as it was.
pub three_sheets : (l : Slices) → short stated l ≡ false → batch night night_lengths (replicate 13 7) l ≡ record {
  answer = bare (0, 0);
  answers = 0 ∷ 0 ∷ 12 ∷ 5 ∷ 6 ∷ 0 ∷ 0 ∷ 0 ∷ 0 ∷ 0 ∷ 5 ∷ 1 ∷ 7 ∷ [];
  slices = filled (1 ∷ 1 ∷ 0 ∷ 0 ∷ []) [] (filled (table shared-forest 0) [] (blank room_lengths l));
}
unfolding batch sum sheets_of answers_of after size text table
three_sheets l e = rw (e, shared-read, stop_refused, yes_read, filled_none) refl

-- ---- by demand 3

-- the first sheet meets the premise: its numbers are those of the list written out twice
pub first_plain : (o : List ℕ) (l : Slices) (o' : List ℕ) (l' : Slices) (a : Answer) → BatchCall night night_lengths o l o' l' a → a.number ≡ 0 → four_at o' 0 ≡ four (or_trailing shared (reading_of 12 shared-forest)).answer
unfolding sheets_of
first_plain o l o' l' a c z =
    let x = shared_stops in
    let e : consumed shared x.0 ≡ 12 = rw x.4 refl in
    rw (← e)
    (sheet_never_shows_sharing shared x.0 (omega arith) x.1 (rw x.3 (omega arith)) (rw (x.2, x.3) shared-apart) shared-forest (rw (x.2, x.3) shared-written) (batch_succeeds night night_lengths o l o' l' a c z) 0 (omega arith) refl)
