-- Sheets read one after the other in zero rooms: what the loop over them leaves, and what holds at each turn.
use Rattle.std.specs.Prelude.{ℕ, suc, ◌+◌, ◌-◌, ◌*◌, ◌<◌, ◌≤◌, true, ◌≡◌, refl, length, set}
use mathlib.Core.List.{List, [], ◌∷◌, ◌++◌}
use Rattle.std.proofs.Common.{sym, ◌∙◌, drop-cons, drop-drop, add-one}
use Rattle.std.proofs.Math.Path.{ap}
use Rattle.std.proofs.Math.ListN.{get_or, take, drop, drop_of_length-le}
use Rattle.std.proofs.Math.Seq.{sets, sets-eq, length-sets}
use Rattle.std.proofs.Math.Nat.{zero-add}
use native.Mathlib.Omega.{arith}
use Rattle.refusal.specs.declared.Answer.{Answer}
use Rattle.lengths.specs.Sum.{sum, sum_drop}
use Rattle.op.specs.declared.Edition.TheVariants.{Full}
use Rattle.rooms.specs.Stated.{Slices, begun, filled, Ready, filled_ready}
use Rattle.reading.specs.Reading.{Reading, whole}
use Rattle.de.specs.Given.{due}
use Rattle.de.specs.Inner.{InnerReads}
use Rattle.batch.specs.Batch.{sheets_of, four, answers_of, after}

-- every sheet of the buffer s read: o, lent for the answers, has become o', and the slices l have become l'
pub record ReadAll (s ns o o' : List ℕ) (l l' : Slices) : Type 0 where
  pub answers : o' ≡ begun (answers_of (sheets_of s ns)) o
  pub slices : l' ≡ after (sheets_of s ns) l

-- ---- how many they are

pub sheets_count : (s ns : List ℕ) → length (sheets_of s ns) ≡ length ns
unfolding sheets_of
sheets_count s [] = refl
sheets_count s (n ∷ ns) = ap suc (sheets_count (drop n s) ns)

pub answers-count : (ps : List (List ℕ)) → length (answers_of ps) ≡ 4 * length ps
unfolding answers_of
answers-count [] = refl
answers-count (p ∷ ps) = let e = answers-count ps in omega arith

-- ---- a turn

-- i sheets are read, which end at the place `at`: what is left of the buffer, put behind them, makes what all of it makes
pub record ReadSoFar (s ns o₀ : List ℕ) (l₀ : Slices) (at i : ℕ) (o : List ℕ) (l : Slices) : Type 0 where
  pub place : at + sum (drop i ns) ≡ length s
  pub room : length o ≡ length o₀
  pub ready : Ready l
  pub answers : sets o (4 * i) (answers_of (sheets_of (drop at s) (drop i ns))) ≡ sets o₀ 0 (answers_of (sheets_of s ns))
  pub slices : after (sheets_of (drop at s) (drop i ns)) l ≡ after (sheets_of s ns) l₀

-- four numbers, stored one after the other
pub store_four : (o : List ℕ) (at : ℕ) (a : Answer) → set (set (set (set o at a.number) (at + 1) a.detail) (at + 2) a.length) (at + 3) a.count ≡ sets o at (four a)
store_four o at a =
    let one : at + 1 ≡ suc at = omega arith in
    let two : at + 2 ≡ suc (suc at) = omega arith in
    let three : at + 3 ≡ suc (suc (suc at)) = omega arith in
    rw (one, two, three) refl

-- and the others behind them
four-behind : (o : List ℕ) (i : ℕ) (a : Answer) (r : List ℕ) → sets (sets o (4 * i) (four a)) (4 * (i + 1)) r ≡ sets o (4 * i) (four a ++ r)
four-behind o i a r = ap (λ (k : ℕ). sets (sets o (4 * i) (four a)) k r) (omega arith)

module _ (s ns o₀ : List ℕ) (l₀ : Slices) where
  pub going_start : length s ≡ sum ns → Ready l₀ → ReadSoFar s ns o₀ l₀ 0 0 o₀ l₀
  going_start e r = record { place = omega arith; room = refl; ready = r; answers = refl; slices = refl }

  module _ (at i : ℕ) (o : List ℕ) (l : Slices) (g : ReadSoFar s ns o₀ l₀ at i o l) where
    pub going_end : length ns ≤ i → 4 * length ns ≤ length o₀ → ReadAll s ns o₀ o l₀ l
    unfolding sheets_of answers_of after
    going_end h k =
        let nothing : drop i ns ≡ [] = drop_of_length-le ns h in
        let e = answers-count (sheets_of s ns) in
        let f = sheets_count s ns in
        record {
          answers = rw nothing at g.answers ∙ sets-eq (answers_of (sheets_of s ns)) o₀ 0 (omega arith) ∙ rw zero-add refl;
          slices = rw nothing at g.slices;
        }

    -- the next sheet
    module _ (h : i < length ns) where
      rest : sheets_of (drop at s) (drop i ns) ≡ take (get_or ns i 0) (drop at s) ∷ sheets_of (drop (at + get_or ns i 0) s) (drop (i + 1) ns)
      unfolding sheets_of
      rest =
          ap (sheets_of (drop at s)) (drop-cons ns i 0 h)
          ∙ ap (λ (x : List ℕ). take (get_or ns i 0) (drop at s) ∷ sheets_of x (drop (suc i) ns)) (drop-drop (get_or ns i 0) at s)
          ∙ ap (λ (k : ℕ). take (get_or ns i 0) (drop at s) ∷ sheets_of (drop (at + get_or ns i 0) s) (drop k ns)) (sym (add-one i))

      pub going_inside : at + get_or ns i 0 ≤ length s
      going_inside = let e = sum_drop ns i h in let f = g.place in omega arith

      pub going_more : (a : Answer) (o' : List ℕ) (l' : Slices) → InnerReads (whole (take (at + get_or ns i 0 - at) (drop at s))) l l' a → o' ≡ sets o (4 * i) (four a) → ReadSoFar s ns o₀ l₀ (at + get_or ns i 0) (i + 1) o' l'
      unfolding answers_of after
      going_more a o' l' r k =
          let more : List (List ℕ) = sheets_of (drop (at + get_or ns i 0) s) (drop (i + 1) ns) in
          let x : Reading = whole (take (at + get_or ns i 0 - at) (drop at s)) in
          let n : at + get_or ns i 0 - at ≡ get_or ns i 0 = omega arith in
          let e : x ≡ whole (take (get_or ns i 0) (drop at s)) = ap (λ (k : ℕ). whole (take k (drop at s))) n in
          let z = sum_drop ns i h in
          let y = g.place in
          record {
            place = omega arith;
            room = rw (k, length-sets) g.room;
            ready = rw r.slices (filled_ready x.words x.bytes l g.ready);
            answers =
                ap (λ (q : List ℕ). sets q (4 * (i + 1)) (answers_of more)) k
                ∙ four-behind o i a (answers_of more)
                ∙ ap (λ (b : Answer). sets o (4 * i) (four b ++ answers_of more)) (r.answer ∙ ap (λ (y : Reading). y.answer) e)
                ∙ ap (λ (ps : List (List ℕ)). sets o (4 * i) (answers_of ps)) (sym rest)
                ∙ g.answers;
            slices =
                ap (after more) (r.slices ∙ ap (λ (y : Reading). filled y.words y.bytes l) e)
                ∙ ap (λ (ps : List (List ℕ)). after ps l) (sym rest)
                ∙ g.slices;
          }

-- ---- one sheet

-- the inner reading's own is the whole reading
pub sheet-read : (p : List ℕ) (l l' : Slices) (a : Answer) → InnerReads (due Full true p) l l' a → InnerReads (whole p) l l' a
unfolding due
sheet-read p l l' a r = r

-- ---- slices as long as they were

abbrev pub SlicesAsLong : Slices → Slices → Type 0
SlicesAsLong [] [] = Unit {0}
SlicesAsLong [] (t ∷ m) = ⊥
SlicesAsLong (s ∷ l) [] = ⊥
SlicesAsLong (s ∷ l) (t ∷ m) = (length s ≡ length t) × SlicesAsLong l m

pub slices_as_long : (l : Slices) → SlicesAsLong l l
slices_as_long [] = tt
slices_as_long (s ∷ l) = (refl, slices_as_long l)

pub as_long_still : (l m n : Slices) → SlicesAsLong l m → SlicesAsLong m n → SlicesAsLong l n
as_long_still [] [] (u ∷ n) a b = elim b [ ]
as_long_still [] (t ∷ m) n a b = elim a [ ]
as_long_still (s ∷ l) [] n a b = elim a [ ]
as_long_still (s ∷ l) (t ∷ m) [] a b = elim b [ ]
as_long_still [] [] [] a b = tt
as_long_still (s ∷ l) (t ∷ m) (u ∷ n) a b = (a.0 ∙ b.0, as_long_still l m n a.1 b.1)
