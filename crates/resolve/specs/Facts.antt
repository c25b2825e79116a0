-- What the walk's code reads: the node table off its words, and its rooms beside the state of the walk.
use Rattle.std.specs.Prelude.{ℕ, suc, ◌+◌, ◌*◌, ◌/◌, ◌%◌, ◌<◌, ◌≤◌, Bool, true, false, cond, List, [], ◌∷◌, ◌≡◌, refl, length, get_or, eqb}
use Rattle.std.proofs.Common.{arith}
use Rattle.value.specs.Value.{Value, text_of}
use Rattle.steps.specs.State.{Node}
use Rattle.steps.specs.Opcodes.{is_object}
use Rattle.reading.specs.Build.{taken, kept, at}
use Rattle.reading.specs.Unfold.{In, here, there}
use Rattle.reading.specs.Measures.{value_measure}
use Rattle.resolve.specs.Length.{text_bytes, LengthReadable}
use Rattle.resolve.specs.MeasureWord.{measure_word}
use Rattle.resolve.specs.Walk.{WalkState}
use Rattle.resolve.specs.Inside.{DoneWithin}
use Rattle.resolve.specs.Dues.{is_due, dues}
use Rattle.resolve.specs.Noted.{is_container, is_text_leaf}
use Rattle.resolve.specs.Fits.{FitsState}
use Rattle.resolve.specs.Resolves.{open_not_done}
use Rattle.resolve.specs.Sums.{apart_next, ordered-apart, apart-short}
use Rattle.resolve.specs.DuesRoom.{Lists, lists_count, lists_length}
use Rattle.resolve.specs.Shown.{sorted_in}
use Rattle.resolve.specs.Kinds.{container_kind}

-- the word of a value
abbrev pub value_word : Value → ℕ
value_word v = measure_word (value_measure v)

-- ---- the node table

abbrev pub kind_at : List ℕ → ℕ → ℕ
kind_at ws i = get_or ws (2 * i) 0 % 16

-- the node of an Object's class
abbrev pub class_at : List ℕ → ℕ → ℕ
class_at ws i = get_or ws (2 * i) 0 / 64

-- the pickle p and the words ws say the nodes t, and there is a start for each
pub record Facts (p ws starts : List ℕ) (t : List Node) : Type 0 where
  pub beyond : length t ≤ 4096
  pub words_long : 2 * length t ≤ length ws
  pub starts_long : length t < length starts
  pub readable : (i : ℕ) → i < length t → LengthReadable p ws i
  pub lens_are : (i : ℕ) → i < length t → text_bytes p ws i ≡ length (text_of (at t i).label)
  pub objects : (i : ℕ) → i < length t → is_object (at t i).label ≡ eqb (kind_at ws i) 12
  pub containers : (i : ℕ) → i < length t → is_container (at t i).label ≡ container_kind (kind_at ws i)
  pub due_are : (i : ℕ) → i < length t → is_due (at t i).label ≡ sorted_in (kind_at ws i)
  pub textless : (i : ℕ) → i < length t → kind_at ws i < 4 → is_text_leaf (at t i).label ≡ false
  pub classes : (i : ℕ) → i < length t → kind_at ws i ≡ 12 → (class_at ws i < length t) × (kind_at ws (class_at ws i) ≡ 11)
  pub leafless : (i : ℕ) → i < length t → is_container (at t i).label ≡ false → (at t i).kids ≡ []
  pub inside : (i j : ℕ) → In j (at t i).kids → j < length t

-- ---- the rooms

-- every value that is kept is shallow enough for its word to tell its depth
abbrev pub Shallow : WalkState → Type 0
Shallow s = (j : ℕ) (v : Value) → s.stages j ≡ kept v → (value_measure v).deep ≤ 64

-- measures, children and dues hold the state s of a walk, the room of dues being `lent` at its beginning
pub record HoldsWalk (t : List Node) (beyond : length t ≤ 4096) (starts lent measures sorted room : List ℕ) (s : WalkState) : Type 0 where
  pub fits : FitsState t 4096 beyond value_word starts measures sorted s
  pub small : Shallow s
  pub within : DoneWithin t s
  pub listed : Lists lent room (dues t s.done)

dues-short : (t : List Node) (l : List ℕ) → length (dues t l) ≤ length l
unfolding dues
dues-short t [] = omega arith
dues-short t (i ∷ l) = go (is_due (at t i).label) (dues-short t l)
  where
    go : (b : Bool) → length (dues t l) ≤ length l → length (cond b (i ∷ dues t l) (dues t l)) ≤ suc (length l)
    go true h = omega arith
    go false h = omega arith

module _ {t : List Node} {beyond : length t ≤ 4096} {starts lent measures sorted room : List ℕ} {s : WalkState} (h : HoldsWalk t beyond starts lent measures sorted room s) (n : ℕ) (l : n < length t) (e : s.stages n ≡ taken) where
  -- finished nodes are different nodes, and the one that is taken is none of them: another may be noted
  pub one_more : length (dues t s.done) < length t
  one_more =
      let a = apart_next (λ m. open_not_done t 4096 beyond h.fits.resolves n e n m refl) (ordered-apart h.fits.resolves.ordered) in
      omega (arith, dues-short t s.done, apart-short (length t) a all)
    where
      all : (j : ℕ) → In j (n ∷ s.done) → j < length t
      all j here = l
      all j (there m) = h.within j m

  pub note_fits : length t < length lent → (n < 65536) × (get_or room 0 0 < 65535) × (get_or room 0 0 + 1 < length room)
  note_fits r =
      let a = one_more in
      let b = lists_count h.listed in
      let c = lists_length h.listed in
      (omega arith, omega arith, omega arith)
