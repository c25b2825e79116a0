-- A public reading: 1 where a slice is too short, else the rooms made zero, and the inner reading.
use Rattle.std.specs.Prelude.{true, false, cond, ℕ, ◌≤◌, List, [], ◌∷◌, ◌++◌, map, ◌≡◌, refl, length, replicate}
use Rattle.std.proofs.Common.{sym, ◌∙◌, ap, le-ltb, arith}
use Rattle.std.proofs.lemmas.List.{length-replicate}
use Rattle.refusal.specs.declared.Refusal.TheVariants.{ShortRoom}
use Rattle.refusal.specs.declared.Answer.{Answer}
use Rattle.refusal.specs.Numbers.{refused_answer}
use Rattle.rooms.specs.Cleared.{cleared}
use Rattle.rooms.specs.Stated.{Slices, room_lengths, output_lengths, stated, table_slice, text_slice, short, blank, filled}
use Rattle.reading.specs.Reading.{Reading}

-- what a call answers, and what it leaves of what it was lent
pub record Left : Type 0 where
  pub answer : Answer
  pub slices : Slices

-- 1 where a slice is short, and then nothing is touched; else the rooms are zero, and the reading x says the rest
unfoldable pub reading : Reading → Slices → Left
reading x l =
    cond (short stated l)
    (record { answer = refused_answer ShortRoom; slices = l })
    (record { answer = x.answer; slices = filled x.words x.bytes (blank room_lengths l) })

-- a call with the reading x that was lent l, leaves l' and answers a
abbrev pub ReadCall : Reading → Slices → Slices → Answer → Type 0
ReadCall x l l' a = record { answer = a; slices = l' } ≡ reading x l

-- answer and slices are determined
pub read_one : (x : Reading) (l l' l'' : Slices) (a b : Answer) → ReadCall x l l' a → ReadCall x l l'' b → (a ≡ b) × (l' ≡ l'')
read_one x l l' l'' a b e f = (ap (λ (y : Left). y.answer) (e ∙ sym f), ap (λ (y : Left). y.slices) (e ∙ sym f))

-- ---- in rooms of its own

-- eleven rooms as they are made, all zero and as long as stated, and these outputs
unfoldable pub own_rooms : List ℕ → List ℕ → Slices
own_rooms table text = map (λ n. replicate n 0) room_lengths ++ (table ∷ text ∷ [])

-- a call with the reading x in such rooms, which end with it: its answer, and what it leaves of the outputs
pub record OwnRoomsCall (x : Reading) (table text table' text' : List ℕ) (a : Answer) : Type 0 where
  pub answer : a ≡ (reading x (own_rooms table text)).answer
  pub table_left : table' ≡ table_slice (reading x (own_rooms table text)).slices
  pub text_left : text' ≡ text_slice (reading x (own_rooms table text)).slices

-- from a call with such rooms
pub own_calls : (x : Reading) (table text : List ℕ) (l : Slices) (a : Answer) → ReadCall x (own_rooms table text) l a → OwnRoomsCall x table text (table_slice l) (text_slice l) a
own_calls x table text l a e = record { answer = ap (λ (y : Left). y.answer) e; table_left = ap (λ (y : Left). table_slice y.slices) e; text_left = ap (λ (y : Left). text_slice y.slices) e }

-- answer and outputs are determined
pub own_one_lem : (x : Reading) (table text table' text' table'' text'' : List ℕ) (a b : Answer) → OwnRoomsCall x table text table' text' a → OwnRoomsCall x table text table'' text'' b → (a ≡ b) × (table' ≡ table'') × (text' ≡ text'')
own_one_lem x table text table' text' table'' text'' a b p q = (p.answer ∙ sym q.answer, p.table_left ∙ sym q.table_left, p.text_left ∙ sym q.text_left)

rooms-long : (ns ms : List ℕ) (l : Slices) → short ms l ≡ false → short (ns ++ ms) (map (λ n. replicate n 0) ns ++ l) ≡ false
unfolding short
rooms-long [] ms l e = e
rooms-long (n ∷ ns) ms l e = rw (length-replicate, le-ltb n n (omega arith)) (rooms-long ns ms l e)

outputs_long : (table text : List ℕ) → 8192 ≤ length table → 65536 ≤ length text → short output_lengths (table ∷ text ∷ []) ≡ false
unfolding short
outputs_long table text h k = rw (le-ltb (length table) 8192 h, le-ltb (length text) 65536 k)

-- 1 is for short outputs alone: with long ones the answer is the reading's
pub own_reads : (x : Reading) (table text table' text' : List ℕ) (a : Answer) → 8192 ≤ length table → 65536 ≤ length text → OwnRoomsCall x table text table' text' a → a ≡ x.answer
unfolding reading own_rooms
own_reads x table text table' text' a h k p = rw (rooms-long room_lengths output_lengths (table ∷ text ∷ []) (outputs_long table text h k)) at p.answer

-- ---- the call, case by case

-- 1
pub call-short : (x : Reading) (l : Slices) (a : Answer) → short stated l ≡ true → a ≡ refused_answer ShortRoom → ReadCall x l l a
unfolding reading
call-short x l a e r = rw (e, r)

-- the reading's own answer, from rooms made zero
pub call-reads : (x : Reading) (l m l' : Slices) (a : Answer) → short stated l ≡ false → m ≡ blank room_lengths l → a ≡ x.answer → l' ≡ filled x.words x.bytes m → ReadCall x l l' a
unfolding reading
call-reads x l m l' a e z f g = rw (e, f, g, z)

-- ---- examples, of slices with one element or three

abbrev two : Slices
two = (7 ∷ 7 ∷ 7 ∷ []) ∷ (7 ∷ []) ∷ []

-- none is short; the second is; a third is not there
two_short : (short (3 ∷ 1 ∷ []) two ≡ false) × (short (3 ∷ 2 ∷ []) two ≡ true) × (short (3 ∷ 1 ∷ 0 ∷ []) two ≡ true)
unfolding short
two_short = (refl, refl, refl)

-- zero as far as stated, and what lies behind as it was
two_blank : blank (2 ∷ []) two ≡ (0 ∷ 0 ∷ 7 ∷ []) ∷ (7 ∷ []) ∷ []
unfolding blank cleared
two_blank = refl

-- of thirteen slices the last two are filled
thirteen_filled : filled (5 ∷ 6 ∷ []) [] (replicate 11 [] ++ two) ≡ replicate 11 [] ++ ((5 ∷ 6 ∷ 7 ∷ []) ∷ (7 ∷ []) ∷ [])
unfolding filled
thirteen_filled = refl
