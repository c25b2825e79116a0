-- What the decoding asks for, from the walk's rooms: the texts that it wants are those of finished nodes, so together they are no longer than
-- the tree's.
use Prim.Native.Nat.{ℕ, suc, zero, ◌+◌, ◌^◌, ◌<◌, ◌≤◌}
use Rattle.std.specs.Prelude.{Bool, true, false, cond, ◌&&◌, ◌||◌, List, ◌≡◌, refl, length, get_or, ltb, leb}
use Rattle.std.proofs.Common.{sym, length-append}
use native.Mathlib.Omega.{arith}
use Rattle.value.specs.Value.{Label, text_of, NoneL, BoolL, I64L, F64L, BytesL, StringL, ListL, TupleL, SetL, FrozenSetL, DictL, GlobalL, ObjectL}
use Rattle.steps.specs.State.{Node}
use Rattle.reading.specs.Build.{at}
use Rattle.resolve.specs.Noted.{is_container, ahead}
use Rattle.resolve.specs.Shown.{leading, trailing, label_has_text}
use Rattle.resolve.specs.Reached.{text_if}
use Rattle.resolve.specs.Sums.{up_to}
use Rattle.resolve.specs.Rooted.{has_word, worded-texts}
use Rattle.resolve.specs.TextsDue.{text_due, node_text_length, due_text, Decodable}
use Rattle.de.specs.Rooms.{Zeros, zeros_long}
use Rattle.de.specs.Measured.{MeasuredAs}

-- ---- one node

-- what leads and what trails are a label's text
text_parts : (l : Label) → length (leading l) + length (trailing l) ≡ length (text_of l)
text_parts NoneL = refl
text_parts (BoolL b) = refl
text_parts (I64L n) = refl
text_parts (F64L n) = refl
text_parts (BytesL s) = omega arith
text_parts (StringL s) = omega arith
text_parts ListL = refl
text_parts TupleL = refl
text_parts SetL = refl
text_parts FrozenSetL = refl
text_parts DictL = refl
text_parts (GlobalL m n) = sym (length-append m n)
text_parts (ObjectL m n b) = sym (length-append m n)

part : (x : Bool) (n : ℕ) → cond x n 0 ≤ n
part true n = omega arith
part false n = omega arith

-- a text that is wanted has a word that is not read ahead
wanted : (h b c : Bool) (w n : ℕ) → cond (h && (b && ltb w (cond c (2 ^ 42) (2 ^ 41)))) n 0 ≤ cond (b && (c || ltb w ahead)) n 0
wanted false b c w n = omega arith
wanted true false c w n = omega arith
wanted true true true w n = part (ltb w (2 ^ 42)) n
wanted true true false w n = omega arith

-- ---- all of them

module _ {p ws starts sorted noted measures : List ℕ} {t : List Node} {root : ℕ} (m : MeasuredAs p ws starts sorted noted measures t root) where
  -- a measure a node
  pub measures_many : length measures ≡ length t
  measures_many = m.holds.fits.noted.long

  node_fits : (i : ℕ) → i < length t → cond (text_due p ws i (get_or measures i 0)) (node_text_length p ws i) 0 ≤ text_if t (has_word t measures) i
  unfolding text_due
  node_fits i l =
      let e = m.limited.worded.labels_are i l in
      let q = text_parts (at t i).label in
      rw (← e, q) (wanted (label_has_text (at t i).label) (leb 128 (get_or measures i 0)) (is_container (at t i).label) (get_or measures i 0) (length (text_of (at t i).label)))

  nodes_fit : (n : ℕ) → n ≤ length t → due_text p ws measures n ≤ up_to (text_if t (has_word t measures)) n
  unfolding due_text up_to
  nodes_fit zero h = omega arith
  nodes_fit (suc n) h = omega (arith, nodes_fit n (omega arith), node_fits n (omega arith))

  pub texts_fit : due_text p ws measures (length t) ≤ 65536
  texts_fit = omega (arith, nodes_fit (length t) (omega arith), worded-texts root m.limited.deep m.holds, m.limited.texts)

  pub decodable : (decoded : List ℕ) → Zeros 65536 decoded → Decodable p ws (length measures) decoded measures
  decodable decoded z =
      let e = measures_many in
      let w = m.limited.worded in
      rw e (record {
        words = w.words_long;
        classes = λ i l k. (w.classes i l k).0;
        measured = omega arith;
        fits = texts_fit;
        room = zeros_long z;
      })
