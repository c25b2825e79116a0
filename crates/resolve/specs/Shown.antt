-- What the passes behind the measuring find in the rooms: a node's label off its words, its text off the pickle or the decoded text,
-- its list among the children or, a Set's, in the log. `Shown` says that all of it is so for the nodes P of a graph h.
use Rattle.std.specs.Prelude.{ℕ, suc, ◌+◌, ◌-◌, ◌*◌, ◌^◌, ◌/◌, ◌%◌, ◌<◌, ◌≤◌, Bool, true, false, cond, ◌||◌, List, [], ◌∷◌, ◌≡◌, ◌⊎◌, length, get_or, take, drop, eqb, leb}
use Rattle.utf8.specs.Utf8.{repair}
use Rattle.text.specs.Pieces.{bytes_of}
use Rattle.text.specs.Text.{unescape_string, unescape_unicode}
use Rattle.value.specs.Value.{Label, NoneL, BoolL, I64L, F64L, BytesL, StringL, ListL, TupleL, SetL, FrozenSetL, DictL, GlobalL, ObjectL}
use Rattle.value.specs.Shape.{kind_in, fresh_in}
use Rattle.steps.specs.State.{Node}
use Rattle.steps.specs.NodeWords.{first, second, within, class_in, module_of, name_of}
use Rattle.reading.specs.Build.{at}
use Rattle.reading.specs.Unfold.{In}
use Rattle.resolve.specs.Resolved.{Kids}
use Rattle.resolve.specs.Noted.{is_container}

-- ---- a node's label

-- what the words a and b say for the kinds 0 to 14: 13 is a STRING with an escape and 14 a UNICODE, both as their lines
abbrev pub node_labels : List ℕ → List ℕ → ℕ → ℕ → List Label
node_labels p ws a b =
    NoneL
    ∷ BoolL (eqb b 1)
    ∷ I64L b
    ∷ F64L b
    ∷ BytesL (within 32 b p)
    ∷ StringL (repair (within 32 b p))
    ∷ ListL
    ∷ TupleL
    ∷ SetL
    ∷ FrozenSetL
    ∷ DictL
    ∷ GlobalL (module_of p a) (name_of p b)
    ∷ ObjectL (module_of p (first ws (class_in a))) (name_of p (second ws (class_in a))) (fresh_in a)
    ∷ BytesL (bytes_of (unescape_string (within 32 b p)))
    ∷ StringL (bytes_of (unescape_unicode (within 32 b p)))
    ∷ []

unfoldable pub node_label : List ℕ → List ℕ → ℕ → Label
node_label p ws i = get_or (node_labels p ws (first ws i) (second ws i)) (kind_in (first ws i)) NoneL

-- ---- its text

-- the text of Bytes and Strings, the module of Globals and of Objects' classes
abbrev pub leading : Label → List ℕ
leading NoneL = []
leading (BoolL b) = []
leading (I64L n) = []
leading (F64L n) = []
leading (BytesL s) = s
leading (StringL s) = s
leading ListL = []
leading TupleL = []
leading SetL = []
leading FrozenSetL = []
leading DictL = []
leading (GlobalL m n) = m
leading (ObjectL m n b) = m

-- the name of Globals and of Objects' classes
abbrev pub trailing : Label → List ℕ
trailing NoneL = []
trailing (BoolL b) = []
trailing (I64L n) = []
trailing (F64L n) = []
trailing (BytesL s) = []
trailing (StringL s) = []
trailing ListL = []
trailing TupleL = []
trailing SetL = []
trailing FrozenSetL = []
trailing DictL = []
trailing (GlobalL m n) = n
trailing (ObjectL m n b) = n

abbrev pub label_has_text : Label → Bool
label_has_text NoneL = false
label_has_text (BoolL b) = false
label_has_text (I64L n) = false
label_has_text (F64L n) = false
label_has_text (BytesL s) = true
label_has_text (StringL s) = true
label_has_text ListL = false
label_has_text TupleL = false
label_has_text SetL = false
label_has_text FrozenSetL = false
label_has_text DictL = false
label_has_text (GlobalL m n) = true
label_has_text (ObjectL m n b) = true

-- A measure of 2 ^ 62 or more of a node with text: it was decoded. Below that bit are its place, the lengths of what leads and of what trails.
unfoldable pub was_decoded : ℕ → Bool
was_decoded m = leb (2 ^ 62) m

unfoldable pub place_in : ℕ → ℕ
place_in m = m % 2 ^ 17

unfoldable pub lead_in : ℕ → ℕ
lead_in m = m / 2 ^ 17 % 2 ^ 17

unfoldable pub trail_in : ℕ → ℕ
trail_in m = m / 2 ^ 34 % 2 ^ 17

-- not decoded, they are parts of the pickle; an Object's are its class's
unfoldable pub raw_lead : List ℕ → List ℕ → ℕ → List ℕ
raw_lead p ws i =
    let a = first ws i in
    cond (eqb (kind_in a) 11) (within 24 (a / 16) p) (cond (eqb (kind_in a) 12) (within 24 (first ws (class_in a) / 16) p) (within 32 (second ws i) p))

unfoldable pub raw_trail : List ℕ → List ℕ → ℕ → List ℕ
raw_trail p ws i =
    let a = first ws i in
    cond (eqb (kind_in a) 11) (within 32 (second ws i) p) (cond (eqb (kind_in a) 12) (within 32 (second ws (class_in a)) p) [])

unfoldable pub lead_text : List ℕ → List ℕ → List ℕ → List ℕ → ℕ → List ℕ
lead_text p d ws measures i =
    let m = get_or measures i 0 in
    cond (was_decoded m) (take (lead_in m) (drop (place_in m) d)) (raw_lead p ws i)

unfoldable pub trail_text : List ℕ → List ℕ → List ℕ → List ℕ → ℕ → List ℕ
trail_text p d ws measures i =
    let m = get_or measures i 0 in
    cond (was_decoded m) (take (trail_in m) (drop (place_in m + lead_in m) d)) (raw_trail p ws i)

-- node i's text stands where its measure says, and is its label's
pub record Spelled (p d ws measures : List ℕ) (i : ℕ) (l : Label) : Type 0 where
  pub lead : lead_text p d ws measures i ≡ leading l
  pub trail : trail_text p d ws measures i ≡ trailing l
  pub inside : was_decoded (get_or measures i 0) ≡ true → place_in (get_or measures i 0) + lead_in (get_or measures i 0) + trail_in (get_or measures i 0) ≤ length d

-- ---- its list

-- kinds whose lists are put in order: Set, FrozenSet, Dict. Their measures then have 2 ^ 61, below it where the list begins and how many it has
unfoldable pub sorted_in : ℕ → Bool
sorted_in k = eqb k 8 || (eqb k 9 || eqb k 10)

unfoldable pub from_in : List ℕ → List ℕ → List ℕ → ℕ → ℕ
from_in ws starts measures i = cond (sorted_in (kind_in (first ws i))) (get_or measures i 0 % 2 ^ 16) (get_or starts i 0)

unfoldable pub many_in : List ℕ → List ℕ → List ℕ → ℕ → ℕ
many_in ws starts measures i = cond (sorted_in (kind_in (first ws i))) (get_or measures i 0 / 2 ^ 16 % 2 ^ 16) (get_or starts (suc i) 0 - get_or starts i 0)

-- a Set's items stand in the log, all other lists among the children
unfoldable pub room_of : List ℕ → List ℕ → List ℕ → ℕ → List ℕ
room_of ws sorted log i = cond (eqb (kind_in (first ws i)) 8 || eqb (kind_in (first ws i)) 9) log sorted

unfoldable pub list_of : List ℕ → List ℕ → List ℕ → List ℕ → List ℕ → ℕ → List ℕ
list_of ws starts sorted log measures i = take (many_in ws starts measures i) (drop (from_in ws starts measures i) (room_of ws sorted log i))

-- it lies in its room
unfoldable pub Inside : List ℕ → List ℕ → List ℕ → List ℕ → List ℕ → ℕ → Type 0
Inside ws starts sorted log measures i = from_in ws starts measures i + many_in ws starts measures i ≤ length (room_of ws sorted log i)

-- ---- all of it

-- The nodes t, of which P are in the graph h, as the rooms show them: p the pickle, d the decoded text, ws the nodes' words.
pub record Shown (t : List Node) (h : Kids) (P : ℕ → Type 0) (p d ws starts sorted log measures : List ℕ) : Type 0 where
  pub beyond : length t ≤ 4096
  pub short : length p ≤ 65536
  pub words_long : 2 * length t ≤ length ws
  pub starts_long : length t < length starts
  pub measures_long : length t ≤ length measures
  pub rising : (i : ℕ) → i < length t → get_or starts i 0 ≤ get_or starts (suc i) 0
  pub labels_are : (i : ℕ) → i < length t → (at t i).label ≡ node_label p ws i
  pub classes : (i : ℕ) → i < length t → kind_in (first ws i) ≡ 12 → (class_in (first ws i) < length t) × (kind_in (first ws (class_in (first ws i))) ≡ 11)
  -- P are nodes, or the number of none
  pub nodes : (i : ℕ) → P i → (i ≡ 4096) ⊎ (i < length t)
  pub closed : (i : ℕ) → P i → (j : ℕ) → In j (h i) → P j
  pub none : h 4096 ≡ []
  pub leaves : (i : ℕ) → P i → i < length t → is_container (at t i).label ≡ false → h i ≡ []
  pub inside : (i : ℕ) → P i → i < length t → is_container (at t i).label ≡ true → Inside ws starts sorted log measures i
  pub lists : (i : ℕ) → P i → i < length t → is_container (at t i).label ≡ true → list_of ws starts sorted log measures i ≡ h i
  pub spelled : (i : ℕ) → P i → i < length t → label_has_text (at t i).label ≡ true → Spelled p d ws measures i (at t i).label
