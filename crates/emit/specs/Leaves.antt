-- What is written without a walk: a node's text, a leaf, a container once more.
use Rattle.std.specs.Prelude.{ℕ, ◌+◌, ◌-◌, ◌*◌, ◌^◌, ◌/◌, ◌%◌, ◌<◌, ◌≤◌, Bool, cond, List, [], ◌∷◌, ◌++◌, refl, get_or, take, drop, eqb, ltb, ◌≢◌}
use Rattle.std.proofs.Math.Bool.{true, false}
use Rattle.std.proofs.Math.Path.{◌≡◌, sym, ap}
use Rattle.std.proofs.Common.{◌∙◌, length-append, arith}
use Rattle.std.proofs.Math.ListN.{length}
use Rattle.std.proofs.lemmas.List.Edits.{sets}
use borrow.Author.Tests.{lt-ltb, le-ltb, ne_eqb}
use Rattle.std.proofs.Math.Decide.{dec_lt, ℕ_discrete}
use Rattle.std.proofs.Math.Numerals.{add-one}
use Rattle.value.specs.Value.{Label, kind, text_of, record_of}
use Rattle.value.specs.Shape.{kind_in, fresh_in}
use Rattle.steps.specs.NodeWords.{first, second}
use Rattle.resolve.specs.Moved.{moves}
use Rattle.resolve.specs.Shown.{node_label, label_has_text, leading, trailing, lead_text, trail_text, Spelled}
use Rattle.resolve.specs.Readable.{TextReadable}
use Rattle.utf8.specs.Stores.{sets_append}
use Rattle.resolve.specs.Kinds.{kind_of, kind-small, container_kind, kind_is}
use Rattle.emit.specs.Copies.{Copyable}
use Rattle.emit.specs.declared.Place.{Place}
use Rattle.emit.specs.Words.{place_of, same_place, written_w, lengths_of, record_from, text_by, lengths_by, spoken, text_by_lem, lengths_by_lem, has_text_lem, lengths_all, record_is, from-text, from-names}

-- ---- a node's text

-- it can be put at a place of the text
pub record TextReady (p d ws measures : List ℕ) (i : ℕ) (bytes : List ℕ) (at : ℕ) : Type 0 where
  pub readable : TextReadable ws measures i
  pub spelled : label_has_text (node_label p ws i) ≡ true → Spelled p d ws measures i (node_label p ws i)
  pub room : at + length (text_of (node_label p ws i)) ≤ length bytes
  pub short : length (text_of (node_label p ws i)) ≤ 65536

-- and was, and w says its lengths
pub record TextPut (p ws : List ℕ) (i : ℕ) (bytes : List ℕ) (at : ℕ) (bytes' : List ℕ) (w : ℕ) : Type 0 where
  pub text_is : bytes' ≡ sets bytes at (text_of (node_label p ws i))
  pub lengths : w ≡ lengths_of (node_label p ws i)

module _ (p d ws measures : List ℕ) (i : ℕ) (bytes : List ℕ) (at : ℕ) (g : TextReady p d ws measures i bytes at) (k : ℕ) (e : k ≡ kind_of (first ws i)) where
  kind-same : kind (node_label p ws i) ≡ k
  kind-same = kind_is p ws i ∙ sym e

  lead_is : spoken k ≡ true → lead_text p d ws measures i ≡ leading (node_label p ws i)
  lead_is s = (g.spelled (has_text_lem (node_label p ws i) ∙ (ap spoken kind-same ∙ s))).lead

  trail_is : spoken k ≡ true → trail_text p d ws measures i ≡ trailing (node_label p ws i)
  trail_is s = (g.spelled (has_text_lem (node_label p ws i) ∙ (ap spoken kind-same ∙ s))).trail

  text_is_by : text_of (node_label p ws i) ≡ text_by k (leading (node_label p ws i)) (trailing (node_label p ws i))
  text_is_by = rw (← kind-same) (text_by_lem (node_label p ws i))

  lengths_is_by : lengths_of (node_label p ws i) ≡ lengths_by k (length (leading (node_label p ws i))) (length (trailing (node_label p ws i)))
  lengths_is_by = rw (← kind-same) (lengths_by_lem (node_label p ws i))

  -- no text
  none : text_of (node_label p ws i) ≡ [] → lengths_of (node_label p ws i) ≡ 0 → TextPut p ws i bytes at bytes 0
  none x y = record { text_is = rw x; lengths = sym y }

  texts-small : k < 4 → TextPut p ws i bytes at bytes 0
  unfolding text_by lengths_by
  texts-small h = let l = lt-ltb k 4 h in none (text_is_by ∙ rw l) (lengths_is_by ∙ rw l)

  texts-container : 4 ≤ k → 6 ≤ k → k < 11 → TextPut p ws i bytes at bytes 0
  unfolding text_by lengths_by
  texts-container h₄ h₆ h = let a = le-ltb k 4 h₄ in let b = le-ltb k 6 h₆ in let l = lt-ltb k 11 h in none (text_is_by ∙ rw (a, b, l)) (lengths_is_by ∙ rw (a, b, l))

  -- a container that is no Object
  pub texts_other : container_kind k ≡ true → k ≢ 12 → TextPut p ws i bytes at bytes 0
  unfolding container_kind
  texts_other b n = go (dec_lt k 6) (dec_lt k 11)
    where
      go : Dec (k < 6) → Dec (k < 11) → TextPut p ws i bytes at bytes 0
      go (yes l) _ = absurd (let x : false ≡ true = rw (lt-ltb k 6 l) at b in let z : ◌≡◌ {A = ℕ} 0 1 = cc in omega arith)
      go (no l) (yes m) = texts-container (omega arith) (omega arith) m
      go (no l) (no m) = absurd (let x : false ≡ true = rw (le-ltb k 6 (omega arith), le-ltb k 11 (omega arith), ne_eqb k 12 n) at b in let z : ◌≡◌ {A = ℕ} 0 1 = cc in omega arith)

  -- Bytes or a String
  module _ (h₄ : 4 ≤ k) (h₆ : k < 6) (lead : List ℕ) (q : lead ≡ lead_text p d ws measures i) where
    leads : lead ≡ leading (node_label p ws i)
    unfolding spoken
    leads = q ∙ lead_is (rw (le-ltb k 4 h₄, lt-ltb k 6 h₆))

    one_text : text_of (node_label p ws i) ≡ lead
    unfolding text_by
    one_text = text_is_by ∙ rw (le-ltb k 4 h₄, lt-ltb k 6 h₆) (sym leads)

    lead_room : at + length lead ≤ length bytes
    lead_room = rw (← one_text) g.room

    texts-lead : (bytes' : List ℕ) → bytes' ≡ sets bytes at lead → TextPut p ws i bytes at bytes' (length lead)
    unfolding lengths_by
    texts-lead bytes' s = record { text_is = rw one_text s; lengths = ap length leads ∙ sym (lengths_is_by ∙ rw (le-ltb k 4 h₄, lt-ltb k 6 h₆)) }

  -- a module and a name
  module _ (h₄ : 4 ≤ k) (h₆ : 6 ≤ k) (h₁₁ : 11 ≤ k) (lead trail : List ℕ) (q : lead ≡ lead_text p d ws measures i) (r : trail ≡ trail_text p d ws measures i) where
    spoken-names : spoken k ≡ true
    unfolding spoken
    spoken-names = rw (le-ltb k 4 h₄, le-ltb k 6 h₆, le-ltb k 11 h₁₁)

    leads₂ : lead ≡ leading (node_label p ws i)
    leads₂ = q ∙ lead_is spoken-names

    trails₂ : trail ≡ trailing (node_label p ws i)
    trails₂ = r ∙ trail_is spoken-names

    two_texts : text_of (node_label p ws i) ≡ lead ++ trail
    unfolding text_by
    two_texts = text_is_by ∙ rw (le-ltb k 4 h₄, le-ltb k 6 h₆, le-ltb k 11 h₁₁, leads₂, trails₂)

    pub names_room : (at + (length lead + length trail) ≤ length bytes) × (length lead + length trail ≤ 65536)
    names_room = let n = length-append lead trail in let e₁ = rw two_texts at g.room in let e₂ = rw two_texts at g.short in (omega arith, omega arith)

    pub texts-names : (bytes₁ bytes' : List ℕ) → bytes₁ ≡ sets bytes at lead → bytes' ≡ sets bytes₁ (at + length lead) trail → TextPut p ws i bytes at bytes' (length lead * 2 ^ 32 + length trail)
    unfolding lengths_by
    texts-names bytes₁ bytes' s u = record {
      text_is = rw two_texts (u ∙ rw s (sets_append lead trail bytes at));
      lengths = sym (lengths_is_by ∙ rw (le-ltb k 4 h₄, le-ltb k 6 h₆, le-ltb k 11 h₁₁, leads₂, trails₂));
    }

-- ---- a leaf

pub record LeafReady (p d ws measures : List ℕ) (i : ℕ) (to : Place) (table bytes : List ℕ) : Type 0 where
  pub text_ready : TextReady p d ws measures i bytes to.bytes
  pub texts : to.bytes + length (text_of (node_label p ws i)) ≤ 65536
  pub records : 4 * to.records + 4 ≤ length table

pub record LeafPut (l : Label) (to : Place) (table bytes table' bytes' : List ℕ) (r : Place) : Type 0 where
  pub table_is : table' ≡ sets table (4 * to.records) (record_of l to.bytes 0 1)
  pub text_is : bytes' ≡ sets bytes to.bytes (text_of l)
  pub next : r ≡ place_of (to.records + 1) (to.bytes + length (text_of l))

module _ (p ws : List ℕ) (i : ℕ) where
  -- the record of node i, by its words and its text's lengths
  pub record_at : (w at n z : ℕ) → w ≡ lengths_of (node_label p ws i) → record_from (kind_of (get_or ws (2 * i) 0)) (fresh_in (get_or ws (2 * i) 0)) (get_or ws (2 * i + 1) 0) w at n z ≡ record_of (node_label p ws i) at n z
  unfolding first second
  record_at w at n z e = rw (e, add-one (2 * i), ← (kind_is p ws i)) (record_is p ws i at n z)

  leaf-done : (to : Place) (w : ℕ) (table bytes table' bytes' words : List ℕ) (r : Place) → to.bytes + length (text_of (node_label p ws i)) ≤ 65536 → TextPut p ws i bytes to.bytes bytes' w
      → words ≡ record_from (kind_of (get_or ws (2 * i) 0)) (fresh_in (get_or ws (2 * i) 0)) (get_or ws (2 * i + 1) 0) w to.bytes 0 1 → table' ≡ sets table (4 * to.records) words
      → r ≡ place_of (to.records + 1) (to.bytes + (w / 2 ^ 32 + w % 2 ^ 32)) → LeafPut (node_label p ws i) to table bytes table' bytes' r
  leaf-done to w table bytes table' bytes' words r h l q s n =
      let a = lengths_all (node_label p ws i) (omega arith) in
      record { table_is = s ∙ ap (sets table (4 * to.records)) (q ∙ record_at w to.bytes 0 1 l.lengths); text_is = l.text_is; next = n ∙ rw (l.lengths, a) }

-- is the kind in its first word below n? Decoded text has 13 or 14 there
unfoldable pub kind_below : ℕ → List ℕ → ℕ → Bool
kind_below n ws i = cond (eqb i 4096) false (ltb (kind_in (first ws i)) n)

-- ---- a value with neither text nor contents: None, a Bool, an I64 or an F64

pub record AtomReady (ws : List ℕ) (i : ℕ) (to : Place) (table : List ℕ) : Type 0 where
  pub words : 2 * i + 1 < length ws
  pub records : 4 * to.records + 4 ≤ length table
  pub texts : to.bytes ≤ 65536

pub record AtomPut (ws : List ℕ) (i : ℕ) (to : Place) (table table' : List ℕ) (r : Place) : Type 0 where
  pub table_is : table' ≡ sets table (4 * to.records) (record_from (kind_of (get_or ws (2 * i) 0)) (fresh_in (get_or ws (2 * i) 0)) (get_or ws (2 * i + 1) 0) 0 to.bytes 0 1)
  pub next : r ≡ place_of (to.records + 1) to.bytes

-- ---- each kind of leaf

module _ {p d ws measures : List ℕ} {i : ℕ} {to : Place} {table bytes : List ℕ} (g : LeafReady p d ws measures i to table bytes) where
  leaf-words : 2 * i + 1 < length ws
  leaf-words = g.text_ready.readable.words

  pub atom_ready : AtomReady ws i to table
  atom_ready = record { words = leaf-words; records = g.records; texts = omega (arith, g.texts) }

  -- the text stays
  pub atom_leaf : kind_of (first ws i) < 4 → (table' : List ℕ) (r : Place) → AtomPut ws i to table table' r → LeafPut (node_label p ws i) to table bytes table' bytes r
  atom_leaf h table' r b =
      leaf-done p ws i to 0 table bytes table' bytes _ r g.texts (texts-small p d ws measures i bytes to.bytes g.text_ready (kind_of (first ws i)) refl h) refl b.table_is (b.next ∙ same_place refl (omega arith))

  -- Bytes or a String: its text is what leads
  module _ (h : (4 ≤ kind_of (first ws i)) × (kind_of (first ws i) < 6)) (lead : List ℕ) (q : lead ≡ lead_text p d ws measures i) where
    pub text_room : to.bytes + length lead ≤ length bytes
    text_room = lead_room p d ws measures i bytes to.bytes g.text_ready (kind_of (first ws i)) refl h.0 h.1 lead q

    text_put : (bytes' : List ℕ) → bytes' ≡ sets bytes to.bytes lead → TextPut p ws i bytes to.bytes bytes' (length lead)
    text_put = texts-lead p d ws measures i bytes to.bytes g.text_ready (kind_of (first ws i)) refl h.0 h.1 lead q

    spoken-text : text_of (node_label p ws i) ≡ lead
    spoken-text = one_text p d ws measures i bytes to.bytes g.text_ready (kind_of (first ws i)) refl h.0 h.1 lead q

    pub text_fits : to.bytes + length lead ≤ 65536
    text_fits = rw (← spoken-text) g.texts

    pub text-leaf : (bytes' table' : List ℕ) (r : Place) → bytes' ≡ sets bytes to.bytes lead → table' ≡ sets table (4 * to.records) (kind_of (first ws i) ∷ to.bytes ∷ length lead ∷ 0 ∷ []) → r ≡ place_of (to.records + 1) (to.bytes + length lead) → LeafPut (node_label p ws i) to table bytes table' bytes' r
    unfolding first
    text-leaf bytes' table' r s t n =
        let h₀ = h.0 in
        let f = text_fits in
        leaf-done p ws i to (length lead) table bytes table' bytes' _ r g.texts (text_put bytes' s) (from-text (kind_of (first ws i)) _ _ _ _ _ _ _ (omega arith) (λ z. omega arith) (λ z. omega arith) h₀ h.1) t (n ∙ same_place refl (omega arith))

  -- a Global: its module and name
  module _ (b : container_kind (kind_of (first ws i)) ≡ false) (h : 6 ≤ kind_of (first ws i)) where
    pub named_kind : kind_of (first ws i) ≡ 11
    unfolding container_kind
    named_kind = go (dec_lt (kind_of (first ws i)) 11) (ℕ_discrete (kind_of (first ws i)) 12)
      where
        go : Dec (kind_of (first ws i) < 11) → Dec (kind_of (first ws i) ≡ 12) → kind_of (first ws i) ≡ 11
        go (yes l) _ = absurd (let x : true ≡ false = rw (le-ltb (kind_of (first ws i)) 6 h, lt-ltb (kind_of (first ws i)) 11 l) at b in let z : ◌≡◌ {A = ℕ} 0 1 = cc in omega arith)
        go (no l) (yes e) = absurd (let x : true ≡ false = rw e at b in let z : ◌≡◌ {A = ℕ} 0 1 = cc in omega arith)
        go (no l) (no e) = omega (arith, kind-small (first ws i))

    module _ (w : ℕ) (bytes' : List ℕ) (t : TextPut p ws i bytes to.bytes bytes' w) where
      pub names_fit : to.bytes + (w / 2 ^ 32 + w % 2 ^ 32) ≤ 65536
      names_fit = rw (t.lengths, lengths_all (node_label p ws i) g.text_ready.short) g.texts

      pub names-leaf : (table' : List ℕ) (r : Place) → table' ≡ sets table (4 * to.records) (kind_of (first ws i) ∷ to.bytes ∷ w ∷ 0 ∷ []) → r ≡ place_of (to.records + 1) (to.bytes + (w / 2 ^ 32 + w % 2 ^ 32)) → LeafPut (node_label p ws i) to table bytes table' bytes' r
      unfolding first
      names-leaf table' r s n =
          leaf-done p ws i to w table bytes table' bytes' _ r g.texts t (from-names (kind_of (first ws i)) _ _ _ _ _ _ _ (omega arith) (omega (arith, named_kind)) (λ z. omega (arith, named_kind)) (omega (arith, named_kind)) (λ z. omega (arith, named_kind))) s n

-- ---- once more: m is the measure of what is written

pub record CopyReady (m : ℕ) (to : Place) (table bytes : List ℕ) : Type 0 where
  pub copyable : Copyable table (m % 2 ^ 12) (m / 2 ^ 12 % 2 ^ 12) to.records (m / 2 ^ 24 % 2 ^ 17) to.bytes
  pub apart : m / 2 ^ 24 % 2 ^ 17 + m / 2 ^ 41 % 2 ^ 17 ≤ to.bytes
  pub room : to.bytes + m / 2 ^ 41 % 2 ^ 17 ≤ length bytes
  pub texts : to.bytes + m / 2 ^ 41 % 2 ^ 17 ≤ 65536

pub record CopyPut (m : ℕ) (to : Place) (table bytes table' bytes' : List ℕ) (r : Place) : Type 0 where
  pub table_is : table' ≡ sets table (4 * to.records) (moves (m / 2 ^ 24 % 2 ^ 17) to.bytes (take (4 * (m / 2 ^ 12 % 2 ^ 12)) (drop (4 * (m % 2 ^ 12)) table)))
  pub text_is : bytes' ≡ sets bytes to.bytes (take (m / 2 ^ 41 % 2 ^ 17) (drop (m / 2 ^ 24 % 2 ^ 17) bytes))
  pub next : r ≡ place_of (to.records + m / 2 ^ 12 % 2 ^ 12) (to.bytes + m / 2 ^ 41 % 2 ^ 17)

-- ---- a container whose contents end at the place `next`

pub record FinishReady (ws : List ℕ) (i : ℕ) (to next : Place) (values : ℕ) (table : List ℕ) : Type 0 where
  pub words : 2 * i + 1 < length ws
  pub few : kind_of (get_or ws (2 * i) 0) ≡ 12 → values ≤ 2
  pub room : 4 * to.records + 4 ≤ length table
  pub records : to.records ≤ next.records
  pub short : next.records < 4096
  pub texts : to.bytes ≤ next.bytes
  pub most : next.bytes ≤ 65536

-- its record, w the lengths of its text, and its measure r
pub record FinishPut (ws : List ℕ) (i : ℕ) (to next : Place) (w values : ℕ) (table table' : List ℕ) (r : ℕ) : Type 0 where
  pub table_is : table' ≡ sets table (4 * to.records) (record_from (kind_of (get_or ws (2 * i) 0)) (fresh_in (get_or ws (2 * i) 0)) (get_or ws (2 * i + 1) 0) w to.bytes values (next.records - to.records))
  pub measure : r ≡ written_w to.records (next.records - to.records) to.bytes (next.bytes - to.bytes)

-- ---- whether a node is to be walked: a container that is not written yet

unfoldable pub opened : List ℕ → List ℕ → ℕ → Bool
opened ws measures i = cond (eqb i 4096) false (cond (container_kind (kind_of (first ws i))) (ltb (get_or measures i 0) (2 ^ 63)) false)
