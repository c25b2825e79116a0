-- One text put into the decoded text, or left where it stands in the pickle.
use Rattle.std.specs.Prelude.{ℕ, suc, zero, ◌+◌, ◌-◌, ◌*◌, ◌/◌, ◌<◌, ◌≤◌, true, List, [], ◌++◌, ◌≡◌, refl, ◌≢◌, length, get_or, take, drop}
use Rattle.std.proofs.Common.{append_assoc, append-nil, sym, ◌∙◌, add-one, arith, length-take, length-drop, drop-drop}
use Rattle.std.proofs.Math.Seq.{take-length, drop-length}
use Rattle.std.proofs.lemmas.List.Edits.{sets, sets-eq}
use Rattle.utf8.specs.Utf8.{repair, valid}
use Rattle.utf8.specs.Laws.{repair-valid}
use Rattle.utf8.specs.Stores.{sets_append}
use Rattle.text.specs.Pieces.{bytes_of}
use Rattle.text.specs.Text.{unescape_string, unescape_unicode}
use Rattle.value.specs.Value.{NoneL}
use Rattle.value.specs.Shape.{kind_in}
use Rattle.steps.specs.NodeWords.{first, second, within, class_in, module_of, name_of}
use Rattle.resolve.specs.Shown.{node_labels, node_label, leading, trailing, label_has_text, raw_lead, raw_trail}
use Rattle.resolve.specs.declared.texts.Spelling.{Spelling}
use Rattle.resolve.specs.DecodedMeasure.{measure_of}

-- v is put at `at` of the room d
pub record PutsText (v d : List ℕ) (at : ℕ) (d' : List ℕ) (n : ℕ) : Type 0 where
  pub count : n ≡ length v
  pub bytes : d' ≡ sets d at v

-- it has room for what leads and what trails
pub record TextRoom (lead trail : List ℕ) (used : ℕ) (d : List ℕ) : Type 0 where
  pub fits : used + length lead + length trail ≤ 65536
  pub room : 65536 ≤ length d

-- both stand decoded then, as the measure says
pub record StandsDecoded (lead trail : List ℕ) (used : ℕ) (d : List ℕ) (r : Spelling) (d' : List ℕ) : Type 0 where
  pub measure : r.measure ≡ measure_of used (length lead) (length trail)
  pub used_then : r.used ≡ used + length lead + length trail
  pub bytes : d' ≡ sets d used (lead ++ trail)

-- or are what stands in the pickle, and the measure m is left as it is
pub data Spells (raw_lead_lem raw_trail_lem lead trail : List ℕ) (m used : ℕ) (d : List ℕ) (r : Spelling) (d' : List ℕ) : Type 0 where
  stays : raw_lead_lem ≡ lead → raw_trail_lem ≡ trail → r.measure ≡ m → r.used ≡ used → d' ≡ d → Spells raw_lead_lem raw_trail_lem lead trail m used d r d'
  stands : StandsDecoded lead trail used d r d' → Spells raw_lead_lem raw_trail_lem lead trail m used d r d'

-- of node i
abbrev pub SpellsNode : List ℕ → List ℕ → ℕ → ℕ → ℕ → List ℕ → Spelling → List ℕ → Type 0
SpellsNode p ws i m used d r d' = Spells (raw_lead p ws i) (raw_trail p ws i) (leading (node_label p ws i)) (trailing (node_label p ws i)) m used d r d'

pub record Unspelled (p ws : List ℕ) (i used : ℕ) (d : List ℕ) : Type 0 where
  pub words : 2 * i + 1 < length ws
  pub class : kind_in (first ws i) ≡ 12 → 2 * class_in (first ws i) + 1 < length ws
  pub text : label_has_text (node_label p ws i) ≡ true
  pub fits : TextRoom (leading (node_label p ws i)) (trailing (node_label p ws i)) used d

-- ---- what was put at the start of the rest of a room, in the room

sets_front : (v l : List ℕ) → length v ≤ length l → sets l 0 v ≡ v ++ drop (length v) l
sets_front v l h = let z : 0 + length v ≡ length v = omega arith in rw z at (sets-eq v l 0 (omega arith))

module _ (v l ys : List ℕ) (at : ℕ) (h : at + length v ≤ length l) where
  pub put_back : ys ≡ v ++ drop (length v) (take (length l - at) (drop at l)) → take at l ++ (ys ++ drop (length l - at) (drop at l)) ≡ sets l at v
  put_back e =
      let n : length l - at ≡ length (drop at l) = sym (length-drop at l) in
      rw (e, n, take-length (drop at l), drop-length (drop at l), append-nil, drop-drop (length v) at l)
      (sym (append_assoc (take at l) v (drop (at + length v) l)) ∙ sym (sets-eq v l at h))

  pub sets_back : ys ≡ sets (take (length l - at) (drop at l)) 0 v → take at l ++ (ys ++ drop (length l - at) (drop at l)) ≡ sets l at v
  sets_back e = put_back (e ∙ sets_front v (take (length l - at) (drop at l)) (rw (length-take, length-drop) (omega arith)))

-- ---- one text, or two

module _ (lead : List ℕ) (used : ℕ) (d d' : List ℕ) (n : ℕ) (x : PutsText lead d used d' n) where
  pub one_stands : (m : ℕ) → m ≡ measure_of used n 0 → StandsDecoded lead [] used d (record { measure = m; used = used + n }) d'
  one_stands m e =
      let c = x.count in
      record { measure = e ∙ rw c; used_then = omega arith; bytes = rw (append-nil lead) x.bytes }

  module _ (trail d'' : List ℕ) (k : ℕ) (y : PutsText trail d' (used + n) d'' k) where
    pub two_stand : (m : ℕ) → m ≡ measure_of used n k → StandsDecoded lead trail used d (record { measure = m; used = used + n + k }) d''
    two_stand m e =
        let c = x.count in
        let b = y.count in
        let f = x.bytes in
        let g : d'' ≡ sets (sets d used lead) (used + length lead) trail = rw (← f, ← c) y.bytes in
        record { measure = e ∙ rw (c, b); used_then = omega arith; bytes = g ∙ sets_append lead trail d used }

-- what is well formed stays
module _ (s : List ℕ) (m used : ℕ) (d : List ℕ) (v : valid s ≡ true) where
  pub text_stays : Spells s [] (repair s) [] m used d (record { measure = m; used = used }) d
  text_stays = stays (sym (repair-valid s v)) refl refl refl refl

  pub names_stay : (t : List ℕ) → valid t ≡ true → Spells s t (repair s) (repair t) m used d (record { measure = m; used = used }) d
  names_stay t w = stays (sym (repair-valid s v)) (sym (repair-valid t w)) refl refl refl

-- ---- a node's text by its kind

pub record Texts (p ws : List ℕ) (i : ℕ) (raw_lead_lem raw_trail_lem lead trail : List ℕ) : Type 0 where
  pub raw_leads : raw_lead p ws i ≡ raw_lead_lem
  pub raw_trails : raw_trail p ws i ≡ raw_trail_lem
  pub leads : leading (node_label p ws i) ≡ lead
  pub trails : trailing (node_label p ws i) ≡ trail

module _ {p ws : List ℕ} {i : ℕ} {rl rt l t : List ℕ} (x : Texts p ws i rl rt l t) where
  pub fits_as : {used : ℕ} {d : List ℕ} → TextRoom (leading (node_label p ws i)) (trailing (node_label p ws i)) used d → TextRoom l t used d
  fits_as f = rw (x.leads, x.trails) at f

  pub spells_as : {m used : ℕ} {d : List ℕ} {r : Spelling} {d' : List ℕ} → Spells rl rt l t m used d r d' → SpellsNode p ws i m used d r d'
  spells_as s = rw (x.raw_leads, x.raw_trails, x.leads, x.trails) s

-- a node's second word as the code reads it
pub word_at : (ws : List ℕ) (i : ℕ) → get_or ws (2 * i + 1) 0 ≡ second ws i
unfolding second
word_at ws i = rw add-one

-- s is the text as it stands in the pickle, where the second word b says
module _ (p ws : List ℕ) (i : ℕ) (s : List ℕ) (b : ℕ) (eb : b ≡ second ws i) (es : s ≡ within 32 b p) where
  stood : within 32 (second ws i) p ≡ s
  stood = rw eb at (sym es)

  pub texts-bytes : kind_in (first ws i) ≡ 4 → Texts p ws i s [] s []
  unfolding raw_lead raw_trail node_label
  texts-bytes e = let q = stood in record { raw_leads = rw (e, q); raw_trails = rw e; leads = rw (e, q); trails = rw e }

  pub texts-string : kind_in (first ws i) ≡ 5 → Texts p ws i s [] (repair s) []
  unfolding raw_lead raw_trail node_label
  texts-string e = let q = stood in record { raw_leads = rw (e, q); raw_trails = rw e; leads = rw (e, q); trails = rw e }

  pub texts-line : kind_in (first ws i) ≡ 13 → Texts p ws i s [] (bytes_of (unescape_string s)) []
  unfolding raw_lead raw_trail node_label
  texts-line e = let q = stood in record { raw_leads = rw (e, q); raw_trails = rw e; leads = rw (e, q); trails = rw e }

  pub texts-unicode : kind_in (first ws i) ≡ 14 → Texts p ws i s [] (bytes_of (unescape_unicode s)) []
  unfolding raw_lead raw_trail node_label
  texts-unicode e = let q = stood in record { raw_leads = rw (e, q); raw_trails = rw e; leads = rw (e, q); trails = rw e }

  -- and m a module
  pub texts-global : kind_in (first ws i) ≡ 11 → (m : List ℕ) → m ≡ within 24 (first ws i / 16) p → Texts p ws i m s (repair m) (repair s)
  unfolding raw_lead raw_trail node_label module_of name_of
  texts-global e m q = let r = stood in record { raw_leads = rw (e, ← q); raw_trails = rw (e, r); leads = rw (e, ← q); trails = rw (e, r) }

-- an Object's are its class's
pub texts-object : (p ws : List ℕ) (i : ℕ) → kind_in (first ws i) ≡ 12 → (s : List ℕ) (b : ℕ) → b ≡ second ws (class_in (first ws i)) → s ≡ within 32 b p → (m : List ℕ) → m ≡ within 24 (first ws (class_in (first ws i)) / 16) p → Texts p ws i m s (repair m) (repair s)
unfolding raw_lead raw_trail node_label module_of name_of
texts-object p ws i e s b eb es m q =
    let r : within 32 (second ws (class_in (first ws i))) p ≡ s = rw eb at (sym es) in
    record { raw_leads = rw (e, ← q); raw_trails = rw (e, r); leads = rw (e, ← q); trails = rw (e, r) }

-- a text of no other kind is Bytes
module _ (p ws : List ℕ) (a b : ℕ) where
  only-bytes : (k : ℕ) → label_has_text (get_or (node_labels p ws a b) k NoneL) ≡ true → k ≢ 5 → (10 < k → k < 15 → ⊥) → k ≡ 4
  only-bytes zero t n m = absurd (let z : ◌≡◌ {A = ℕ} 0 1 = cc in omega arith)
  only-bytes (suc zero) t n m = absurd (let z : ◌≡◌ {A = ℕ} 0 1 = cc in omega arith)
  only-bytes (suc (suc zero)) t n m = absurd (let z : ◌≡◌ {A = ℕ} 0 1 = cc in omega arith)
  only-bytes (suc (suc (suc zero))) t n m = absurd (let z : ◌≡◌ {A = ℕ} 0 1 = cc in omega arith)
  only-bytes (suc (suc (suc (suc zero)))) t n m = refl
  only-bytes (suc (suc (suc (suc (suc zero))))) t n m = absurd (n refl)
  only-bytes (suc (suc (suc (suc (suc (suc zero)))))) t n m = absurd (let z : ◌≡◌ {A = ℕ} 0 1 = cc in omega arith)
  only-bytes (suc (suc (suc (suc (suc (suc (suc zero))))))) t n m = absurd (let z : ◌≡◌ {A = ℕ} 0 1 = cc in omega arith)
  only-bytes (suc (suc (suc (suc (suc (suc (suc (suc zero)))))))) t n m = absurd (let z : ◌≡◌ {A = ℕ} 0 1 = cc in omega arith)
  only-bytes (suc (suc (suc (suc (suc (suc (suc (suc (suc zero))))))))) t n m = absurd (let z : ◌≡◌ {A = ℕ} 0 1 = cc in omega arith)
  only-bytes (suc (suc (suc (suc (suc (suc (suc (suc (suc (suc zero)))))))))) t n m = absurd (let z : ◌≡◌ {A = ℕ} 0 1 = cc in omega arith)
  only-bytes (suc (suc (suc (suc (suc (suc (suc (suc (suc (suc (suc zero))))))))))) t n m = absurd (m (omega arith) (omega arith))
  only-bytes (suc (suc (suc (suc (suc (suc (suc (suc (suc (suc (suc (suc zero)))))))))))) t n m = absurd (m (omega arith) (omega arith))
  only-bytes (suc (suc (suc (suc (suc (suc (suc (suc (suc (suc (suc (suc (suc zero))))))))))))) t n m = absurd (m (omega arith) (omega arith))
  only-bytes (suc (suc (suc (suc (suc (suc (suc (suc (suc (suc (suc (suc (suc (suc zero)))))))))))))) t n m = absurd (m (omega arith) (omega arith))
  only-bytes (suc (suc (suc (suc (suc (suc (suc (suc (suc (suc (suc (suc (suc (suc (suc k))))))))))))))) t n m = absurd (let z : ◌≡◌ {A = ℕ} 0 1 = cc in omega arith)

pub bytes_stay : (p ws : List ℕ) (i m used : ℕ) (d : List ℕ) → label_has_text (node_label p ws i) ≡ true → kind_in (first ws i) ≢ 5 → (10 < kind_in (first ws i) → kind_in (first ws i) < 15 → ⊥) → SpellsNode p ws i m used d (record { measure = m; used = used }) d
unfolding node_label
bytes_stay p ws i m used d t n k = spells_as (texts-bytes p ws i (within 32 (second ws i) p) (second ws i) refl refl (only-bytes p ws (first ws i) (second ws i) (kind_in (first ws i)) t n k)) (stays refl refl refl refl refl)
