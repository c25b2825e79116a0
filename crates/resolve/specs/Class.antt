-- The text of a container itself: an Object's is its class's, whose word the class's measure has, read ahead or not.
use Rattle.std.specs.Prelude.{ℕ, ◌+◌, ◌*◌, ◌<◌, min, true, false, List, ◌≡◌, refl, ◌≢◌, length, get_or, set}
use Rattle.std.proofs.Common.{sym, ◌∙◌, ap, arith}
use Rattle.steps.specs.State.{Node}
use Rattle.reading.specs.Build.{at}
use Rattle.reading.specs.Unfold.{In}
use Rattle.resolve.specs.Length.{names_len, text_bytes, LengthReadable, len_global, len_object}
use Rattle.resolve.specs.MeasureWord.{pack_w, texts_w, texts_pack}
use Rattle.resolve.specs.Walk.{WalkState}
use Rattle.resolve.specs.Noted.{is_container, is_text_leaf, ahead, leaf_of, LeafNoted, unseen, early, reached, Noted, noted_early}
use Rattle.resolve.specs.Kinds.{container_kind}
use Rattle.resolve.specs.Facts.{value_word, kind_at, class_at, Facts}
use Rattle.resolve.specs.Known.{word_big, leaf-word, no_text}

-- what the code needs
pub record OwnTextReadable (p ws measures : List ℕ) (n kind : ℕ) : Type 0 where
  pub kind_is : kind ≡ kind_at ws n
  pub container : container_kind kind ≡ true
  pub long : 2 * n < length ws
  pub class_below : kind ≡ 12 → class_at ws n < length measures
  pub class_reads : kind ≡ 12 → LengthReadable p ws (class_at ws n)

-- the text's length, capped; the measures still fit
unfoldable pub Owns : List ℕ → List ℕ → List ℕ → List ℕ → ℕ → ℕ → Type 0
Owns p ws before after n r =
    (starts : List ℕ) (t : List Node) (s : WalkState) → Facts p ws starts t → Noted t value_word before s → n < length t → (r ≡ min (text_bytes p ws n) 65537) × (Noted t value_word after s)

class_text : (p ws : List ℕ) (n : ℕ) → kind_at ws n ≡ 12 → kind_at ws (class_at ws n) ≡ 11 → text_bytes p ws (class_at ws n) ≡ text_bytes p ws n
class_text p ws n e f =
    let c = class_at ws n in
    let l = names_len p (get_or ws (2 * c) 0) (get_or ws (2 * c + 1) 0) in
    let x : l ≡ text_bytes p ws c = len_global p ws c (get_or ws (2 * c) 0) (get_or ws (2 * c + 1) 0) refl refl l f refl in
    let y : l ≡ text_bytes p ws n = len_object p ws n (get_or ws (2 * n) 0) (get_or ws (2 * n + 1) 0) refl refl l e refl in
    sym x ∙ y

class_leaf : (p ws starts : List ℕ) (t : List Node) (n : ℕ) → Facts p ws starts t → n < length t → kind_at ws n ≡ 12
    → is_container (at t (class_at ws n)).label ≡ false
unfolding container_kind
class_leaf p ws starts t n f l e = let c = f.classes n l e in f.containers (class_at ws n) c.0 ∙ (let q = c.1 in rw q)

leaf-text : (l : ℕ) → texts_w (pack_w 1 1 l) ≡ min l 65537
leaf-text l = texts_pack 1 1 l (omega arith)

-- `ahead` is no part of it
early_text : (w : ℕ) → texts_w (w + ahead) ≡ texts_w w
early_text w = omega arith

module _ (p ws measures : List ℕ) (n kind : ℕ) (o : OwnTextReadable p ws measures n kind) where
  pub own_none : kind ≢ 12 → Owns p ws measures measures n 0
  unfolding Owns
  own_none d starts t s f m l = (no_text p ws n kind o.kind_is o.container d, m)

  module _ (e : kind ≡ 12) (starts : List ℕ) (t : List Node) (s : WalkState) (f : Facts p ws starts t) (m : Noted t value_word measures s) (l : n < length t) where
    object : kind_at ws n ≡ 12
    object = sym o.kind_is ∙ e

    class_word : pack_w 1 1 (text_bytes p ws (class_at ws n)) ≡ value_word (leaf_of t (class_at ws n))
    class_word = leaf-word t (class_at ws n) (text_bytes p ws (class_at ws n)) (f.lens_are (class_at ws n) (f.classes n l object).0)

    word-text : (w : ℕ) → w ≡ pack_w 1 1 (text_bytes p ws (class_at ws n)) → texts_w w ≡ min (text_bytes p ws n) 65537
    word-text w x = ap texts_w x ∙ (leaf-text (text_bytes p ws (class_at ws n)) ∙ ap (λ (z : ℕ). min z 65537) (class_text p ws n object (f.classes n l object).1))

    class_noted : LeafNoted t value_word s.done (class_at ws n) (get_or measures (class_at ws n) 0)
    class_noted = m.leaf (class_at ws n) (f.classes n l object).0 (class_leaf p ws starts t n f l object)

    kept_text : get_or measures (class_at ws n) 0 ≢ 0 → texts_w (get_or measures (class_at ws n) 0) ≡ min (text_bytes p ws n) 65537
    kept_text d = go class_noted
      where
        go : LeafNoted t value_word s.done (class_at ws n) (get_or measures (class_at ws n) 0)
            → texts_w (get_or measures (class_at ws n) 0) ≡ min (text_bytes p ws n) 65537
        go (unseen x q) = absurd (d x)
        go (early x q) = ap texts_w x ∙ (early_text (value_word (leaf_of t (class_at ws n))) ∙ word-text _ (sym class_word))
        go (reached x q) = word-text _ (x ∙ sym class_word)

    new_noted : (w : ℕ) → get_or measures (class_at ws n) 0 ≡ 0 → w ≡ pack_w 1 1 (text_bytes p ws (class_at ws n))
        → Noted t value_word (set measures (class_at ws n) (w + ahead)) s
    new_noted w z x = rw (x ∙ class_word) (noted_early t value_word measures s (class_at ws n) m (f.classes n l object).0 (class_leaf p ws starts t n f l object) (go class_noted))
      where
        go : LeafNoted t value_word s.done (class_at ws n) (get_or measures (class_at ws n) 0) → is_text_leaf (at t (class_at ws n)).label ≡ true
            → ¬ In (class_at ws n) s.done
        go (unseen y q) = q
        go (early y q) = q
        go (reached y q) = absurd (omega (arith, word_big (leaf_of t (class_at ws n))))

  pub own_kept : kind ≡ 12 → get_or measures (class_at ws n) 0 ≢ 0 → Owns p ws measures measures n (texts_w (get_or measures (class_at ws n) 0))
  unfolding Owns
  own_kept e d starts t s f m l = (kept_text e starts t s f m l d, m)

  pub own_new : (w : ℕ) → kind ≡ 12 → get_or measures (class_at ws n) 0 ≡ 0 → w ≡ pack_w 1 1 (text_bytes p ws (class_at ws n))
      → Owns p ws measures (set measures (class_at ws n) (w + ahead)) n (texts_w w)
  unfolding Owns
  own_new w e z y starts t s f m l = (word-text e starts t s f m l w y, new_noted e starts t s f m l w z y)
