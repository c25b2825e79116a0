-- What the measuring walk's answer says is due: 17, 18, 19, then 11.
use Rattle.std.specs.Prelude.{Option, Some, None, Result, Ok, Err, ℕ, ◌<◌, ◌≤◌, min, Bool, true, false, List, ◌≡◌, length}
use Rattle.std.proofs.Common.{◌∙◌, ap, arith}
use Rattle.refusal.specs.declared.Refusal.{Refusal}
use Rattle.refusal.specs.declared.Refusal.TheVariants.{TrailingData, TooManyValues, TextFull}
use Rattle.value.specs.Value.{Value, one, size, depth, text}
use Rattle.steps.specs.State.{Node, Res, ok, no, ◌>>=◌, need}
use Rattle.reading.specs.Build.{tree}
use Rattle.reading.specs.Measure.{measured, too_deep, too_many_values, text_full, within_limits}
use Rattle.resolve.specs.MeasureWord.{values_w, texts_w, values_pack, texts_pack}
use Rattle.resolve.specs.Rooted.{MeasuresTo, RootEnds, r_deep, r_word}
use Rattle.de.specs.Building.{due_of}

unfoldable pub said : Result (Unit {0}) Refusal → Res (Unit {0})
said (Ok u) = ok tt
said (Err why) = no why

-- whatever tree the word is of
unfoldable pub Tells : Option ℕ → Bool → Result (Unit {0}) Refusal → Type 0
Tells a left d =
    (t : List Node) (beyond : length t ≤ 4096) (starts lent measures sorted room : List ℕ) (root : ℕ) → RootEnds t beyond starts lent measures sorted room root (Ok a)
    → due_of left (one (tree t root)) ≡ said d

-- ---- a tree's word

module _ {v : Value} {w : ℕ} (m : MeasuresTo v w) where
  values_are : values_w w ≡ min (size (one v)) 2049
  values_are = ap values_w m.is ∙ values_pack (depth (one v)) (size (one v)) (length (text (one v))) (omega (arith, m.shallow))

  texts_are : texts_w w ≡ min (length (text (one v))) 65537
  texts_are = ap texts_w m.is ∙ texts_pack (depth (one v)) (size (one v)) (length (text (one v))) (omega (arith, m.shallow))

  over_values : 2048 < values_w w → measured (one v) ≡ no TooManyValues
  over_values h = too_many_values (one v) m.shallow (omega (arith, values_are))

  module _ (k : values_w w ≤ 2048) where
    over-text : 65536 < texts_w w → measured (one v) ≡ no TextFull
    over-text h = text_full (one v) m.shallow (omega (arith, values_are)) (omega (arith, texts_are))

    within : texts_w w ≤ 65536 → measured (one v) ≡ ok tt
    within h = within_limits (one v) m.shallow (omega (arith, values_are)) (omega (arith, texts_are))

-- a tree that is too deep
pub due_deep : (left : Bool) {t : List Node} {beyond : length t ≤ 4096} {starts lent measures sorted room : List ℕ} {root : ℕ} {why : Refusal}
    → RootEnds t beyond starts lent measures sorted room root (Err why) → due_of left (one (tree t root)) ≡ no why
unfolding due_of ◌>>=◌
due_deep left {t} {root = root} (r_deep h) = rw (too_deep (one (tree t root)) h)

-- ---- each answer

module _ (left : Bool) where
  -- the root is never None
  pub tells_empty : (d : Result (Unit {0}) Refusal) → Tells None left d
  unfolding Tells
  tells_empty d t beyond starts lent measures sorted room root r = elim r [ ]

  module _ (w : ℕ) where
    pub tells_values : 2048 < values_w w → Tells (Some w) left (Err TooManyValues)
    unfolding Tells said due_of ◌>>=◌
    tells_values h t beyond starts lent measures sorted room root (r_word w m s x) = rw (over_values m h)

    pub tells_text : values_w w ≤ 2048 → 65536 < texts_w w → Tells (Some w) left (Err TextFull)
    unfolding Tells said due_of ◌>>=◌
    tells_text k h t beyond starts lent measures sorted room root (r_word w m s x) = rw (over-text m k h)

    module _ (k : values_w w ≤ 2048) (h : texts_w w ≤ 65536) where
      pub tells_left : left ≡ true → Tells (Some w) left (Err TrailingData)
      unfolding Tells said due_of ◌>>=◌ need
      tells_left e t beyond starts lent measures sorted room root (r_word w m s x) = rw (within m k h, e)

      pub tells_nothing : left ≡ false → Tells (Some w) left (Ok tt)
      unfolding Tells said due_of ◌>>=◌ need
      tells_nothing e t beyond starts lent measures sorted room root (r_word w m s x) = rw (within m k h, e)
