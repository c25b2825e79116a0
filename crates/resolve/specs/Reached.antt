-- What the measures tell the passes behind the walk: a container with a word, and a leaf with one that was not read ahead, is finished; and a
-- finished node has its word, unless it is a leaf without text. The texts of finished nodes are together no longer than the value's.
use Rattle.std.specs.Prelude.{ℕ, ◌<◌, ◌≤◌, Bool, cond, List, [], ◌∷◌, ◌≡◌, ◌≢◌, get_or}
use Rattle.std.proofs.Math.Bool.{true, false}
use Rattle.std.proofs.Math.Path.{refl}
use Rattle.std.proofs.Common.{◌∙◌, ap, arith}
use Rattle.std.proofs.Math.ListN.{length}
use Rattle.value.specs.Value.{Label, Value, one, text_of, text}
use Rattle.steps.specs.State.{Node}
use Rattle.reading.specs.Build.{at}
use Rattle.reading.specs.Unfold.{In, here, there}
use Rattle.resolve.specs.Resolved.{stand_label}
use Rattle.resolve.specs.Walk.{WalkState, walk_start}
use Rattle.resolve.specs.Resolves.{Resolves, Stood}
use Rattle.resolve.specs.Resolving.{walk_resolves}
use Rattle.resolve.specs.Tree.{walked, start_resolves}
use Rattle.resolve.specs.Capacity.{own_text, spent, text-spent}
use Rattle.resolve.specs.Noted.{is_container, is_text_leaf, ahead, leaf_of, Noted, unseen, early, reached, LeafNoted, WordSays, is_fresh, is_taken_lem, is_gone, is_kept, reads}
use Rattle.resolve.specs.Sums.{up_to, sum_over, up_to-over}

-- the text of node j where it is due
abbrev pub text_if : List Node → (ℕ → Bool) → ℕ → ℕ
text_if t due j = cond (due j) (length (text_of (at t j).label)) 0

module _ (t : List Node) (word : Value → ℕ) (nowhere : ℕ) (words : List ℕ) (s : WalkState) (r : Resolves t nowhere s) (n : Noted t word words s) where
  -- a container with a word is finished
  pub container-done : (j : ℕ) → j < length t → is_container (at t j).label ≡ true → 3 < get_or words j 0 → In j s.done
  container-done j l c h = go (reads t word words s j n l c)
    where
      go : WordSays t word s j (get_or words j 0) → In j s.done
      go (is_fresh e y) = absurd (omega arith)
      go (is_taken_lem e y) = absurd (omega arith)
      go (is_gone v e g y) = absurd (omega arith)
      go (is_kept v e g y) = r.kept_done j v e g

  -- so is a leaf with a word that was not read ahead
  pub leaf-done : (j : ℕ) → j < length t → is_container (at t j).label ≡ false → 3 < get_or words j 0 → get_or words j 0 < ahead → In j s.done
  leaf-done j l c h k = go (n.leaf j l c)
    where
      go : LeafNoted t word s.done j (get_or words j 0) → In j s.done
      go (unseen e f) = absurd (omega arith)
      go (early e f) = absurd (omega arith)
      go (reached e m) = m

  -- a finished leaf with text has its word
  pub done-leaf : (j : ℕ) → j < length t → is_container (at t j).label ≡ false → is_text_leaf (at t j).label ≡ true → In j s.done
      → get_or words j 0 ≡ word (leaf_of t j)
  done-leaf j l c h m = go (n.leaf j l c)
    where
      go : LeafNoted t word s.done j (get_or words j 0) → get_or words j 0 ≡ word (leaf_of t j)
      go (unseen e f) = absurd (f h m)
      go (early e f) = absurd (f h m)
      go (reached e f) = e

  -- a finished container has the word of its value
  pub done-container : (j : ℕ) → j < length t → is_container (at t j).label ≡ true → (m : In j s.done)
      → get_or words j 0 ≡ word (r.done_stands j m).value
  done-container j l c m =
      let o = r.done_stands j m in
      let g = o.stays in
      n.container j l c ∙ rw (o.keeps, g)

module _ (t : List Node) (nowhere : ℕ) (s : WalkState) (r : Resolves t nowhere s) where
  -- finished nodes' texts are among those that the walk has spent
  pub due_texts : (due : ℕ → Bool) → ((j : ℕ) → j < length t → due j ≡ true → In j s.done)
      → up_to (text_if t due) (length t) ≤ spent own_text s.stages s.done
  unfolding sum_over spent
  due_texts due h = omega (arith, up_to-over (text_if t due) (length t) s.done some, each s.done (λ j m. m))
    where
      some : (j : ℕ) → j < length t → text_if t due j ≢ 0 → In j s.done
      some j l d = go (due j) refl
        where
          go : (b : Bool) → due j ≡ b → In j s.done
          go true e = h j l e
          go false e = absurd (d (rw e))

      each : (l : List ℕ) → ((j : ℕ) → In j l → In j s.done) → sum_over (text_if t due) l ≤ spent own_text s.stages l
      each [] h = omega arith
      each (j ∷ l) h = let ih = each l (λ i m. h i (there m)) in one_more (r.done_stands j (h j here)) ih
        where
          part : (b : Bool) → cond b (length (text_of (at t j).label)) 0 ≤ length (text_of (at t j).label)
          part true = omega arith
          part false = omega arith

          one_more : Stood t s j → sum_over (text_if t due) l ≤ spent own_text s.stages l → sum_over (text_if t due) (j ∷ l) ≤ spent own_text s.stages (j ∷ l)
          one_more o ih =
              let k = o.keeps in
              let e : o.value.label ≡ (at t j).label = stand_label o.stands in
              let f : length (text_of o.value.label) ≡ length (text_of (at t j).label) = ap (λ (x : Label). length (text_of x)) e in
              rw k (omega (arith, part (due j)))

-- after the walk from a root they are at most the text of what it made
pub texts-held : (t : List Node) (nowhere : ℕ) (beyond : length t ≤ nowhere) (k root : ℕ) (due : ℕ → Bool)
    → ((j : ℕ) → j < length t → due j ≡ true → In j (walked t nowhere k root).after.done)
    → up_to (text_if t due) (length t) ≤ length (text (one (walked t nowhere k root).value))
texts-held t nowhere beyond k root due h =
    let r = (walk_resolves t nowhere beyond k root (walk_start t) (start_resolves t nowhere beyond)).resolves in
    omega (arith, due_texts t nowhere (walked t nowhere k root).after r due h, text-spent t nowhere beyond k root)
