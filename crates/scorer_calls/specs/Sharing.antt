-- Reading and then scoring: RULES A1.3 with Ask 3.5. A sheet whose parts are shared in the pickle scores as the
-- one that is written out plainly, afresh at every reference.
use Rattle.std.specs.Prelude.{ℕ, ◌*◌, ◌<◌, ◌≤◌, Bool, true, false, List, [], ◌∷◌, ◌++◌, ◌≡◌, length, take, drop}
use Rattle.std.proofs.Math.Path.{refl}
use Rattle.std.proofs.Common.{sym, ◌∙◌, ap, subst}
use Rattle.std.proofs.Math.Seq.{take-append_seam}
use Rattle.std.proofs.lemmas.List.{take-append-le}
use Rattle.refusal.specs.declared.Refusal.TheVariants.{TrailingData}
use Rattle.refusal.specs.declared.Answer.{Answer}
use Rattle.op.specs.declared.Edition.TheVariants.{Full}
use Rattle.input.specs.Bytes.{Bytes}
use Rattle.value.specs.Value.{Forest, one, size, table, text}
use Rattle.value.specs.WellFormed.{WellFormed}
use Rattle.table.specs.Length.{text_length, text-length}
use Rattle.steps.specs.State.{State, Res, ok, no, last}
use Rattle.steps.specs.Run.{run}
use Rattle.reading.specs.Measure.{measured}
use Rattle.reading.specs.Settle.{settle}
use Rattle.reading.specs.Unfold.{WritesOut, NothingContainsItself}
use Rattle.reading.specs.Reading.{Reading, reads, reading_of, consumed, prefix, whole, leaves, whole-trailing, whole-prefix, pickle_limit, told_fits, sharing_never_shows}
use Rattle.reading.specs.Success.{Formed, prefix-well_formed}
use Rattle.rooms.specs.Stated.{Slices, table_slice, text_slice, begun}
use Rattle.de.specs.Call.{reading, ReadCall}
use Rattle.de.specs.Theorems.{call_never_shows_sharing, call_answer, call-table, call-text, call_long_enough, not_refused, prefix_call_formed}
use Rattle.scorer.specs.Call.{Scores}
use Rattle.scorer.specs.Flip.{own_table}
use Rattle.scorer.specs.Theorems.{words-behind}
use Rattle.scorer.specs.declared.Scored.{Scored}

-- the score call, lent the records and the text that a reading with the answer a left, answers r
abbrev pub ScoresLeft : Slices → Answer → Scored → Type 0
ScoresLeft l a r = Scores (table_slice l) a.count (take (text_length (table_slice l) a.count) (text_slice l)) r

-- the score call, lent the table of the values f put in order, answers q
abbrev pub ScoresPlain : Forest → Scored → Type 0
ScoresPlain f q = Scores (table (settle f) 0) (size (settle f)) (text (settle f)) q

-- the same records say the same length of the text
same_length : {w u : List ℕ} {n m : ℕ} {t s : List ℕ} → WellFormed w n t → WellFormed u m s → n ≡ m → take (4 * n) w ≡ take (4 * m) u → length t ≡ length s
same_length {w} {u} {n} {m} {t} {s} f g c e =
    let x = own_table f in
    let y = own_table g in
    let same : table (one f.value) 0 ≡ table (one g.value) 0 = sym f.records ∙ e ∙ g.records in
    let k = text-length (table (one f.value) 0) n (text (one f.value)) x in
    let j = text-length (table (one g.value) 0) m (text (one g.value)) y in
    ap length f.texts ∙ sym k ∙ rw (same, c) j ∙ sym (ap length g.texts)

-- so the text that a reading left, as long as its records say, is the one of that length that it filled
text_left : {w u : List ℕ} {n m : ℕ} {t s : List ℕ} (x : List ℕ) → WellFormed w n (take (text_length w n) t) → WellFormed u m s → n ≡ m → take (4 * n) w ≡ take (4 * m) u → t ≡ s ++ x → take (text_length w n) t ≡ s
text_left {w} {u} {n} {m} {t} {s} x f g c e q =
    let k : text_length w n ≡ length s = text-length w n (take (text_length w n) t) f ∙ same_length f g c e in
    rw (k, q) (take-append_seam s x)

-- Bytes that are read to STOP with a value left, nothing reachable from which contains itself, and whose plain write-out is f.
module _ (p : List ℕ) (b : Bytes p) (s : State) (fits : length p ≤ pickle_limit) (stops : run Full p ≡ ok s) (left : 0 < length s.stack) (apart : NothingContainsItself s.nodes (last s.stack)) (f : Forest) (w : WritesOut s.nodes (last s.stack ∷ []) f) (l l' : Slices) (a : Answer) (z : a.number ≡ 0) where
  -- what the prefix reading left scores as the write-out does
  pub shared_scores : {r q : Scored} → ReadCall (prefix p) l l' a → ScoresLeft l' a r → ScoresPlain f q → r ≡ q
  unfolding reading_of Formed
  shared_scores {r} {q} c scored plain = go (measured f) refl
    where
      call : ReadCall (reading_of (consumed p s) f) l l' a
      call = call_never_shows_sharing Full p s fits stops left apart f w l l' a c

      go : (m : Res (Unit {0})) → measured f ≡ m → r ≡ q
      go (no why) e = absurd (not_refused (reading_of (consumed p s) f) l l' a call why z (rw (e, reading_of)))
      go (ok u) e =
          let g = settle f in
          let more = drop (length (table g 0)) (table_slice l) in
          let x : reading_of (consumed p s) f ≡ reads (consumed p s) g = (told_fits (consumed p s) f e).0 in
          let long = call_long_enough (reading_of (consumed p s) f) l l' a call z in
          let formed : WellFormed (table g 0) (size g) (text g) = subst Formed (sharing_never_shows Full p s fits stops left f apart w ∙ x) (prefix-well_formed Full p b) refl in
          let words : table_slice l' ≡ table g 0 ++ more = call-table (reading_of (consumed p s) f) l l' a call long ∙ ap (λ (y : Reading). begun y.words (table_slice l)) x in
          let bytes : text_slice l' ≡ begun (text g) (text_slice l) = call-text (reading_of (consumed p s) f) l l' a call long ∙ ap (λ (y : Reading). begun y.bytes (text_slice l)) x in
          let counted : a.count ≡ size g = ap (λ (y : Answer). y.count) (call_answer (reading_of (consumed p s) f) l l' a call long ∙ ap (λ (y : Reading). y.answer) x) in
          let left-formed = prefix_call_formed Full p b l l' a z c in
          let same-words : take (4 * a.count) (table_slice l') ≡ take (4 * size g) (table g 0) = rw (words, counted) (take-append-le (4 * size g) (table g 0) more formed.lent) in
          let same_text : take (text_length (table_slice l') a.count) (text_slice l') ≡ text g = text_left (drop (length (text g)) (text_slice l)) left-formed formed counted same-words bytes in
          words-behind left-formed formed same-words same_text scored plain

  -- and what the whole reading left
  pub whole-shared_scores : {r q : Scored} → ReadCall (whole p) l l' a → ScoresLeft l' a r → ScoresPlain f q → r ≡ q
  whole-shared_scores {r} {q} c scored plain = go (leaves p (prefix p)) refl
    where
      go : (x : Bool) → leaves p (prefix p) ≡ x → r ≡ q
      go true e = absurd (not_refused (whole p) l l' a c TrailingData z (whole-trailing Full p e))
      go false e = shared_scores (c ∙ ap (λ (x : Reading). reading x l) (whole-prefix Full p e)) scored plain
