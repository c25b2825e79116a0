-- What Ask 1 says of the call, over its contract and that of `from_bytes`: sheet by sheet it is separate calls, no sheet shows in another's
-- four numbers, sharing shows in none, and table and text are the last accepted sheet's.
use Rattle.std.specs.Prelude.{ℕ, suc, ◌+◌, ◌-◌, ◌*◌, ◌<◌, ◌≤◌, Bool, ◌||◌, ◌⊎◌, get_or, take}
use Rattle.std.proofs.Math.Bool.{true, false, cond}
use mathlib.Core.List.{List, [], ◌∷◌, ◌++◌}
use Rattle.std.proofs.Math.Logic.{inl, inr}
use Rattle.std.proofs.Math.Path.{◌≡◌, refl, ap}
use Rattle.std.proofs.Common.{sym, ◌∙◌, ap₂, length-drop, get_or-drop, arith}
use Rattle.std.proofs.Math.ListN.{length, drop}
use Rattle.std.proofs.Math.Seq.{split_at}
use Rattle.std.proofs.Math.Dec.{ltb, eqb}
use borrow.Author.Tests.{le-ltb, eqb-true, eq-eqb}
use Rattle.refusal.specs.declared.Refusal.TheVariants.{ShortRoom, TrailingData}
use Rattle.refusal.specs.declared.Answer.{Answer}
use Rattle.refusal.specs.Numbers.{refused_answer}
use Rattle.lengths.specs.Sum.{bad_lengths, sum}
use Rattle.rooms.specs.Stated.{Slices, room_lengths, stated, table_slice, text_slice, short, blank, begun, filled, Ready, ready, filled_none, filled_ready, table_filled, text-filled}
use Rattle.op.specs.declared.Edition.TheVariants.{Full}
use Rattle.value.specs.Value.{Forest}
use Rattle.steps.specs.State.{State, ok, last}
use Rattle.steps.specs.Run.{run}
use Rattle.reading.specs.Unfold.{WritesOut, NothingContainsItself}
use Rattle.reading.specs.Reading.{Reading, refuses, reading_of, consumed, whole, whole_in, leaves, pickle_limit, sharing_never_shows}
use Rattle.de.specs.Call.{ReadCall, call-reads}
use Rattle.de.specs.Theorems.{call_answer, call_slices, call-table, call-text, Ends, refused, read, whole_ends}
use Rattle.batch.specs.Batch.{sheets_of, four, answers_of, after, BatchLeft, bare, batch, BatchCall, batch_one, batch-long, batch_places, batch-read}
use Rattle.batch.specs.Sheets.{sheets_count}
use Rattle.batch.specs.Each.{sheet_at, four_at, four_at_lem, AlikeBut, other_sheet, after-append, after_ready, after-rooms, begun_all, tables, sheet_texts, after_table, after_text}

-- ---- how the call ends

-- every sheet is read
pub record Succeeds (s ns o : List ℕ) (l : Slices) (o' : List ℕ) (l' : Slices) (a : Answer) : Type 0 where
  pub long : short stated l ≡ false
  pub places : 4 * length ns ≤ length o
  pub adds_up : length s ≡ sum ns
  pub answer : a ≡ bare (0, 0)
  pub answers : o' ≡ begun (answers_of (sheets_of s ns)) o
  pub slices : l' ≡ after (sheets_of s ns) (blank room_lengths l)

-- or nothing is touched: 1 or 23
pub record NothingTouched (o : List ℕ) (l : Slices) (o' : List ℕ) (l' : Slices) (a : Answer) : Type 0 where
  pub why : (a ≡ refused_answer ShortRoom) ⊎ (a ≡ bare bad_lengths)
  pub answers : o' ≡ o
  pub slices : l' ≡ l

module _ (s ns o : List ℕ) (l : Slices) (o' : List ℕ) (l' : Slices) (a : Answer) (c : BatchCall s ns o l o' l' a) where
  pub batch_ends : Succeeds s ns o l o' l' a ⊎ NothingTouched o l o' l' a
  unfolding batch
  batch_ends = go (short stated l || ltb (length o) (4 * length ns)) refl (eqb (length s) (sum ns)) refl
    where
      go : (x : Bool) → (short stated l || ltb (length o) (4 * length ns)) ≡ x → (y : Bool) → eqb (length s) (sum ns) ≡ y → Succeeds s ns o l o' l' a ⊎ NothingTouched o l o' l' a
      go true e y f =
          let q : ◌≡◌ {A = BatchLeft} (record { answer = a; answers = o'; slices = l' }) (record { answer = refused_answer ShortRoom; answers = o; slices = l }) = c ∙ rw e in
          inr (record { why = inl (ap (λ (z : BatchLeft). z.answer) q); answers = ap (λ (z : BatchLeft). z.answers) q; slices = ap (λ (z : BatchLeft). z.slices) q })
      go false e false f =
          let q : ◌≡◌ {A = BatchLeft} (record { answer = a; answers = o'; slices = l' }) (record { answer = bare bad_lengths; answers = o; slices = l }) = c ∙ rw (e, f) in
          inr (record { why = inr (ap (λ (z : BatchLeft). z.answer) q); answers = ap (λ (z : BatchLeft). z.answers) q; slices = ap (λ (z : BatchLeft). z.slices) q })
      go false e true f =
          let q : ◌≡◌ {A = BatchLeft} (record { answer = a; answers = o'; slices = l' }) (record { answer = bare (0, 0); answers = begun (answers_of (sheets_of s ns)) o; slices = after (sheets_of s ns) (blank room_lengths l) }) = c ∙ rw (e, f) in
          inl
          (record {
            long = batch-long s ns o l e;
            places = batch_places s ns o l e;
            adds_up = eqb-true (length s) (sum ns) f;
            answer = ap (λ (z : BatchLeft). z.answer) q;
            answers = ap (λ (z : BatchLeft). z.answers) q;
            slices = ap (λ (z : BatchLeft). z.slices) q;
          })

  -- number 0 says that every sheet was read
  pub batch_succeeds : a.number ≡ 0 → Succeeds s ns o l o' l' a
  batch_succeeds z = go batch_ends
    where
      go : Succeeds s ns o l o' l' a ⊎ NothingTouched o l o' l' a → Succeeds s ns o l o' l' a
      go (inl r) = r
      go (inr u) = told u.why
        where
          told : (a ≡ refused_answer ShortRoom) ⊎ (a ≡ bare bad_lengths) → Succeeds s ns o l o' l' a
          told (inl e) = let q : ◌≡◌ {A = ℕ} 1 0 = sym (ap (λ (b : Answer). b.number) e) ∙ z in absurd (omega arith)
          told (inr e) = let q : ◌≡◌ {A = ℕ} 23 0 = sym (ap (λ (b : Answer). b.number) e) ∙ z in absurd (omega arith)

-- whether it succeeds is a matter of lengths alone: where it does, it does with every buffer as long
pub as_long_succeeds : {s t ns o : List ℕ} {l : Slices} {o' o'' : List ℕ} {l' l'' : Slices} {a b : Answer} → Succeeds s ns o l o' l' a → length t ≡ length s → BatchCall t ns o l o'' l'' b → Succeeds t ns o l o'' l'' b
as_long_succeeds {s} {t} {ns} {o} {l} {o'} {o''} {l'} {l''} {a} {b} r e c =
    let enough : (short stated l || ltb (length o) (4 * length ns)) ≡ false = rw (r.long, le-ltb (length o) (4 * length ns) r.places) refl in
    let call = batch-read t ns o l enough (begun (answers_of (sheets_of t ns)) o) (blank room_lengths l) (after (sheets_of t ns) (blank room_lengths l)) (eq-eqb (length t) (sum ns) (e ∙ r.adds_up)) refl refl refl in
    batch_succeeds t ns o l o'' l'' b c (ap (λ (x : Answer). x.number) (batch_one t ns o l o'' _ l'' _ b (bare (0, 0)) c call).0)

-- the rooms are then zero up to their stated lengths, and as they were behind
pub batch-rooms : {s ns o : List ℕ} {l : Slices} {o' : List ℕ} {l' : Slices} {a : Answer} → Succeeds s ns o l o' l' a → take 11 l' ≡ take 11 (blank room_lengths l)
batch-rooms {s} {ns} {o} {l} r = ap (take 11) r.slices ∙ after-rooms (sheets_of s ns) (blank room_lengths l)

-- ---- sheet by sheet

module _ {s ns o : List ℕ} {l : Slices} {o' : List ℕ} {l' : Slices} {a : Answer} (r : Succeeds s ns o l o' l' a) where
  -- a sheet's four numbers are those of its reading
  pub four_numbers : (i : ℕ) → i < length ns → four_at o' i ≡ four (whole (sheet_at s ns i)).answer
  four_numbers i h = ap (λ (x : List ℕ). four_at x i) r.answers ∙ four_at_lem (sheets_of s ns) (drop (length (answers_of (sheets_of s ns))) o) i (rw sheets_count h)

  -- so they are those that `from_bytes` answers for the sheet's bytes, in whatever slices that are long enough
  pub as_from_bytes : (i : ℕ) → i < length ns → (m m' : Slices) (b : Answer) → short stated m ≡ false → ReadCall (whole (sheet_at s ns i)) m m' b → four_at o' i ≡ four b
  as_from_bytes i h m m' b e c = four_numbers i h ∙ ap four (sym (call_answer (whole (sheet_at s ns i)) m m' b c e))

-- ps read by calls of `from_bytes` one after the other, in slices that were l and are l' behind the last; bs are their answers
pub data Separately : List (List ℕ) → Slices → Slices → List Answer → Type 0 where
  no_more : {l : Slices} → Separately [] l l []
  next : {p : List ℕ} {ps : List (List ℕ)} {l m l' : Slices} {b : Answer} {bs : List Answer} → ReadCall (whole p) l m b → Separately ps m l' bs → Separately (p ∷ ps) l l' (b ∷ bs)

-- their numbers, end to end
unfoldable pub fours : List Answer → List ℕ
fours [] = []
fours (b ∷ bs) = four b ++ fours bs

-- in rooms that are zero
ready_calls : (ps : List (List ℕ)) (l l' : Slices) (bs : List Answer) → Ready l → Separately ps l l' bs → (l' ≡ after ps l) × (fours bs ≡ answers_of ps)
unfolding after answers_of fours
ready_calls _ l _ _ r no_more = (refl, refl)
ready_calls _ l l' _ r (next {p = p} {ps = ps} {m = m} {b = b} {bs = bs} c d) =
    let x = whole p in
    let first : m ≡ filled x.words x.bytes l = call_slices x l m b c r.long ∙ ap (filled x.words x.bytes) r.zero in
    let more = ready_calls ps m l' bs (rw first (filled_ready x.words x.bytes l r)) d in
    (more.0 ∙ ap (after ps) first, ap₂ (λ (u v : List ℕ). u ++ v) (ap four (call_answer x l m b c r.long)) more.1)

-- in any slices: the first call makes the rooms zero
first_calls : (ps : List (List ℕ)) (l l' : Slices) (bs : List Answer) → short stated l ≡ false → 0 < length ps → Separately ps l l' bs → (l' ≡ after ps (blank room_lengths l)) × (fours bs ≡ answers_of ps)
unfolding after answers_of fours
first_calls _ l _ _ e h no_more = absurd (omega arith)
first_calls _ l l' _ e h (next {p = p} {ps = ps} {m = m} {b = b} {bs = bs} c d) =
    let x = whole p in
    let first : m ≡ filled x.words x.bytes (blank room_lengths l) = call_slices x l m b c e in
    let more = ready_calls ps m l' bs (rw first (filled_ready x.words x.bytes (blank room_lengths l) (ready l (blank room_lengths l) e refl))) d in
    (more.0 ∙ ap (after ps) first, ap₂ (λ (u v : List ℕ). u ++ v) (ap four (call_answer x l m b c e)) more.1)

-- One call for each sheet, one after the other in the same slices, leaves of them what the batch leaves, and answers what it puts down.
pub as_separate_calls : {s ns o : List ℕ} {l : Slices} {o' : List ℕ} {l' : Slices} {a : Answer} → Succeeds s ns o l o' l' a → 0 < length ns → (l'' : Slices) (bs : List Answer) → Separately (sheets_of s ns) l l'' bs → (l' ≡ l'') × (o' ≡ begun (fours bs) o)
as_separate_calls {s} {ns} {o} {l} r h l'' bs d =
    let f = first_calls (sheets_of s ns) l l'' bs r.long (rw sheets_count h) d in
    (r.slices ∙ sym f.0, r.answers ∙ ap (λ (x : List ℕ). begun x o) (sym f.1))

-- ---- no sheet shows in another's numbers

-- Two calls whose buffers are alike but for sheet i: every other sheet has the same four numbers, whatever slices they were lent.
pub others_alike : {ns s t : List ℕ} {o₁ o₂ : List ℕ} {l₁ l₂ : Slices} {o₁' o₂' : List ℕ} {l₁' l₂' : Slices} {a₁ a₂ : Answer} → Succeeds s ns o₁ l₁ o₁' l₁' a₁ → Succeeds t ns o₂ l₂ o₂' l₂' a₂ → (i : ℕ) → AlikeBut ns i s t → (j : ℕ) → j < length ns → (j ≡ i → ⊥) → four_at o₁' j ≡ four_at o₂' j
others_alike {ns} {s} {t} r q i e j h d = four_numbers r j h ∙ ap (λ (p : List ℕ). four (whole p).answer) (other_sheet ns i s t e j h d) ∙ sym (four_numbers q j h)

-- So a night read again with other bytes in one sheet, in the same slices: it succeeds too, and the other sheets' numbers stay.
pub changed_sheet : (s t ns o : List ℕ) (l : Slices) (o' o'' : List ℕ) (l' l'' : Slices) (a b : Answer) → a.number ≡ 0 → BatchCall s ns o l o' l' a → BatchCall t ns o l o'' l'' b → length t ≡ length s → (i : ℕ) → AlikeBut ns i s t → (b.number ≡ 0) × ((j : ℕ) → j < length ns → (j ≡ i → ⊥) → four_at o' j ≡ four_at o'' j)
changed_sheet s t ns o l o' o'' l' l'' a b z c d n i e =
    let r = batch_succeeds s ns o l o' l' a c z in
    let q = as_long_succeeds r n d in
    (ap (λ (x : Answer). x.number) q.answer, λ j h k. others_alike r q i e j h k)

-- ---- sharing never shows

-- as whole data: 11 where a value was accepted and bytes of p are left
unfoldable pub or_trailing : List ℕ → Reading → Reading
or_trailing p x = cond (leaves p x) (refuses TrailingData) x

-- A sheet that is read to STOP with a value left, nothing reachable from which contains itself: its reading is that of the value written out
-- plainly, or 11, whatever is shared.
module _ (p : List ℕ) (st : State) (fits : length p ≤ pickle_limit) (stops : run Full p ≡ ok st) (left : 0 < length st.stack) (apart : NothingContainsItself st.nodes (last st.stack)) (f : Forest) (w : WritesOut st.nodes (last st.stack ∷ []) f) where
  pub whole_never_shows_sharing : whole p ≡ or_trailing p (reading_of (consumed p st) f)
  unfolding whole_in or_trailing
  whole_never_shows_sharing = ap (λ (x : Reading). cond (leaves p x) (refuses TrailingData) x) (sharing_never_shows Full p st fits stops left f apart w)

  -- so are its four numbers
  pub sheet_never_shows_sharing : {s ns o : List ℕ} {l : Slices} {o' : List ℕ} {l' : Slices} {a : Answer} → Succeeds s ns o l o' l' a → (i : ℕ) → i < length ns → sheet_at s ns i ≡ p → four_at o' i ≡ four (or_trailing p (reading_of (consumed p st) f)).answer
  sheet_never_shows_sharing r i h e = four_numbers r i h ∙ ap (λ (q : List ℕ). four (whole q).answer) e ∙ ap (λ (x : Reading). four x.answer) whole_never_shows_sharing

-- ---- table and text

-- the sheet is not accepted
abbrev pub Refuses : List ℕ → Type 0
Refuses p = (whole p).answer.number ≡ 0 → ⊥

-- then it leaves everything as it is
refused_leaves : (p : List ℕ) (l : Slices) → Refuses p → filled (whole p).words (whole p).bytes l ≡ l
refused_leaves p l d = go (whole_ends Full p)
  where
    go : Ends Full p (whole p) → filled (whole p).words (whole p).bytes l ≡ l
    go (refused why e) = ap (λ (x : Reading). filled x.words x.bytes l) e ∙ filled_none l
    go (read st f e q) = absurd (d (ap (λ (x : Reading). x.answer.number) q))

all_refused : (ps : List (List ℕ)) (l : Slices) → ((j : ℕ) → j < length ps → Refuses (get_or ps j [])) → after ps l ≡ l
unfolding after
all_refused [] l d = refl
all_refused (p ∷ ps) l d = ap (after ps) (refused_leaves p l (d 0 (omega arith))) ∙ all_refused ps l (λ j h. d (suc j) (omega arith))

module _ {s ns o : List ℕ} {l : Slices} {o' : List ℕ} {l' : Slices} {a : Answer} (r : Succeeds s ns o l o' l' a) where
  clear : Ready (blank room_lengths l)
  clear = ready l (blank room_lengths l) r.long refl

  count : length (sheets_of s ns) ≡ length ns
  count = sheets_count s ns

  table_kept : table_slice (blank room_lengths l) ≡ table_slice l
  table_kept = ap table_slice (sym (filled_none (blank room_lengths l))) ∙ table_filled [] [] l r.long

  text_kept : text_slice (blank room_lengths l) ≡ text_slice l
  text_kept = ap text_slice (sym (filled_none (blank room_lengths l))) ∙ text-filled [] [] l r.long

  -- none accepted: table and text as before
  pub none_accepted : ((j : ℕ) → j < length ns → Refuses (sheet_at s ns j)) → (table_slice l' ≡ table_slice l) × (text_slice l' ≡ text_slice l)
  none_accepted d =
      let e : l' ≡ blank room_lengths l = r.slices ∙ all_refused (sheets_of s ns) (blank room_lengths l) (λ j h. d j (rw (← count) h)) in
      (ap table_slice e ∙ table_kept, ap text_slice e ∙ text_kept)

  -- sheet i, behind which none is accepted
  module _ (i : ℕ) (h : i < length ns) (later : (j : ℕ) → i < j → j < length ns → Refuses (sheet_at s ns j)) where
    -- the slices as the sheets before it left them
    abbrev pub left_before : Slices
    left_before = after (take i (sheets_of s ns)) (blank room_lengths l)

    before : Ready left_before
    before = after_ready (take i (sheets_of s ns)) (blank room_lengths l) clear

    there : i < length (sheets_of s ns)
    there = rw count h

    cut : after (sheets_of s ns) (blank room_lengths l) ≡ after (drop (suc i) (sheets_of s ns)) (filled (whole (sheet_at s ns i)).words (whole (sheet_at s ns i)).bytes left_before)
    unfolding after
    cut =
        ap (λ (ps : List (List ℕ)). after ps (blank room_lengths l)) (split_at (sheets_of s ns) i [] there)
        ∙ after-append (take i (sheets_of s ns)) (sheet_at s ns i ∷ drop (suc i) (sheets_of s ns)) (blank room_lengths l)

    rest : after (drop (suc i) (sheets_of s ns)) (filled (whole (sheet_at s ns i)).words (whole (sheet_at s ns i)).bytes left_before) ≡ filled (whole (sheet_at s ns i)).words (whole (sheet_at s ns i)).bytes left_before
    rest = all_refused (drop (suc i) (sheets_of s ns)) _ refuses_later
      where
        refuses_later : (j : ℕ) → j < length (drop (suc i) (sheets_of s ns)) → Refuses (get_or (drop (suc i) (sheets_of s ns)) j [])
        refuses_later j k =
            let n : j < length ns - suc i = rw (length-drop, count) at k in
            rw (get_or-drop (suc i) (sheets_of s ns) j []) (later (suc i + j) (omega arith) (omega arith))

    -- the batch leaves what `from_bytes` of it leaves of these; so what is proved of that call holds of the batch's table and text
    pub ends_as : ReadCall (whole (sheet_at s ns i)) left_before l' (whole (sheet_at s ns i)).answer
    ends_as = call-reads (whole (sheet_at s ns i)) left_before left_before l' (whole (sheet_at s ns i)).answer before.long (sym before.zero) refl (r.slices ∙ cut ∙ rest)

    -- table and text begin with that sheet's, and behind it stands what the sheets before it left, each begun in turn
    pub last_accepted : (table_slice l' ≡ begun (whole (sheet_at s ns i)).words (begun_all (tables (take i (sheets_of s ns))) (table_slice l))) × (text_slice l' ≡ begun (whole (sheet_at s ns i)).bytes (begun_all (sheet_texts (take i (sheets_of s ns))) (text_slice l)))
    last_accepted =
        let x = whole (sheet_at s ns i) in
        (call-table x left_before l' x.answer ends_as before.long ∙ ap (begun x.words) (after_table (take i (sheets_of s ns)) (blank room_lengths l) clear ∙ ap (begun_all (tables (take i (sheets_of s ns)))) table_kept), call-text x left_before l' x.answer ends_as before.long ∙ ap (begun x.bytes) (after_text (take i (sheets_of s ns)) (blank room_lengths l) clear ∙ ap (begun_all (sheet_texts (take i (sheets_of s ns)))) text_kept))
