-- What every reading by the public calls keeps to: sharing never shows, items added late show at each place, the answer and all slices are
-- determined, and what is filled is a well-formed table. ReadCall x l l' a is a call's whole promise, with x the prefix or the whole reading in any edition.
use Rattle.std.specs.Prelude.{ℕ, ◌*◌, ◌<◌, ◌≤◌, Bool, ◌&&◌, List, [], ◌∷◌, ◌++◌, ◌⊎◌, length, take, drop, eqb, leb, ltb}
use Rattle.std.proofs.Math.Bool.{true, false}
use Rattle.std.proofs.Math.Path.{◌≡◌, refl, ap}
use Rattle.std.proofs.Common.{sym, ◌∙◌, inl, inr, length-append, arith, leb-true, leb-false, ltb-true, ltb-false}
use Rattle.std.proofs.Math.Seq.{take-append_seam}
use Rattle.std.proofs.lemmas.List.{take-append-le}
use Rattle.refusal.specs.declared.Refusal.{Refusal}
use Rattle.refusal.specs.declared.Refusal.TheVariants.{ShortRoom, TooLong, StackUnderflow, TrailingData}
use Rattle.refusal.specs.declared.Answer.{Answer}
use Rattle.refusal.specs.Numbers.{refused_answer}
use Rattle.rooms.specs.Stated.{Slices, room_lengths, stated, table_slice, text_slice, begun, short, blank, filled, filled_none, table_filled, text-filled}
use Rattle.op.specs.declared.Edition.{Edition}
use Rattle.input.specs.Bytes.{Bytes}
use Rattle.value.specs.Value.{Forest, node, one}
use Rattle.value.specs.WellFormed.{WellFormed}
use Rattle.table.specs.Length.{text_length, text-length}
use Rattle.steps.specs.State.{Node, State, Res, ok, no, last}
use Rattle.steps.specs.Run.{run}
use Rattle.reading.specs.Build.{at, tree}
use Rattle.reading.specs.Measure.{measured}
use Rattle.reading.specs.Settle.{settle}
use Rattle.reading.specs.Unfold.{WritesOut, afresh, In, here, there, Contains, direct, through, Reachable, NothingContainsItself, write_out_unique, write_out}
use Rattle.reading.specs.Reading.{Reading, refuses, reads, reading_of, consumed, consumed-rest, prefix_in, whole_in, leaves, whole-trailing, whole-prefix, pickle_limit, stopped-long, stopped_refused, stopped_empty, stopped_with, prefix_refused, prefix-told, told_fits, sharing_never_shows}
use Rattle.reading.specs.Success.{Formed, refusal_number, prefix-well_formed, whole-well_formed}
use Rattle.de.specs.Call.{Left, reading, ReadCall}

-- ---- 1. sharing never shows

-- A pickle read to STOP with a value left, nothing reachable from which contains itself: number, detail, length, count and every slice
-- are those of the value written out plainly, whatever is shared.
module _ (ed : Edition) (p : List ℕ) (s : State) (fits : length p ≤ pickle_limit) (stops : run ed p ≡ ok s) (left : 0 < length s.stack) (apart : NothingContainsItself s.nodes (last s.stack)) where
  pub call_never_shows_sharing : (f : Forest) → WritesOut s.nodes (last s.stack ∷ []) f → (l l' : Slices) (a : Answer) → ReadCall (prefix_in ed p) l l' a → ReadCall (reading_of (consumed p s) f) l l' a
  call_never_shows_sharing f w l l' a c = c ∙ ap (λ (x : Reading). reading x l) (sharing_never_shows ed p s fits stops left f apart w)

  -- there is one plain write-out, and only one
  pub one_write_out : (f : Forest) × WritesOut s.nodes (last s.stack ∷ []) f × ((g : Forest) → WritesOut s.nodes (last s.stack ∷ []) g → g ≡ f)
  one_write_out = write_out s.nodes (last s.stack) apart

-- ---- 2. items added late

-- somewhere in a write-out stands the node i, with the contents c
pub data ShownIn {t : List Node} (i : ℕ) (c : Forest) : (is : List ℕ) (f : Forest) → WritesOut t is f → Type 0 where
  shown_here : {is : List ℕ} {r : Forest} {w : WritesOut t (at t i).kids c} {x : WritesOut t is r} → ShownIn i c (i ∷ is) (node (at t i).label c r) (afresh w x)
  shown_inside : {j : ℕ} {is : List ℕ} {d r : Forest} {w : WritesOut t (at t j).kids d} {x : WritesOut t is r} → ShownIn i c (at t j).kids d w → ShownIn i c (j ∷ is) (node (at t j).label d r) (afresh w x)
  shown_after : {j : ℕ} {is : List ℕ} {d r : Forest} {w : WritesOut t (at t j).kids d} {x : WritesOut t is r} → ShownIn i c is r x → ShownIn i c (j ∷ is) (node (at t j).label d r) (afresh w x)

-- the contents at a place are the write-out of all that the node has at STOP
pub place_shows : {t : List Node} (i : ℕ) (c : Forest) {is : List ℕ} {f : Forest} {w : WritesOut t is f} → ShownIn i c is f w → WritesOut t (at t i).kids c
place_shows i c (shown_here {w = w}) = w
place_shows i c (shown_inside p) = place_shows i c p
place_shows i c (shown_after p) = place_shows i c p

-- so any two places of a node show the same
pub same_at_each_place : {t : List Node} (i : ℕ) (c d : Forest) {is js : List ℕ} {f g : Forest} {w : WritesOut t is f} {x : WritesOut t js g} → ShownIn i c is f w → ShownIn i d js g x → c ≡ d
same_at_each_place i c d p q = write_out_unique (place_shows i c p) (place_shows i d q)

-- a node that is listed has a place
listed-placed : {t : List Node} (i : ℕ) (is : List ℕ) (f : Forest) → In i is → (w : WritesOut t is f) → (c : Forest) × ShownIn i c is f w
listed-placed i _ _ here (afresh {c = c} w x) = (c, shown_here)
listed-placed i _ _ (there m) (afresh w x) = let p = listed-placed i _ _ m x in (p.0, shown_after p.1)

-- and so has a node that a listed one contains
contained_placed : {t : List Node} (j i : ℕ) (is : List ℕ) (f : Forest) → In j is → Contains t j i → (w : WritesOut t is f) → (c : Forest) × ShownIn i c is f w
contained_placed j i _ _ (there m) r (afresh w x) = let p = contained_placed j i _ _ m r x in (p.0, shown_after p.1)
contained_placed j i _ _ here (direct k) (afresh w x) = let p = listed-placed i _ _ k w in (p.0, shown_inside p.1)
contained_placed j i _ _ here (through k r) (afresh w x) = let p = contained_placed _ i _ _ k r w in (p.0, shown_inside p.1)

-- The call is that of a write-out in which each node that the value left reaches has a place, and at every place of a node stand all the
-- contents that it has at STOP, whenever an opcode added them and wherever the node had been placed before. It fills the write-out in order.
pub record LateItems (p : List ℕ) (s : State) (l l' : Slices) (a : Answer) : Type 0 where
  pub forest : Forest
  pub written : WritesOut s.nodes (last s.stack ∷ []) forest
  pub called : ReadCall (reading_of (consumed p s) forest) l l' a
  pub placed : (i : ℕ) → Reachable s.nodes (last s.stack) i → (c : Forest) × ShownIn i c (last s.stack ∷ []) forest written
  pub shown : (i : ℕ) (c : Forest) → ShownIn i c (last s.stack ∷ []) forest written → WritesOut s.nodes (at s.nodes i).kids c

pub late_items_show : (ed : Edition) (p : List ℕ) (s : State) → length p ≤ pickle_limit → run ed p ≡ ok s → 0 < length s.stack → NothingContainsItself s.nodes (last s.stack) → (l l' : Slices) (a : Answer) → ReadCall (prefix_in ed p) l l' a → LateItems p s l l' a
unfolding Reachable
late_items_show ed p s fits stops left apart l l' a c =
    let o = one_write_out ed p s fits stops left apart in
    record {
      forest = o.0;
      written = o.1;
      called = call_never_shows_sharing ed p s fits stops left apart o.0 o.1 l l' a c;
      placed = λ i r. from i o.0 o.1 r;
      shown = λ i d q. place_shows i d q;
    }
  where
    from : (i : ℕ) (f : Forest) (w : WritesOut s.nodes (last s.stack ∷ []) f) → (i ≡ last s.stack) ⊎ Contains s.nodes (last s.stack) i → (d : Forest) × ShownIn i d (last s.stack ∷ []) f w
    from i f w (inl e) = listed-placed i _ f (rw e here) w
    from i f w (inr r) = contained_placed (last s.stack) i _ f here r w

-- ---- 3. what a call leaves

-- words behind the records are free
longer : (w r : List ℕ) (n : ℕ) (t : List ℕ) → WellFormed w n t → WellFormed (w ++ r) n t
longer w r n t h = record { value = h.value; shape = h.shape; settle = h.settle; counted = h.counted; few = h.few; shallow = h.shallow; lent = rw length-append (let x = h.lent in omega arith); records = take-append-le (4 * n) w r h.lent ∙ h.records; texts = h.texts; short = h.short }

module _ (x : Reading) (l l' : Slices) (a : Answer) (c : ReadCall x l l' a) where
  -- the reading's own answer, and the slices as it leaves them
  module _ (long : short stated l ≡ false) where
    says : ◌≡◌ {A = Left} (record { answer = a; slices = l' }) (record { answer = x.answer; slices = filled x.words x.bytes (blank room_lengths l) })
    unfolding reading
    says = c ∙ rw long

    pub call_answer : a ≡ x.answer
    call_answer = ap (λ (y : Left). y.answer) says

    pub call_slices : l' ≡ filled x.words x.bytes (blank room_lengths l)
    call_slices = ap (λ (y : Left). y.slices) says

    -- the outputs begin with what it fills
    pub call-table : table_slice l' ≡ begun x.words (table_slice l)
    call-table = ap table_slice call_slices ∙ table_filled x.words x.bytes l long

    pub call-text : text_slice l' ≡ begun x.bytes (text_slice l)
    call-text = ap text_slice call_slices ∙ text-filled x.words x.bytes l long

    -- a refusal leaves every room zero and the outputs as they came
    pub call_refused : (why : Refusal) → x ≡ refuses why → (a ≡ refused_answer why) × (l' ≡ blank room_lengths l)
    call_refused why e = (call_answer ∙ ap (λ (y : Reading). y.answer) e, call_slices ∙ ap (λ (y : Reading). filled y.words y.bytes (blank room_lengths l)) e ∙ filled_none (blank room_lengths l))

  -- success means that no slice was short
  pub call_long_enough : a.number ≡ 0 → short stated l ≡ false
  unfolding reading
  call_long_enough z = go (short stated l) refl
    where
      go : (b : Bool) → short stated l ≡ b → b ≡ false
      go false e = refl
      go true e =
          let q : ◌≡◌ {A = Left} (record { answer = a; slices = l' }) (record { answer = refused_answer ShortRoom; slices = l }) = c ∙ rw e in
          absurd (refusal_number ShortRoom (sym (ap (λ (y : Left). y.answer.number) q) ∙ z))

  -- and that the reading is no refusal
  pub not_refused : (why : Refusal) → a.number ≡ 0 → x ≡ refuses why → ⊥
  not_refused why z e = refusal_number why (ap (λ (y : Reading). y.answer.number) (sym e) ∙ ap (λ (y : Answer). y.number) (sym (call_answer (call_long_enough z))) ∙ z)

  -- on success the table and the text that its records say are well formed: what compare, list and write ask
  pub call-well_formed : Formed x → a.number ≡ 0 → WellFormed (table_slice l') a.count (take (text_length (table_slice l') a.count) (text_slice l'))
  unfolding Formed
  call-well_formed f e = go (f (ap (λ (y : Answer). y.number) (sym answer) ∙ e))
    where
      long : short stated l ≡ false
      long = call_long_enough e

      answer : a ≡ x.answer
      answer = call_answer long

      go : WellFormed x.words x.answer.count x.bytes → WellFormed (table_slice l') a.count (take (text_length (table_slice l') a.count) (text_slice l'))
      go w =
          let t : WellFormed (begun x.words (table_slice l)) x.answer.count x.bytes = longer x.words (drop (length x.words) (table_slice l)) x.answer.count x.bytes w in
          let n = text-length (begun x.words (table_slice l)) x.answer.count x.bytes t in
          rw (answer, call-table long, call-text long, n, take-append_seam x.bytes (drop (length x.bytes) (text_slice l))) t

-- both readings, of bytes
module _ (ed : Edition) (p : List ℕ) (b : Bytes p) (l l' : Slices) (a : Answer) (e : a.number ≡ 0) where
  pub prefix_call_formed : ReadCall (prefix_in ed p) l l' a → WellFormed (table_slice l') a.count (take (text_length (table_slice l') a.count) (text_slice l'))
  prefix_call_formed c = call-well_formed (prefix_in ed p) l l' a c (prefix-well_formed ed p b) e

  pub whole_call_formed : ReadCall (whole_in ed p) l l' a → WellFormed (table_slice l') a.count (take (text_length (table_slice l') a.count) (text_slice l'))
  whole_call_formed c = call-well_formed (whole_in ed p) l l' a c (whole-well_formed ed p b) e

-- ---- how a reading ends

-- with a refusal, or with a value at the STOP that the machine comes to
pub data Ends (ed : Edition) (p : List ℕ) (x : Reading) : Type 0 where
  refused : (why : Refusal) → x ≡ refuses why → Ends ed p x
  read : (s : State) (f : Forest) → run ed p ≡ ok s → x ≡ reads (consumed p s) (settle f) → Ends ed p x

pub prefix_ends : (ed : Edition) (p : List ℕ) → Ends ed p (prefix_in ed p)
unfolding reading_of
prefix_ends ed p = go (leb (length p) pickle_limit) refl
  where
    built : (s : State) (f : Forest) → run ed p ≡ ok s → prefix_in ed p ≡ reading_of (consumed p s) f → (r : Res (Unit {0})) → measured f ≡ r → Ends ed p (prefix_in ed p)
    built s f e t (no why) m = refused why (t ∙ rw (m, reading_of))
    built s f e t (ok u) m = read s f e (t ∙ (told_fits (consumed p s) f m).0)

    stack : (s : State) → length p ≤ pickle_limit → run ed p ≡ ok s → (b : Bool) → ltb 0 (length s.stack) ≡ b → Ends ed p (prefix_in ed p)
    stack s h e true k = built s (one (tree s.nodes (last s.stack))) e (prefix-told ed p s (last s.stack) (stopped_with ed p s h e (ltb-true 0 (length s.stack) k))) (measured (one (tree s.nodes (last s.stack)))) refl
    stack s h e false k = refused StackUnderflow (prefix_refused ed p StackUnderflow (stopped_empty ed p s h e (ltb-false 0 (length s.stack) k)))

    runs : length p ≤ pickle_limit → (r : Res State) → run ed p ≡ r → Ends ed p (prefix_in ed p)
    runs h (no why) e = refused why (prefix_refused ed p why (stopped_refused ed p why h e))
    runs h (ok s) e = stack s h e (ltb 0 (length s.stack)) refl

    go : (b : Bool) → leb (length p) pickle_limit ≡ b → Ends ed p (prefix_in ed p)
    go true h = runs (leb-true (length p) pickle_limit h) (run ed p) refl
    go false h = refused TooLong (prefix_refused ed p TooLong (stopped-long ed p (leb-false (length p) pickle_limit h)))

pub whole_ends : (ed : Edition) (p : List ℕ) → Ends ed p (whole_in ed p)
whole_ends ed p = go (leaves p (prefix_in ed p)) refl
  where
    same : whole_in ed p ≡ prefix_in ed p → Ends ed p (prefix_in ed p) → Ends ed p (whole_in ed p)
    same e (refused why r) = refused why (e ∙ r)
    same e (read s f r t) = read s f r (e ∙ t)

    go : (b : Bool) → leaves p (prefix_in ed p) ≡ b → Ends ed p (whole_in ed p)
    go true e = refused TrailingData (whole-trailing ed p e)
    go false e = same (whole-prefix ed p e) (prefix_ends ed p)

-- ---- the length

-- on success the length is that of the beginning which the machine read up to its STOP, one byte at least
pub ReadUpToStop : Edition → List ℕ → Answer → Type 0
ReadUpToStop ed p a = (s : State) × (run ed p ≡ ok s) × (s.input ≡ drop a.length p) × (0 < a.length) × (a.length ≤ length p)

module _ (ed : Edition) (p : List ℕ) (x : Reading) (l l' : Slices) (a : Answer) (z : a.number ≡ 0) (c : ReadCall x l l' a) where
  read_length : Ends ed p x → ReadUpToStop ed p a
  unfolding ReadUpToStop
  read_length (refused why e) = absurd (not_refused x l l' a c why z e)
  read_length (read s f r e) =
      let y = consumed-rest ed p s r in
      let n : a.length ≡ consumed p s = ap (λ (y : Answer). y.length) (call_answer x l l' a c (call_long_enough x l l' a c z)) ∙ ap (λ (y : Reading). y.answer.length) e in
      (s, r, rw n y.2, rw n y.0, rw n y.1)

module _ (ed : Edition) (p : List ℕ) (l l' : Slices) (a : Answer) (z : a.number ≡ 0) where
  pub prefix-call-length : ReadCall (prefix_in ed p) l l' a → ReadUpToStop ed p a
  prefix-call-length c = read_length ed p (prefix_in ed p) l l' a z c (prefix_ends ed p)

  -- the whole reading reads all
  pub whole-call-length : ReadCall (whole_in ed p) l l' a → ReadUpToStop ed p a × (a.length ≡ length p)
  unfolding leaves ReadUpToStop
  whole-call-length c = (read_length ed p (whole_in ed p) l l' a z c (whole_ends ed p), go (leaves p (prefix_in ed p)) refl (read_length ed p (whole_in ed p) l l' a z c (whole_ends ed p)))
    where
      answer : a ≡ (whole_in ed p).answer
      answer = call_answer (whole_in ed p) l l' a c (call_long_enough (whole_in ed p) l l' a c z)

      left : (n m : ℕ) → (eqb n 0 && ltb m (length p)) ≡ false → n ≡ 0 → length p ≤ m
      left n m e q = ltb-false m (length p) (sym (rw (q, eqb) refl) ∙ e)

      go : (b : Bool) → leaves p (prefix_in ed p) ≡ b → ReadUpToStop ed p a → a.length ≡ length p
      go true e r = absurd (not_refused (whole_in ed p) l l' a c TrailingData z (whole-trailing ed p e))
      go false e r =
          let q : a ≡ (prefix_in ed p).answer = answer ∙ ap (λ (y : Reading). y.answer) (whole-prefix ed p e) in
          let k : length p ≤ a.length = left a.number a.length (rw q e) z in
          let h = r.4 in
          omega arith
