-- A container's list, walked: its text is written, then child after child; at the end its record and its measure.
use Prim.Native.Nat.{ℕ, suc, ◌+◌, ◌-◌, ◌*◌, ◌^◌, ◌/◌, ◌%◌, ◌<◌, ◌≤◌}
use Rattle.std.specs.Prelude.{Bool, cond, List, [], ◌∷◌, ◌++◌, ◌≢◌, take, drop, set}
use Rattle.std.proofs.Math.Bool.{true, false}
use Rattle.std.proofs.Common.{append_assoc, sym, ◌∙◌, ap, length-append, take-suc, drop-cons, add-one, arith, subst}
use Rattle.std.proofs.Math.Path.{◌≡◌, refl}
use Rattle.std.proofs.Math.Logic.{inl}
use Rattle.std.proofs.Math.ListN.{length, get_or}
use Rattle.std.proofs.lemmas.List.Edits.{sets}
use Rattle.std.proofs.Math.Seq.{length-sets, take-length, drop-length}
use borrow.Author.Tests.{le-ltb, ne_eqb}
use Rattle.std.proofs.Math.Decide.{ℕ_discrete, dec_lt}
use Rattle.value.specs.Value.{Forest, Value, one, nil, node, kind, text_of, text, size, depth, record_of, record_length, table as table_of, count, table, table-length}
use Rattle.value.specs.Stands.{◌⊕◌, size-append}
use Rattle.steps.specs.State.{Node}
use Rattle.steps.specs.NodeWords.{first}
use Rattle.reading.specs.Build.{at, before}
use Rattle.resolve.specs.Resolved.{Kids, Stand, s_nil, s_node, StandsFor, stand_label, stand_in}
use Rattle.resolve.specs.Ordered.{Final}
use Rattle.resolve.specs.Moved.{text-before}
use Rattle.resolve.specs.Ranges.{in_at}
use Rattle.resolve.specs.Noted.{is_container}
use Rattle.resolve.specs.Written.{HasAt, part_stays, Written, written_none, written_node, written_stays, part_join}
use Rattle.resolve.specs.Shown.{node_label, from_in, many_in, list_of, Inside}
use Rattle.resolve.specs.declared.lists.Range.{Range}
use Rattle.resolve.specs.NodeList.{Listed, shown_listed, Ranges, list_length, list_at}
use Rattle.resolve.specs.Kinds.{kind_of, container_kind, kind_is}
use Rattle.emit.specs.Stores.{sets_before, sets_behind, sets_there, earlier, later, part_late}
use Rattle.emit.specs.declared.Place.{Place}
use Rattle.emit.specs.Words.{place_of, same_place, written_w, lengths_of, lengths_all}
use Rattle.emit.specs.Leaves.{TextReady, TextPut, kind_below, LeafPut, record_at, FinishReady, FinishPut, opened}
use Rattle.emit.specs.Since.{Since, since_then, since_late, since_measure, since_fresh}
use Rattle.emit.specs.Calls.{ReadyNode, Flat, Open, PutValue, WroteNode, size_one, text_one, ready_most, ready_below, ready_label, ready_container, ready_text, below-made}

-- ---- values behind others: their text, their records, the nodes that stand for them, and both written

pub text-append : (f g : Forest) → text (f ⊕ g) ≡ text f ++ text g
unfolding text ◌⊕◌
text-append nil g = refl
text-append (node l c r) g = rw (text-append r g) (simp append_assoc)

pub table-append : (f g : Forest) (p : ℕ) → table (f ⊕ g) p ≡ table f p ++ table g (p + length (text f))
unfolding table text ◌⊕◌
table-append nil g p = let e : p + 0 ≡ p = omega arith in rw e
table-append (node l c r) g p =
    let q = p + length (text_of l) in
    let u = q + length (text c) in
    let e : p + length (text_of l ++ (text c ++ text r)) ≡ u + length (text r) = rw (length-append, length-append) (omega arith) in
    rw (e, table-append r g u)
    (sym (append_assoc (record_of l p (count c) (suc (size c))) (table c q ++ table r u) _ ∙ ap (λ (s : List ℕ). record_of l p (count c) (suc (size c)) ++ s) (append_assoc (table c q) (table r u) _)))

pub append-none : (f : Forest) → f ⊕ nil ≡ f
unfolding ◌⊕◌
append-none nil = refl
append-none (node l c r) = ap (node l c) (append-none r)

-- the first of those behind comes to those before
pub append_next : (f : Forest) (v : Value) (g : Forest) → (f ⊕ one v) ⊕ g ≡ f ⊕ before v g
unfolding ◌⊕◌
append_next nil v g = refl
append_next (node l c r) v g = ap (node l c) (append_next r v g)

pub depth-behind : (f g : Forest) → depth g ≤ depth (f ⊕ g)
unfolding depth ◌⊕◌
depth-behind nil g = omega arith
depth-behind (node l c r) g = let h = depth-behind r g in omega arith

pub stand_append : {t : List Node} {h : Kids} {is js : List ℕ} {f g : Forest} → Stand t h is f → Stand t h js g → Stand t h (is ++ js) (f ⊕ g)
unfolding ◌⊕◌
stand_append s_nil b = b
stand_append (s_node x a) b = s_node x (stand_append a b)

pub written-join : {t : List Node} {h : Kids} {records bytes : List ℕ} {is js : List ℕ} {f g : Forest} (a p : ℕ) → Written t h records bytes is f a p → Written t h records bytes js g (a + size f) (p + length (text f))
    → Written t h records bytes (is ++ js) (f ⊕ g) a p
written-join {records = records} {bytes = bytes} {f = f} {g = g} a p x y =
    let m = table-length f p in
    record {
      stands = stand_append x.stands y.stands;
      table_is = rw (table-append f g p) (part_join records (4 * a) (4 * (a + size f)) _ _ x.table_is (omega arith) y.table_is);
      text_is = rw (text-append f g) (part_join bytes p (p + length (text f)) _ _ x.text_is refl y.text_is);
    }

-- ---- a container that is to be walked

module _ {p d ws starts sorted log : List ℕ} {levels i : ℕ} {to : Place} {measures table bytes : List ℕ} (O : Open p d ws starts sorted log levels i to measures table bytes) where
  pub open_small : i < 4096
  unfolding opened
  open_small = go (ℕ_discrete i 4096)
    where
      go : Dec (i ≡ 4096) → i < 4096
      go (yes e) = absurd (let x : false ≡ true = rw e at O.unclosed in let z : ◌≡◌ {A = ℕ} 0 1 = cc in omega arith)
      go (no e) = omega (arith, ready_most O.ready)

  not_nothing : i ≢ 4096
  not_nothing e = omega (arith, open_small)

  pub open_kind : container_kind (kind_of (first ws i)) ≡ true
  unfolding opened
  open_kind = go (container_kind (kind_of (first ws i))) refl
    where
      go : (b : Bool) → container_kind (kind_of (first ws i)) ≡ b → container_kind (kind_of (first ws i)) ≡ true
      go true e = e
      go false e = absurd (let x : false ≡ true = rw (ne_eqb i 4096 not_nothing, e) at O.unclosed in let z : ◌≡◌ {A = ℕ} 0 1 = cc in omega arith)

  open_fresh : get_or measures i 0 ≡ get_or O.ready.m i 0
  unfolding opened
  open_fresh = go (dec_lt (get_or measures i 0) (2 ^ 63))
    where
      go : Dec (get_or measures i 0 < 2 ^ 63) → get_or measures i 0 ≡ get_or O.ready.m i 0
      go (yes l) = let R = O.ready in since_fresh R.t R.h table bytes 0 to.records to.bytes R.m measures R.since i l
      go (no l) = absurd (let x : false ≡ true = rw (ne_eqb i 4096 not_nothing, open_kind, le-ltb (get_or measures i 0) (2 ^ 63) (omega arith)) at O.unclosed in let z : ◌≡◌ {A = ℕ} 0 1 = cc in omega arith)

  pub open_below : i < length O.ready.t
  open_below = ready_below O.ready open_small

  open_container : is_container (at O.ready.t i).label ≡ true
  open_container = ready_container O.ready open_small ∙ open_kind

  pub open_label : O.ready.v.label ≡ node_label p ws i
  open_label = stand_label O.ready.stands ∙ ready_label O.ready open_small

  open_texts : to.bytes + length (text_of (node_label p ws i)) ≤ 65536
  open_texts = rw (← open_label) (omega (arith, text_one O.ready.v, O.ready.fits.texts))

  pub open_text : TextReady p d ws measures i bytes to.bytes
  open_text = ready_text O.ready open_small open_fresh open_texts

  pub open_lengths : (w : ℕ) → w ≡ lengths_of (node_label p ws i) → w / 2 ^ 32 + w % 2 ^ 32 ≡ length (text_of O.ready.v.label)
  open_lengths w e = rw (e, open_label) (lengths_all (node_label p ws i) (omega (arith, open_texts)))

  pub open_behind : (w : ℕ) → w ≡ lengths_of (node_label p ws i) → to.bytes + (w / 2 ^ 32 + w % 2 ^ 32) ≤ 65536
  open_behind w e = rw (open_lengths w e, open_label) open_texts

  pub open_levels : 1 ≤ levels
  unfolding depth
  open_levels = omega (arith, O.deep)

  pub open_listed : Listed ws starts measures i
  open_listed =
      let R = O.ready in
      let x = shown_listed R.t R.h (Final 4096 R.done) p d ws starts sorted log R.m i R.begun.shown open_below in
      record { words = x.words; measured = rw R.measures_long x.measured; ended = x.ended; rising = x.rising }

  pub open_record : 4 * to.records + 4 ≤ length table
  open_record = let R = O.ready in omega (arith, size_one R.v, R.fits.records, R.fits.table-long)

  pub open_short : to.records < 2048
  open_short = let R = O.ready in omega (arith, size_one R.v, R.fits.records)

  -- its list, as the range says
  module _ (r : Range) (g : Ranges ws starts measures i r) where
    from-same : r.at ≡ from_in ws starts O.ready.m i
    unfolding from_in
    from-same = let e = open_fresh in rw (← e) g.from

    many-same : r.end ≡ r.at + many_in ws starts O.ready.m i
    unfolding many_in
    many-same = let e = open_fresh in rw (← e) g.many

    inside_list : Inside ws starts sorted log O.ready.m i
    inside_list = let R = O.ready in R.begun.shown.inside i R.known open_below open_container

    is_list_lem : list_of ws starts sorted log O.ready.m i ≡ O.ready.h i
    is_list_lem = let R = O.ready in R.begun.shown.lists i R.known open_below open_container

    list-many : length (O.ready.h i) ≡ many_in ws starts O.ready.m i
    list-many = rw (← is_list_lem) (list_length ws starts sorted log O.ready.m i inside_list)

    pub list_end : r.end ≡ r.at + length (O.ready.h i)
    list_end = rw list-many many-same

    pub list_room : r.end ≤ length (cond r.log log sorted)
    unfolding Inside
    list_room = rw (g.room sorted log, many-same, from-same) inside_list

    pub list_item : (k : ℕ) → k < length (O.ready.h i) → get_or (cond r.log log sorted) (r.at + k) 0 ≡ get_or (O.ready.h i) k 0
    list_item k l = rw (g.room sorted log, from-same, ← is_list_lem) (sym (list_at ws starts sorted log O.ready.m i inside_list k (rw list-many at l)))

  pub open_few : kind_of (first ws i) ≡ 12 → length (O.ready.h i) ≤ 2
  open_few e = let R = O.ready in R.begun.few i R.known (ap kind (ready_label R open_small) ∙ (kind_is p ws i ∙ e))

-- its text is written
pub record OpenWithText (p d ws starts sorted log : List ℕ) (levels i : ℕ) (to : Place) (measures table bytes : List ℕ) : Type 0 where
  pub walk : Open p d ws starts sorted log levels i to measures table bytes
  pub own : HasAt bytes to.bytes (text_of walk.ready.v.label)

pub text_entered : {p d ws starts sorted log : List ℕ} {levels i : ℕ} {to : Place} {measures table bytes : List ℕ} (O : Open p d ws starts sorted log levels i to measures table bytes) (bytes₁ : List ℕ) (w : ℕ) → TextPut p ws i bytes to.bytes bytes₁ w
    → OpenWithText p d ws starts sorted log levels i to measures table bytes₁
text_entered {p} {ws = ws} {i = i} {to = to} {measures = measures} {table = table} {bytes = bytes} O bytes₁ w L =
    let R = O.ready in
    let l = open_label O in
    let e : bytes₁ ≡ sets bytes to.bytes (text_of R.v.label) = rw l L.text_is in
    let n : length bytes₁ ≡ length bytes = ap length e ∙ length-sets bytes to.bytes (text_of R.v.label) in
    let x : take to.bytes bytes₁ ≡ take to.bytes bytes = rw e (sets_before bytes to.bytes (text_of R.v.label) to.bytes (omega arith)) in
    let y : HasAt bytes₁ to.bytes (text_of R.v.label) = rw e (sets_there bytes to.bytes (text_of R.v.label) (omega (arith, text_one R.v, R.fits.texts, R.fits.text-long))) in
    record {
      walk = record {
        ready = record {
          t = R.t;
          h = R.h;
          done = R.done;
          m = R.m;
          v = R.v;
          begun = R.begun;
          known = R.known;
          stands = R.stands;
          fits = record { records = R.fits.records; texts = R.fits.texts; table-long = R.fits.table-long; text-long = omega (arith, R.fits.text-long) };
          measures_long = R.measures_long;
          since = since_then R.t R.h table bytes table bytes₁ 0 0 to.records to.bytes to.records to.bytes R.m measures measures refl x (omega arith) (omega arith) (omega arith) R.since (λ j. inl refl);
        };
        unclosed = O.unclosed;
        deep = O.deep;
      };
      own = y;
    }

-- ---- the loop

-- Of node i's list k children are written: f; those after them are g. From measures, table and text as they were when the loop began.
pub record WrittenChildren (t : List Node) (h : Kids) (v : Value) (i : ℕ) (to : Place) (from : ℕ) (measures₀ table₀ bytes₀ : List ℕ) (next : Place) (j : ℕ) (measures table bytes : List ℕ) : Type 0 where
  pub k : ℕ
  pub f : Forest
  pub g : Forest
  pub index : j ≡ from + k
  pub within : k ≤ length (h i)
  pub joined : f ⊕ g ≡ v.contents
  pub rest : Stand t h (drop k (h i)) g
  pub next_is : next ≡ place_of (to.records + 1 + size f) (to.bytes + length (text_of v.label) + length (text f))
  pub written : Written t h table bytes (take k (h i)) f (to.records + 1) (to.bytes + length (text_of v.label))
  pub table_before : take (4 * to.records) table ≡ take (4 * to.records) table₀
  pub table-behind : drop (4 * (to.records + size (one v))) table ≡ drop (4 * (to.records + size (one v))) table₀
  pub text-before : take (to.bytes + length (text_of v.label)) bytes ≡ take (to.bytes + length (text_of v.label)) bytes₀
  pub text-behind : drop (to.bytes + length (text (one v))) bytes ≡ drop (to.bytes + length (text (one v))) bytes₀
  pub measures_long : length measures ≡ length measures₀
  pub table-long : length table ≡ length table₀
  pub text-long : length bytes ≡ length bytes₀
  pub since : Since t h table bytes (to.records + 1) (to.records + 1 + size f) (to.bytes + length (text_of v.label) + length (text f)) measures₀ measures

module _ (g : Forest) (v : Value) (r : Forest) (e : g ≡ before v r) where
  before-size : size g ≡ size (one v) + size r
  unfolding size
  before-size = rw e (omega arith)

  before_text : length (text g) ≡ length (text (one v)) + length (text r)
  before_text = rw (e, text-before v r) (length-append (text (one v)) (text r))

  before-depth : depth (one v) ≤ depth g
  unfolding depth
  before-depth = rw e (omega arith)

-- a child, and the values behind it
pub record Child (t : List Node) (h : Kids) (js : List ℕ) (g : Forest) (c : ℕ) : Type 0 where
  pub value : Value
  pub rest : Forest
  pub split : g ≡ before value rest
  pub stands : StandsFor t h c value
  pub behind : Stand t h js rest

pub child : {t : List Node} {h : Kids} {c : ℕ} {js : List ℕ} {g : Forest} → Stand t h (c ∷ js) g → Child t h js g c
child {t = t} {c = c} (s_node {c = f} {r = r} a b) = record { value = record { label = (at t c).label; contents = f }; rest = r; split = refl; stands = s_node a s_nil; behind = b }

module _ {p d ws starts sorted log : List ℕ} {levels i : ℕ} {to : Place} {from : ℕ} {measures₀ table₀ bytes₀ : List ℕ} (E : OpenWithText p d ws starts sorted log levels i to measures₀ table₀ bytes₀) where
  pub turn_start : (w : ℕ) (next : Place) → w ≡ lengths_of (node_label p ws i) → next ≡ place_of (to.records + 1) (to.bytes + (w / 2 ^ 32 + w % 2 ^ 32))
      → WrittenChildren E.walk.ready.t E.walk.ready.h E.walk.ready.v i to from measures₀ table₀ bytes₀ next from measures₀ table₀ bytes₀
  unfolding size text ◌⊕◌
  turn_start w next e n =
      let R = E.walk.ready in
      let q = rw (open_lengths E.walk w e) at n in
      record {
        k = 0;
        f = nil;
        g = R.v.contents;
        index = omega arith;
        within = omega arith;
        joined = refl;
        rest = stand_in R.stands;
        next_is = q ∙ same_place (omega arith) (omega arith);
        written = written_none R.t R.h table₀ bytes₀ (to.records + 1) (to.bytes + length (text_of R.v.label));
        table_before = refl;
        table-behind = refl;
        text-before = refl;
        text-behind = refl;
        measures_long = refl;
        table-long = refl;
        text-long = refl;
        since = λ j. inl refl;
      }

  module _ {next : Place} {j : ℕ} {measures table bytes : List ℕ} (T : WrittenChildren E.walk.ready.t E.walk.ready.h E.walk.ready.v i to from measures₀ table₀ bytes₀ next j measures table bytes) where
    size-all : size (one E.walk.ready.v) ≡ suc (size T.f + size T.g)
    size-all = size_one E.walk.ready.v ∙ ap suc (rw (← T.joined) (size-append T.f T.g))

    text-all : length (text (one E.walk.ready.v)) ≡ length (text_of E.walk.ready.v.label) + (length (text T.f) + length (text T.g))
    text-all = text_one E.walk.ready.v ∙ ap (λ (n : ℕ). length (text_of E.walk.ready.v.label) + n) (rw (← T.joined, text-append T.f T.g) (length-append (text T.f) (text T.g)))

    next_record : next.records ≡ to.records + 1 + size T.f
    next_record = ap (λ (n : Place). n.records) T.next_is

    next_text : next.bytes ≡ to.bytes + length (text_of E.walk.ready.v.label) + length (text T.f)
    next_text = ap (λ (n : Place). n.bytes) T.next_is

    -- what holds of it holds of those numbers
    at_next : (P : ℕ → ℕ → Type 0) → P next.records next.bytes → P (to.records + 1 + size T.f) (to.bytes + length (text_of E.walk.ready.v.label) + length (text T.f))
    at_next P h = subst (λ (n : Place). P n.records n.bytes) T.next_is h

    turn_record : to.records ≤ next.records
    turn_record = omega (arith, next_record)

    turn_text : (to.bytes ≤ next.bytes) × (next.bytes ≤ 65536)
    turn_text = (omega (arith, next_text), omega (arith, next_text, text-all, E.walk.ready.fits.texts))

    -- where it stands in its range
    module _ (r : Range) (g : Ranges ws starts measures₀ i r) (q : from ≡ r.at) where
      pub turn_left : j < r.end → T.k < length (E.walk.ready.h i)
      turn_left x = omega (arith, T.index, list_end E.walk r g)

      pub turn_over : r.end ≤ j → length (E.walk.ready.h i) ≤ T.k
      turn_over x = omega (arith, T.index, list_end E.walk r g)

      pub turn_item : T.k < length (E.walk.ready.h i) → (c : ℕ) → c ≡ get_or (cond r.log log sorted) j 0 → c ≡ get_or (E.walk.ready.h i) T.k 0
      turn_item l c e = let n : j ≡ r.at + T.k = omega (arith, T.index) in e ∙ (ap (λ (x : ℕ). get_or (cond r.log log sorted) x 0) n ∙ list_item E.walk r g T.k l)

      pub turn_finish : (n : ℕ) → n ≡ r.end - from → FinishReady ws i to next n table
      unfolding first
      turn_finish n e = record {
        words = (open_text E.walk).readable.words;
        few = λ x. omega (arith, list_end E.walk r g, open_few E.walk x);
        room = omega (arith, open_record E.walk, T.table-long);
        records = turn_record;
        texts = turn_text.0;
        short = omega (arith, next_record, size-all, E.walk.ready.fits.records);
        most = turn_text.1;
      }

    -- a child is left
    module _ (l : T.k < length (E.walk.ready.h i)) (c : ℕ) (e : c ≡ get_or (E.walk.ready.h i) T.k 0) where
      pub turn_child : Child E.walk.ready.t E.walk.ready.h (drop (suc T.k) (E.walk.ready.h i)) T.g c
      turn_child = child (rw (drop-cons (E.walk.ready.h i) T.k 0 l, ← e) at T.rest)

      split_size : size T.g ≡ size (one turn_child.value) + size turn_child.rest
      split_size = before-size T.g turn_child.value turn_child.rest turn_child.split

      split_text : length (text T.g) ≡ length (text (one turn_child.value)) + length (text turn_child.rest)
      split_text = before_text T.g turn_child.value turn_child.rest turn_child.split

      split_depth : depth (one turn_child.value) ≤ depth T.g
      split_depth = before-depth T.g turn_child.value turn_child.rest turn_child.split

      pub turn_ready : ReadyNode p d ws starts sorted log c next measures table bytes
      turn_ready =
          let R = E.walk.ready in
          let C = turn_child in
          let s : Since R.t R.h table bytes 0 (to.records + 1 + size T.f) (to.bytes + length (text_of R.v.label) + length (text T.f)) R.m measures =
          since_then R.t R.h table₀ bytes₀ table bytes 0 (to.records + 1) to.records to.bytes (to.records + 1 + size T.f) (to.bytes + length (text_of R.v.label) + length (text T.f)) R.m measures₀ measures
          T.table_before (earlier bytes₀ bytes (to.bytes + length (text_of R.v.label)) to.bytes T.text-before (omega arith)) (omega arith) (omega arith) (omega arith) R.since T.since in
          record {
            t = R.t;
            h = R.h;
            done = R.done;
            m = R.m;
            v = C.value;
            begun = R.begun;
            known = R.begun.shown.closed i R.known c (rw e (in_at (R.h i) T.k l));
            stands = C.stands;
            fits = record {
              records = omega (arith, next_record, size-all, split_size, R.fits.records);
              texts = omega (arith, next_text, text-all, split_text, R.fits.texts);
              table-long = rw T.table-long R.fits.table-long;
              text-long = rw T.text-long R.fits.text-long;
            };
            measures_long = T.measures_long ∙ R.measures_long;
            since = subst (λ (n : Place). Since R.t R.h table bytes 0 n.records n.bytes R.m measures) (sym T.next_is) s;
          }

      pub turn_deep : depth (one turn_child.value) ≤ levels - 1
      unfolding depth
      turn_deep =
          let o = E.walk.ready.v in
          let a = rw T.joined at (depth-behind T.f T.g) in
          let b : suc (depth o.contents) ≤ levels = omega (arith, E.walk.deep) in
          omega (arith, split_depth)

      -- it is to be walked, or not
      pub child_open : opened ws measures c ≡ true → Open p d ws starts sorted log (levels - 1) c next measures table bytes
      unfolding turn_ready
      child_open o = record { ready = turn_ready; unclosed = o; deep = turn_deep }

      pub child_flat : opened ws measures c ≡ false → Flat p d ws c next measures table bytes
      child_flat o = record { starts = starts; sorted = sorted; log = log; ready = turn_ready; closed = o }

      -- the child is written
      turn_next : (next' : Place) (measures' table' bytes' : List ℕ) → length measures' ≡ length measures → length table' ≡ length table → length bytes' ≡ length bytes
          → WroteNode E.walk.ready.t E.walk.ready.h turn_child.value c next measures table bytes measures' table' bytes' next'
          → WrittenChildren E.walk.ready.t E.walk.ready.h E.walk.ready.v i to from measures₀ table₀ bytes₀ next' (j + 1) measures' table' bytes'
      turn_next next' measures' table' bytes' n₁ n₂ n₃ W =
          let R = E.walk.ready in
          let C = turn_child in
          let M = W.made in
          let u = to.records + 1 + size T.f in
          let x = to.bytes + length (text_of R.v.label) + length (text T.f) in
          let w = C.value in
          let z : size (T.f ⊕ one w) ≡ size T.f + size (one w) = size-append T.f (one w) in
          let y : length (text (T.f ⊕ one w)) ≡ length (text T.f) + length (text (one w)) = rw (text-append T.f (one w)) (length-append (text T.f) (text (one w))) in
          let r₁ : take (4 * u) table' ≡ take (4 * u) table = at_next (λ a p. take (4 * a) table' ≡ take (4 * a) table) M.table_before in
          let r₂ : take x bytes' ≡ take x bytes = at_next (λ a p. take p bytes' ≡ take p bytes) M.text-before in
          let r₃ : drop (4 * (u + size (one w))) table' ≡ drop (4 * (u + size (one w))) table = at_next (λ a p. drop (4 * (a + size (one w))) table' ≡ drop (4 * (a + size (one w))) table) M.table-behind in
          let r₄ : drop (x + length (text (one w))) bytes' ≡ drop (x + length (text (one w))) bytes = at_next (λ a p. drop (p + length (text (one w))) bytes' ≡ drop (p + length (text (one w))) bytes) M.text-behind in
          let r₅ : Written R.t R.h table' bytes' (c ∷ []) (one w) u x = at_next (λ a p. Written R.t R.h table' bytes' (c ∷ []) (one w) a p) M.written in
          let r₆ : next' ≡ place_of (u + size (one w)) (x + length (text (one w))) = at_next (λ a p. next' ≡ place_of (a + size (one w)) (p + length (text (one w)))) M.next in
          let r₇ : Since R.t R.h table' bytes' u (u + size (one w)) (x + length (text (one w))) measures measures' = at_next (λ a p. Since R.t R.h table' bytes' a (a + size (one w)) (p + length (text (one w))) measures measures') W.since in
          let e₁ : to.records + 1 + size (T.f ⊕ one w) ≡ u + size (one w) = omega arith in
          let e₂ : to.bytes + length (text_of R.v.label) + length (text (T.f ⊕ one w)) ≡ x + length (text (one w)) = omega arith in
          let a₁ = size-all in
          let a₂ = text-all in
          let a₃ = split_size in
          let a₄ = split_text in
          record {
            k = suc T.k;
            f = T.f ⊕ one w;
            g = C.rest;
            index = omega (arith, T.index);
            within = l;
            joined = append_next T.f w C.rest ∙ (ap (λ (s : Forest). T.f ⊕ s) (sym C.split) ∙ T.joined);
            rest = C.behind;
            next_is = rw (e₁, e₂) r₆;
            written = rw (take-suc (R.h i) T.k 0 l, ← e) (written-join (to.records + 1) (to.bytes + length (text_of R.v.label)) (written_stays table' bytes' _ _ u x T.written r₁ r₂ (omega arith) (omega arith)) r₅);
            table_before = earlier table table' (4 * u) (4 * to.records) r₁ (omega arith) ∙ T.table_before;
            table-behind = later table table' (4 * (u + size (one w))) (4 * (to.records + size (one R.v))) r₃ (omega arith) ∙ T.table-behind;
            text-before = earlier bytes bytes' x (to.bytes + length (text_of R.v.label)) r₂ (omega arith) ∙ T.text-before;
            text-behind = later bytes bytes' (x + length (text (one w))) (to.bytes + length (text (one R.v))) r₄ (omega arith) ∙ T.text-behind;
            measures_long = n₁ ∙ T.measures_long;
            table-long = n₂ ∙ T.table-long;
            text-long = n₃ ∙ T.text-long;
            since = rw (e₁, e₂) (since_then R.t R.h table bytes table' bytes' (to.records + 1) u u x (u + size (one w)) (x + length (text (one w))) measures₀ measures measures' r₁ r₂ (omega arith) (omega arith) (omega arith) T.since r₇);
          }

      -- by a walk
      pub next_walked : (o : opened ws measures c ≡ true) (next' : Place) (measures' table' bytes' : List ℕ) → length measures' ≡ length measures → length table' ≡ length table → length bytes' ≡ length bytes
          → WroteNode (child_open o).ready.t (child_open o).ready.h (child_open o).ready.v c next measures table bytes measures' table' bytes' next'
          → WrittenChildren E.walk.ready.t E.walk.ready.h E.walk.ready.v i to from measures₀ table₀ bytes₀ next' (j + 1) measures' table' bytes'
      unfolding child_open turn_ready
      next_walked o next' measures' table' bytes' n₁ n₂ n₃ w = turn_next next' measures' table' bytes' n₁ n₂ n₃ w

      -- without one
      pub next_flat : (o : opened ws measures c ≡ false) (next' : Place) (table' bytes' : List ℕ) → length table' ≡ length table → length bytes' ≡ length bytes
          → PutValue (child_flat o).ready.t (child_flat o).ready.h (child_flat o).ready.v c next table bytes table' bytes' next'
          → WrittenChildren E.walk.ready.t E.walk.ready.h E.walk.ready.v i to from measures₀ table₀ bytes₀ next' (j + 1) measures table' bytes'
      unfolding child_flat turn_ready
      next_flat o next' table' bytes' n₂ n₃ w = turn_next next' measures table' bytes' refl n₂ n₃ (record { made = w; since = λ j. inl refl })

      -- a node of a kind before the containers'
      pub next_leaf : (n : ℕ) (few : n ≤ 6) (o : kind_below n ws c ≡ true) (next' : Place) (table' bytes' : List ℕ) → length table' ≡ length table → length bytes' ≡ length bytes → LeafPut (node_label p ws c) next table bytes table' bytes' next'
          → WrittenChildren E.walk.ready.t E.walk.ready.h E.walk.ready.v i to from measures₀ table₀ bytes₀ next' (j + 1) measures table' bytes'
      unfolding turn_ready
      next_leaf n few o next' table' bytes' n₂ n₃ l = turn_next next' measures table' bytes' refl n₂ n₃ (record { made = below-made turn_ready n few o table' bytes' next' l; since = λ j. inl refl })

    -- no child is left: the record and the measure
    module _ (l : length (E.walk.ready.h i) ≤ T.k) where
      none_left : {t : List Node} {h : Kids} {f : Forest} → Stand t h [] f → f ≡ nil
      none_left s_nil = refl

      all_k : T.k ≡ length (E.walk.ready.h i)
      all_k = omega (arith, T.within)

      all_done : T.f ≡ E.walk.ready.v.contents
      all_done =
          let e : drop T.k (E.walk.ready.h i) ≡ [] = rw all_k (drop-length (E.walk.ready.h i)) in
          let n : T.g ≡ nil = none_left (rw e at T.rest) in
          sym (append-none T.f) ∙ (ap (λ (x : Forest). T.f ⊕ x) (sym n) ∙ T.joined)

      pub done_record : next.records ≡ to.records + size (one E.walk.ready.v)
      done_record = omega (arith, next_record, ap size all_done, size_one E.walk.ready.v)

      pub done-text : next.bytes ≡ to.bytes + length (text (one E.walk.ready.v))
      done-text = omega (arith, next_text, ap (λ (x : Forest). length (text x)) all_done, text_one E.walk.ready.v)

      all-written : Written E.walk.ready.t E.walk.ready.h table bytes (E.walk.ready.h i) E.walk.ready.v.contents (suc to.records) (to.bytes + length (text_of E.walk.ready.v.label))
      all-written = rw (all_k, take-length (E.walk.ready.h i), all_done, add-one to.records) at T.written

      turn_done : (table' words : List ℕ) (n z w : ℕ) → words ≡ record_of (node_label p ws i) to.bytes n z → n ≡ length (E.walk.ready.h i) → z ≡ next.records - to.records → table' ≡ sets table (4 * to.records) words
          → w ≡ written_w to.records (next.records - to.records) to.bytes (next.bytes - to.bytes)
          → WroteNode E.walk.ready.t E.walk.ready.h E.walk.ready.v i to measures₀ table₀ bytes₀ (set measures i w) table' bytes next
      turn_done table' words n z w e en ez s em =
          let R = E.walk.ready in
          let a = to.records in
          let q = to.bytes in
          let c = R.v.contents in
          let d₁ = done_record in
          let d₂ = done-text in
          let m₁ = size_one R.v in
          let m₂ = text_one R.v in
          let z₁ : z ≡ suc (size c) = omega arith in
          let e₁ : words ≡ record_of (at R.t i).label q (length (R.h i)) (suc (size c)) = rw (← en, ← z₁, ready_label R (open_small E.walk)) e in
          let n₁ : length words ≡ 4 = ap length e ∙ record_length (node_label p ws i) q n z in
          let w₁ : w ≡ written_w a (size (one R.v)) q (length (text (one R.v))) = measured next.records next.bytes em d₁ d₂ in
          let r₁ : take (4 * a) table' ≡ take (4 * a) table = rw s (sets_before table (4 * a) words (4 * a) (omega arith)) in
          let r₂ : drop (4 * suc a) table' ≡ drop (4 * suc a) table = rw s (sets_behind table (4 * a) words (4 * suc a) (omega arith)) in
          let p₀ : HasAt table' (4 * a) words = rw s (sets_there table (4 * a) words (omega (arith, R.fits.records, R.fits.table-long, T.table-long))) in
          let p₁ : HasAt table' (4 * a) (record_of (at R.t i).label q (length (R.h i)) (suc (size c))) = rw e₁ at p₀ in
          let p₂ : HasAt bytes q (text_of R.v.label) = part_stays bytes₀ bytes (q + length (text_of R.v.label)) q (text_of R.v.label) T.text-before (omega arith) E.own in
          let k = stand_label R.stands in
          let p₃ : HasAt bytes q (text_of (at R.t i).label) = rw (← k) p₂ in
          let A = all-written in
          let p₄ : Written R.t R.h table' bytes (R.h i) c (suc a) (q + length (text_of (at R.t i).label)) =
          rw (← k) (record { stands = A.stands; table_is = part_late table table' (4 * suc a) (4 * suc a) (table_of c (q + length (text_of R.v.label))) r₂ (omega arith) A.table_is; text_is = A.text_is }) in
          let p₅ : Written R.t R.h table' bytes (i ∷ []) (node (at R.t i).label c nil) a q = written_node R.t R.h table' bytes a q p₁ p₃ p₄ in
          let W : Written R.t R.h table' bytes (i ∷ []) (one R.v) a q = rw k p₅ in
          let u₁ : a + 1 + size T.f ≡ a + size (one R.v) = sym next_record ∙ d₁ in
          let u₂ : q + length (text_of R.v.label) + length (text T.f) ≡ q + length (text (one R.v)) = sym next_text ∙ d₂ in
          let S₁ : Since R.t R.h table bytes (suc a) (a + size (one R.v)) (q + length (text (one R.v))) measures₀ measures = rw (u₁, u₂, add-one a) at T.since in
          let S₂ = since_late R.t R.h table bytes table' a (a + size (one R.v)) (q + length (text (one R.v))) measures₀ measures r₂ S₁ in
          record {
            made = record {
              next = T.next_is ∙ same_place u₁ u₂;
              written = W;
              table_before = r₁ ∙ T.table_before;
              table-behind = later table table' (4 * suc a) (4 * (a + size (one R.v))) r₂ (omega arith) ∙ T.table-behind;
              text-before = earlier bytes₀ bytes (q + length (text_of R.v.label)) q T.text-before (omega arith);
              text-behind = T.text-behind;
            };
            since = since_measure R.t R.h table' bytes a (a + size (one R.v)) (q + length (text (one R.v))) measures₀ measures i w (omega (arith, open_below E.walk, R.begun.shown.measures_long, R.measures_long, T.measures_long)) S₂
                (record { container = open_container E.walk; value = R.v; a = a; p = q; written = W; measure = w₁; later = omega arith; records_end = omega arith; text_ends = omega arith });
          }
        where
          measured : (x y : ℕ) → w ≡ written_w to.records (x - to.records) to.bytes (y - to.bytes) → x ≡ to.records + size (one E.walk.ready.v) → y ≡ to.bytes + length (text (one E.walk.ready.v))
              → w ≡ written_w to.records (size (one E.walk.ready.v)) to.bytes (length (text (one E.walk.ready.v)))
          measured x y g d₁ d₂ =
              let b₁ : x - to.records ≡ size (one E.walk.ready.v) = omega arith in
              let b₂ : y - to.bytes ≡ length (text (one E.walk.ready.v)) = omega arith in
              rw (← b₁, ← b₂) g

pub turn_same : (t : List Node) (h : Kids) (v : Value) (i : ℕ) (to : Place) (from : ℕ) (measures₀ table₀ bytes₀ : List ℕ) (next next' : Place) (j : ℕ) (measures measures' table table' bytes bytes' : List ℕ) → measures' ≡ measures → table' ≡ table → bytes' ≡ bytes → next' ≡ next
    → WrittenChildren t h v i to from measures₀ table₀ bytes₀ next j measures table bytes → WrittenChildren t h v i to from measures₀ table₀ bytes₀ next' j measures' table' bytes'
turn_same t h v i to from measures₀ table₀ bytes₀ next next' j measures measures' table table' bytes bytes' a b c d x = rw (a, b, c, d) x

-- from the text as it was before the node's own
wrote_all : (t : List Node) (h : Kids) (v : Value) (i : ℕ) (to : Place) (measures table bytes bytes₁ measures' table' bytes' : List ℕ) (r : Place) → bytes₁ ≡ sets bytes to.bytes (text_of v.label) → WroteNode t h v i to measures table bytes₁ measures' table' bytes' r
    → WroteNode t h v i to measures table bytes measures' table' bytes' r
wrote_all t h v i to measures table bytes bytes₁ measures' table' bytes' r e W =
    let M = W.made in
    let n = text_one v in
    let x : take to.bytes bytes₁ ≡ take to.bytes bytes = rw e (sets_before bytes to.bytes (text_of v.label) to.bytes (omega arith)) in
    let y : drop (to.bytes + length (text (one v))) bytes₁ ≡ drop (to.bytes + length (text (one v))) bytes = rw e (sets_behind bytes to.bytes (text_of v.label) (to.bytes + length (text (one v))) (omega arith)) in
    record {
      made = record {
        next = M.next;
        written = M.written;
        table_before = M.table_before;
        table-behind = M.table-behind;
        text-before = M.text-before ∙ x;
        text-behind = M.text-behind ∙ y;
      };
      since = W.since;
    }

-- the container is written
pub open_done : {p d ws starts sorted log : List ℕ} {levels i : ℕ} {to : Place} {measures table bytes : List ℕ} (O : Open p d ws starts sorted log levels i to measures table bytes) (bytes₁ : List ℕ) (x : ℕ) (L : TextPut p ws i bytes to.bytes bytes₁ x)
    {from : ℕ} {next : Place} {j : ℕ} {measures' table₁ bytes' : List ℕ} (T : WrittenChildren (text_entered O bytes₁ x L).walk.ready.t (text_entered O bytes₁ x L).walk.ready.h (text_entered O bytes₁ x L).walk.ready.v i to from measures table bytes₁ next j measures' table₁ bytes')
    → length ((text_entered O bytes₁ x L).walk.ready.h i) ≤ T.k → (n : ℕ) (table' : List ℕ) (w : ℕ) → n ≡ length (O.ready.h i) → FinishPut ws i to next x n table₁ table' w
    → WroteNode O.ready.t O.ready.h O.ready.v i to measures table bytes (set measures' i w) table' bytes' next
unfolding text_entered
open_done {p} {ws = ws} {i = i} {to = to} {measures = measures} {table = table} {bytes = bytes} O bytes₁ x L {next = next} {measures' = measures'} {bytes' = bytes'} T l n table' w e F =
    let q = open_label O in
    wrote_all O.ready.t O.ready.h O.ready.v i to measures table bytes bytes₁ (set measures' i w) table' bytes' next (rw q L.text_is)
    (turn_done (text_entered O bytes₁ x L) T l table' _ n (next.records - to.records) w (record_at p ws i x to.bytes n (next.records - to.records) L.lengths) e refl F.table_is F.measure)

-- what `write` promises
abbrev pub Writes : (p d ws starts sorted log : List ℕ) (levels i : ℕ) (to : Place) (measures table bytes measures' table' bytes' : List ℕ) (r : Place) → Type 0
Writes p d ws starts sorted log levels i to measures table bytes measures' table' bytes' r =
    (O : Open p d ws starts sorted log levels i to measures table bytes) → WroteNode O.ready.t O.ready.h O.ready.v i to measures table bytes measures' table' bytes' r
