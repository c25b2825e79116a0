-- What a call that writes node i at the place `to` is given, and what it makes.
use Rattle.std.specs.Prelude.{ℕ, suc, zero, ◌+◌, ◌*◌, ◌^◌, ◌/◌, ◌%◌, ◌<◌, ◌≤◌, refl, ◌≢◌, ◌⊎◌, length, take, drop}
use Rattle.std.proofs.Math.Bool.{true, false}
use mathlib.Core.List.{List, [], ◌∷◌, append-nil}
use Rattle.std.proofs.Math.Path.{◌≡◌, ap}
use Rattle.std.proofs.Common.{◌∙◌, inl, inr, length-append}
use Rattle.std.proofs.Math.ListN.{get_or}
use Rattle.std.proofs.lemmas.List.Edits.{sets}
use borrow.Author.Tests.{lt-ltb, le-ltb, ne_eqb}
use Rattle.std.proofs.Math.Decide.{ℕ_discrete, dec_lt}
use native.Mathlib.Omega.{arith}
use Rattle.value.specs.Value.{Forest, Value, one, nil, NoneL, kind, text_of, text, size, depth, record_of, record_length, table as table_of, table-length}
use Rattle.value.specs.Shape.{kind_in, fresh_in}
use Rattle.steps.specs.State.{Node}
use Rattle.steps.specs.NodeWords.{first}
use Rattle.reading.specs.Build.{at}
use Rattle.resolve.specs.Resolved.{Kids, s_nil, s_node, StandsFor, value_unique, stand_label}
use Rattle.resolve.specs.Ordered.{Final}
use Rattle.resolve.specs.Noted.{is_container, leaf_of}
use Rattle.resolve.specs.Moved.{moves, moved}
use Rattle.resolve.specs.Written.{HasAt, Written, written_none, written_node, written_again}
use Rattle.resolve.specs.Shown.{Shown, node_label}
use Rattle.resolve.specs.Readable.{TextReadable, shown_readable, spelled_measure}
use Rattle.resolve.specs.Kinds.{kind_of, kind-same, container_kind, container_is}
use Rattle.emit.specs.Stores.{sets_before, sets_behind, sets_there}
use Rattle.emit.specs.declared.Place.{Place}
use Rattle.emit.specs.Words.{place_of, same_place, written_w, written_record, written-size, written-text, written-long, record_from}
use Rattle.emit.specs.Places.{written_copyable}
use Rattle.emit.specs.Leaves.{TextReady, LeafReady, LeafPut, kind_below, CopyReady, CopyPut, opened}
use Rattle.emit.specs.Since.{Stored, Since, since_leaf, since_stored}

-- ---- given

-- the nodes t and the graph h as the rooms show them, with the measures m from before anything was written
pub record Begun (t : List Node) (h : Kids) (done m p d ws starts sorted log : List ℕ) : Type 0 where
  pub shown : Shown t h (Final 4096 done) p d ws starts sorted log m
  -- an Object has its arguments and any state
  pub few : (i : ℕ) → Final 4096 done i → kind (at t i).label ≡ 12 → length (h i) ≤ 2
  pub unwritten : (j : ℕ) → get_or m j 0 < 2 ^ 63

-- room for the value v
pub record HasRoom (v : Value) (to : Place) (table bytes : List ℕ) : Type 0 where
  pub records : to.records + size (one v) ≤ 2048
  pub texts : to.bytes + length (text (one v)) ≤ 65536
  pub table-long : 8192 ≤ length table
  pub text-long : 65536 ≤ length bytes

-- node i stands for the value v
pub record ReadyNode (p d ws starts sorted log : List ℕ) (i : ℕ) (to : Place) (measures table bytes : List ℕ) : Type 0 where
  pub t : List Node
  pub h : Kids
  pub done : List ℕ
  pub m : List ℕ
  pub v : Value
  pub begun : Begun t h done m p d ws starts sorted log
  pub known : Final 4096 done i
  pub stands : StandsFor t h i v
  pub fits : HasRoom v to table bytes
  pub measures_long : length measures ≡ length m
  pub since : Since t h table bytes 0 to.records to.bytes m measures

-- it needs no walk
pub record Flat (p d ws : List ℕ) (i : ℕ) (to : Place) (measures table bytes : List ℕ) : Type 0 where
  pub starts : List ℕ
  pub sorted : List ℕ
  pub log : List ℕ
  pub ready : ReadyNode p d ws starts sorted log i to measures table bytes
  pub closed : opened ws measures i ≡ false

-- it is to be walked, with so many levels left
pub record Open (p d ws starts sorted log : List ℕ) (levels i : ℕ) (to : Place) (measures table bytes : List ℕ) : Type 0 where
  pub ready : ReadyNode p d ws starts sorted log i to measures table bytes
  pub unclosed : opened ws measures i ≡ true
  pub deep : depth (one ready.v) ≤ levels

-- ---- made

pub record PutValue (t : List Node) (h : Kids) (v : Value) (i : ℕ) (to : Place) (table bytes table' bytes' : List ℕ) (r : Place) : Type 0 where
  pub next : r ≡ place_of (to.records + size (one v)) (to.bytes + length (text (one v)))
  pub written : Written t h table' bytes' (i ∷ []) (one v) to.records to.bytes
  pub table_before : take (4 * to.records) table' ≡ take (4 * to.records) table
  pub table-behind : drop (4 * (to.records + size (one v))) table' ≡ drop (4 * (to.records + size (one v))) table
  pub text-before : take to.bytes bytes' ≡ take to.bytes bytes
  pub text-behind : drop (to.bytes + length (text (one v))) bytes' ≡ drop (to.bytes + length (text (one v))) bytes

pub record WroteNode (t : List Node) (h : Kids) (v : Value) (i : ℕ) (to : Place) (measures table bytes measures' table' bytes' : List ℕ) (r : Place) : Type 0 where
  pub made : PutValue t h v i to table bytes table' bytes' r
  pub since : Since t h table' bytes' to.records (to.records + size (one v)) (to.bytes + length (text (one v))) measures measures'

-- ---- sizes

pub size_one : (v : Value) → size (one v) ≡ suc (size v.contents)
unfolding size
size_one v = omega arith

pub text_one : (v : Value) → length (text (one v)) ≡ length (text_of v.label) + length (text v.contents)
unfolding text
text_one v = rw append-nil (length-append (text_of v.label) (text v.contents))

-- a number that no node has
pub no_node : (t : List Node) (i : ℕ) → length t ≤ i → (at t i).label ≡ NoneL
no_node [] i h = refl
no_node (x ∷ t) zero h = absurd (omega arith)
no_node (x ∷ t) (suc i) h = no_node t i (omega arith)

-- ---- what is there

module _ {p d ws starts sorted log : List ℕ} {i : ℕ} {to : Place} {measures table bytes : List ℕ} (R : ReadyNode p d ws starts sorted log i to measures table bytes) where
  ready_nodes : (i ≡ 4096) ⊎ (i < length R.t)
  ready_nodes = R.begun.shown.nodes i R.known

  pub ready_most : i ≤ 4096
  ready_most = go ready_nodes
    where
      go : (i ≡ 4096) ⊎ (i < length R.t) → i ≤ 4096
      go (inl e) = omega arith
      go (inr l) = omega (arith, R.begun.shown.beyond)

  pub ready_below : i < 4096 → i < length R.t
  ready_below h = go ready_nodes
    where
      go : (i ≡ 4096) ⊎ (i < length R.t) → i < length R.t
      go (inl e) = absurd (omega arith)
      go (inr l) = l

  pub ready_inside : i < 4096 → (2 * i < length ws) × (i < length measures)
  ready_inside h = let b = ready_below h in (omega (arith, R.begun.shown.words_long), omega (arith, R.begun.shown.measures_long, R.measures_long))

  pub ready_readable : i < 4096 → TextReadable ws measures i
  ready_readable h =
      let r = shown_readable R.t R.h (Final 4096 R.done) p d ws starts sorted log R.m i R.begun.shown (ready_below h) in
      record { words = r.words; measured = rw R.measures_long r.measured; class = r.class }

  pub ready_label : i < 4096 → (at R.t i).label ≡ node_label p ws i
  ready_label h = R.begun.shown.labels_are i (ready_below h)

  pub ready_container : i < 4096 → is_container (at R.t i).label ≡ container_kind (kind_of (first ws i))
  ready_container h = ap is_container (ready_label h) ∙ container_is p ws i

  -- its text, where its measure is as it was
  pub ready_text : i < 4096 → get_or measures i 0 ≡ get_or R.m i 0 → to.bytes + length (text_of (node_label p ws i)) ≤ 65536 → TextReady p d ws measures i bytes to.bytes
  ready_text h e l =
      let q = ready_label h in
      record {
        readable = ready_readable h;
        spelled = λ x. rw (← q) (spelled_measure p d ws R.m measures i (at R.t i).label e (R.begun.shown.spelled i R.known (ready_below h) (rw q x)));
        room = omega (arith, R.fits.text-long);
        short = omega arith;
      }

-- ---- what is made without a walk

-- a node with nothing in it
leaf-made : (t : List Node) (h : Kids) (v : Value) (i : ℕ) (to : Place) (table bytes table' bytes' : List ℕ) (r : Place) → StandsFor t h i v → h i ≡ [] → HasRoom v to table bytes → LeafPut (at t i).label to table bytes table' bytes' r
    → PutValue t h v i to table bytes table' bytes' r
unfolding size text
leaf-made t h v i to table bytes table' bytes' r s e f l =
    let l₀ = (at t i).label in
    let a = to.records in
    let p = to.bytes in
    let w : Value = leaf_of t i in
    let q : v ≡ w = value_unique s (s_node (rw e s_nil) s_nil) in
    let z : size (one w) ≡ 1 = size_none w refl in
    let n : length (text (one w)) ≡ length (text_of l₀) = text-none w refl in
    let f₁ = rw (q, z) at f.records in
    let f₂ = rw (q, n) at f.texts in
    let k = record_length l₀ p 0 1 in
    let c₁ : HasAt table' (4 * a) (record_of l₀ p (length (h i)) 1) = rw (e, l.table_is) (sets_there table (4 * a) (record_of l₀ p 0 1) (omega (arith, f.table-long))) in
    let c₂ : HasAt bytes' p (text_of l₀) = rw l.text_is (sets_there bytes p (text_of l₀) (omega (arith, f.text-long))) in
    let c₃ : Written t h table' bytes' (h i) nil (suc a) (p + length (text_of l₀)) = rw e (written_none t h table' bytes' (suc a) (p + length (text_of l₀))) in
    rw q (record {
      next = rw (z, n) l.next;
      written = nodes c₁ c₂ c₃;
      table_before = rw l.table_is (sets_before table (4 * a) (record_of l₀ p 0 1) (4 * a) (omega arith));
      table-behind = rw l.table_is (sets_behind table (4 * a) (record_of l₀ p 0 1) (4 * (a + size (one w))) (omega arith));
      text-before = rw l.text_is (sets_before bytes p (text_of l₀) p (omega arith));
      text-behind = rw l.text_is (sets_behind bytes p (text_of l₀) (p + length (text (one w))) (omega arith));
    })
  where
    size_none : (w : Value) → w.contents ≡ nil → size (one w) ≡ 1
    size_none w e = size_one w ∙ ap (λ (f : Forest). suc (size f)) e

    text-none : (w : Value) → w.contents ≡ nil → length (text (one w)) ≡ length (text_of w.label)
    text-none w e = let x = text_one w in let y : length (text w.contents) ≡ 0 = rw e in omega arith

    nodes : HasAt table' (4 * to.records) (record_of (at t i).label to.bytes (length (h i)) 1) → HasAt bytes' to.bytes (text_of (at t i).label) → Written t h table' bytes' (h i) nil (suc to.records) (to.bytes + length (text_of (at t i).label))
        → Written t h table' bytes' (i ∷ []) (one (leaf_of t i)) to.records to.bytes
    nodes x y z = written_node t h table' bytes' to.records to.bytes x y z

-- what is written already, once more
module _ (t : List Node) (h : Kids) (v : Value) (i : ℕ) (to : Place) (table bytes : List ℕ) (w : ℕ) (s : StandsFor t h i v) (f : HasRoom v to table bytes) (x : Stored t h table bytes 0 to.records to.bytes i w) where
  same-value : x.value ≡ v
  same-value = value_unique x.written.stands s

  records_there : x.a + size (one v) ≤ to.records
  records_there = rw (← same-value) x.records_end

  text_there : x.p + length (text (one v)) ≤ to.bytes
  text_there = rw (← same-value) x.text_ends

  measure_there : w ≡ written_w x.a (size (one v)) x.p (length (text (one v)))
  measure_there = rw (← same-value) x.measure

  written_there : Written t h table bytes (i ∷ []) (one v) x.a x.p
  written_there = rw (← same-value) x.written

  measure_record : w % 2 ^ 12 ≡ x.a
  measure_record = rw measure_there (written_record x.a (size (one v)) x.p (length (text (one v))) (omega (arith, records_there, f.records)) (omega (arith, f.records)) (omega (arith, text_there, f.texts)) (omega (arith, f.texts)))

  measure-size : w / 2 ^ 12 % 2 ^ 12 ≡ size (one v)
  measure-size = rw measure_there (written-size x.a (size (one v)) x.p (length (text (one v))) (omega (arith, records_there, f.records)) (omega (arith, f.records)) (omega (arith, text_there, f.texts)) (omega (arith, f.texts)))

  measure-text : w / 2 ^ 24 % 2 ^ 17 ≡ x.p
  measure-text = rw measure_there (written-text x.a (size (one v)) x.p (length (text (one v))) (omega (arith, records_there, f.records)) (omega (arith, f.records)) (omega (arith, text_there, f.texts)) (omega (arith, f.texts)))

  measure-long : w / 2 ^ 41 % 2 ^ 17 ≡ length (text (one v))
  measure-long = rw measure_there (written-long x.a (size (one v)) x.p (length (text (one v))) (omega (arith, records_there, f.records)) (omega (arith, f.records)) (omega (arith, text_there, f.texts)) (omega (arith, f.texts)))

  stored_copy : CopyReady w to table bytes
  stored_copy = record {
    copyable = rw (measure_record, measure-size, measure-text) (written_copyable x.a x.p to.records to.bytes written_there records_there (omega (arith, f.records, f.table-long)) (omega (arith, text_there, f.texts)) (omega (arith, f.texts)));
    apart = rw (measure-text, measure-long) text_there;
    room = rw measure-long (omega (arith, f.texts, f.text-long));
    texts = rw measure-long f.texts;
  }

  stored_made : (table' bytes' : List ℕ) (r : Place) → CopyPut w to table bytes table' bytes' r → PutValue t h v i to table bytes table' bytes' r
  stored_made table' bytes' r y =
      let a = to.records in
      let q = to.bytes in
      let rs = moves x.p q (take (4 * size (one v)) (drop (4 * x.a) table)) in
      let bs = take (length (text (one v))) (drop x.p bytes) in
      let e₁ : table' ≡ sets table (4 * a) rs = rw (measure_record, measure-size, measure-text) at y.table_is in
      let e₂ : bytes' ≡ sets bytes q bs = rw (measure-text, measure-long) at y.text_is in
      let e₃ = rw (measure-size, measure-long) at y.next in
      let n₁ : length rs ≡ 4 * size (one v) = moves-length in
      let n₂ : length bs ≡ length (text (one v)) = ap length written_there.text_is in
      let g₁ : HasAt table' (4 * a) rs = rw e₁ (sets_there table (4 * a) rs (omega (arith, f.records, f.table-long))) in
      let g₂ : HasAt bytes' q bs = rw e₂ (sets_there bytes q bs (omega (arith, f.texts, f.text-long))) in
      record {
        next = e₃;
        written = written_again table' bytes' x.a x.p a q written_there g₁ g₂;
        table_before = rw e₁ (sets_before table (4 * a) rs (4 * a) (omega arith));
        table-behind = rw e₁ (sets_behind table (4 * a) rs (4 * (a + size (one v))) (omega arith));
        text-before = rw e₂ (sets_before bytes q bs q (omega arith));
        text-behind = rw e₂ (sets_behind bytes q bs (q + length (text (one v))) (omega arith));
      }
    where
      moves-length : length (moves x.p to.bytes (take (4 * size (one v)) (drop (4 * x.a) table))) ≡ 4 * size (one v)
      moves-length =
          let e : take (4 * size (one v)) (drop (4 * x.a) table) ≡ table_of (one v) x.p = rw (← (table-length (one v) x.p)) written_there.table_is in
          rw (e, moved x.p to.bytes (one v)) (table-length (one v) to.bytes)

-- ---- a node that needs no walk

abbrev pub FlatWrites : (p d ws : List ℕ) (i : ℕ) (to : Place) (measures table bytes table' bytes' : List ℕ) (r : Place) → Type 0
FlatWrites p d ws i to measures table bytes table' bytes' r = (F : Flat p d ws i to measures table bytes) → PutValue F.ready.t F.ready.h F.ready.v i to table bytes table' bytes' r

module _ {p d ws : List ℕ} {i : ℕ} {to : Place} {measures table bytes : List ℕ} (F : Flat p d ws i to measures table bytes) where
  -- no node
  pub flat_none : (table' words : List ℕ) (r : Place) → i ≡ 4096 → words ≡ record_from (kind_of 0) (fresh_in 0) 0 0 0 0 1 → table' ≡ sets table (4 * to.records) words → r ≡ place_of (to.records + 1) to.bytes
      → PutValue F.ready.t F.ready.h F.ready.v i to table bytes table' bytes r
  unfolding record_from kind_of kind_in
  flat_none table' words r e q s n =
      let R = F.ready in
      let S = R.begun.shown in
      let l : (at R.t i).label ≡ NoneL = no_node R.t i (omega (arith, S.beyond)) in
      let k : R.h i ≡ [] = rw e S.none in
      leaf-made R.t R.h R.v i to table bytes table' bytes r R.stands k R.fits (rw l (record { table_is = s ∙ ap (sets table (4 * to.records)) q; text_is = refl; next = n ∙ same_place refl (omega arith) }))

  module _ (u : i < 4096) where
    -- a container that is written
    module _ (b : container_kind (kind_of (first ws i)) ≡ true) where
      not_fresh : 2 ^ 63 ≤ get_or measures i 0
      unfolding opened
      not_fresh = go (dec_lt (get_or measures i 0) (2 ^ 63))
        where
          go : Dec (get_or measures i 0 < 2 ^ 63) → 2 ^ 63 ≤ get_or measures i 0
          go (yes l) =
              let c : i ≢ 4096 = λ e. omega arith in
              let x : true ≡ false = rw (ne_eqb i 4096 c, b, lt-ltb (get_or measures i 0) (2 ^ 63) l) at F.closed in
              absurd (let z : ◌≡◌ {A = ℕ} 0 1 = cc in omega arith)
          go (no l) = omega arith

      pub flat_stored : Stored F.ready.t F.ready.h table bytes 0 to.records to.bytes i (get_or measures i 0)
      flat_stored = let R = F.ready in since_stored R.t R.h table bytes 0 to.records to.bytes R.m measures R.since i (R.begun.unwritten i) not_fresh

      pub flat_copy : CopyReady (get_or measures i 0) to table bytes
      flat_copy = let R = F.ready in stored_copy R.t R.h R.v i to table bytes (get_or measures i 0) R.stands R.fits flat_stored

      pub flat_copied : (table' bytes' : List ℕ) (r : Place) → CopyPut (get_or measures i 0) to table bytes table' bytes' r → PutValue F.ready.t F.ready.h F.ready.v i to table bytes table' bytes' r
      flat_copied = let R = F.ready in stored_made R.t R.h R.v i to table bytes (get_or measures i 0) R.stands R.fits flat_stored

    -- a leaf
    module _ (b : container_kind (kind_of (first ws i)) ≡ false) where
      flat_leaf : is_container (at F.ready.t i).label ≡ false
      flat_leaf = ready_container F.ready u ∙ b

      flat_texts : to.bytes + length (text_of (node_label p ws i)) ≤ 65536
      flat_texts = let R = F.ready in let l : R.v.label ≡ node_label p ws i = stand_label R.stands ∙ ready_label R u in rw (← l) (omega (arith, text_one R.v, R.fits.texts))

      pub flat_leaf_ready : LeafReady p d ws measures i to table bytes
      flat_leaf_ready =
          let R = F.ready in
          record {
            text_ready = ready_text R u (since_leaf R.t R.h table bytes 0 to.records to.bytes R.m measures R.since i flat_leaf) flat_texts;
            texts = flat_texts;
            records = omega (arith, size_one R.v, R.fits.records, R.fits.table-long);
          }

      pub flat_made : (table' bytes' : List ℕ) (r : Place) → LeafPut (node_label p ws i) to table bytes table' bytes' r → PutValue F.ready.t F.ready.h F.ready.v i to table bytes table' bytes' r
      flat_made table' bytes' r l =
          let R = F.ready in
          let q = ready_label R u in
          leaf-made R.t R.h R.v i to table bytes table' bytes' r R.stands (R.begun.shown.leaves i R.known (ready_below R u) flat_leaf) R.fits (rw q l)

-- ---- a node of a kind before the containers', with its text if it has any

module _ {p d ws starts sorted log : List ℕ} {i : ℕ} {to : Place} {measures table bytes : List ℕ} (R : ReadyNode p d ws starts sorted log i to measures table bytes) (n : ℕ) (few : n ≤ 6) (e : kind_below n ws i ≡ true) where
  below-small : i < 4096
  unfolding kind_below
  below-small = go (ℕ_discrete i 4096)
    where
      go : Dec (i ≡ 4096) → i < 4096
      go (yes q) = absurd (let x : false ≡ true = rw q at e in let z : ◌≡◌ {A = ℕ} 0 1 = cc in omega arith)
      go (no q) = omega (arith, ready_most R)

  in_below : kind_in (first ws i) < n
  unfolding kind_below
  in_below = go (dec_lt (kind_in (first ws i)) n)
    where
      go : Dec (kind_in (first ws i) < n) → kind_in (first ws i) < n
      go (yes l) = l
      go (no l) = absurd (let x : false ≡ true = rw (ne_eqb i 4096 (λ q. omega (arith, below-small)), le-ltb (kind_in (first ws i)) n (omega arith)) at e in let z : ◌≡◌ {A = ℕ} 0 1 = cc in omega arith)

  below-same : kind_of (first ws i) ≡ kind_in (first ws i)
  below-same = kind-same (first ws i) (omega (arith, in_below))

  pub below-kind : kind_of (first ws i) < n
  below-kind = rw below-same in_below

  below-leaf : container_kind (kind_of (first ws i)) ≡ false
  unfolding container_kind
  below-leaf = rw (lt-ltb (kind_of (first ws i)) 6 (omega (arith, below-kind)))

  below_closed : opened ws measures i ≡ false
  unfolding opened
  below_closed = rw (ne_eqb i 4096 (λ q. omega (arith, below-small)), below-leaf)

  below_flat : Flat p d ws i to measures table bytes
  below_flat = record { starts = starts; sorted = sorted; log = log; ready = R; closed = below_closed }

  pub below_ready : LeafReady p d ws measures i to table bytes
  below_ready = flat_leaf_ready below_flat below-small below-leaf

  pub below-made : (table' bytes' : List ℕ) (r : Place) → LeafPut (node_label p ws i) to table bytes table' bytes' r → PutValue R.t R.h R.v i to table bytes table' bytes' r
  unfolding below_flat
  below-made table' bytes' r l = flat_made below_flat below-small below-leaf table' bytes' r l

  -- but not of one below m
  pub not_below : (m : ℕ) → kind_below m ws i ≡ false → m ≤ kind_of (first ws i)
  unfolding kind_below
  not_below m f = go (dec_lt (kind_in (first ws i)) m)
    where
      go : Dec (kind_in (first ws i) < m) → m ≤ kind_of (first ws i)
      go (yes l) = absurd (let x : true ≡ false = rw (ne_eqb i 4096 (λ q. omega (arith, below-small)), lt-ltb (kind_in (first ws i)) m l) at f in let z : ◌≡◌ {A = ℕ} 0 1 = cc in omega arith)
      go (no l) = omega (arith, below-same)
