-- Whatever the node is: none, a container that is written, or a leaf by its kind.
use Rattle.std.proofs.Common.{ℕ, ◌≡◌, ◌≢◌, true, false, ◌*◌, ◌<◌, List, Bool, length, refl, sym, ◌∙◌, arith}
use Rattle.steps.specs.NodeWords.{first}
use Rattle.resolve.specs.Kinds.{kind_of, container_kind}
use Rattle.resolve.specs.Shown.{node_label}
use Rattle.emit.specs.declared.Place.{Place}
use Rattle.emit.specs.Leaves.{LeafReady, LeafPut, atom_ready, atom_leaf, named_kind, names_fit, names-leaf}
use Rattle.emit.specs.Calls.{Flat, PutValue, size_one, ready_most, ready_inside, flat_none, flat_copy, flat_copied, flat_leaf_ready, flat_made}
use Rattle.emit.proofs.write_flat.Goals as goal

-- ---- a node that is one of the nodes, over plain lists

module _ {p d ws measures table bytes : List ℕ} {i : ℕ} {to : Place} (F : Flat p d ws i to measures table bytes) (n : i ≢ 4096) where
  small : i < 4096
  small = omega (arith, ready_most F.ready)

  inside : (2 * i < length ws) × (i < length measures)
  inside = ready_inside F.ready small

  -- the kind of its value, and whether that has contents
  module _ {k : ℕ} (e : k ≡ kind_of (first ws i)) {b : Bool} (h : b ≡ container_kind k) where
    container : b ≡ true → container_kind (kind_of (first ws i)) ≡ true
    container t = rw (← e) (sym h ∙ t)

    leaf : b ≡ false → container_kind (kind_of (first ws i)) ≡ false
    leaf t = rw (← e) (sym h ∙ t)

    ready : b ≡ false → LeafReady p d ws measures i to table bytes
    ready t = flat_leaf_ready F small (leaf t)

    made : b ≡ false → (table' bytes' : List ℕ) (r : Place) → LeafPut (node_label p ws i) to table bytes table' bytes' r → PutValue F.ready.t F.ready.h F.ready.v i to table bytes table' bytes' r
    made t = flat_made F small (leaf t)

-- ---- none

pub put_record-requires : goal.put_record-requires
put_record-requires c = let r = c.requires.ready in omega (arith, size_one r.v, r.fits.records, r.fits.table-long)

pub returns-then-i-eq-NOWHERE : goal.returns-then-i-eq-NOWHERE
returns-then-i-eq-NOWHERE c F = flat_none F _ _ _ c.if-i-eq-NOWHERE.true c.record_of-words.ensures c.put_record.ensures refl

-- ---- a container

pub write_again-requires : goal.write_again-requires
unfolding first
write_again-requires c = let F = c.requires in let n = c.if-i-eq-NOWHERE.false in flat_copy F (small F n) (container F n c.value_kind-kind.ensures c.is_container.ensures c.if-is_container.true)

pub returns-then-is_container : goal.returns-then-is_container
unfolding first
returns-then-is_container c F = let n = c.if-i-eq-NOWHERE.false in flat_copied F (small F n) (container F n c.value_kind-kind.ensures c.is_container.ensures c.if-is_container.true) _ _ _ c.write_again.ensures

-- ---- a leaf

pub write_atom-requires : goal.write_atom-requires
unfolding first
write_atom-requires c = atom_ready (ready c.requires c.if-i-eq-NOWHERE.false c.value_kind-kind.ensures c.is_container.ensures c.if-is_container.false)

pub returns-then-kind-lt-KIND_BYTES : goal.returns-then-kind-lt-KIND_BYTES
unfolding first
returns-then-kind-lt-KIND_BYTES c F =
    let n = c.if-i-eq-NOWHERE.false in
    let k = c.value_kind-kind.ensures in
    let b = c.is_container.ensures in
    let l = c.if-is_container.false in
    made F n k b l _ _ _ (atom_leaf (ready F n k b l) (rw k at c.if-kind-lt-KIND_BYTES.true) _ _ c.write_atom.ensures)

pub write_text-requires : goal.write_text-requires
unfolding first
write_text-requires c =
    let k = c.value_kind-kind.ensures in
    record { leaf_ready = ready c.requires c.if-i-eq-NOWHERE.false k c.is_container.ensures c.if-is_container.false; kind_bound = (rw k at c.if-kind-lt-KIND_BYTES.false, rw k at c.if-kind-lt-KIND_LIST.true) }

pub returns-then-kind-lt-KIND_LIST : goal.returns-then-kind-lt-KIND_LIST
unfolding first
returns-then-kind-lt-KIND_LIST c F = made F c.if-i-eq-NOWHERE.false c.value_kind-kind.ensures c.is_container.ensures c.if-is_container.false _ _ _ c.write_text.ensures

pub put_names-lengths-requires : goal.put_names-lengths-requires
unfolding first
put_names-lengths-requires c =
    let k = c.value_kind-kind.ensures in
    let b = c.is_container.ensures in
    let l = c.if-is_container.false in
    let n = c.if-i-eq-NOWHERE.false in
    let r = ready c.requires n k b l in
    record { text_ready = r.text_ready; kind_bound = omega (arith, named_kind r (leaf c.requires n k b l) (rw k at c.if-kind-lt-KIND_LIST.false)) }

pub plain_word-requires : goal.plain_word-requires
unfolding first
plain_word-requires c =
    let k = c.value_kind-kind.ensures in
    let b = c.is_container.ensures in
    let l = c.if-is_container.false in
    let n = c.if-i-eq-NOWHERE.false in
    rw k (omega (arith, named_kind (ready c.requires n k b l) (leaf c.requires n k b l) (rw k at c.if-kind-lt-KIND_LIST.false)))

pub put_record-requires-2 : goal.put_record-requires-2
unfolding first
put_record-requires-2 c = omega (arith, (ready c.requires c.if-i-eq-NOWHERE.false c.value_kind-kind.ensures c.is_container.ensures c.if-is_container.false).records)

pub behind-requires : goal.behind-requires
unfolding first
behind-requires c =
    let k = c.value_kind-kind.ensures in
    let b = c.is_container.ensures in
    let l = c.if-is_container.false in
    let n = c.if-i-eq-NOWHERE.false in
    record { records_fit = let r = c.requires.ready in omega (arith, size_one r.v, r.fits.records); bytes_fit = names_fit (ready c.requires n k b l) (leaf c.requires n k b l) (rw k at c.if-kind-lt-KIND_LIST.false) _ _ c.put_names-lengths.ensures }

pub returns : goal.returns
unfolding first
returns c F =
    let k = c.value_kind-kind.ensures in
    let b = c.is_container.ensures in
    let l = c.if-is_container.false in
    let n = c.if-i-eq-NOWHERE.false in
    made F n k b l _ _ _ (names-leaf (ready F n k b l) (leaf F n k b l) (rw k at c.if-kind-lt-KIND_LIST.false) _ _ c.put_names-lengths.ensures _ _ (rw (c.plain_word.ensures ∙ k) at c.put_record-2.ensures) c.behind.ensures)
