-- A container's children are written one by one, each by what it is.
use Rattle.std.proofs.Common.{◌≡◌, true, false, Bool, ℕ, ◌+◌, ◌-◌, ◌<◌, List, length, cond, get_or, refl, sym, ◌∙◌, arith}
use Rattle.resolve.specs.NodeList.{Ranges}
use Rattle.resolve.specs.Shown.{node_label}
use Rattle.resolve.specs.declared.lists.Range.{Range}
use Rattle.emit.specs.declared.Place.{Place}
use Rattle.emit.specs.Leaves.{TextPut, kind_below, AtomPut, LeafPut, opened, atom_ready, atom_leaf}
use Rattle.emit.specs.Calls.{Open, Flat, ReadyNode, FlatWrites, ready_most, ready_inside, below-kind, below_ready, not_below}
use Rattle.emit.specs.Turns.{open_small, open_kind, open_text, open_behind, open_levels, open_listed, open_short, list_end, list_room, OpenWithText, text_entered, WrittenChildren, turn_start, turn_left, turn_over, turn_item, turn_finish, turn_ready, child_open, child_flat, next_walked, next_flat, next_leaf, turn_same, open_done, Writes}
use Rattle.emit.proofs.+write.Goals as goal
use Rattle.emit.proofs.+write.Goals.{then-is_below, else-is_below+then-is_below-2, else-is_below+else-is_below-2+then-is_open, else-is_below+else-is_below-2+else-is_open}

-- ---- a turn, over plain lists

-- child c is at hand
record Turn (p d ws starts sorted log : List ℕ) (levels i : ℕ) (to : Place) (from : ℕ) (measures₀ table₀ bytes₀ : List ℕ) (next : Place) (j : ℕ) (measures table bytes : List ℕ) (c : ℕ) : Type 0 where
  entered : OpenWithText p d ws starts sorted log levels i to measures₀ table₀ bytes₀
  written : WrittenChildren entered.walk.ready.t entered.walk.ready.h entered.walk.ready.v i to from measures₀ table₀ bytes₀ next j measures table bytes
  left : written.k < length (entered.walk.ready.h i)
  child : c ≡ get_or (entered.walk.ready.h i) written.k 0

module _ {p d ws starts sorted log : List ℕ} {levels i : ℕ} {to : Place} {measures₀ table₀ bytes₀ : List ℕ} (E : OpenWithText p d ws starts sorted log levels i to measures₀ table₀ bytes₀) {r : Range} (g : Ranges ws starts measures₀ i r) {next : Place} {j : ℕ} {measures table bytes : List ℕ}
    (T : (E : OpenWithText p d ws starts sorted log levels i to measures₀ table₀ bytes₀) → WrittenChildren E.walk.ready.t E.walk.ready.h E.walk.ready.v i to r.at measures₀ table₀ bytes₀ next j measures table bytes) where
  abbrev turn_of : j < r.end → (c : ℕ) → c ≡ get_or (cond r.log log sorted) j 0 → Turn p d ws starts sorted log levels i to r.at measures₀ table₀ bytes₀ next j measures table bytes c
  turn_of h c e =
      let l = turn_left E (T E) r g refl h in
      record { entered = E; written = T E; left = l; child = turn_item E (T E) r g refl l c e }

-- its class's text was put before the loop
at_hand : {p d ws starts sorted log : List ℕ} {levels i : ℕ} {to : Place} {measures₀ table₀ bytes bytes₀ : List ℕ} {w : ℕ} (O : Open p d ws starts sorted log levels i to measures₀ table₀ bytes) → TextPut p ws i bytes to.bytes bytes₀ w → {r : Range} → Ranges ws starts measures₀ i r
    → {next : Place} {j : ℕ} {measures table bytes' : List ℕ}
    → ((E : OpenWithText p d ws starts sorted log levels i to measures₀ table₀ bytes₀) → WrittenChildren E.walk.ready.t E.walk.ready.h E.walk.ready.v i to r.at measures₀ table₀ bytes₀ next j measures table bytes')
    → j < r.end → {c : ℕ} → c ≡ get_or (cond r.log log sorted) j 0 → Turn p d ws starts sorted log levels i to r.at measures₀ table₀ bytes₀ next j measures table bytes' c
at_hand O P g T h e = turn_of (text_entered O _ _ P) g T h _ e

module _ {p d ws starts sorted log : List ℕ} {levels i : ℕ} {to : Place} {from : ℕ} {measures₀ table₀ bytes₀ : List ℕ} {next : Place} {j : ℕ} {measures table bytes : List ℕ} {c : ℕ} (U : Turn p d ws starts sorted log levels i to from measures₀ table₀ bytes₀ next j measures table bytes c) where
  ready : ReadyNode p d ws starts sorted log c next measures table bytes
  ready = turn_ready U.entered U.written U.left c U.child

  abbrev to_walk : opened ws measures c ≡ true → Open p d ws starts sorted log (levels - 1) c next measures table bytes
  to_walk = child_open U.entered U.written U.left c U.child

  abbrev to_put : opened ws measures c ≡ false → Flat p d ws c next measures table bytes
  to_put = child_flat U.entered U.written U.left c U.child

  -- the child is written: from there to where the arms meet
  module _ (measures' table' bytes' : List ℕ) (next' : Place) where
    abbrev Next : Type 0
    Next = let R = U.entered.walk.ready in WrittenChildren R.t R.h R.v i to from measures₀ table₀ bytes₀ next' (j + 1) measures' table' bytes'

    met : (measures₁ table₁ bytes₁ : List ℕ) (next₁ : Place) → measures' ≡ measures₁ → table' ≡ table₁ → bytes' ≡ bytes₁ → next' ≡ next₁
        → (let R = U.entered.walk.ready in WrittenChildren R.t R.h R.v i to from measures₀ table₀ bytes₀ next₁ (j + 1) measures₁ table₁ bytes₁) → Next
    met measures₁ table₁ bytes₁ next₁ x y z w = let R = U.entered.walk.ready in turn_same R.t R.h R.v i to from measures₀ table₀ bytes₀ next₁ next' (j + 1) measures₁ measures' table₁ table' bytes₁ bytes' x y z w

    module _ (table₁ : List ℕ) (next₁ : Place) (b : Bool) (kept : length table₁ ≡ length table) where
      atom : b ≡ kind_below 4 ws c → b ≡ true → AtomPut ws c next table table₁ next₁ → measures' ≡ measures → table' ≡ table₁ → bytes' ≡ bytes → next' ≡ next₁ → Next
      atom g h a x y z w =
          let o : kind_below 4 ws c ≡ true = sym g ∙ h in
          met measures table₁ bytes next₁ x y z w
          (next_leaf U.entered U.written U.left c U.child 4 (omega arith) o next₁ table₁ bytes kept refl (atom_leaf (below_ready ready 4 (omega arith) o) (below-kind ready 4 (omega arith) o) table₁ next₁ a))

      module _ (bytes₁ : List ℕ) (kept-bytes : length bytes₁ ≡ length bytes) where
        leaf : b ≡ kind_below 6 ws c → b ≡ true → LeafPut (node_label p ws c) next table bytes table₁ bytes₁ next₁ → measures' ≡ measures → table' ≡ table₁ → bytes' ≡ bytes₁ → next' ≡ next₁ → Next
        leaf g h a x y z w = met measures table₁ bytes₁ next₁ x y z w (next_leaf U.entered U.written U.left c U.child 6 (omega arith) (sym g ∙ h) next₁ table₁ bytes₁ kept kept-bytes a)

        flat : b ≡ opened ws measures c → b ≡ false → FlatWrites p d ws c next measures table bytes table₁ bytes₁ next₁ → measures' ≡ measures → table' ≡ table₁ → bytes' ≡ bytes₁ → next' ≡ next₁ → Next
        flat g h a x y z w =
            let o : opened ws measures c ≡ false = sym g ∙ h in
            met measures table₁ bytes₁ next₁ x y z w (next_flat U.entered U.written U.left c U.child o next₁ table₁ bytes₁ kept kept-bytes (a (to_put o)))

        walked : (measures₁ : List ℕ) → length measures₁ ≡ length measures → b ≡ opened ws measures c → b ≡ true
            → Writes p d ws starts sorted log (levels - 1) c next measures table bytes measures₁ table₁ bytes₁ next₁ → measures' ≡ measures₁ → table' ≡ table₁ → bytes' ≡ bytes₁ → next' ≡ next₁ → Next
        walked measures₁ m g h a x y z w =
            let o : opened ws measures c ≡ true = sym g ∙ h in
            met measures₁ table₁ bytes₁ next₁ x y z w (next_walked U.entered U.written U.left c U.child o next₁ measures₁ table₁ bytes₁ m kept kept-bytes (a (to_walk o)))

-- ---- before the loop

pub range_of-range-requires : goal.range_of-range-requires
range_of-range-requires t c = open_listed c.requires

pub put_class-lengths-requires : goal.put_class-lengths-requires
put_class-lengths-requires t c = record { text_ready = open_text c.requires; is_container = open_kind c.requires }

pub behind-next-requires : goal.behind-next-requires
behind-next-requires t c = record { records_fit = open_short c.requires; bytes_fit = open_behind c.requires _ c.put_class-lengths.ensures.lengths }

pub loop-j-init : goal.loop-j-init
loop-j-init t c E = turn_start E _ _ c.put_class-lengths.ensures.lengths c.behind-next.ensures

-- ---- a turn

pub item-child-requires : goal.item-child-requires
item-child-requires t c = omega (arith, list_room c.requires _ c.range_of-range.ensures, c.loop-j-test.true)

pub is_below-requires : goal.is_below-requires
is_below-requires t c =
    let r = ready (at_hand c.requires c.put_class-lengths.ensures c.range_of-range.ensures c.loop-j.invariant c.loop-j-test.true c.item-child.ensures) in
    record { node_in_bounds = λ h. (ready_inside r h).0; node_bound = ready_most r }

pub write_atom-next-requires : goal.write_atom-next-requires
write_atom-next-requires t c =
    let r = ready (at_hand c.requires c.put_class-lengths.ensures c.range_of-range.ensures c.loop-j.invariant c.loop-j-test.true c.item-child.ensures) in
    atom_ready (below_ready r 4 (omega arith) (sym c.is_below.ensures ∙ c.if-is_below.true))

pub is_below-requires-else-is_below : goal.is_below-requires-else-is_below
is_below-requires-else-is_below t c =
    let r = ready (at_hand c.requires c.put_class-lengths.ensures c.range_of-range.ensures c.loop-j.invariant c.loop-j-test.true c.item-child.ensures) in
    record { node_in_bounds = λ h. (ready_inside r h).0; node_bound = ready_most r }

pub write_text-next-requires : goal.write_text-next-requires
write_text-next-requires t c =
    let r = ready (at_hand c.requires c.put_class-lengths.ensures c.range_of-range.ensures c.loop-j.invariant c.loop-j-test.true c.item-child.ensures) in
    let o = sym c.is_below-else-is_below.ensures ∙ c.if-is_below-2.true in
    record { leaf_ready = below_ready r 6 (omega arith) o; kind_bound = (not_below r 6 (omega arith) o 4 (sym c.is_below.ensures ∙ c.if-is_below.false), below-kind r 6 (omega arith) o) }

pub is_open-requires : goal.is_open-requires
is_open-requires t c =
    let r = ready (at_hand c.requires c.put_class-lengths.ensures c.range_of-range.ensures c.loop-j.invariant c.loop-j-test.true c.item-child.ensures) in
    record { node_in_bounds = ready_inside r; node_bound = ready_most r }

pub overflow_sub-levels : goal.overflow_sub-levels
overflow_sub-levels t c = open_levels c.requires

pub write-next-requires : goal.write-next-requires
write-next-requires t c =
    let U = at_hand c.requires c.put_class-lengths.ensures c.range_of-range.ensures c.loop-j.invariant c.loop-j-test.true c.item-child.ensures in
    (omega (arith, open_levels c.requires), to_walk U (sym c.is_open.ensures ∙ c.if-is_open.true))

pub write_flat-next-requires : goal.write_flat-next-requires
write_flat-next-requires t c =
    let U = at_hand c.requires c.put_class-lengths.ensures c.range_of-range.ensures c.loop-j.invariant c.loop-j-test.true c.item-child.ensures in
    to_put U (sym c.is_open.ensures ∙ c.if-is_open.false)

pub loop-j-preserved : goal.loop-j-preserved
loop-j-preserved t c E =
    let U = turn_of E c.range_of-range.ensures c.loop-j.invariant c.loop-j-test.true _ c.item-child.ensures in
    let m = c.if-is_below in
    elim m.branch [
      | then-is_below w ↦
          let n = w.write_atom-next in
          atom U m.measures m.table m.text m.next n.new.table n.result c.is_below.result n.auto.table c.is_below.ensures w.if-is_below.true n.ensures w.measures-is w.table-is w.text-is w.next-is
      | else-is_below+then-is_below-2 w ↦
          let n = w.write_text-next in
          let b = w.is_below-else-is_below in
          leaf U m.measures m.table m.text m.next n.new.table n.result b.result n.auto.table n.new.text n.auto.text b.ensures w.if-is_below-2.true n.ensures w.measures-is w.table-is w.text-is w.next-is
      | else-is_below+else-is_below-2+then-is_open w ↦
          let n = w.write-next in
          walked U m.measures m.table m.text m.next n.new.table n.result w.is_open.result n.auto.table n.new.text n.auto.text n.new.measures n.auto.measures w.is_open.ensures w.if-is_open.true n.ensures w.measures-is w.table-is w.text-is w.next-is
      | else-is_below+else-is_below-2+else-is_open w ↦
          let n = w.write_flat-next in
          flat U m.measures m.table m.text m.next n.new.table n.result w.is_open.result n.auto.table n.new.text n.auto.text w.is_open.ensures w.if-is_open.false n.ensures w.measures-is w.table-is w.text-is w.next-is
    ]

-- ---- behind it

pub finish-requires : goal.finish-requires
finish-requires t c =
    let E = text_entered c.requires _ _ c.put_class-lengths.ensures in
    turn_finish E (c.loop-j.invariant E) _ c.range_of-range.ensures refl _ refl

pub bounds-measures-node : goal.bounds-measures-node
bounds-measures-node t c =
    let E = text_entered c.requires _ _ c.put_class-lengths.ensures in
    omega (arith, open_small c.requires, (c.loop-j.invariant E).measures_long, (open_listed c.requires).measured)

pub returns : goal.returns
returns t c O =
    let g = c.range_of-range.ensures in
    let p = c.put_class-lengths.ensures in
    let E = text_entered O _ _ p in
    open_done O _ _ p (c.loop-j.invariant E) (turn_over E (c.loop-j.invariant E) _ g refl c.loop-j-test.false) _ _ _ (omega (arith, list_end O _ g)) c.finish.ensures
