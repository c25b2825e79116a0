-- What the writing asks for, from the settled graph, and that what is written is the tree in order.
use Rattle.std.specs.Prelude.{ℕ, ◌^◌, ◌<◌, ◌≤◌, false, List, ◌≡◌, refl, length, get_or}
use Rattle.std.proofs.Common.{◌∙◌, ap, inl, inr, arith}
use Rattle.std.proofs.Math.Decide.{dec_lt}
use Rattle.value.specs.Value.{Label, Value, one, kind, size, depth, text, NoneL, BoolL, I64L, F64L, BytesL, StringL, ListL, TupleL, SetL, FrozenSetL, DictL, GlobalL, ObjectL}
use Rattle.steps.specs.State.{Node}
use Rattle.reading.specs.Build.{at, tree}
use Rattle.reading.specs.Settle.{arrange, settle}
use Rattle.reading.specs.Smaller.{settle_smaller}
use Rattle.reading.specs.Unfold.{In}
use Rattle.resolve.specs.Resolved.{StandsFor}
use Rattle.resolve.specs.Ordered.{Final}
use Rattle.resolve.specs.Walk.{WalkState}
use Rattle.resolve.specs.Tree.{walked, root_final}
use Rattle.resolve.specs.Dues.{is_due, dues}
use Rattle.resolve.specs.Whole.{value_stands_64}
use Rattle.emit.specs.Walked.{graph, dues_in, not_settled}
use Rattle.emit.specs.Settling.{SettledRooms}
use Rattle.emit.specs.declared.Place.{Place}
use Rattle.emit.specs.Roots.{Rooted, Emits}
use Rattle.de.specs.Measured.{Produced}
use Rattle.de.specs.Spelt.{Spelt, inside}

-- ---- the value that the root stands for

abbrev settled_value : Value → Value
settled_value v = record { label = v.label; contents = arrange v.label (settle v.contents) }

-- Objects are not put in order
object_kept : (l : Label) → kind l ≡ 12 → is_due l ≡ false
object_kept NoneL e = refl
object_kept (BoolL b) e = refl
object_kept (I64L n) e = refl
object_kept (F64L n) e = refl
object_kept (BytesL s) e = refl
object_kept (StringL s) e = refl
object_kept ListL e = refl
object_kept TupleL e = refl
object_kept SetL e = absurd (omega arith)
object_kept FrozenSetL e = absurd (omega arith)
object_kept DictL e = absurd (omega arith)
object_kept (GlobalL m n) e = refl
object_kept (ObjectL m n b) e = refl

module _ {p d ws starts sorted noted measures log list : List ℕ} {t : List Node} {root : ℕ} (x : Spelt p d ws starts sorted noted measures log list t root) {sorted' log' measures' list' : List ℕ} {used most : ℕ} (a : SettledRooms t (walked t 4096 64 root).after p d ws starts log measures list sorted' log' measures' list' used most) where
  abbrev after : WalkState
  after = (walked t 4096 64 root).after

  -- an Object has the children that the walk left it, as many as it had
  few : (i : ℕ) → Final 4096 after.done i → kind (at t i).label ≡ 12 → length (graph t after (dues t after.done) i) ≤ 2
  few i (inl e) k = let z : length (graph t after (dues t after.done) i) ≡ 0 = ap (λ (j : ℕ). length (graph t after (dues t after.done) j)) e ∙ ap length a.shown.none in omega arith
  few i (inr m) k =
      let n : ¬ In i (dues t after.done) = λ q. let u = (dues_in t after.done q).due in let v = object_kept (at t i).label k in let z : ◌≡◌ {A = ℕ} 0 1 = cc in omega arith in
      let e : length (graph t after (dues t after.done) i) ≡ length (at t i).kids = ap length (not_settled t after (dues t after.done) i n) ∙ x.ready.walked.resolves.lengths i in
      let f = x.limited.worded.few i (x.ready.walked.within i m) k in
      omega arith

  unwritten : (j : ℕ) → get_or measures' j 0 < 2 ^ 63
  unwritten j = go (dec_lt (get_or measures' j 0) (2 ^ 63))
    where
      go : Dec (get_or measures' j 0 < 2 ^ 63) → get_or measures' j 0 < 2 ^ 63
      go (yes l) = l
      go (no l) =
          let n : ¬ In j (dues t after.done) = λ q. let u = (a.in_order j q).1 in omega arith in
          let e = a.others j n in
          let f = x.low j in
          absurd (omega arith)

  stands : StandsFor t (graph t after (dues t after.done)) root (settled_value (tree t root))
  unfolding settle
  stands = value_stands_64 t (inside x.limited) 4096 x.limited.worded.beyond root x.limited.below x.limited.deep

  deep : depth (one (settled_value (tree t root))) ≤ 64
  unfolding settle
  deep = omega (arith, (settle_smaller (one (tree t root))).deep, x.limited.deep)

  records : size (one (settled_value (tree t root))) ≤ 2048
  unfolding settle
  records = omega (arith, (settle_smaller (one (tree t root))).values, x.limited.records)

  texts : length (text (one (settled_value (tree t root)))) ≤ 65536
  unfolding settle
  texts = omega (arith, (settle_smaller (one (tree t root))).texts, x.limited.texts)

  module _ {table bytes : List ℕ} (table-long : 8192 ≤ length table) (text-long : 65536 ≤ length bytes) where
    pub rooted : Rooted p d ws starts sorted' log' root measures' table bytes
    rooted = record {
      t = t;
      h = graph t after (dues t after.done);
      done = after.done;
      v = settled_value (tree t root);
      begun = record { shown = a.shown; few = few; unwritten = unwritten };
      known = root_final t 4096 x.limited.worded.beyond 63 root;
      stands = stands;
      deep = deep;
      records = records;
      texts = texts;
      table-long = table-long;
      text-long = text-long;
    }

    pub produced : {table' bytes' : List ℕ} {r : Place} → Emits p d ws starts sorted' log' root measures' table bytes table' bytes' r
        → Produced (settle (one (tree t root))) table bytes table' bytes' r.records
    unfolding rooted settle
    produced e = let y = e rooted in record { counted = omega (arith, ap (λ (p : Place). p.records) y.lengths); table_is = y.table_is; text_is = y.text_is }
