-- The root's value, at the front of the lent table and text.
use Rattle.std.specs.Prelude.{ℕ, ◌+◌, ◌*◌, ◌≤◌, true, false, List, ◌++◌, ◌≡◌, refl, length, take, drop}
use Rattle.std.proofs.Common.{sym, ◌∙◌, ap, inl, take-append-drop, arith}
use Rattle.value.specs.Value.{Value, one, text, size, depth, table as table_of, table-length}
use Rattle.steps.specs.State.{Node}
use Rattle.resolve.specs.Resolved.{Kids, StandsFor}
use Rattle.resolve.specs.Ordered.{Final}
use Rattle.emit.specs.Leaves.{opened}
use Rattle.emit.specs.Calls.{Begun, ReadyNode, Flat, Open, PutValue, WroteNode}
use Rattle.emit.specs.declared.Place.{Place}
use Rattle.emit.specs.Words.{place_of}

-- the rooms show nodes and a graph in which the root stands for a value within the limits, and nothing is written yet
pub record Rooted (p d ws starts sorted log : List ℕ) (root : ℕ) (measures table bytes : List ℕ) : Type 0 where
  pub t : List Node
  pub h : Kids
  pub done : List ℕ
  pub v : Value
  pub begun : Begun t h done measures p d ws starts sorted log
  pub known : Final 4096 done root
  pub stands : StandsFor t h root v
  pub deep : depth (one v) ≤ 64
  pub records : size (one v) ≤ 2048
  pub texts : length (text (one v)) ≤ 65536
  pub table-long : 8192 ≤ length table
  pub text-long : 65536 ≤ length bytes

-- the value's table and text, what was behind them, and how many records and bytes they are
pub record Emitted (v : Value) (table bytes table' bytes' : List ℕ) (r : Place) : Type 0 where
  pub lengths : r ≡ place_of (size (one v)) (length (text (one v)))
  pub table_is : table' ≡ table_of (one v) 0 ++ drop (4 * size (one v)) table
  pub text_is : bytes' ≡ text (one v) ++ drop (length (text (one v))) bytes

abbrev pub Emits : (p d ws starts sorted log : List ℕ) (root : ℕ) (measures table bytes table' bytes' : List ℕ) (r : Place) → Type 0
Emits p d ws starts sorted log root measures table bytes table' bytes' r = (G : Rooted p d ws starts sorted log root measures table bytes) → Emitted G.v table bytes table' bytes' r

module _ {p d ws starts sorted log : List ℕ} {root : ℕ} {measures table bytes : List ℕ} (G : Rooted p d ws starts sorted log root measures table bytes) where
  pub root_ready : ReadyNode p d ws starts sorted log root (place_of 0 0) measures table bytes
  root_ready = record {
    t = G.t;
    h = G.h;
    done = G.done;
    m = measures;
    v = G.v;
    begun = G.begun;
    known = G.known;
    stands = G.stands;
    fits = record { records = omega (arith, G.records); texts = omega (arith, G.texts); table-long = G.table-long; text-long = G.text-long };
    measures_long = refl;
    since = λ j. inl refl;
  }

  pub root_open : opened ws measures root ≡ true → Open p d ws starts sorted log 64 root (place_of 0 0) measures table bytes
  unfolding root_ready
  root_open o = record { ready = root_ready; unclosed = o; deep = G.deep }

  pub root_flat : opened ws measures root ≡ false → Flat p d ws root (place_of 0 0) measures table bytes
  root_flat o = record { starts = starts; sorted = sorted; log = log; ready = root_ready; closed = o }

  front : (x y l : List ℕ) (n : ℕ) → take (length l) x ≡ l → length l ≡ n → drop n x ≡ drop n y → x ≡ l ++ drop n y
  front x y l n a b c = sym (take-append-drop n x) ∙ (ap (λ (s : List ℕ). take n x ++ s) c ∙ ap (λ (s : List ℕ). s ++ drop n y) (rw b at a))

  made_emitted : (table' bytes' : List ℕ) (r : Place) → PutValue G.t G.h G.v root (place_of 0 0) table bytes table' bytes' r → Emitted G.v table bytes table' bytes' r
  made_emitted table' bytes' r M =
      let n = size (one G.v) in
      let m = length (text (one G.v)) in
      let z : 0 + n ≡ n = omega arith in
      let y : 0 + m ≡ m = omega arith in
      record {
        lengths = rw (z, y) at M.next;
        table_is = front table' table (table_of (one G.v) 0) (4 * n) M.written.table_is (table-length (one G.v) 0) (rw z at M.table-behind);
        text_is = front bytes' bytes (text (one G.v)) m M.written.text_is refl (rw y at M.text-behind);
      }

  pub root_wrote : (o : opened ws measures root ≡ true) (measures' table' bytes' : List ℕ) (r : Place) → WroteNode (root_open o).ready.t (root_open o).ready.h (root_open o).ready.v root (place_of 0 0) measures table bytes measures' table' bytes' r
      → Emitted G.v table bytes table' bytes' r
  unfolding root_open root_ready
  root_wrote o measures' table' bytes' r W = made_emitted table' bytes' r W.made

  pub root_made : (o : opened ws measures root ≡ false) (table' bytes' : List ℕ) (r : Place) → PutValue (root_flat o).ready.t (root_flat o).ready.h (root_flat o).ready.v root (place_of 0 0) table bytes table' bytes' r
      → Emitted G.v table bytes table' bytes' r
  unfolding root_flat root_ready
  root_made o table' bytes' r M = made_emitted table' bytes' r M
