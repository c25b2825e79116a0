-- What nodes stand for, written: its records from a place of the table on, its text from a place of the text room on. Put together from a
-- node's own record and its children's, or copied from where it stands already; and it stays while writing goes on behind it.
use Prim.Native.Nat.{ℕ, suc, zero, ◌+◌, ◌*◌, ◌≤◌}
use mathlib.Core.List.{List, [], ◌∷◌, ◌++◌, append-nil}
use Rattle.std.specs.Prelude.{◌≡◌, take, drop}
use Rattle.std.proofs.Math.Path.{refl}
use Rattle.std.proofs.Common.{sym, ◌∙◌, ap, length-append, take-add, drop-drop, take-take, zero-add, suc-add, arith}
use Rattle.std.proofs.Math.ListN.{length}
use Rattle.std.proofs.Math.Seq.{take-nil}
use Rattle.value.specs.Value.{Forest, nil, node, text_of, text, count, size, record_of, record_length, table, table-length}
use Rattle.steps.specs.State.{Node}
use Rattle.reading.specs.Build.{at}
use Rattle.resolve.specs.Resolved.{Kids, Stand, s_nil, s_node}
use Rattle.resolve.specs.Moved.{stand_count, moves, moved}

-- ---- a part of a room

-- from a on, r has l
abbrev pub HasAt : List ℕ → ℕ → List ℕ → Type 0
HasAt r a l = take (length l) (drop a r) ≡ l

pub part_join : (r : List ℕ) (a b : ℕ) (x y : List ℕ) → HasAt r a x → b ≡ a + length x → HasAt r b y → HasAt r a (x ++ y)
part_join r a b x y p e q =
    let z : take (length y) (drop (length x) (drop a r)) ≡ y = rw (drop-drop (length x) a r, ← e) q in
    rw (length-append x y, take-add (length x) (length y) (drop a r), p, z)

pub drop-take : (a n : ℕ) (x : List ℕ) → drop a (take (a + n) x) ≡ take n (drop a x)
drop-take zero n x = rw zero-add
drop-take (suc a) n [] = rw (suc-add, take-nil n)
drop-take (suc a) n (y ∷ x) = rw suc-add (drop-take a n x)

-- in another room that agrees with it up to e
pub part_stays : (r s : List ℕ) (e a : ℕ) (l : List ℕ) → take e s ≡ take e r → a + length l ≤ e → HasAt r a l → HasAt s a l
part_stays r s e a l h k p = early s ∙ (ap (λ (x : List ℕ). drop a (take (a + length l) x)) h ∙ (sym (early r) ∙ p))
  where
    early : (x : List ℕ) → take (length l) (drop a x) ≡ drop a (take (a + length l) (take e x))
    early x = sym (rw (take-take (a + length l) e x k) (drop-take a (length l) x))

-- ---- the nodes `is` stand for f, and f is written: records from a on, text from p on

pub record Written (t : List Node) (h : Kids) (records bytes : List ℕ) (is : List ℕ) (f : Forest) (a p : ℕ) : Type 0 where
  pub stands : Stand t h is f
  pub table_is : HasAt records (4 * a) (table f p)
  pub text_is : HasAt bytes p (text f)

module _ (t : List Node) (h : Kids) (records bytes : List ℕ) where
  pub written_none : (a p : ℕ) → Written t h records bytes [] nil a p
  unfolding table text
  written_none a p = record { stands = s_nil; table_is = refl; text_is = refl }

  -- a node's own record and text, then its contents
  pub written_node : {i : ℕ} {c : Forest} (a p : ℕ) → HasAt records (4 * a) (record_of (at t i).label p (length (h i)) (suc (size c)))
      → HasAt bytes p (text_of (at t i).label)
      → Written t h records bytes (h i) c (suc a) (p + length (text_of (at t i).label))
      → Written t h records bytes (i ∷ []) (node (at t i).label c nil) a p
  unfolding table text
  written_node {i} {c} a p r b y =
      let l = (at t i).label in
      let n : count c ≡ length (h i) = stand_count y.stands in
      let k = record_length l p (length (h i)) (suc (size c)) in
      let x = part_join records (4 * a) (4 * suc a) _ _ r (omega arith) y.table_is in
      let z = part_join bytes p (p + length (text_of l)) _ _ b refl y.text_is in
      record { stands = s_node y.stands s_nil; table_is = rw (n, append-nil) x; text_is = rw append-nil z }

-- copied to b and q: the records with their text places moved, the text as it is
pub written_again : {t : List Node} {h : Kids} {records bytes : List ℕ} {is : List ℕ} {f : Forest} (records' bytes' : List ℕ) (a p b q : ℕ)
    → Written t h records bytes is f a p
    → HasAt records' (4 * b) (moves p q (take (4 * size f) (drop (4 * a) records))) → HasAt bytes' q (take (length (text f)) (drop p bytes))
    → Written t h records' bytes' is f b q
written_again {records = records} {f = f} records' bytes' a p b q w r x =
    let e : take (4 * size f) (drop (4 * a) records) ≡ table f p = rw (← table-length f p) w.table_is in
    let r' : HasAt records' (4 * b) (table f q) = rw (e, moved p q f) at r in
    let g = w.text_is in
    record { stands = w.stands; table_is = r'; text_is = rw g at x }

-- in rooms that agree with these so far
pub written_stays : {t : List Node} {h : Kids} {records bytes : List ℕ} {is : List ℕ} {f : Forest} (records' bytes' : List ℕ) (a p e u : ℕ)
    → Written t h records bytes is f a p
    → take (4 * e) records' ≡ take (4 * e) records → take u bytes' ≡ take u bytes → a + size f ≤ e → p + length (text f) ≤ u
    → Written t h records' bytes' is f a p
written_stays {records = records} {bytes = bytes} {f = f} records' bytes' a p e u w r x k l =
    let m = table-length f p in
    record { stands = w.stands; table_is = part_stays records records' (4 * e) (4 * a) _ r (omega arith) w.table_is; text_is = part_stays bytes bytes' u p _ x l w.text_is }
