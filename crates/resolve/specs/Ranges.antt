-- The lists of a graph side by side in one room, node i's from the i-th number of `starts` to the next. A number stored into the part of a
-- node changes that node's list and no other's.
use Rattle.std.specs.Prelude.{ℕ, suc, zero, ◌+◌, ◌<◌, ◌≤◌, List, [], ◌∷◌, ◌++◌, ◌≡◌, length, get_or, set, take, drop}
use Rattle.std.proofs.Common.{◌∙◌, ap, length-append, length-set, drop-set-lt, arith}
use Rattle.std.proofs.Math.Seq.{slice, length-slice, set-append_seam, take-set-lt}
use Rattle.std.proofs.lemmas.List.{take-set-le, drop-set-add}
use Rattle.std.proofs.Math.Decide.{dec_lt, ℕ_discrete}
use Rattle.steps.specs.State.{Node}
use Rattle.reading.specs.Build.{at}
use Rattle.reading.specs.Graph.{Graph}
use Rattle.reading.specs.Unfold.{In, here, there, outside-nodes}
use Rattle.resolve.specs.Resolved.{Kids}
use Rattle.resolve.specs.Walk.{with_list}
use Rattle.resolve.specs.Resolves.{with_list-same, put_other}

-- the lists that g gives the first n nodes are where `starts` says
pub record ListsLie (starts : List ℕ) (n : ℕ) (sorted : List ℕ) (g : Kids) : Type 0 where
  pub bounds : (i : ℕ) → i < n → (get_or starts i 0 ≤ get_or starts (suc i) 0) × (get_or starts (suc i) 0 ≤ length sorted)
  pub lists : (i : ℕ) → i < n → slice (get_or starts i 0) (get_or starts (suc i) 0) sorted ≡ g i

-- so are the nodes' own, before the walk
pub graph_lies : (t : List Node) (starts sorted : List ℕ) → Graph t starts sorted → ListsLie starts (length t) sorted (λ i. (at t i).kids)
graph_lies t starts sorted g = record { bounds = g.bounds; lists = g.kids }

-- ---- a store, and a part of the room

set-behind : (f t : ℕ) (l : List ℕ) (k x : ℕ) → t ≤ k → slice f t (set l k x) ≡ slice f t l
set-behind f t l k x h = rw (take-set-le t l k x h)

set_before : (f t : ℕ) (l : List ℕ) (k x : ℕ) → k < f → slice f t (set l k x) ≡ slice f t l
set_before f t l k x h = go (dec_lt k t)
  where
    go : Dec (k < t) → slice f t (set l k x) ≡ slice f t l
    go (yes m) = rw (take-set-lt t l k x m) (drop-set-lt f (take t l) k x h)
    go (no m) = set-behind f t l k x (omega arith)

set_inside : (f t : ℕ) (l : List ℕ) (m x : ℕ) → f + m < t → slice f t (set l (f + m) x) ≡ set (slice f t l) m x
set_inside f t l m x h = rw (take-set-lt t l (f + m) x h) (drop-set-add f (take t l) m x)

module _ (starts : List ℕ) (n : ℕ) (sorted : List ℕ) (g : Kids) (l : ListsLie starts n sorted g) where
  -- a later node's part is further behind
  behind : (i j : ℕ) → i < j → j < n → get_or starts (suc i) 0 ≤ get_or starts j 0
  behind i zero h k = absurd (omega arith)
  behind i (suc j) h k = go (ℕ_discrete i j) (λ m. behind i j m (omega arith))
    where
      go : Dec (i ≡ j) → (i < j → get_or starts (suc i) 0 ≤ get_or starts j 0) → get_or starts (suc i) 0 ≤ get_or starts (suc j) 0
      go (yes e) ih = rw e (omega arith)
      go (no e) ih = let m : i < j = omega arith in let a = ih m in let b = (l.bounds j (omega arith)).0 in omega arith

  -- x in the place of c, behind `is`, in node i's part
  pub lies_put : (i : ℕ) → i < n → (is js : List ℕ) (c x : ℕ) → g i ≡ is ++ (c ∷ js)
      → ListsLie starts n (set sorted (get_or starts i 0 + length is) x) (with_list i (is ++ (x ∷ js)) g)
  lies_put i h is js c x e = record { bounds = λ j m. ((l.bounds j m).0, rw (length-set sorted place x) (l.bounds j m).1); lists = go }
    where
      place : ℕ
      place = get_or starts i 0 + length is

      -- that is inside the part
      before_end : get_or starts i 0 + length is < get_or starts (suc i) 0
      before_end =
          let a = length-slice (get_or starts i 0) (get_or starts (suc i) 0) sorted (l.bounds i h).1 in
          let b : length (slice (get_or starts i 0) (get_or starts (suc i) 0) sorted) ≡ length is + suc (length js) = ap length (l.lists i h ∙ e) ∙ simp length-append in
          omega arith

      go : (j : ℕ) → j < n
          → slice (get_or starts j 0) (get_or starts (suc j) 0) (set sorted (get_or starts i 0 + length is) x) ≡ with_list i (is ++ (x ∷ js)) g j
      go j m = pick (ℕ_discrete j i)
        where
          pick : Dec (j ≡ i)
              → slice (get_or starts j 0) (get_or starts (suc j) 0) (set sorted (get_or starts i 0 + length is) x) ≡ with_list i (is ++ (x ∷ js)) g j
          pick (yes q) =
              let a = l.lists i h in
              rw (q, with_list-same i (is ++ (x ∷ js)) g, set_inside (get_or starts i 0) (get_or starts (suc i) 0) sorted (length is) x before_end, a, e) (set-append_seam is c js x)
          pick (no q) = rw (put_other i (is ++ (x ∷ js)) g j q) (side (dec_lt j i) ∙ l.lists j m)
            where
              side : Dec (j < i)
                  → slice (get_or starts j 0) (get_or starts (suc j) 0) (set sorted (get_or starts i 0 + length is) x) ≡ slice (get_or starts j 0) (get_or starts (suc j) 0) sorted
              side (yes k) = let b = behind j i k h in set-behind (get_or starts j 0) (get_or starts (suc j) 0) sorted (get_or starts i 0 + length is) x (omega arith)
              side (no k) = let r : i < j = omega arith in let b = behind i j r m in set_before (get_or starts j 0) (get_or starts (suc j) 0) sorted (get_or starts i 0 + length is) x (omega (arith, before_end))

-- ---- every child is a node

pub in_at : (l : List ℕ) (k : ℕ) → k < length l → In (get_or l k 0) l
in_at [] k h = elim h [ ]
in_at (x ∷ l) zero h = here
in_at (x ∷ l) (suc k) h = there (in_at l k (omega arith))

pub in_take : {x : ℕ} (n : ℕ) (l : List ℕ) → In x (take n l) → In x l
in_take zero l x'' = elim x'' [ ]
in_take (suc n) [] x4 = elim x4 [ ]
in_take (suc n) (y ∷ l) here = here
in_take (suc n) (y ∷ l) (there m) = there (in_take n l m)

pub in_drop : {x : ℕ} (n : ℕ) (l : List ℕ) → In x (drop n l) → In x l
in_drop (suc n) [] m = elim m [ ]
in_drop zero l m = m
in_drop (suc n) (y ∷ l) m = there (in_drop n l m)

in_below : {x : ℕ} (n : ℕ) (l : List ℕ) → ((k : ℕ) → k < length l → get_or l k 0 < n) → In x l → x < n
in_below n [] h x3 = elim x3 [ ]
in_below n (y ∷ l) h here = h 0 (omega arith)
in_below n (y ∷ l) h (there m) = in_below n l (λ k q. h (suc k) (omega arith)) m

pub graph_inside : (t : List Node) (starts sorted : List ℕ) → Graph t starts sorted → (i j : ℕ) → In j (at t i).kids → j < length t
graph_inside t starts sorted g i j m = go (dec_lt i (length t))
  where
    go : Dec (i < length t) → j < length t
    go (yes l) =
        let a = get_or starts i 0 in
        let b = get_or starts (suc i) 0 in
        let e = g.kids i l in
        let m' : In j (drop a (take b sorted)) = rw e m in
        in_below (length t) sorted g.inside (in_take b sorted (in_drop a (take b sorted) m'))
    go (no l) = let z : In j [] = rw (outside-nodes t i l) at m in elim z [ ]
