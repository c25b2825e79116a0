-- What a call that looks for node i's list asks of the rooms and what it says of them; the list itself, number by number.
use Rattle.std.specs.Prelude.{ℕ, suc, ◌+◌, ◌*◌, ◌^◌, ◌/◌, ◌%◌, ◌<◌, ◌≤◌, Bool, true, false, cond, ◌||◌, List, ◌≡◌, refl, ◌≢◌, length, get_or, drop, eqb, ltb}
use Rattle.std.proofs.Common.{◌∙◌, length-take, length-drop, ne_eqb, le-ltb, arith}
use Rattle.std.proofs.Math.Seq.{get_or-take, get_or-drop}
use Rattle.std.proofs.Math.Decide.{ℕ_discrete}
use Rattle.value.specs.Shape.{kind_in}
use Rattle.steps.specs.State.{Node}
use Rattle.steps.specs.NodeWords.{first}
use Rattle.resolve.specs.Resolved.{Kids}
use Rattle.resolve.specs.Shown.{Shown, sorted_in, from_in, many_in, room_of, list_of, Inside}
use Rattle.resolve.specs.declared.lists.Range.{Range}

pub record Listed (ws starts measures : List ℕ) (i : ℕ) : Type 0 where
  pub words : 2 * i < length ws
  pub measured : i < length measures
  pub ended : suc i < length starts
  pub rising : get_or starts i 0 ≤ get_or starts (suc i) 0

-- rooms that show the nodes have it
pub shown_listed : (t : List Node) (h : Kids) (P : ℕ → Type 0) (p d ws starts sorted log measures : List ℕ) (i : ℕ) → Shown t h P p d ws starts sorted log measures → i < length t → Listed ws starts measures i
shown_listed t h P p d ws starts sorted log measures i s l =
    record {
      words = omega (arith, s.words_long);
      measured = omega (arith, s.measures_long);
      ended = omega (arith, s.starts_long);
      rising = s.rising i l;
    }

-- the list of node i is the range r
pub record Ranges (ws starts measures : List ℕ) (i : ℕ) (r : Range) : Type 0 where
  pub from : r.at ≡ from_in ws starts measures i
  pub many : r.end ≡ r.at + many_in ws starts measures i
  pub room : (sorted log : List ℕ) → cond r.log log sorted ≡ room_of ws sorted log i

-- ---- the kinds whose lists are put in order

pub below_sorted : (k : ℕ) → k < 8 → false ≡ sorted_in k
unfolding sorted_in
below_sorted k l =
    let a : k ≢ 8 = λ e. omega arith in
    let b : k ≢ 9 = λ e. omega arith in
    let c : k ≢ 10 = λ e. omega arith in
    rw (ne_eqb k 8 a, ne_eqb k 9 b, ne_eqb k 10 c)

pub is_sorted : (k : ℕ) → 8 ≤ k → ltb k 11 ≡ sorted_in k
unfolding sorted_in
is_sorted k l = go (ℕ_discrete k 8) (ℕ_discrete k 9) (ℕ_discrete k 10)
  where
    go : Dec (k ≡ 8) → Dec (k ≡ 9) → Dec (k ≡ 10) → ltb k 11 ≡ sorted_in k
    go (yes e) x y = rw e
    go (no e) (yes f) y = rw f
    go (no e) (no f) (yes g) = rw g
    go (no e) (no f) (no g) = rw (le-ltb k 11 (omega arith), ne_eqb k 8 e, ne_eqb k 9 f, ne_eqb k 10 g)

-- of those, Sets and FrozenSets are below Dicts
in_log_lem : (k : ℕ) → sorted_in k ≡ true → ltb k 10 ≡ (eqb k 8 || eqb k 9)
unfolding sorted_in
in_log_lem k s = go (ℕ_discrete k 8) (ℕ_discrete k 9) (ℕ_discrete k 10)
  where
    go : Dec (k ≡ 8) → Dec (k ≡ 9) → Dec (k ≡ 10) → ltb k 10 ≡ (eqb k 8 || eqb k 9)
    go (yes e) x y = rw e
    go (no e) (yes f) y = rw f
    go (no e) (no f) (yes g) = rw g
    go (no e) (no f) (no g) = let z : false ≡ true = rw (ne_eqb k 8 e, ne_eqb k 9 f, ne_eqb k 10 g) at s in absurd (let w : ◌≡◌ {A = ℕ} 0 1 = cc in omega arith)

not_in_log : (k : ℕ) → sorted_in k ≡ false → (eqb k 8 || eqb k 9) ≡ false
unfolding sorted_in
not_in_log k s = go (eqb k 8) (eqb k 9) (eqb k 10) s
  where
    go : (a b c : Bool) → (a || (b || c)) ≡ false → (a || b) ≡ false
    go false false c e = refl
    go false true c e = e
    go true b c e = e

module _ (ws starts measures : List ℕ) (i : ℕ) where
  pub sorted_ranges : sorted_in (kind_in (first ws i)) ≡ true → Ranges ws starts measures i (record { log = ltb (kind_in (first ws i)) 10; at = get_or measures i 0 % 2 ^ 16; end = get_or measures i 0 % 2 ^ 16 + get_or measures i 0 / 2 ^ 16 % 2 ^ 16 })
  unfolding from_in many_in room_of
  sorted_ranges e = let f = in_log_lem (kind_in (first ws i)) e in record { from = rw e; many = rw e; room = λ sorted log. rw f }

  pub plain_ranges : sorted_in (kind_in (first ws i)) ≡ false → get_or starts i 0 ≤ get_or starts (suc i) 0 → Ranges ws starts measures i (record { log = false; at = get_or starts i 0; end = get_or starts (suc i) 0 })
  unfolding from_in many_in room_of
  plain_ranges e r = let f = not_in_log (kind_in (first ws i)) e in record { from = rw e; many = rw e (omega arith); room = λ sorted log. rw f }

-- ---- the list itself

module _ (ws starts sorted log measures : List ℕ) (i : ℕ) (h : Inside ws starts sorted log measures i) where
  pub list_length : length (list_of ws starts sorted log measures i) ≡ many_in ws starts measures i
  unfolding list_of Inside
  list_length = simp (length-take, length-drop) (omega (arith, h))

  pub list_at : (k : ℕ) → k < many_in ws starts measures i → get_or (list_of ws starts sorted log measures i) k 0 ≡ get_or (room_of ws sorted log i) (from_in ws starts measures i + k) 0
  unfolding list_of
  list_at k l = get_or-take (many_in ws starts measures i) (drop (from_in ws starts measures i) (room_of ws sorted log i)) k 0 l ∙ get_or-drop (from_in ws starts measures i) (room_of ws sorted log i) k 0
