-- Bytes put into a lent output that has room for them: what a function that writes something asks for and promises.
use Rattle.std.specs.Prelude.{ℕ, suc, ◌+◌, ◌≤◌, List, [], ◌∷◌, ◌++◌, ◌≡◌, refl, length, set}
use Rattle.std.proofs.Common.{◌∙◌, ap, arith, length-append}
use Rattle.std.proofs.lemmas.List.Edits.{sets}
use Rattle.std.proofs.Math.Seq.{length-sets}
use Rattle.std.proofs.lemmas.List.{set_comm}
use Rattle.utf8.specs.Stores.{sets_append}

-- what ends a line
abbrev pub newline_byte : ℕ
newline_byte = 0x0A

-- the output is o with b stored from `at` on, and the next place is behind b
pub record Put (o : List ℕ) (at : ℕ) (b o' : List ℕ) (next : ℕ) : Type 0 where
  pub wrote : o' ≡ sets o at b
  pub ends : next ≡ at + length b

-- the output goes as far as b will
pub record Room (o : List ℕ) (at : ℕ) (b : List ℕ) : Type 0 where
  pub fits : at + length b ≤ length o

pub put_same : {o b b' o' : List ℕ} {at p : ℕ} → b ≡ b' → Put o at b o' p → Put o at b' o' p
put_same e x = rw e at x

pub room_same : {o b b' : List ℕ} {at : ℕ} → b ≡ b' → Room o at b' → Room o at b
room_same e r = rw e r

-- nothing
pub put_none : {o : List ℕ} {at : ℕ} → Put o at [] o at
put_none = record { wrote = refl; ends = omega arith }

-- one run behind another
pub put_then : {o a o₁ b o₂ : List ℕ} {at p q : ℕ} → Put o at a o₁ p → Put o₁ p b o₂ q → Put o at (a ++ b) o₂ q
put_then {o} {a} {o₁} {b} {o₂} {at} x y =
    record {
      wrote = y.wrote ∙ rw (x.wrote, x.ends) (sets_append a b o at);
      ends = y.ends ∙ rw (length-append a b) (omega (arith, x.ends));
    }

pub room_first : {o : List ℕ} {at : ℕ} {a : List ℕ} (b : List ℕ) → Room o at (a ++ b) → Room o at a
room_first {o} {at} {a} b r = record { fits = omega (arith, r.fits, length-append a b) }

-- the output stays as long as it is
pub put_kept : {o a o₁ : List ℕ} {at p : ℕ} → Put o at a o₁ p → length o₁ ≡ length o
put_kept {o} {a} {o₁} {at} x = ap length x.wrote ∙ length-sets o at a

pub room_then : {o a o₁ : List ℕ} {at p : ℕ} (b : List ℕ) → Put o at a o₁ p → Room o at (a ++ b) → Room o₁ p b
room_then {o} {a} b x r = record { fits = omega (arith, r.fits, length-append a b, x.ends, put_kept x) }

-- a store behind a run
set_sets : (a l : List ℕ) (i j x : ℕ) → i + length a ≤ j → sets (set l j x) i a ≡ set (sets l i a) j x
set_sets [] l i j x h = refl
set_sets (y ∷ a) l i j x h =
    ap (λ (m : List ℕ). sets m (suc i) a) (set_comm l j i x y (λ e. omega arith)) ∙ set_sets a (set l i y) (suc i) j x (omega arith)

-- the last byte may be stored first
pub sets_last : (a l : List ℕ) (i x : ℕ) → sets (set l (i + length a) x) i a ≡ sets l i (a ++ (x ∷ []))
sets_last a l i x = set_sets a l i (i + length a) x (omega arith) ∙ sets_append a (x ∷ []) l i

-- With b' left to store, all of b will have been.
pub record StillToPut (o₀ : List ℕ) (at : ℕ) (b o : List ℕ) (p : ℕ) (b' : List ℕ) : Type 0 where
  pub same : sets o p b' ≡ sets o₀ at b
  pub place : p + length b' ≡ at + length b
  pub kept : length o ≡ length o₀

pub left_all : {o : List ℕ} {at : ℕ} {b : List ℕ} → StillToPut o at b o at b
left_all = record { same = refl; place = refl; kept = refl }

pub left_more : {o₀ b o x o' : List ℕ} {at p q : ℕ} (y : List ℕ) → StillToPut o₀ at b o p (x ++ y) → Put o p x o' q → StillToPut o₀ at b o' q y
left_more {o₀} {b} {o} {x} {o'} {at} {p} {q} y l w =
    record {
      same = rw (w.wrote, w.ends) (sets_append x y o p) ∙ l.same;
      place = omega (arith, w.ends, l.place, length-append x y);
      kept = put_kept w ∙ l.kept;
    }

pub left_none : {o₀ b o : List ℕ} {at p : ℕ} → StillToPut o₀ at b o p [] → Put o₀ at b o p
left_none l = record { wrote = l.same; ends = omega (arith, l.place) }

pub left_room : {o₀ b o b' : List ℕ} {at p : ℕ} → Room o₀ at b → StillToPut o₀ at b o p b' → Room o p b'
left_room r l = record { fits = omega (arith, r.fits, l.place, l.kept) }
