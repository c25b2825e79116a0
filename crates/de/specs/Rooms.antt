-- Rooms that are zero as far as they are used: cleared as far, they are as they were lent.
use Rattle.std.specs.Prelude.{ℕ, suc, zero, ◌-◌, ◌≤◌, ◌<◌, ◌≡◌, refl, length, take, replicate, get_or}
use mathlib.Core.List.{List, [], ◌∷◌, ◌++◌, append-nil}
use Rattle.std.proofs.Common.{sym, ◌∙◌, length-take, length-drop, take-append-drop, take-take, drop_at, length-take-le, get_or-take, arith}
use Rattle.std.proofs.Math.Path.{ap}
use Rattle.std.proofs.lemmas.List.{length-replicate, get_or-replicate}
use Rattle.std.proofs.Math.ListN.{drop}
use Rattle.std.proofs.Math.Seq.{take-length, drop-length}
use Rattle.rooms.specs.Cleared.{cleared}

-- the first n numbers of a room are there and zero
pub record Zeros (n : ℕ) (room : List ℕ) : Type 0 where
  pub zero : take n room ≡ replicate n 0

pub zeros_long : {n : ℕ} {room : List ℕ} → Zeros n room → n ≤ length room
zeros_long {n} {room} z = let e = ap length z.zero ∙ length-replicate n 0 in let f = length-take n room in omega arith

-- of a room of zeros
take_zeros : (n m : ℕ) → n ≤ m → ◌≡◌ {A = List ℕ} (take n (replicate m 0)) (replicate n 0)
take_zeros zero m h = refl
take_zeros (suc n) zero h = absurd (omega arith)
take_zeros (suc n) (suc m) h = ap (λ (l : List ℕ). 0 ∷ l) (take_zeros n m (omega arith))

drop_zeros : (n m : ℕ) → n ≤ m → ◌≡◌ {A = List ℕ} (drop n (replicate m 0)) (replicate (m - n) 0)
drop_zeros zero m h = let e : m - 0 ≡ m = omega arith in rw e
drop_zeros (suc n) zero h = absurd (omega arith)
drop_zeros (suc n) (suc m) h = let e : suc m - suc n ≡ m - n = omega arith in rw e (drop_zeros n m (omega arith))

-- used from the start, up to `used`
pub front_cleared : (n used : ℕ) (room room' : List ℕ) → Zeros n room → used ≤ n → drop used room' ≡ drop used room → cleared used room' ≡ room
unfolding cleared
front_cleared n used room room' z h e =
    let a : take used room ≡ replicate used 0 = sym (take-take used n room h) ∙ ap (take used) z.zero ∙ take_zeros used n h in
    ap (λ (l : List ℕ). replicate used 0 ++ l) e ∙ ap (λ (l : List ℕ). l ++ drop used room) (sym a) ∙ take-append-drop used room

-- a part from the start that is as it was, put back
pub part_again : (n : ℕ) (room part : List ℕ) → part ≡ take n room → part ++ drop n room ≡ room
part_again n room part e = ap (λ (l : List ℕ). l ++ drop n room) e ∙ take-append-drop n room

-- used at the end, the last `most`: they are cleared as a part, and the part is put back
module _ (m most : ℕ) (room room' : List ℕ) (z : room ≡ replicate m 0) (h : most ≤ m) (same : length room' ≡ length room) where
  all-long : length room ≡ m
  all-long = ap length z ∙ length-replicate m 0

  pub end_begins : m - most ≤ length room'
  end_begins = omega (arith, all-long)

  end_whole : length room' - (m - most) ≡ length (drop (m - most) room')
  end_whole = sym (length-drop (m - most) room')

  end_long : most ≡ length (drop (m - most) room')
  end_long = omega (arith, all-long, length-drop (m - most) room')

  end_part : take (length room' - (m - most)) (drop (m - most) room') ≡ drop (m - most) room'
  end_part = ap (λ (i : ℕ). take i (drop (m - most) room')) end_whole ∙ take-length (drop (m - most) room')

  pub end_fits : most ≤ length (take (length room' - (m - most)) (drop (m - most) room'))
  end_fits = let e = ap length end_part in omega (arith, end_long)

  -- nothing is behind the part
  end_empty : drop (length room' - (m - most)) (drop (m - most) room') ≡ []
  end_empty = ap (λ (i : ℕ). drop i (drop (m - most) room')) end_whole ∙ drop-length (drop (m - most) room')

  -- cleared, it is all zero
  end_zero : cleared most (take (length room' - (m - most)) (drop (m - most) room')) ≡ replicate most 0
  unfolding cleared
  end_zero =
      let e : drop most (drop (m - most) room') ≡ [] = ap (λ (i : ℕ). drop i (drop (m - most) room')) end_long ∙ drop-length (drop (m - most) room') in
      rw (end_part, e) (append-nil (replicate {A = ℕ} most 0))

  end_was : drop (m - most) room ≡ replicate most 0
  end_was = let j : m - (m - most) ≡ most = omega arith in ap (drop (m - most)) z ∙ (drop_zeros (m - most) m (omega arith) ∙ ap (λ (i : ℕ). replicate {A = ℕ} i 0) j)

  pub end_cleared : (part : List ℕ) → take (length room - most) room' ≡ take (length room - most) room → part ≡ cleared most (take (length room' - (m - most)) (drop (m - most) room'))
      → take (m - most) room' ++ (part ++ drop (length room' - (m - most)) (drop (m - most) room')) ≡ room
  end_cleared part f p =
      let k : length room - most ≡ m - most = omega (arith, all-long) in
      let g : take (m - most) room' ≡ take (m - most) room = rw k at f in
      rw (p, end_zero, end_empty, append-nil, g, ← end_was) (take-append-drop (m - most) room)

-- ---- a part lent from the beginning of a room that is zero up to a stated length

-- as many as up to m
pub part_length : (m : ℕ) (l : List ℕ) → m ≤ length l → length (take m l) ≡ m
part_length m l h = length-take-le m l h

-- behind a part, the room is as it was
pub part_behind : (m : ℕ) (l d : List ℕ) → m ≤ length l → length d ≡ length (take m l) → drop m (d ++ drop m l) ≡ drop m l
part_behind m l d h e = drop_at d (drop m l) m (e ∙ part_length m l h)

module _ {n : ℕ} {l : List ℕ} (z : Zeros n l) where
  pub zeros_at : (i : ℕ) → i < n → get_or l i 0 ≡ 0
  zeros_at i h = sym (get_or-take n l i 0 h) ∙ ap (λ (x : List ℕ). get_or x i 0) z.zero ∙ get_or-replicate n i 0 0 h

  -- whatever a part has come to: cleared, the room is as it was
  pub part_back : (m : ℕ) → m ≤ n → (d : List ℕ) → length d ≡ length (take m l) → cleared m (d ++ drop m l) ≡ l
  part_back m h d e = front_cleared n m l (d ++ drop m l) z h (part_behind m l d (omega (arith, zeros_long z)) e)
