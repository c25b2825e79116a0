-- The walk over values that stand side by side: one law for each step of a turn. Assumes nothing.
use Prim.Native.Nat.{ℕ, suc, ◌+◌, ◌-◌, ◌*◌, ◌^◌, ◌≤◌, ◌<◌}
use mathlib.Core.List.{List, [], ◌++◌}
use mathlib.Core.Path.{◌≡◌, refl, sym, ◌∙◌}
use native.Mathlib.Numerals.{add-one}
use native.Mathlib.Omega.{arith}
use lib.ListN.{length}
use lib.Seq.{sets}
use Rattle.value.specs.Value.{Label, Forest, count, size, count-size, depth, nil, node}
use Rattle.value.specs.Stands.{label_at, arity_at, Reads, Says, Stands, stands_one}
use Rattle.output.specs.Put.{Put, Room, StillToPut, left_all, left_more, left_none, left_room, room_first, put_kept}
use Rattle.list.specs.Listing.{record_line, listing}
use Rattle.list.specs.Walk.{ReadyToList, ListingPut, PutsListing, Countable, CountsListing}

-- of the n values from record `from` on, `left` stand from record i on; the listing of those is left
pub record Going (w t : List ℕ) (from n d : ℕ) (o₀ : List ℕ) (at : ℕ) (o : List ℕ) (i left next : ℕ) : Type 0 where
  pub whole : ReadyToList w t from n d o₀ at
  pub rest : Forest
  pub stands : Stands w t i rest
  pub counted : count rest ≡ left
  pub few : size rest ≤ length w
  pub shallow : d + depth rest ≤ 64
  pub ends : i + size rest ≡ from + size whole.values
  pub todo : StillToPut o₀ at (listing d whole.values) o next (listing d rest)

-- the same with the first of the values that are left, its contents c and the values r after it
pub record Turn (w t : List ℕ) (from n d : ℕ) (o₀ : List ℕ) (at : ℕ) (o : List ℕ) (i left next : ℕ) : Type 0 where
  pub whole : ReadyToList w t from n d o₀ at
  pub c : Forest
  pub r : Forest
  pub l : Label
  pub says : Says w t i l (count c)
  pub inside : Stands w t (i + 1) c
  pub after : Stands w t (i + 1 + size c) r
  pub counted : count r ≡ left - 1
  pub few : suc (size c + size r) ≤ length w
  pub deeper : d + suc (depth c) ≤ 64
  pub shallow : d + depth r ≤ 64
  pub ends : i + 1 + size c + size r ≡ from + size whole.values
  pub todo : StillToPut o₀ at (listing d whole.values) o next (record_line d l (count c) ++ (listing (suc d) c ++ listing d r))

none_of : (f : Forest) → count f ≡ 0 → f ≡ nil
unfolding count
none_of nil e = refl
none_of (node l c r) e = absurd (omega arith)

module _ {w t : List ℕ} {from n d : ℕ} {o₀ : List ℕ} {at : ℕ} where
  pub going-all : ReadyToList w t from n d o₀ at → Going w t from n d o₀ at o₀ from n at
  going-all y =
      record {
        whole = y;
        rest = y.values;
        stands = y.stands;
        counted = y.counted;
        few = y.few;
        shallow = y.shallow;
        ends = refl;
        todo = left_all;
      }

  module _ {o : List ℕ} {i left next : ℕ} where
    turn_of : (whole : ReadyToList w t from n d o₀ at) (rest : Forest) → Stands w t i rest → count rest ≡ left → size rest ≤ length w → d + depth rest ≤ 64 → i + size rest ≡ from + size whole.values
        → StillToPut o₀ at (listing d whole.values) o next (listing d rest) → 0 < left → Turn w t from n d o₀ at o i left next
    unfolding Stands count size depth listing
    turn_of whole nil stands counted few shallow ends todo h = absurd (omega arith)
    turn_of whole (node l c r) stands counted few shallow ends todo h =
        record {
          whole = whole;
          c = c;
          r = r;
          l = l;
          says = stands.0;
          inside = stands.1;
          after = stands.2;
          counted = omega arith;
          few = few;
          deeper = omega arith;
          shallow = omega arith;
          ends = omega arith;
          todo = todo;
        }

    pub turn : Going w t from n d o₀ at o i left next → 0 < left → Turn w t from n d o₀ at o i left next
    turn g h = turn_of g.whole g.rest g.stands g.counted g.few g.shallow g.ends g.todo h

    -- after the last one
    pub going-none : Going w t from n d o₀ at o i left next → left ≤ 0 → PutsListing w t from n d o₀ at o i next
    unfolding listing size
    going-none g h f s e =
        let v = g.whole.values in
        let k : f ≡ v = stands_one w t f v from s g.whole.stands (e ∙ sym g.whole.counted) in
        let z : g.rest ≡ nil = none_of g.rest (omega (arith, g.counted)) in
        let ends : i + size nil ≡ from + size v = rw z at g.ends in
        let todo : StillToPut o₀ at (listing d v) o next [] = rw z at g.todo in
        rw k (record { passed = omega arith; put = left_none todo })

    module _ (u : Turn w t from n d o₀ at o i left next) where
      line_room : Room o next (record_line d (label_at w t i) (arity_at w i))
      line_room = rw (u.says.label, u.says.arity) (room_first _ (left_room u.whole.room u.todo))

      pub turn_counted : {m : ℕ} → m ≡ arity_at w i → count u.c ≡ m
      turn_counted many = sym (many ∙ u.says.arity)

      -- its line
      pub turn_line : Reads w t i × Room o next (record_line d (label_at w t i) (arity_at w i))
      turn_line = (u.says.reads, line_room)

      -- how many values stand directly in it
      pub turn_arity : (4 * i + 4 ≤ length w) × (arity_at w i ≤ length w)
      turn_arity = (u.says.reads.inside, omega (arith, u.says.arity, u.few, count-size u.c))

      module _ {o₁ : List ℕ} {p m : ℕ} (lined : Put o next (record_line d (label_at w t i) (arity_at w i)) o₁ p) (many : m ≡ arity_at w i) where
        after_line : StillToPut o₀ at (listing d u.whole.values) o₁ p (listing (suc d) u.c ++ listing d u.r)
        after_line = left_more _ u.todo (rw (u.says.label, u.says.arity) at lined)

        -- its contents
        pub turn_inside : ReadyToList w t (i + 1) m (d + 1) o₁ p
        turn_inside =
            record {
              values = u.c;
              stands = u.inside;
              counted = sym (many ∙ u.says.arity);
              few = omega (arith, u.few);
              shallow = omega (arith, u.deeper);
              room = rw add-one (room_first (listing d u.r) (left_room u.whole.room after_line));
            }

        -- the values after it
        pub turn_again : {o₂ : List ℕ} {j q : ℕ} → ListingPut u.c (i + 1) (d + 1) o₁ p o₂ j q → Going w t from n d o₀ at o₂ j (left - 1) q
        turn_again {o₂} {j} {q} y =
            let put : Put o₁ p (listing (suc d) u.c) o₂ q = rw add-one at y.put in
            record {
              whole = u.whole;
              rest = u.r;
              stands = rw y.passed u.after;
              counted = u.counted;
              few = omega (arith, u.few);
              shallow = u.shallow;
              ends = omega (arith, y.passed, u.ends);
              todo = left_more (listing d u.r) after_line put;
            }

-- ---- the same where only the places are counted

pub record Measuring (w t : List ℕ) (from n d at i left next : ℕ) : Type 0 where
  pub start : List ℕ
  pub short : length start < 2 ^ 64
  pub out : List ℕ
  pub going : Going w t from n d start at out i left next

module _ {w t : List ℕ} {from n d at : ℕ} where
  pub measuring_all : Countable w t from n d at → Measuring w t from n d at from n at
  measuring_all y = record { start = y.out; short = y.short; out = y.out; going = going-all y.ready }

  module _ {i left next : ℕ} (m : Measuring w t from n d at i left next) where
    pub measuring_none : left ≤ 0 → CountsListing w t from n d at i next
    measuring_none h f s e = let x = going-none m.going h f s e in (x.passed, x.put.ends)

    module _ (h : 0 < left) where
      pub measuring_line : Reads w t i × (next + length (record_line d (label_at w t i) (arity_at w i)) < 2 ^ 64)
      measuring_line = let x = turn_line (turn m.going h) in (x.0, omega (arith, x.1.fits, m.short, m.going.todo.kept))

      pub measuring_deeper : d < 64
      measuring_deeper = omega (arith, (turn m.going h).deeper)

      pub measuring_arity : (4 * i + 4 ≤ length w) × (arity_at w i ≤ length w)
      measuring_arity = turn_arity (turn m.going h)

      module _ {k a : ℕ} (long : k ≡ length (record_line d (label_at w t i) (arity_at w i))) (many : a ≡ arity_at w i) where
        abbrev lined : List ℕ
        lined = sets m.out next (record_line d (label_at w t i) (arity_at w i))

        put : Put m.out next (record_line d (label_at w t i) (arity_at w i)) lined (next + k)
        put = record { wrote = refl; ends = rw long }

        pub measuring_inside : Countable w t (i + 1) a (d + 1) (next + k)
        measuring_inside = record { out = lined; short = omega (arith, put_kept put, m.short, m.going.todo.kept); ready = turn_inside (turn m.going h) put many }

        pub measuring_again : {j q : ℕ} → CountsListing w t (i + 1) a (d + 1) (next + k) j q → Measuring w t from n d at j (left - 1) q
        measuring_again {j} {q} x =
            let u = turn m.going h in
            let y = x u.c u.inside (sym (many ∙ u.says.arity)) in
            record {
              start = m.start;
              short = m.short;
              out = sets lined (next + k) (listing (d + 1) u.c);
              going = turn_again u put many (record { passed = y.0; put = record { wrote = refl; ends = y.1 } });
            }
