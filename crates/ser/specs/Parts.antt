-- Values written one part of them after the other: the laws by which what is asked for and what is promised is taken apart and put
-- together, whatever is made of the values. Assumes nothing.
use Prim.Native.Nat.{ℕ, suc, zero, ◌+◌, ◌-◌, ◌*◌, ◌≤◌, ◌<◌, min}
use Rattle.std.specs.Prelude.{Bool, true, false, ◌≡◌, take}
use mathlib.Core.List.{List, [], ◌∷◌, ◌++◌, append-nil}
use Rattle.std.proofs.Math.Path.{refl, ap}
use Rattle.std.proofs.Common.{sym, ◌∙◌, subst, arith, drop_of_length-le, take_all}
use Rattle.std.proofs.Math.ListN.{length, drop, length-drop}
use Rattle.std.proofs.Math.Seq.{length-sets}
use Rattle.utf8.specs.Encode.{by_lt}
use Rattle.value.specs.Value.{Label, Forest, count, size, count-size, nil, node}
use Rattle.value.specs.Stands.{label_at, arity_at, Reads, Says, Stands}
use Rattle.output.specs.Put.{Put, Room, put_same, put_then, put_none, room_first, room_then}
use Rattle.ser.specs.Image.{opening, contents, images, joined, one_batch, batch_size, batches_up_to, batches}
use Rattle.ser.specs.Walk.{Maker, ReadyToWrite, Wrote}

-- bytes before what F makes, and behind it
unfoldable pub preceded_by : List ℕ → Maker → Maker
preceded_by b F s = b ++ F s

unfoldable pub followed_by : Maker → List ℕ → Maker
followed_by F b s = F s ++ b

-- two makers make the same of n parts
pub record Same (n : ℕ) (F G : Maker) : Type 0 where
  pub same : (s : List (List ℕ)) → length s ≡ n → F s ≡ G s

-- of n parts F makes what G makes of the first k and then what H makes of the other m
pub record Cuts (k n m : ℕ) (F G H : Maker) : Type 0 where
  pub sum : n ≡ k + m
  pub cuts : (s : List (List ℕ)) → length s ≡ n → F s ≡ G (take k s) ++ H (drop k s)

-- n values stood from record `from` on; writing those that are left, from record i on, will have written them all
pub record WrittenSoFar (F : Maker) (w t : List ℕ) (from n : ℕ) (o₀ : List ℕ) (at : ℕ) (o : List ℕ) (i left next : ℕ) : Type 0 where
  pub ready : ReadyToWrite F w t i left o next
  pub later : from ≤ i
  pub kept : length o ≡ length o₀
  pub rest : (o' : List ℕ) (j q : ℕ) → Wrote F w t i left o next o' j q → Wrote F w t from n o₀ at o' j q

-- the first k of some values, and the others
record Cut (w t : List ℕ) (i k : ℕ) (f : Forest) : Type 0 where
  pub first : Forest
  pub rest : Forest
  pub stands : Stands w t i first
  pub after : Stands w t (i + size first) rest
  pub counted : count first ≡ k
  pub others : count rest ≡ count f - k
  pub sizes : size first + size rest ≡ size f
  pub takes : images first ≡ take k (images f)
  pub drops : images rest ≡ drop k (images f)

-- the value at a record
record Single (w t : List ℕ) (i : ℕ) (o : List ℕ) (at : ℕ) : Type 0 where
  pub label : Label
  pub inside : Forest
  pub says : Says w t i label (count inside)
  pub stands : Stands w t (i + 1) inside
  pub room : Room o at (opening label ++ contents label (images inside))

pub images-length : (f : Forest) → length (images f) ≡ count f
unfolding images count
images-length nil = refl
images-length (node l c r) = ap suc (images-length r)

none_of : (f : Forest) → count f ≡ 0 → f ≡ nil
unfolding count
none_of nil e = refl
none_of (node l c r) e = absurd (omega arith)

cut : (w t : List ℕ) (k i : ℕ) (f : Forest) → Stands w t i f → k ≤ count f → Cut w t i k f
unfolding Stands count size images
cut w t zero i f s h =
    record {
      first = nil;
      rest = f;
      stands = tt;
      after = let e : i ≡ i + 0 = omega arith in subst (λ (j : ℕ). Stands w t j f) e s;
      counted = refl;
      others = omega arith;
      sizes = omega arith;
      takes = refl;
      drops = refl;
    }
cut w t (suc k) i nil s h = absurd (omega arith)
cut w t (suc k) i (node l c r) s h =
    let x = cut w t k (i + 1 + size c) r s.2 (omega arith) in
    let e : i + 1 + size c + size x.first ≡ i + suc (size c + size x.first) = omega arith in
    record {
      first = node l c x.first;
      rest = x.rest;
      stands = (s.0, s.1, x.stands);
      after = subst (λ (j : ℕ). Stands w t j x.rest) e x.after;
      counted = ap suc x.counted;
      others = omega (arith, x.others);
      sizes = omega (arith, x.sizes);
      takes = rw x.takes;
      drops = x.drops;
    }

-- values stand inside the table
inside : (w t : List ℕ) (f : Forest) (i : ℕ) → Stands w t i f → 4 * i ≤ length w → 4 * (i + size f) ≤ length w
unfolding Stands size
inside w t nil i s h = omega arith
inside w t (node l c r) i s h =
    let a = inside w t c (i + 1) s.1 (omega (arith, s.0.reads.inside)) in
    omega (arith, inside w t r (i + 1 + size c) s.2 a)

module _ {w t : List ℕ} where
  module _ {F G H : Maker} {k n m : ℕ} (e : Cuts k n m F G H) {i : ℕ} where
    cuts_at : (f : Forest) → count f ≡ n → (x : Cut w t i k f) → F (images f) ≡ G (images x.first) ++ H (images x.rest)
    cuts_at f q x = e.cuts (images f) (images-length f ∙ q) ∙ rw (x.takes, x.drops)

    pub ready_cut : {o : List ℕ} {at : ℕ} → ReadyToWrite F w t i n o at → ReadyToWrite G w t i k o at
    ready_cut y =
        let x = cut w t k i y.values y.stands (omega (arith, y.counted, e.sum)) in
        record { values = x.first; stands = x.stands; counted = x.counted; room = room_first _ (rw (cuts_at y.values y.counted x) at y.room) }

    module _ {o o₁ : List ℕ} {at j p : ℕ} (a : Wrote G w t i k o at o₁ j p) where
      pub ready_rest : ReadyToWrite F w t i n o at → ReadyToWrite H w t j m o₁ p
      ready_rest y =
          let x = cut w t k i y.values y.stands (omega (arith, y.counted, e.sum)) in
          let l : count x.rest ≡ m = omega (arith, x.others, y.counted, e.sum) in
          record {
            values = x.rest;
            stands = rw (a.passed x.first x.stands x.counted) x.after;
            counted = l;
            room = room_then _ (a.puts x.first x.stands x.counted) (rw (cuts_at y.values y.counted x) at y.room);
          }

      pub wrote_cut : {o₂ : List ℕ} {j₂ q : ℕ} → Wrote H w t j m o₁ p o₂ j₂ q → Wrote F w t i n o at o₂ j₂ q
      wrote_cut {o₂} {j₂} {q} b = record { puts = puts; passed = passed }
        where
          puts : (f : Forest) → Stands w t i f → count f ≡ n → Put o at (F (images f)) o₂ q
          puts f s c =
              let x = cut w t k i f s (omega (arith, c, e.sum)) in
              let l : count x.rest ≡ m = omega (arith, x.others, c, e.sum) in
              let r : Stands w t j x.rest = rw (a.passed x.first x.stands x.counted) x.after in
              put_same (sym (cuts_at f c x)) (put_then (a.puts x.first x.stands x.counted) (b.puts x.rest r l))

          passed : (f : Forest) → Stands w t i f → count f ≡ n → j₂ ≡ i + size f
          passed f s c =
              let x = cut w t k i f s (omega (arith, c, e.sum)) in
              let l : count x.rest ≡ m = omega (arith, x.others, c, e.sum) in
              let r : Stands w t j x.rest = rw (a.passed x.first x.stands x.counted) x.after in
              omega (arith, b.passed x.rest r l, a.passed x.first x.stands x.counted, x.sizes)

  -- ---- the same by another maker

  module _ {F G : Maker} {n : ℕ} (e : Same n F G) {i : ℕ} where
    pub ready_as : {o : List ℕ} {at : ℕ} → ReadyToWrite F w t i n o at → ReadyToWrite G w t i n o at
    ready_as y = record { values = y.values; stands = y.stands; counted = y.counted; room = rw (e.same (images y.values) (images-length y.values ∙ y.counted)) at y.room }

    pub wrote_as : {o o' : List ℕ} {at j p : ℕ} → Wrote G w t i n o at o' j p → Wrote F w t i n o at o' j p
    wrote_as a = record { puts = λ f s c. put_same (sym (e.same (images f) (images-length f ∙ c))) (a.puts f s c); passed = a.passed }

  -- ---- bytes before the values and behind them

  module _ (F : Maker) (b : List ℕ) {i n : ℕ} where
    pub ready_front : {o : List ℕ} {at : ℕ} → ReadyToWrite (preceded_by b F) w t i n o at → Room o at b
    unfolding preceded_by
    ready_front y = room_first _ y.room

    pub ready_after : {at p : ℕ} {o o₁ : List ℕ} → ReadyToWrite (preceded_by b F) w t i n o at → Put o at b o₁ p → ReadyToWrite F w t i n o₁ p
    unfolding preceded_by
    ready_after y x = record { values = y.values; stands = y.stands; counted = y.counted; room = room_then _ x y.room }

    pub wrote_after : {at p j q : ℕ} {o o₁ o₂ : List ℕ} → Put o at b o₁ p → Wrote F w t i n o₁ p o₂ j q → Wrote (preceded_by b F) w t i n o at o₂ j q
    unfolding preceded_by
    wrote_after x a = record { puts = λ f s c. put_then x (a.puts f s c); passed = a.passed }

    pub ready_before : {o : List ℕ} {at : ℕ} → ReadyToWrite (followed_by F b) w t i n o at → ReadyToWrite F w t i n o at
    unfolding followed_by
    ready_before y = record { values = y.values; stands = y.stands; counted = y.counted; room = room_first _ y.room }

    pub ready_end : {at j p : ℕ} {o o₁ : List ℕ} → ReadyToWrite (followed_by F b) w t i n o at → Wrote F w t i n o at o₁ j p → Room o₁ p b
    unfolding followed_by
    ready_end y a = room_then _ (a.puts y.values y.stands y.counted) y.room

    pub wrote_before : {at p j q : ℕ} {o o₁ o₂ : List ℕ} → Wrote F w t i n o at o₁ j p → Put o₁ p b o₂ q → Wrote (followed_by F b) w t i n o at o₂ j q
    unfolding followed_by
    wrote_before a x = record { puts = λ f s c. put_then (a.puts f s c) x; passed = a.passed }

  -- the next record is no earlier one
  pub wrote_later : {F : Maker} {i n at j p : ℕ} {o o₁ : List ℕ} → ReadyToWrite F w t i n o at → Wrote F w t i n o at o₁ j p → i ≤ j
  wrote_later y a = omega (arith, a.passed y.values y.stands y.counted)

  pub wrote_kept : {F : Maker} {i n at j p : ℕ} {o o₁ : List ℕ} → ReadyToWrite F w t i n o at → Wrote F w t i n o at o₁ j p → length o₁ ≡ length o
  wrote_kept y a = ap length (a.puts y.values y.stands y.counted).wrote ∙ simp length-sets

  -- no values
  pub wrote_none : {F : Maker} {i n at : ℕ} {o : List ℕ} → n ≤ 0 → F [] ≡ [] → Wrote F w t i n o at o i at
  unfolding images size
  wrote_none {F} {i} {n} {at} {o} h e = record { puts = puts; passed = passed }
    where
      puts : (f : Forest) → Stands w t i f → count f ≡ n → Put o at (F (images f)) o at
      puts f s c = let z : f ≡ nil = none_of f (omega (arith, c)) in rw z (put_same (sym e) put_none)

      passed : (f : Forest) → Stands w t i f → count f ≡ n → i ≡ i + size f
      passed f s c = let z : f ≡ nil = none_of f (omega (arith, c)) in rw z (omega arith)

  -- ---- a loop

  module _ {F : Maker} {from n at : ℕ} {o₀ : List ℕ} where
    pub going-all : ReadyToWrite F w t from n o₀ at → WrittenSoFar F w t from n o₀ at o₀ from n at
    going-all y = record { ready = y; later = omega arith; kept = refl; rest = λ o' j q a. a }

    pub going_again : {G : Maker} {k m i left next j q : ℕ} {o o' : List ℕ} → Cuts k left m F G F → WrittenSoFar F w t from n o₀ at o i left next → Wrote G w t i k o next o' j q → WrittenSoFar F w t from n o₀ at o' j m q
    going_again e g a =
        record {
          ready = ready_rest e a g.ready;
          later = omega (arith, g.later, wrote_later (ready_cut e g.ready) a);
          kept = wrote_kept (ready_cut e g.ready) a ∙ g.kept;
          rest = λ o₂ j₂ q₂ b. g.rest o₂ j₂ q₂ (wrote_cut e a b);
        }

    pub going-none : {i left next : ℕ} {o : List ℕ} → F [] ≡ [] → left ≤ 0 → WrittenSoFar F w t from n o₀ at o i left next → Wrote F w t from n o₀ at o i next
    going-none e h g = g.rest _ _ _ (wrote_none h e)

  -- ---- a value

  module _ {i : ℕ} {o : List ℕ} {at : ℕ} where
    single_of : (f : Forest) → Stands w t i f → count f ≡ 1 → Room o at (joined (images f)) → Single w t i o at
    unfolding Stands count images joined
    single_of nil s c r = absurd (omega arith)
    single_of (node l c nil) s q r = record { label = l; inside = c; says = s.0; stands = s.1; room = rw append-nil at r }
    single_of (node l c (node m d f)) s q r = absurd (omega arith)

    module _ (y : ReadyToWrite joined w t i 1 o at) where
      single : Single w t i o at
      single = single_of y.values y.stands y.counted y.room

      pub value-reads : Reads w t i
      value-reads = single.says.reads

      pub value_room : Room o at (opening (label_at w t i))
      value_room = rw single.says.label (room_first _ single.room)

      pub value_inside : {o₁ : List ℕ} {p : ℕ} → Put o at (opening (label_at w t i)) o₁ p → ReadyToWrite (contents (label_at w t i)) w t (i + 1) (arity_at w i) o₁ p
      value_inside x =
          record {
            values = single.inside;
            stands = single.stands;
            counted = sym single.says.arity;
            room = rw single.says.label (room_then _ (rw single.says.label at x) single.room);
          }

  pub value_wrote : {i at p j q : ℕ} {o o₁ o₂ : List ℕ} → Put o at (opening (label_at w t i)) o₁ p → Wrote (contents (label_at w t i)) w t (i + 1) (arity_at w i) o₁ p o₂ j q → Wrote joined w t i 1 o at o₂ j q
  unfolding Stands count size images joined
  value_wrote {i} {at} {p} {j} {q} {o} {o₁} {o₂} x a = record { puts = puts; passed = passed }
    where
      puts : (f : Forest) → Stands w t i f → count f ≡ 1 → Put o at (joined (images f)) o₂ q
      puts nil s c = absurd (omega arith)
      puts (node l c nil) s e = rw append-nil (rw s.0.label at (put_then x (a.puts c s.1 (sym s.0.arity))))
      puts (node l c (node m d f)) s e = absurd (omega arith)

      passed : (f : Forest) → Stands w t i f → count f ≡ 1 → j ≡ i + size f
      passed nil s c = absurd (omega arith)
      passed (node l c nil) s e = omega (arith, a.passed c s.1 (sym s.0.arity))
      passed (node l c (node m d f)) s e = absurd (omega arith)

  pub value_arity : {i : ℕ} {o : List ℕ} {at : ℕ} → ReadyToWrite joined w t i 1 o at → arity_at w i ≤ length w
  value_arity {i} y =
      let x = single y in
      omega (arith, x.says.arity, count-size x.inside, inside w t x.inside (i + 1) x.stands (omega (arith, x.says.reads.inside)))

-- ---- how the loops' makers are cut

pub joined-none : joined [] ≡ []
unfolding joined
joined-none = refl

pub joined_cuts : (n : ℕ) → 0 < n → Cuts 1 n (n - 1) joined joined joined
unfolding joined
joined_cuts n h = record { sum = omega arith; cuts = cuts }
  where
    cuts : (s : List (List ℕ)) → length s ≡ n → joined s ≡ joined (take 1 s) ++ joined (drop 1 s)
    cuts [] e = absurd (omega arith)
    cuts (x ∷ s) e = rw (append-nil x)

pub size-some : (e : Bool) → 0 < batch_size e
unfolding batch_size
size-some true = omega arith
size-some false = omega arith

module _ (e : Bool) where
  -- the fuel never shows
  fuel : (k m : ℕ) (s : List (List ℕ)) → length s ≤ k → length s ≤ m → batches_up_to k e s ≡ batches_up_to m e s
  unfolding batches_up_to
  fuel zero zero [] h g = refl
  fuel zero (suc m) [] h g = refl
  fuel (suc k) zero [] h g = refl
  fuel (suc k) (suc m) [] h g = refl
  fuel zero m (x ∷ s) h g = absurd (omega arith)
  fuel (suc k) zero (x ∷ s) h g = absurd (omega arith)
  fuel (suc k) (suc m) (x ∷ s) h g =
      let r = drop (batch_size e) (x ∷ s) in
      let l : length r ≡ suc (length s) - batch_size e = length-drop (batch_size e) (x ∷ s) in
      ap (λ (y : List ℕ). one_batch e (take (batch_size e) (x ∷ s)) ++ y) (fuel k m r (omega (arith, size-some e)) (omega (arith, size-some e)))

  take_min : (b n : ℕ) (s : List (List ℕ)) → length s ≡ n → take (min b n) s ≡ take b s
  take_min b n s q =
      by_lt n b (λ l. let m : min b n ≡ n = omega arith in rw m (take_all n s (omega arith) ∙ sym (take_all b s (omega arith)))) (λ l. let m : min b n ≡ b = omega arith in rw m)

  drop_min : (b n : ℕ) (s : List (List ℕ)) → length s ≡ n → drop (min b n) s ≡ drop b s
  drop_min b n s q =
      by_lt n b (λ l. let m : min b n ≡ n = omega arith in rw m (drop_of_length-le s {i = n} (omega arith) ∙ sym (drop_of_length-le s {i = b} (omega arith)))) (λ l. let m : min b n ≡ b = omega arith in rw m)

  pub batches_cuts : (n : ℕ) → 0 < n → Cuts (min (batch_size e) n) n (n - min (batch_size e) n) (batches e) (one_batch e) (batches e)
  unfolding batches batches_up_to
  batches_cuts n h = record { sum = omega arith; cuts = cuts }
    where
      cuts : (s : List (List ℕ)) → length s ≡ n → batches e s ≡ one_batch e (take (min (batch_size e) n) s) ++ batches e (drop (min (batch_size e) n) s)
      cuts [] q = absurd (omega arith)
      cuts (x ∷ s) q =
          let b = batch_size e in
          let r = drop b (x ∷ s) in
          let l : length r ≡ suc (length s) - b = length-drop b (x ∷ s) in
          rw (take_min b n (x ∷ s) q, drop_min b n (x ∷ s) q) (ap (λ (y : List ℕ). one_batch e (take b (x ∷ s)) ++ y) (fuel (length s) (length r) r (omega (arith, size-some e)) (omega arith)))

  pub batches-none : batches e [] ≡ []
  unfolding batches batches_up_to
  batches-none = refl
