-- What a reading is lent besides the pickle: eleven rooms and the two outputs, table and text, in one order, each with a stated length in
-- elements. Slices are a list of their contents in this order, and what is said of all of them goes by the list of lengths.
use Prim.Native.Nat.{ℕ, suc, zero, ◌+◌, ◌≤◌}
use Rattle.std.specs.Prelude.{Bool, true, false, cond, ◌||◌, ◌≡◌, refl, length, get_or, take, drop, ltb}
use Rattle.std.proofs.Math.Bool.{or-false, or_assoc}
use mathlib.Core.List.{List, [], ◌∷◌, ◌++◌, map}
use Rattle.std.proofs.Common.{sym, ◌∙◌, ap₂, subst, length-append, length-drop, length-set, drop_at, get_or-drop, get_or-set_same, get_or-set_other, ltb-false, le-ltb, arith}
use Rattle.std.proofs.Math.Path.{ap}
use Rattle.std.proofs.Math.ListN.{set, replicate, length-replicate}
use Rattle.std.proofs.Math.Seq.{take_at, take-set-le}
use Rattle.std.proofs.lemmas.List.{set-get_or}
use Rattle.rooms.specs.Cleared.{cleared}

abbrev pub Slices : Type 0
Slices = List (List ℕ)

-- the machine's rooms: nodes, owners, children, stack, marks, keys, held
abbrev pub machine_lengths : List ℕ
machine_lengths = 8192 ∷ 8192 ∷ 8192 ∷ 2048 ∷ 256 ∷ 2048 ∷ 1024 ∷ []

-- the builder's: unescaped, starts, sorted, measures
abbrev pub builder_lengths : List ℕ
builder_lengths = 65536 ∷ 4098 ∷ 16384 ∷ 4096 ∷ []

abbrev pub room_lengths : List ℕ
room_lengths = machine_lengths ++ builder_lengths

-- table, text
abbrev pub output_lengths : List ℕ
output_lengths = 8192 ∷ 65536 ∷ []

abbrev pub stated : List ℕ
stated = room_lengths ++ output_lengths

-- the outputs, at the places 11 and 12
abbrev pub table_slice : Slices → List ℕ
table_slice l = get_or l 11 []

abbrev pub text_slice : Slices → List ℕ
text_slice l = get_or l 12 []

-- ---- what a reading asks of its slices, and what it leaves

-- some slice is shorter than its length, or not there
unfoldable pub short : List ℕ → Slices → Bool
short [] l = false
short (n ∷ ns) [] = true
short (n ∷ ns) (s ∷ l) = ltb (length s) n || short ns l

-- each slice zero up to its length; those behind the last length as they are
unfoldable pub blank : List ℕ → Slices → Slices
blank [] l = l
blank (n ∷ ns) [] = []
blank (n ∷ ns) (s ∷ l) = cleared n s ∷ blank ns l

-- a slice that begins with w
abbrev pub begun : List ℕ → List ℕ → List ℕ
begun w s = w ++ drop (length w) s

-- the rooms as they are, table and text begun with these
unfoldable pub filled : List ℕ → List ℕ → Slices → Slices
filled words bytes l = set (set l 11 (begun words (table_slice l))) 12 (begun bytes (text_slice l))

-- no slice is short and all rooms are zero: what the inner reading asks
pub record Ready (l : Slices) : Type 0 where
  pub long : short stated l ≡ false
  pub zero : blank room_lengths l ≡ l

-- ---- slice by slice

-- each is there and as long as stated, or longer
abbrev pub Long : List ℕ → Slices → Type 0
Long [] l = Unit {0}
Long (n ∷ ns) [] = ⊥
Long (n ∷ ns) (s ∷ l) = (n ≤ length s) × Long ns l

-- each is zero up to its length
abbrev pub AllZero : List ℕ → Slices → Type 0
AllZero [] l = Unit {0}
AllZero (n ∷ ns) [] = ⊥
AllZero (n ∷ ns) (s ∷ l) = (take n s ≡ replicate n 0) × AllZero ns l

-- lists of slices are the same slice by slice
pub same_slices : {s t : List ℕ} {l m : Slices} → s ≡ t → l ≡ m → s ∷ l ≡ t ∷ m
same_slices e f = ap₂ (λ (x : List ℕ) (y : Slices). x ∷ y) e f

true_false : true ≡ false → ⊥
true_false q = subst (λ (x : Bool). cond x (Unit {0}) ⊥) q tt

neither : (a b : Bool) → (a || b) ≡ false → (a ≡ false) × (b ≡ false)
neither false b e = (refl, e)
neither true b e = absurd (true_false e)

pub long : (ns : List ℕ) (l : Slices) → short ns l ≡ false → Long ns l
unfolding short
long [] l e = tt
long (n ∷ ns) [] e = true_false e
long (n ∷ ns) (s ∷ l) e = let x = neither (ltb (length s) n) (short ns l) e in (ltb-false (length s) n x.0, long ns l x.1)

-- and those in front
pub long_front : (ns ms : List ℕ) (l : Slices) → Long (ns ++ ms) l → Long ns l
long_front [] ms l h = tt
long_front (n ∷ ns) ms [] h = h
long_front (n ∷ ns) ms (s ∷ l) h = (h.0, long_front ns ms l h.1)

-- one length after the other, as code tests them
unfoldable pub short_from : Bool → List ℕ → List ℕ → Bool
short_from b [] l = b
short_from b (n ∷ ns) [] = true
short_from b (n ∷ ns) (k ∷ l) = short_from (b || ltb k n) ns l

pub short-from : (b : Bool) (ns : List ℕ) (l : Slices) → short_from b ns (map length l) ≡ (b || short ns l)
unfolding short short_from
short-from b [] l = sym (or-false b)
short-from false (n ∷ ns) [] = refl
short-from true (n ∷ ns) [] = refl
short-from b (n ∷ ns) (s ∷ l) = short-from (b || ltb (length s) n) ns l ∙ or_assoc b (ltb (length s) n) (short ns l)

-- ---- a room made zero

module _ (n : ℕ) (s : List ℕ) where
  zero_part : take n (cleared n s) ≡ replicate n 0
  unfolding cleared
  zero_part = take_at (replicate n 0) (drop n s) n (length-replicate n 0)

  cleared_again : cleared n (cleared n s) ≡ cleared n s
  unfolding cleared
  cleared_again = ap (λ (x : List ℕ). replicate n 0 ++ x) (drop_at (replicate n 0) (drop n s) n (length-replicate n 0))

  cleared-length : n ≤ length s → length (cleared n s) ≡ length s
  unfolding cleared
  cleared-length h = rw (length-append, length-replicate, length-drop) (omega arith)

-- ---- all of them made zero

blank_again : (ns : List ℕ) (l : Slices) → blank ns (blank ns l) ≡ blank ns l
unfolding blank
blank_again [] l = refl
blank_again (n ∷ ns) [] = refl
blank_again (n ∷ ns) (s ∷ l) = same_slices (cleared_again n s) (blank_again ns l)

blank-long : (ns ms : List ℕ) (l : Slices) → short (ns ++ ms) l ≡ false → short (ns ++ ms) (blank ns l) ≡ false
unfolding short blank
blank-long [] ms l e = e
blank-long (n ∷ ns) ms [] e = e
blank-long (n ∷ ns) ms (s ∷ l) e =
    let x = neither (ltb (length s) n) (short (ns ++ ms) l) e in
    let h : n ≤ length s = ltb-false (length s) n x.0 in
    rw (cleared-length n s h, le-ltb (length s) n h) (blank-long ns ms l x.1)

pub ready : (l m : Slices) → short stated l ≡ false → m ≡ blank room_lengths l → Ready m
ready l m e z = rw z (record { long = blank-long room_lengths output_lengths l e; zero = blank_again room_lengths l })

all_zero : (ns ms : List ℕ) (l : Slices) → short (ns ++ ms) l ≡ false → blank ns l ≡ l → AllZero ns l
unfolding short blank
all_zero [] ms l e z = tt
all_zero (n ∷ ns) ms [] e z = true_false e
all_zero (n ∷ ns) ms (s ∷ l) e z = (ap (λ (m : Slices). take n (get_or m 0 [])) (sym z) ∙ zero_part n s, all_zero ns ms l (neither (ltb (length s) n) (short (ns ++ ms) l) e).1 (ap (drop 1) z))

pub rooms_zero : (l : Slices) → Ready l → AllZero room_lengths l
rooms_zero l r = all_zero room_lengths output_lengths l r.long r.zero

-- ---- the outputs

enough : (ns : List ℕ) (l : Slices) → short ns l ≡ false → length ns ≤ length l
unfolding short
enough [] l e = omega arith
enough (n ∷ ns) [] e = absurd (true_false e)
enough (n ∷ ns) (s ∷ l) e = let x = enough ns l (neither (ltb (length s) n) (short ns l) e).1 in omega arith

behind : (ns : List ℕ) (l : Slices) → drop (length ns) (blank ns l) ≡ drop (length ns) l
unfolding blank
behind [] l = refl
behind (n ∷ ns) [] = refl
behind (n ∷ ns) (s ∷ l) = behind ns l

pub filled_none : (l : Slices) → filled [] [] l ≡ l
unfolding filled
filled_none l = rw (set-get_or l 11 []) (set-get_or l 12 [])

module _ (l : Slices) (w b : List ℕ) (h : 13 ≤ length l) where
  table-set : table_slice (set (set l 11 w) 12 b) ≡ w
  table-set = get_or-set_other (set l 11 w) 12 11 b [] (λ q. omega arith) ∙ get_or-set_same l 11 w [] (omega arith)

  text-set : text_slice (set (set l 11 w) 12 b) ≡ b
  text-set = get_or-set_same (set l 11 w) 12 b [] (rw length-set (omega arith))

-- after a reading in slices that were made zero
module _ (words bytes : List ℕ) (l : Slices) (e : short stated l ≡ false) where
  all_there : 13 ≤ length (blank room_lengths l)
  all_there = enough stated (blank room_lengths l) (blank-long room_lengths output_lengths l e)

  output_kept : (i : ℕ) → get_or (blank room_lengths l) (11 + i) [] ≡ get_or l (11 + i) []
  output_kept i = sym (get_or-drop 11 (blank room_lengths l) i []) ∙ ap (λ (m : Slices). get_or m i []) (behind room_lengths l) ∙ get_or-drop 11 l i []

  pub table_filled : table_slice (filled words bytes (blank room_lengths l)) ≡ begun words (table_slice l)
  unfolding filled
  table_filled = table-set (blank room_lengths l) _ _ all_there ∙ ap (begun words) (output_kept 0)

  pub text-filled : text_slice (filled words bytes (blank room_lengths l)) ≡ begun bytes (text_slice l)
  unfolding filled
  text-filled = text-set (blank room_lengths l) (begun words (table_slice (blank room_lengths l))) _ all_there ∙ ap (begun bytes) (output_kept 1)

-- ---- filled slices are ready again

-- a slice behind the lengths that has become another
blank-set : (ns : List ℕ) (l : Slices) (i : ℕ) (x : List ℕ) → length ns ≤ i → blank ns (set l i x) ≡ set (blank ns l) i x
unfolding blank
blank-set [] l i x h = refl
blank-set (n ∷ ns) [] i x h = refl
blank-set (n ∷ ns) (s ∷ l) zero x h = absurd (omega arith)
blank-set (n ∷ ns) (s ∷ l) (suc i) x h = same_slices refl (blank-set ns l i x (omega arith))

-- a slice that has become one as long, or longer
long-set : (ns : List ℕ) (l : Slices) (i : ℕ) (x : List ℕ) → length (get_or l i []) ≤ length x → short ns l ≡ false → short ns (set l i x) ≡ false
unfolding short
long-set [] l i x h e = refl
long-set (n ∷ ns) [] i x h e = e
long-set (n ∷ ns) (s ∷ l) zero x h e =
    let y = neither (ltb (length s) n) (short ns l) e in
    let z = ltb-false (length s) n y.0 in
    rw (le-ltb (length x) n (omega arith)) y.1
long-set (n ∷ ns) (s ∷ l) (suc i) x h e = let y = neither (ltb (length s) n) (short ns l) e in rw y.0 (long-set ns l i x h y.1)

begun-long : (w s : List ℕ) → length s ≤ length (begun w s)
begun-long w s = rw (length-append, length-drop) (omega arith)

module _ (words bytes : List ℕ) (l : Slices) where
  text_other : get_or (set l 11 (begun words (table_slice l))) 12 [] ≡ text_slice l
  text_other = get_or-set_other l 11 12 (begun words (table_slice l)) [] (λ q. omega arith)

  pub filled_ready : Ready l → Ready (filled words bytes l)
  unfolding filled
  filled_ready r = record {
    long = long-set stated (set l 11 (begun words (table_slice l))) 12 (begun bytes (text_slice l)) (rw text_other (begun-long bytes (text_slice l))) (long-set stated l 11 (begun words (table_slice l)) (begun-long words (table_slice l)) r.long);
    zero =
        blank-set room_lengths (set l 11 (begun words (table_slice l))) 12 (begun bytes (text_slice l)) (omega arith)
        ∙ ap (λ (m : Slices). set m 12 (begun bytes (text_slice l))) (blank-set room_lengths l 11 (begun words (table_slice l)) (omega arith) ∙ ap (λ (m : Slices). set m 11 (begun words (table_slice l))) r.zero);
  }

  -- the rooms are as they were
  pub rooms-filled : take 11 (filled words bytes l) ≡ take 11 l
  unfolding filled
  rooms-filled = take-set-le 11 (set l 11 (begun words (table_slice l))) 12 (begun bytes (text_slice l)) (omega arith) ∙ take-set-le 11 l 11 (begun words (table_slice l)) (omega arith)

  -- and the outputs begin anew
  module _ (r : Ready l) where
    pub table_again : table_slice (filled words bytes l) ≡ begun words (table_slice l)
    table_again = ap (λ (m : Slices). table_slice (filled words bytes m)) (sym r.zero) ∙ table_filled words bytes l r.long

    pub text_again : text_slice (filled words bytes l) ≡ begun bytes (text_slice l)
    text_again = ap (λ (m : Slices). text_slice (filled words bytes m)) (sym r.zero) ∙ text-filled words bytes l r.long
