-- One law for each turn and each end of the code's loops, on plain values. Assumes nothing.
use Prim.Native.Nat.{ℕ, ◌+◌, ◌-◌, ◌≤◌, ◌<◌}
use mathlib.Core.Bool.{Bool, true, false, ◌&&◌}
use mathlib.Core.List.{List, [], ◌∷◌, ◌++◌, append_assoc, append-nil}
use mathlib.Core.Path.{◌≡◌, refl, sym, ◌∙◌, ap}
use native.Mathlib.Omega.{arith}
use Rattle.std.proofs.Common.{add-one, drop_of_length-le}
use lib.ListN.{length, length-append, length-take, length-drop, get_or, take, drop}
use lib.Seq.{drop-cons, drop-drop, take-add}
use borrow.Author.Tests.{ne_eqb}
use Rattle.utf8.specs.Rows.{and_left, and_right}
use Rattle.output.specs.Decimal.{figures}
use Rattle.output.specs.Put.{Put, Room, StillToPut, left_more, left_room, room_first}
use Rattle.list.specs.Listing.{printable, listed_byte, listed_text}
use Rattle.list.specs.Verbatim.{Verbatim, VerbatimTo}

-- ---- what the branches write

pub listed_slash : {b : ℕ} → b ≡ 0x5C → listed_byte b ≡ 0x5C ∷ 0x5C ∷ []
unfolding listed_byte
listed_slash e = rw e

pub listed-printable : {b : ℕ} → (b ≡ 0x5C → ⊥) → printable b ≡ true → listed_byte b ≡ b ∷ []
unfolding listed_byte
listed-printable {b} n h = rw (ne_eqb b 0x5C n, h)

pub listed_escape : {b : ℕ} → (b ≡ 0x5C → ⊥) → printable b ≡ false → listed_byte b ≡ (0x5C ∷ 0x78 ∷ []) ++ figures 16 2 b
unfolding listed_byte
listed_escape {b} n h = rw (ne_eqb b 0x5C n, h)

-- ---- bytes that are listed as they are

listed-append : (a b : List ℕ) → listed_text (a ++ b) ≡ listed_text a ++ listed_text b
unfolding listed_text
listed-append [] b = refl
listed-append (x ∷ a) b = ap (λ (s : List ℕ). listed_byte x ++ s) (listed-append a b) ∙ sym (append_assoc (listed_byte x) (listed_text a) (listed_text b))

part_add : (t : List ℕ) (i m n : ℕ) → take (m + n) (drop i t) ≡ take m (drop i t) ++ take n (drop (i + m) t)
part_add t i m n = take-add m n (drop i t) ∙ rw (drop-drop m i t)

pub listed_one : (t : List ℕ) (i : ℕ) → i < length t → listed_text (take 1 (drop i t)) ≡ listed_byte (get_or t i 0)
unfolding listed_text
listed_one t i l = rw (drop-cons t i 0 l) (append-nil (listed_byte (get_or t i 0)))

pub verbatim_one : {a : Bool} (t : List ℕ) (i : ℕ) → i < length t → (a ≡ true → listed_byte (get_or t i 0) ≡ get_or t i 0 ∷ []) → a ≡ true → Verbatim t i 1
verbatim_one t i l x h = listed_one t i l ∙ x h ∙ rw (drop-cons t i 0 l)

verbatim_then : (t : List ℕ) (i m n : ℕ) → Verbatim t i m → Verbatim t (i + m) n → Verbatim t i (m + n)
verbatim_then t i m n x y = rw (part_add t i m n) (listed-append (take m (drop i t)) (take n (drop (i + m) t)) ∙ rw (x, y))

verbatim_length : (t : List ℕ) (i n : ℕ) → i + n ≤ length t → Verbatim t i n → n ≡ length (listed_text (take n (drop i t)))
verbatim_length t i n h x = omega (arith, ap length x, length-take n (drop i t), length-drop i t)

-- two tests made together
pub both : {a b : Bool} (t : List ℕ) (i m n : ℕ) → (a ≡ true → Verbatim t i m) → (b ≡ true → Verbatim t (i + m) n) → (a && b) ≡ true → Verbatim t i (m + n)
both {a} {b} t i m n x y h = verbatim_then t i m n (x (and_left a b h)) (y (and_right a b h))

pub run_none : (t : List ℕ) (i e : ℕ) → i ≤ e → VerbatimTo t i e i
unfolding listed_text
run_none t i e h = let k : i - i ≡ 0 = omega arith in record { ahead = omega arith; within = h; same = rw k }

pub run_more : {t : List ℕ} {i e j : ℕ} (n : ℕ) → j + n ≤ e → Verbatim t j n → VerbatimTo t i e j → VerbatimTo t i e (j + n)
run_more {t} {i} {e} {j} n h y r =
    let k : j + n - i ≡ j - i + n = omega (arith, r.ahead) in
    let s : i + (j - i) ≡ j = omega (arith, r.ahead) in
    record { ahead = omega (arith, r.ahead); within = h; same = rw k (verbatim_then t i (j - i) n r.same (rw s y)) }

-- ---- the bytes behind the first i

listed_drop : (t : List ℕ) (i d : ℕ) → i < length t → listed_text (drop i t) ≡ listed_byte (get_or t i d) ++ listed_text (drop (i + 1) t)
unfolding listed_text
listed_drop t i d h = rw (drop-cons t i d h, add-one i)

pub length_drop : (t : List ℕ) (i d : ℕ) → i < length t → length (listed_text (drop i t)) ≡ length (listed_byte (get_or t i d)) + length (listed_text (drop (i + 1) t))
length_drop t i d h = ap length (listed_drop t i d h) ∙ length-append (listed_byte (get_or t i d)) _

pub drop-none : (t : List ℕ) (i : ℕ) → length t ≤ i → listed_text (drop i t) ≡ []
unfolding listed_text
drop-none t i h = rw (drop_of_length-le t h)

module _ (t : List ℕ) (i d : ℕ) (h : i < length t) {o₀ b o : List ℕ} {at p : ℕ} (x : StillToPut o₀ at b o p (listed_text (drop i t))) where
  pub byte_room : Room o₀ at b → Room o p (listed_byte (get_or t i d))
  byte_room m = room_first (listed_text (drop (i + 1) t)) (left_room m (rw (listed_drop t i d h) at x))

  pub byte_left : {o' : List ℕ} {p' : ℕ} → Put o p (listed_byte (get_or t i d)) o' p' → StillToPut o₀ at b o' p' (listed_text (drop (i + 1) t))
  byte_left y = left_more (listed_text (drop (i + 1) t)) (rw (listed_drop t i d h) at x) y

-- ---- the bytes from i to the end

abbrev pub rest : List ℕ → ℕ → ℕ → List ℕ
rest t e i = listed_text (take (e - i) (drop i t))

pub rest_all : (t : List ℕ) (from count : ℕ) → rest t (from + count) from ≡ listed_text (take count (drop from t))
rest_all t from count = let e : from + count - from ≡ count = omega arith in rw e

rest_part : (t : List ℕ) (e i n : ℕ) → i + n ≤ e → rest t e i ≡ listed_text (take n (drop i t)) ++ rest t e (i + n)
rest_part t e i n h = let k : e - i ≡ n + (e - (i + n)) = omega arith in rw (k, part_add t i n (e - (i + n))) (listed-append (take n (drop i t)) (take (e - (i + n)) (drop (i + n) t)))

pub rest-length : (t : List ℕ) (e i n : ℕ) → i + n ≤ e → length (rest t e i) ≡ length (listed_text (take n (drop i t))) + length (rest t e (i + n))
rest-length t e i n h = ap length (rest_part t e i n h) ∙ length-append (listed_text (take n (drop i t))) (rest t e (i + n))

pub run_length : {t : List ℕ} {e i j : ℕ} → VerbatimTo t i e j → e ≤ length t → length (rest t e i) ≡ j - i + length (rest t e j)
run_length {t} {e} {i} {j} r l =
    let k : i + (j - i) ≡ j = omega (arith, r.ahead) in
    omega (arith, rw k at (rest-length t e i (j - i) (omega (arith, r.ahead, r.within))), verbatim_length t i (j - i) (omega (arith, r.ahead, r.within)) r.same)

module _ (t : List ℕ) (i n : ℕ) {e : ℕ} (h : i + n ≤ e) {o₀ b o : List ℕ} {at p : ℕ} (x : StillToPut o₀ at b o p (rest t e i)) where
  pub part_room : Room o₀ at b → Room o p (listed_text (take n (drop i t)))
  part_room m = room_first (rest t e (i + n)) (left_room m (rw (rest_part t e i n h) at x))

  pub part_left : {o' : List ℕ} {p' : ℕ} → Put o p (listed_text (take n (drop i t))) o' p' → StillToPut o₀ at b o' p' (rest t e (i + n))
  part_left y = left_more (rest t e (i + n)) (rw (rest_part t e i n h) at x) y
