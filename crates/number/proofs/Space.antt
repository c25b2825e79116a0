-- Laws of White_Space: which bytes are its forms, and how it is stripped from either end. Assumes nothing.
use Prim.Native.Nat.{ℕ, zero, suc, ◌-◌, ◌≤◌, ◌<◌}
use mathlib.Core.Bool.{Bool, true, false, ◌&&◌, ◌||◌, beq, and-false, and-true, or-false}
use mathlib.Core.List.{List, [], ◌∷◌, reverse, reverse-append, reverse-reverse}
use mathlib.Core.Logic.{⊎_elim}
use mathlib.Core.Path.{◌≡◌, refl, sym, ap, ◌∙◌}
use native.Mathlib.Nat.{not-suc-le-zero, eq-or-lt_of_le}
use native.Mathlib.Omega.{arith}
use borrow.Author.Tests.{ne_eqb}
use lib.Dec.{T, eqb, leb}
use lib.ListN.{length, get_or, take, drop, length-take, length-drop, length-reverse, take-append-drop}
use lib.Seq.{take_all, drop_at}
use Rattle.std.proofs.lemmas.List.{get_or-reverse}
use Rattle.utf8.specs.Utf8.{encode, trail}
use Rattle.input.specs.Bytes.{lt_or_le}
use Rattle.number.specs.Space.{white_space, spaces, same, one_of, space, width, strip}
use Rattle.number.specs.Trims.{and_parts, no_space, width_le, strip_more, strip-stop}

-- a test at each number below n
abbrev all : (ℕ → Bool) → ℕ → Bool
all p zero = true
all p (suc n) = p n && all p n

below : (p : ℕ → Bool) (n : ℕ) → T (all p n) → (k : ℕ) → k < n → T (p k)
below p zero t k h = absurd (not-suc-le-zero h)
below p (suc n) t k h =
    let u : T (p n) × T (all p n) = and_parts (p n) (all p n) t in
    ⊎_elim (λ e. rw e u.0) (λ l. below p n u.1 k l) (eq-or-lt_of_le {n = k} {m = n} (omega arith))

beq_eq : (x y : Bool) → T (beq x y) → x ≡ y
beq_eq true true t = refl
beq_eq true false t = absurd t
beq_eq false true t = absurd t
beq_eq false false t = refl

-- the table of White_Space at bytes that are not all known
unfoldable spelt : Unit {0}
unfolding white_space spaces same one_of space encode trail
spelt = tt

pub one_is : (a : ℕ) → a < 256 → space (a ∷ []) ≡ (eqb a 0x20 || (leb 0x09 a && leb a 0x0D))
unfolding spelt
one_is a h = beq_eq _ _ (below (λ a. beq (space (a ∷ [])) (eqb a 0x20 || (leb 0x09 a && leb a 0x0D))) 256 tt a h)

pub general_is : (c : ℕ) → c < 256 → space (0xE2 ∷ 0x80 ∷ c ∷ []) ≡ ((leb 0x80 c && leb c 0x8A) || (eqb c 0xA8 || (eqb c 0xA9 || eqb c 0xAF)))
unfolding spelt
general_is c h =
    beq_eq _ _
    (below (λ c. beq (space (0xE2 ∷ 0x80 ∷ c ∷ [])) ((leb 0x80 c && leb c 0x8A) || (eqb c 0xA8 || (eqb c 0xA9 || eqb c 0xAF)))) 256 tt c h)

module _ (a b : ℕ) where
  pub two_lead : (a ≡ 0xC2 → ⊥) → false ≡ space (a ∷ b ∷ [])
  unfolding spelt
  two_lead h = simp (ne_eqb a 0xC2 h, and-false)

  pub two_is : a ≡ 0xC2 → space (a ∷ b ∷ []) ≡ (eqb b 0x85 || eqb b 0xA0)
  unfolding spelt
  two_is e = rw e (simp (and-true, or-false))

module _ (a b c : ℕ) where
  pub three_e2 : a ≡ 0xE2 → (b ≡ 0x80 → ⊥) → space (a ∷ b ∷ c ∷ []) ≡ (eqb b 0x81 && eqb c 0x9F)
  unfolding spelt
  three_e2 e h = rw e (simp (ne_eqb b 0x80 h, and-true, or-false))

  pub three_rest : (a ≡ 0xE2 → ⊥) → space (a ∷ b ∷ c ∷ []) ≡ ((eqb a 0xE1 && (eqb b 0x9A && eqb c 0x80)) || (eqb a 0xE3 && (eqb b 0x80 && eqb c 0x80)))
  unfolding spelt
  three_rest h = simp (ne_eqb a 0xE2 h, and-false, and-true, or-false)

-- the first k of the bytes that `byte` numbers
abbrev pub firsts : (ℕ → ℕ) → ℕ → List ℕ
firsts byte zero = []
firsts byte (suc k) = byte 0 ∷ firsts (λ j. byte (suc j)) k

firsts_is : (s : List ℕ) (byte : ℕ → ℕ) (k : ℕ) → k ≤ length s → ((j : ℕ) → j < k → get_or s j 0 ≡ byte j) → take k s ≡ firsts byte k
firsts_is s byte zero h e = refl
firsts_is [] byte (suc k) h e = absurd (not-suc-le-zero h)
firsts_is (a ∷ s) byte (suc k) h e =
    let p : a ≡ byte 0 = e 0 (omega arith) in
    let q : take k s ≡ firsts (λ j. byte (suc j)) k = firsts_is s (λ j. byte (suc j)) k (omega arith) (λ j l. e (suc j) (omega arith)) in
    cc

-- The n bytes of s, which `byte` numbers, are looked at one after the other: so far k, and none of these beginnings is a form.
pub record NoSpaceSoFar (read : List ℕ → List ℕ) (s : List ℕ) (n : ℕ) (byte : ℕ → ℕ) (k : ℕ) : Type 0 where
  pub long : length s ≡ n
  pub is : (j : ℕ) → j < n → get_or s j 0 ≡ byte j
  pub none : (j : ℕ) → j < suc k → space (read (take j s)) ≡ false

-- the next was read, and r says whether they are a form with it
pub record Tested (read : List ℕ → List ℕ) (s : List ℕ) (n : ℕ) (byte : ℕ → ℕ) (k : ℕ) (r : Bool) : Type 0 where
  pub looked : NoSpaceSoFar read s n byte k
  pub is : r ≡ space (read (take (suc k) s))

module _ {read : List ℕ → List ℕ} {s : List ℕ} {n : ℕ} {byte : ℕ → ℕ} where
  module _ {k : ℕ} (l : NoSpaceSoFar read s n byte k) where
    pub tested : {r : Bool} → suc k ≤ n → r ≡ space (read (firsts byte (suc k))) → Tested read s n byte k r
    tested h e = record { looked = l; is = rw (firsts_is s byte (suc k) (omega (arith, l.long)) (λ j g. l.is j (omega arith))) e }

    -- no byte is left
    pub no_space_out : n < suc k → 0 ≡ width read s
    unfolding width
    no_space_out h = simp (no 1, no 2, no 3)
      where
        no : (j : ℕ) → space (read (take j s)) ≡ false
        no j = ⊎_elim (l.none j) (λ g. rw (take_all j s (omega (arith, l.long)), ← take_all k s (omega (arith, l.long))) (l.none k (omega arith))) (lt_or_le j (suc k))

  -- three bytes were looked at, and no form has more
  pub no_space-all : NoSpaceSoFar read s n byte 3 → 0 ≡ width read s
  unfolding width
  no_space-all l = simp (l.none 1 (omega arith), l.none 2 (omega arith), l.none 3 (omega arith))

  module _ {k : ℕ} {r : Bool} (a : Tested read s n byte k r) where
    pub tested_no : r ≡ false → NoSpaceSoFar read s n byte (suc k)
    tested_no f = record {
      long = a.looked.long;
      is = a.looked.is;
      none = λ j g. ⊎_elim (a.looked.none j) (λ m. let q : j ≡ suc k = omega arith in rw q (sym a.is ∙ f)) (lt_or_le j (suc k));
    }

    pub tested_yes : k < 3 → r ≡ true → suc k ≡ width read s
    unfolding width
    tested_yes h t = go k h a.looked.none (sym a.is ∙ t)
      where
        go : (k : ℕ) → k < 3 → ((j : ℕ) → j < suc k → space (read (take j s)) ≡ false) → space (read (take (suc k) s)) ≡ true → suc k ≡ width read s
        go zero h f t = simp t
        go (suc zero) h f t = simp (f 1 (omega arith), t)
        go (suc (suc zero)) h f t = simp (f 1 (omega arith), f 2 (omega arith), t)
        go (suc (suc (suc k))) h f t = absurd (omega arith)

-- before the first byte
no_byte : (read : List ℕ → List ℕ) (s : List ℕ) → read [] ≡ [] → (j : ℕ) → j < 1 → space (read (take j s)) ≡ false
no_byte read s e j h = let z : j ≡ 0 = omega arith in rw (z, e) no_space

module _ (s : List ℕ) where
  pub ahead : NoSpaceSoFar (λ p. p) s (length s) (λ j. get_or s j 0) 0
  ahead = record { long = refl; is = λ j h. refl; none = no_byte (λ p. p) s refl }

  pub behind : NoSpaceSoFar reverse (reverse s) (length s) (λ j. get_or s (length s - suc j) 0) 0
  behind = record {
    long = length-reverse s;
    is = λ j h. let e : length s - 1 - j ≡ length s - suc j = omega arith in get_or-reverse s j 0 h ∙ rw e;
    none = no_byte reverse (reverse s) refl;
  }

  -- what is left of the text
  module _ (k w : ℕ) (e : suc k ≡ w) where
    pub rest_is : (0 < w) × (take (length s - suc k) (drop (suc k) s) ≡ drop w s)
    rest_is = (omega arith, rw (← e) (take_all _ (drop (suc k) s) (omega (arith, length-drop (suc k) s))))

    pub front_is : (0 < w) × (take (length s - suc k) s ≡ take (length s - w) s)
    front_is = (omega arith, rw e)

-- a turn of `trim_start`'s loop
module _ (s t : List ℕ) (h : (0 < width (λ p. p) s) × (t ≡ drop (width (λ p. p) s) s)) where
  pub start_less : length t < length s
  start_less = rw (h.1, length-drop (width (λ p. p) s) s) (omega (arith, h.0, width_le (λ p. p) no_space s))

  pub start_more : strip (λ p. p) 0 t ≡ strip (λ p. p) 0 s
  start_more = rw h.1 (strip_more (λ p. p) s _ refl h.0)

pub start_stop : (s : List ℕ) → 0 ≡ width (λ p. p) s → s ≡ strip (λ p. p) 0 s
start_stop s z = sym (strip-stop (λ p. p) s z)

-- a beginning shorter by k, reversed, is the same less its first k
reverse-take : (s : List ℕ) (k : ℕ) → k ≤ length s → reverse (take (length s - k) s) ≡ drop k (reverse s)
reverse-take s k h =
    let d : length (reverse (drop (length s - k) s)) ≡ k = simp (length-reverse, length-drop) (omega arith) in
    sym (ap (drop k) (ap reverse (sym (take-append-drop (length s - k) s)) ∙ reverse-append (take (length s - k) s) (drop (length s - k) s)) ∙ drop_at (reverse (drop (length s - k) s)) (reverse (take (length s - k) s)) k d)

-- a turn of `trim_end`'s loop
module _ (s t : List ℕ) (h : (0 < width reverse (reverse s)) × (t ≡ take (length s - width reverse (reverse s)) s)) where
  wide : width reverse (reverse s) ≤ length s
  wide = rw length-reverse at (width_le reverse no_space (reverse s))

  pub end_less : length t < length s
  end_less = rw (h.1, length-take (length s - width reverse (reverse s)) s) (omega (arith, h.0, wide))

  pub end_more : strip reverse 0 (reverse t) ≡ strip reverse 0 (reverse s)
  end_more = rw (h.1, reverse-take s _ wide) (strip_more reverse (reverse s) _ refl h.0)

pub end_stop : (s : List ℕ) → 0 ≡ width reverse (reverse s) → s ≡ reverse (strip reverse 0 (reverse s))
end_stop s z = rw (strip-stop reverse (reverse s) z) (sym (reverse-reverse s))
