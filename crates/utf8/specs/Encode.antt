-- The UTF-8 form of a code point has the length that Table 3-6 says, and is well formed unless the code point is a surrogate or too large.
use Rattle.std.specs.Prelude.{ℕ, suc, zero, ◌+◌, ◌/◌, ◌%◌, ◌≤◌, ◌<◌, Bool, ◌&&◌, ◌||◌, List, [], ◌∷◌, ◌⊎◌, ◌≡◌, length, get_or, leb}
use native.Mathlib.Omega.{arith}
use Rattle.std.proofs.Math.Decide.{dec_lt}
use Rattle.std.proofs.Math.Bool.{true, false}
use Rattle.std.proofs.Math.Logic.{inl, inr}
use Rattle.std.proofs.Math.Path.{refl}
use Rattle.std.proofs.Math.Dec.{ltb}
use borrow.Author.Tests.{le-leb, lt-leb, lt-ltb, le-ltb, ltb-true, leb-true}
use Rattle.utf8.specs.Utf8.{ByteRow, table37, in_column, whole_row, some, well_formed, scalar, trail, encode, valid}
use Rattle.utf8.specs.Laws.{valid_one}
use Rattle.utf8.specs.Rows.{and_left, and_right}

module _ (c : ℕ) where
  pub encode_one : c < 0x80 → encode c ≡ c ∷ []
  unfolding encode
  encode_one h = rw (lt-ltb c 0x80 h)

  pub encode_two : 0x80 ≤ c → c < 0x800 → encode c ≡ (0xC0 + c / 0x40) ∷ trail c ∷ []
  unfolding encode
  encode_two l h = rw (le-ltb c 0x80 l, lt-ltb c 0x800 h)

  pub encode-three : 0x800 ≤ c → c < 0x10000 → encode c ≡ (0xE0 + c / 0x1000) ∷ trail (c / 0x40) ∷ trail c ∷ []
  unfolding encode
  encode-three l h = rw (le-ltb c 0x80 (omega arith), le-ltb c 0x800 l, lt-ltb c 0x10000 h)

  pub encode-four : 0x10000 ≤ c → encode c ≡ (0xF0 + c / 0x40000) ∷ trail (c / 0x1000) ∷ trail (c / 0x40) ∷ trail c ∷ []
  unfolding encode
  encode-four l = rw (le-ltb c 0x80 (omega arith), le-ltb c 0x800 (omega arith), le-ltb c 0x10000 l)

-- row k of the table has the bytes
some_at : (p : ByteRow → Bool) (t : List ByteRow) (k : ℕ) → k < length t → p (get_or t k []) ≡ true → some p t ≡ true
unfolding some
some_at p [] k l h = let z : ◌≡◌ {A = ℕ} 0 1 = omega arith in cc
some_at p (r ∷ t) zero l h = rw h
some_at p (r ∷ t) (suc k) l h = go (p r) (some_at p t k (omega arith) h)
  where
    go : (x : Bool) → some p t ≡ true → (x || some p t) ≡ true
    go true e = refl
    go false e = e

within_at : (e : ℕ × ℕ) (b : ℕ) → e.0 ≤ b → b ≤ e.1 → in_column e b ≡ true
unfolding in_column
within_at e b l h = rw (le-leb e.0 b l, le-leb b e.1 h)

trail-within : (x : ℕ) → in_column (0x80, 0xBF) (trail x) ≡ true
unfolding trail
trail-within x = within_at (0x80, 0xBF) (0x80 + x % 0x40) (omega arith) (omega arith)

-- bytes of row k: the first two in its first two columns, and the others as its others ask
module _ (k : ℕ) {e f : ℕ × ℕ} {r : ByteRow} (q : get_or table37 k [] ≡ e ∷ f ∷ r) where
  fits_row : (x y : ℕ) (u : List ℕ) → (k < 9) × (e.0 ≤ x) × (x ≤ e.1) × (f.0 ≤ y) × (y ≤ f.1)
      → whole_row r u ≡ true → well_formed (x ∷ y ∷ u) ≡ true
  unfolding well_formed whole_row
  fits_row x y u b h = some_at _ table37 k b.0 (rw (q, within_at e x b.1 b.2, within_at f y b.3 b.4, h))

pub by_lt : {A : Type 0} (c n : ℕ) → (c < n → A) → (n ≤ c → A) → A
by_lt c n f g = elim (dec_lt c n) [ yes h ↦ f h | no h ↦ g (omega arith) ]

module _ (c : ℕ) where
  rest_two : whole_row [] [] ≡ true
  unfolding whole_row
  rest_two = refl

  rest-three : whole_row ((0x80, 0xBF) ∷ []) (trail c ∷ []) ≡ true
  unfolding whole_row
  rest-three = rw (trail-within c)

  rest-four : whole_row ((0x80, 0xBF) ∷ (0x80, 0xBF) ∷ []) (trail (c / 0x40) ∷ trail c ∷ []) ≡ true
  unfolding whole_row
  rest-four = rw (trail-within (c / 0x40), trail-within c)

  well_one : c < 0x80 → well_formed (encode c) ≡ true
  unfolding well_formed whole_row
  well_one h = rw (encode_one c h) (some_at _ table37 0 (omega arith) (rw (within_at (0x00, 0x7F) c (omega arith) (omega arith))))

  well_two : 0x80 ≤ c → c < 0x800 → well_formed (encode c) ≡ true
  unfolding trail
  well_two l h = rw (encode_two c l h) (fits_row 1 refl _ _ _ (omega arith) rest_two)

  well_three : 0x800 ≤ c → c < 0x10000 → (c < 0xD800) ⊎ (0xE000 ≤ c) → well_formed (encode c) ≡ true
  unfolding trail
  well_three l h (inl s) =
      rw (encode-three c l h)
      (by_lt c 0x1000 (λ m. fits_row 2 refl _ _ _ (omega arith) rest-three)
      (λ m. by_lt c 0xD000 (λ n. fits_row 3 refl _ _ _ (omega arith) rest-three)
      (λ n. fits_row 4 refl _ _ _ (omega arith) rest-three)))
  well_three l h (inr s) = rw (encode-three c l h) (fits_row 5 refl _ _ _ (omega arith) rest-three)

  well_four : 0x10000 ≤ c → c < 0x110000 → well_formed (encode c) ≡ true
  unfolding trail
  well_four l h =
      rw (encode-four c l)
      (by_lt c 0x40000 (λ m. fits_row 6 refl _ _ _ (omega arith) rest-four)
      (λ m. by_lt c 0x100000 (λ n. fits_row 7 refl _ _ _ (omega arith) rest-four)
      (λ n. fits_row 8 refl _ _ _ (omega arith) rest-four)))

  scalar_is : scalar c ≡ true → (c < 0x110000) × ((c < 0xD800) ⊎ (0xE000 ≤ c))
  unfolding scalar
  scalar_is s = go (ltb c 0xD800) refl s
    where
      go : (x : Bool) → ltb c 0xD800 ≡ x → (x || (leb 0xE000 c && ltb c 0x110000)) ≡ true → (c < 0x110000) × ((c < 0xD800) ⊎ (0xE000 ≤ c))
      go true e s = let h = ltb-true c 0xD800 e in (omega arith, inl h)
      go false e s = (ltb-true c 0x110000 (and_right (leb 0xE000 c) (ltb c 0x110000) s), inr (leb-true 0xE000 c (and_left _ (ltb c 0x110000) s)))

  -- the UTF-8 form of a scalar value is well formed
  pub encode-well_formed : scalar c ≡ true → well_formed (encode c) ≡ true
  encode-well_formed s =
      let t = scalar_is s in
      by_lt c 0x80 (λ h. well_one h)
      (λ l. by_lt c 0x800 (λ h. well_two l h)
      (λ l. by_lt c 0x10000 (λ h. well_three l h t.1) (λ l. well_four l t.0)))

  pub valid-encode : scalar c ≡ true → valid (encode c) ≡ true
  valid-encode s = valid_one (encode c) (encode-well_formed s)

  -- what a program tests
  pub scalar_low : c < 0xD800 → scalar c ≡ true
  unfolding scalar
  scalar_low h = rw (lt-ltb c 0xD800 h)

  pub scalar-high : 0xE000 ≤ c → c < 0x110000 → scalar c ≡ true
  unfolding scalar
  scalar-high l h = rw (le-ltb c 0xD800 (omega arith), le-leb 0xE000 c l, lt-ltb c 0x110000 h)

  pub scalar_surrogate : 0xD800 ≤ c → c < 0xE000 → scalar c ≡ false
  unfolding scalar
  scalar_surrogate l h = rw (le-ltb c 0xD800 l, lt-leb 0xE000 c h)

  pub scalar-above : 0x110000 ≤ c → scalar c ≡ false
  unfolding scalar
  scalar-above l = rw (le-ltb c 0xD800 (omega arith), le-leb 0xE000 c (omega arith), le-ltb c 0x110000 l)
