-- Values that stand in a table at a place: each record says its label and how many values are in it, its text anywhere in the text.
-- Nothing is asked of a record's size or of the order of texts, so the comparison serves tables that are still being made.
use Prim.Native.Nat.{ℕ, suc, ◌+◌, ◌*◌, ◌≤◌, ◌<◌}
use Rattle.std.specs.Prelude.{List, [], ◌∷◌, ◌≡◌, length, get_or, drop}
use Rattle.std.proofs.Math.Path.{refl, sym, subst}
use Rattle.std.proofs.Common.{◌∙◌}
use native.Mathlib.Omega.{arith}
use Rattle.value.specs.Value.{Label, Forest, Value, one, count, size, nil, node}
use Rattle.value.specs.Shape.{kind_in, label_of, arity_of, names_end}

-- ---- forests one after the other

infixr 50 ◌⊕◌
unfoldable pub ◌⊕◌ : Forest → Forest → Forest
nil ⊕ g = g
node l c r ⊕ g = node l c (r ⊕ g)

pub count-append : (f g : Forest) → count (f ⊕ g) ≡ count f + count g
unfolding ◌⊕◌ count
count-append nil g = omega arith
count-append (node l c r) g = let h = count-append r g in omega arith

pub size-append : (f g : Forest) → size (f ⊕ g) ≡ size f + size g
unfolding ◌⊕◌ size
size-append nil g = omega arith
size-append (node l c r) g = let h = size-append r g in omega arith

-- ---- a record at a place

abbrev pub word_at : List ℕ → ℕ → ℕ → ℕ
word_at w i k = get_or w (4 * i + k) 0

unfoldable pub label_at : List ℕ → List ℕ → ℕ → Label
label_at w t i = label_of (word_at w i 0) (word_at w i 1) (word_at w i 2) (drop (word_at w i 1) t)

unfoldable pub arity_at : List ℕ → ℕ → ℕ
arity_at w i = arity_of (word_at w i 0) (word_at w i 1)

-- where the text of a record ends
unfoldable pub text_end : ℕ → ℕ → ℕ → ℕ
text_end a b c =
    let names = names_end b c in
    get_or (0 ∷ 0 ∷ 0 ∷ 0 ∷ (b + c) ∷ (b + c) ∷ 0 ∷ 0 ∷ 0 ∷ 0 ∷ 0 ∷ names ∷ names ∷ []) (kind_in a) 0

-- the record at i can be read: it is inside, of a known kind, its text inside
pub record Reads (w t : List ℕ) (i : ℕ) : Type 0 where
  pub inside : 4 * i + 4 ≤ length w
  pub known : kind_in (word_at w i 0) < 13
  pub texts : text_end (word_at w i 0) (word_at w i 1) (word_at w i 2) ≤ length t

pub record Says (w t : List ℕ) (i : ℕ) (l : Label) (n : ℕ) : Type 0 where
  pub reads : Reads w t i
  pub label : label_at w t i ≡ l
  pub arity : arity_at w i ≡ n

-- values that stand one after the other from record i on
unfoldable pub Stands : List ℕ → List ℕ → ℕ → Forest → Type 0
Stands w t i nil = Unit {0}
Stands w t i (node l c r) = Says w t i l (count c) × Stands w t (i + 1) c × Stands w t (i + 1 + size c) r

-- a value begins at record i
pub record Begins (w t : List ℕ) (i : ℕ) : Type 0 where
  pub value : Value
  pub stands : Stands w t i (one value)

module _ (w t : List ℕ) where
  pub stands_append : (f g : Forest) (i : ℕ) → Stands w t i f → Stands w t (i + size f) g → Stands w t i (f ⊕ g)
  unfolding Stands ◌⊕◌ size
  stands_append nil g i a b = let e : i + 0 ≡ i = omega arith in subst (λ (j : ℕ). Stands w t j g) e b
  stands_append (node l c r) g i a b =
      let e : i + suc (size c + size r) ≡ i + 1 + size c + size r = omega arith in
      (a.0, a.1, stands_append r g (i + 1 + size c) a.2 (subst (λ (j : ℕ). Stands w t j g) e b))

  -- a table says one forest only
  pub stands_one : (f g : Forest) (i : ℕ) → Stands w t i f → Stands w t i g → count f ≡ count g → f ≡ g
  unfolding Stands count
  stands_one nil nil i a b e = refl
  stands_one nil (node m d s) i a b e = absurd (omega arith)
  stands_one (node l c r) nil i a b e = absurd (omega arith)
  stands_one (node l c r) (node m d s) i a b e =
      let same-label : l ≡ m = sym a.0.label ∙ b.0.label in
      let arities : count c ≡ count d = sym a.0.arity ∙ b.0.arity in
      let contents : c ≡ d = stands_one c d (i + 1) a.1 b.1 arities in
      let rest : r ≡ s = stands_one r s (i + 1 + size c) a.2 (rw (contents) b.2) (omega arith) in
      cc
