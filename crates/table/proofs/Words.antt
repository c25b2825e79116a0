-- What the code's tests of a record's words say of the record.
use Rattle.std.proofs.Common.{◌<◌, ◌≡◌, ◌≢◌, ◌∙◌, ℕ, ◌+◌, ◌*◌, List, Bool, get_or, drop, sym}
use Rattle.std.proofs.Common.{true, false, refl, eq-eqb, eqb-true, arith}
use Rattle.std.proofs.Math.Dec.{eqb}
use Rattle.std.proofs.lemmas.Bool.{eqb-false}
use borrow.Author.Tests.{ne_eqb, lt-ltb}
use Rattle.value.specs.Shape.{kind_in, holding}
use Rattle.value.specs.Stands.{word_at}
use Rattle.table.specs.Record.{right0, right1, right2, right3, span_of}
use Rattle.table.specs.Check.{sizes_right}
use Rattle.table.specs.Names.{names_right}
use Rattle.table.specs.Sound.{first_word}

module _ (w : List ℕ) (i : ℕ) where
  pub word0_right : {z : ℕ} → z ≡ right0 (get_or w (4 * i) 0) → get_or w (4 * i) 0 ≡ z → word_at w i 0 ≡ right0 (word_at w i 0)
  word0_right e h = rw (first_word w i) at (h ∙ e)

  pub word0_wrong : {z : ℕ} → z ≡ right0 (get_or w (4 * i) 0) → get_or w (4 * i) 0 ≢ z → word_at w i 0 ≢ right0 (word_at w i 0)
  word0_wrong e h q = h ((rw (← first_word w i) at q) ∙ sym e)

  module _ (p : ℕ) {z : ℕ} (e : z ≡ right1 (kind_in (get_or w (4 * i) 0)) (get_or w (4 * i + 1) 0) p) where
    pub word1_right : get_or w (4 * i + 1) 0 ≡ z → word_at w i 1 ≡ right1 (kind_in (word_at w i 0)) (word_at w i 1) p
    word1_right h = rw (first_word w i) at (h ∙ e)

    pub word1_wrong : get_or w (4 * i + 1) 0 ≢ z → word_at w i 1 ≢ right1 (kind_in (word_at w i 0)) (word_at w i 1) p
    word1_wrong h q = h ((rw (← first_word w i) at q) ∙ sym e)

  pub span_at : {z : ℕ} → z ≡ span_of (kind_in (get_or w (4 * i) 0)) (get_or w (4 * i + 2) 0) → z ≡ span_of (kind_in (word_at w i 0)) (word_at w i 2)
  span_at e = rw (first_word w i) at e

  pub names_at : (p : ℕ) (t : List ℕ) {r : Bool} → r ≡ names_right (kind_in (get_or w (4 * i) 0)) (get_or w (4 * i + 2) 0) (drop p t) → r ≡ names_right (kind_in (word_at w i 0)) (word_at w i 2) (drop p t)
  names_at p t e = rw (first_word w i) at e

-- words 2 and 3 of a record with nothing in it
module _ (w : List ℕ) (i : ℕ) {z : ℕ} (e : z ≡ right2 (kind_in (get_or w (4 * i) 0)) (get_or w (4 * i + 2) 0) 1) where
  second_at : z ≡ right2 (kind_in (word_at w i 0)) (word_at w i 2) 1
  second_at = rw (first_word w i) at e

  pub sizes_second : word_at w i 2 ≢ z → false ≡ sizes_right w i 1
  unfolding sizes_right
  sizes_second h = rw (← second_at, ne_eqb _ _ h)

  module _ (few : kind_in (word_at w i 0) < 12) where
    pub sizes_third : word_at w i 2 ≡ z → word_at w i 3 ≢ 0 → false ≡ sizes_right w i 1
    unfolding sizes_right right3
    sizes_third h q = rw (← second_at, eq-eqb _ _ h, lt-ltb _ 12 few, ne_eqb _ _ q)

    pub sizes_both : word_at w i 2 ≡ z → word_at w i 3 ≡ 0 → true ≡ sizes_right w i 1
    unfolding sizes_right right3
    sizes_both h q = rw (← second_at, eq-eqb _ _ h, lt-ltb _ 12 few, eq-eqb _ _ q)

-- nothing is in a Global or a scalar, and they stand before an Object
pub leaf_kind : (k : ℕ) → k < 13 → holding k ≡ false → k < 12
leaf_kind k h e = go (eqb k 12) refl
  where
    go : (b : Bool) → eqb k 12 ≡ b → k < 12
    go true q = let r = eqb-true k 12 q in absurd (let z : ◌≡◌ {A = ℕ} 0 1 = (let y : holding 12 ≡ false = rw r at e in cc) in omega arith)
    go false q = let r = eqb-false k 12 q in omega arith
