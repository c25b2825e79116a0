-- The order of two labels, by the words of their records: what the comparison of two records rests on.
use Prim.Native.Nat.{ℕ, suc, zero, ◌+◌, ◌*◌, ◌≤◌, ◌<◌, compare, Ordering}
use Rattle.std.specs.Prelude.{Bool, true, false, List, [], ◌≡◌, ◌≢◌, ◌⊎◌, take, drop, get_or, eqb, ltb}
use Rattle.std.proofs.Math.Path.{refl, sym}
use Rattle.std.proofs.Common.{◌∙◌, inl, inr, ltb→lt, nltb→le, add-zero}
use Rattle.std.proofs.Math.ListN.{length}
use native.Mathlib.Omega.{arith}
use Rattle.value.specs.Value.{kind, bit, NoneL}
use Rattle.value.specs.Order.{◌then◌, lex, by_value, total_order, labels}
use Rattle.value.specs.OrderLaws.{compare_eq}
use Rattle.value.specs.Shape.{kind_in, labels_of, label_of, module_part, name_part, names_end}
use Rattle.value.specs.Stands.{word_at, label_at, text_end, Reads}
use Rattle.value.specs.Walk.{compare_same, eq_then, lt_then, gt_then, then_end}

lex_none : lex [] [] ≡ Ordering.eq
unfolding lex
lex_none = refl

-- a number below n + 1 is n or below it
last_or : (n k : ℕ) → k < suc n → (k ≡ n) ⊎ (k < n)
last_or n k h = go (ltb k n) refl
  where
    go : (b : Bool) → ltb k n ≡ b → (k ≡ n) ⊎ (k < n)
    go true e = inr (ltb→lt k n (rw e tt))
    go false e = let l = nltb→le k n (rw e tt) in inl (omega arith)

pub kind_in_lem : (a x p : ℕ) (s : List ℕ) (k : ℕ) → k < 13 → kind (get_or (labels_of a x p s) k NoneL) ≡ k
kind_in_lem a x p s zero h = refl
kind_in_lem a x p s (suc zero) h = refl
kind_in_lem a x p s (suc (suc zero)) h = refl
kind_in_lem a x p s (suc (suc (suc zero))) h = refl
kind_in_lem a x p s (suc (suc (suc (suc zero)))) h = refl
kind_in_lem a x p s (suc (suc (suc (suc (suc zero))))) h = refl
kind_in_lem a x p s (suc (suc (suc (suc (suc (suc zero)))))) h = refl
kind_in_lem a x p s (suc (suc (suc (suc (suc (suc (suc zero))))))) h = refl
kind_in_lem a x p s (suc (suc (suc (suc (suc (suc (suc (suc zero)))))))) h = refl
kind_in_lem a x p s (suc (suc (suc (suc (suc (suc (suc (suc (suc zero))))))))) h = refl
kind_in_lem a x p s (suc (suc (suc (suc (suc (suc (suc (suc (suc (suc zero)))))))))) h = refl
kind_in_lem a x p s (suc (suc (suc (suc (suc (suc (suc (suc (suc (suc (suc zero))))))))))) h = refl
kind_in_lem a x p s (suc (suc (suc (suc (suc (suc (suc (suc (suc (suc (suc (suc zero)))))))))))) h = refl
kind_in_lem a x p s (suc (suc (suc (suc (suc (suc (suc (suc (suc (suc (suc (suc (suc k))))))))))))) h = absurd (omega arith)

module _ (a x p b y q : ℕ) (s t : List ℕ) where
  abbrev both : Ordering
  both = labels (label_of a x p s) (label_of b y q t)

  pub kinds_differ : kind_in a < 13 → kind_in b < 13 → kind_in a ≢ kind_in b → both ≡ compare (kind_in a) (kind_in b)
  unfolding labels label_of
  kinds_differ g h e = rw (kind_in_lem a x p s (kind_in a) g, kind_in_lem b y q t (kind_in b) h) (decided (compare (kind_in a) (kind_in b)) refl _)
    where
      decided : (o : Ordering) → compare (kind_in a) (kind_in b) ≡ o → (d : Ordering) → (o then d) ≡ o
      decided Ordering.lt q d = lt_then d
      decided Ordering.eq q d = absurd (e (compare_eq _ _ q))
      decided Ordering.gt q d = gt_then d

  -- of one kind k: by their keys
  module _ (k : ℕ) (e : kind_in a ≡ k) (f : kind_in b ≡ k) where
    of_kind : both ≡ labels (get_or (labels_of a x p s) k NoneL) (get_or (labels_of b y q t) k NoneL)
    unfolding label_of
    of_kind = rw (e, f)

  pub kind-none : kind_in a ≡ 0 → kind_in b ≡ 0 → both ≡ Ordering.eq
  unfolding labels lex
  kind-none e f = of_kind 0 e f ∙ simp (compare_same, eq_then)

  pub kind_bool : kind_in a ≡ 1 → kind_in b ≡ 1 → both ≡ compare (bit (eqb x 1)) (bit (eqb y 1))
  unfolding labels lex
  kind_bool e f = of_kind 1 e f ∙ simp (compare_same, eq_then, then_end)

  pub kind_int : kind_in a ≡ 2 → kind_in b ≡ 2 → both ≡ lex (by_value x) (by_value y)
  unfolding labels
  kind_int e f = of_kind 2 e f ∙ simp (compare_same, eq_then, lex_none, then_end)

  pub kind-float : kind_in a ≡ 3 → kind_in b ≡ 3 → both ≡ lex (total_order x) (total_order y)
  unfolding labels
  kind-float e f = of_kind 3 e f ∙ simp (compare_same, eq_then, lex_none, then_end)

  pub kind-text : kind_in a ≡ kind_in b → 3 < kind_in a → kind_in a < 6 → both ≡ lex (take p s) (take q t)
  unfolding labels
  kind-text e g h = go (last_or 5 (kind_in a) h)
    where
      go : (kind_in a ≡ 5) ⊎ (kind_in a < 5) → both ≡ lex (take p s) (take q t)
      go (inl d) = of_kind 5 d (sym e ∙ d) ∙ simp (compare_same, eq_then, lex_none, then_end)
      go (inr l) = let d : kind_in a ≡ 4 = omega arith in of_kind 4 d (sym e ∙ d) ∙ simp (compare_same, eq_then, lex_none, then_end)

  pub kind-container : kind_in a ≡ kind_in b → 5 < kind_in a → kind_in a < 11 → both ≡ Ordering.eq
  unfolding labels
  kind-container e g h = ten (last_or 10 (kind_in a) h)
    where
      at : (k : ℕ) → kind_in a ≡ k → labels (get_or (labels_of a x p s) k NoneL) (get_or (labels_of b y q t) k NoneL) ≡ Ordering.eq → both ≡ Ordering.eq
      at k d r = of_kind k d (sym e ∙ d) ∙ r

      seven : (kind_in a ≡ 7) ⊎ (kind_in a < 7) → both ≡ Ordering.eq
      seven (inl d) = at 7 d (simp (compare_same, eq_then, lex_none))
      seven (inr l) = at 6 (omega arith) (simp (compare_same, eq_then, lex_none))

      eight : (kind_in a ≡ 8) ⊎ (kind_in a < 8) → both ≡ Ordering.eq
      eight (inl d) = at 8 d (simp (compare_same, eq_then, lex_none))
      eight (inr l) = seven (last_or 7 (kind_in a) l)

      nine : (kind_in a ≡ 9) ⊎ (kind_in a < 9) → both ≡ Ordering.eq
      nine (inl d) = at 9 d (simp (compare_same, eq_then, lex_none))
      nine (inr l) = eight (last_or 8 (kind_in a) l)

      ten : (kind_in a ≡ 10) ⊎ (kind_in a < 10) → both ≡ Ordering.eq
      ten (inl d) = at 10 d (simp (compare_same, eq_then, lex_none))
      ten (inr l) = nine (last_or 9 (kind_in a) l)

  pub kind-name : kind_in a ≡ kind_in b → 10 < kind_in a → kind_in a < 13 → both ≡ (lex (module_part p s) (module_part q t) then lex (name_part p s) (name_part q t))
  unfolding labels
  kind-name e g h = go (last_or 12 (kind_in a) h)
    where
      go : (kind_in a ≡ 12) ⊎ (kind_in a < 12) → both ≡ (lex (module_part p s) (module_part q t) then lex (name_part p s) (name_part q t))
      go (inl d) = of_kind 12 d (sym e ∙ d) ∙ simp (compare_same, eq_then)
      go (inr l) = let d : kind_in a ≡ 11 = omega arith in of_kind 11 d (sym e ∙ d) ∙ simp (compare_same, eq_then)

-- Two records that can be read, of the kinds k and h.
module _ (w s : List ℕ) (i : ℕ) (v t : List ℕ) (j k h : ℕ) (r : Reads w s i) (q : Reads v t j) (e : k ≡ kind_in (get_or w (4 * i) 0)) (f : h ≡ kind_in (get_or v (4 * j) 0)) where
  abbrev here : Ordering
  here = labels (label_at w s i) (label_at v t j)

  e₀ : kind_in (word_at w i 0) ≡ k
  e₀ = rw add-zero (sym e)

  f₀ : kind_in (word_at v j 0) ≡ h
  f₀ = rw add-zero (sym f)

  pub records_differ : k ≢ h → compare k h ≡ here
  unfolding label_at
  records_differ n = sym (kinds_differ _ _ _ _ _ _ _ _ r.known q.known (λ d. n (sym e₀ ∙ d ∙ f₀)) ∙ rw (e₀, f₀))

  module _ (d : k ≡ h) where
    same : kind_in (word_at w i 0) ≡ kind_in (word_at v j 0)
    same = e₀ ∙ d ∙ sym f₀

    at_kind : (n : ℕ) → k ≡ n → (kind_in (word_at w i 0) ≡ n) × (kind_in (word_at v j 0) ≡ n)
    at_kind n g = (e₀ ∙ g, f₀ ∙ sym d ∙ g)

    pub records_none : k ≡ 0 → Ordering.eq ≡ here
    unfolding label_at
    records_none g = let b = at_kind 0 g in sym (kind-none _ _ _ _ _ _ _ _ b.0 b.1)

    pub records_bool : k ≡ 1 → compare (bit (eqb (word_at w i 1) 1)) (bit (eqb (word_at v j 1) 1)) ≡ here
    unfolding label_at
    records_bool g = let b = at_kind 1 g in sym (kind_bool _ _ _ _ _ _ _ _ b.0 b.1)

    pub records_int : k ≡ 2 → lex (by_value (word_at w i 1)) (by_value (word_at v j 1)) ≡ here
    unfolding label_at
    records_int g = let b = at_kind 2 g in sym (kind_int _ _ _ _ _ _ _ _ b.0 b.1)

    pub records_float : k ≡ 3 → lex (total_order (word_at w i 1)) (total_order (word_at v j 1)) ≡ here
    unfolding label_at
    records_float g = let b = at_kind 3 g in sym (kind-float _ _ _ _ _ _ _ _ b.0 b.1)

    pub records_text : 3 < k → k < 6 → lex (take (word_at w i 2) (drop (word_at w i 1) s)) (take (word_at v j 2) (drop (word_at v j 1) t)) ≡ here
    unfolding label_at
    records_text g l = sym (kind-text _ _ _ _ _ _ _ _ same (rw e₀ g) (rw e₀ l))

    pub records_container : 5 < k → k < 11 → Ordering.eq ≡ here
    unfolding label_at
    records_container g l = sym (kind-container _ _ _ _ _ _ _ _ same (rw e₀ g) (rw e₀ l))

    pub records_name : 10 < k → (lex (module_part (word_at w i 2) (drop (word_at w i 1) s)) (module_part (word_at v j 2) (drop (word_at v j 1) t)) then lex (name_part (word_at w i 2) (drop (word_at w i 1) s)) (name_part (word_at v j 2) (drop (word_at v j 1) t))) ≡ here
    unfolding label_at
    records_name g = sym (kind-name _ _ _ _ _ _ _ _ same (rw e₀ g) r.known)

-- where the texts of a record that can be read end
module _ (w s : List ℕ) (i k : ℕ) (r : Reads w s i) (e : k ≡ kind_in (get_or w (4 * i) 0)) where
  k₀ : kind_in (word_at w i 0) ≡ k
  k₀ = rw add-zero (sym e)

  pub text_inside : 3 < k → k < 6 → word_at w i 1 + word_at w i 2 ≤ length s
  unfolding text_end
  text_inside g l = go (last_or 5 k l)
    where
      go : (k ≡ 5) ⊎ (k < 5) → word_at w i 1 + word_at w i 2 ≤ length s
      go (inl d) = rw (k₀, d) at r.texts
      go (inr b) = let d : k ≡ 4 = omega arith in rw (k₀, d) at r.texts

  pub names_inside : 10 < k → names_end (word_at w i 1) (word_at w i 2) ≤ length s
  unfolding text_end
  names_inside g = go (last_or 12 k (rw k₀ at r.known))
    where
      go : (k ≡ 12) ⊎ (k < 12) → names_end (word_at w i 1) (word_at w i 2) ≤ length s
      go (inl d) = rw (k₀, d) at r.texts
      go (inr b) = let d : k ≡ 11 = omega arith in rw (k₀, d) at r.texts
