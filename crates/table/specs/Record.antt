-- A record's four words as its kind, its text's place and its size ask for them; what the label read from it takes them to be.
use Rattle.std.specs.Prelude.{ℕ, suc, zero, ◌+◌, ◌*◌, ◌^◌, ◌/◌, ◌%◌, ◌≤◌, ◌<◌, Bool, true, false, ◌&&◌, List, [], ◌∷◌, ◌++◌, ◌≡◌, refl, take, drop, eqb, ltb}
use Rattle.std.proofs.Math.Bool.{cond}
use Rattle.std.proofs.Math.Path.{sym}
use Rattle.std.proofs.Common.{◌∙◌, ap, length-append, length-take, length-drop, length-take-le, arith}
use Rattle.std.proofs.Math.ListN.{length, get_or, get_or-eq_default}
use Rattle.std.proofs.Math.Dec.{T, eqb_refl}
use borrow.Author.Tests.{lt-ltb, le-ltb, ltb-true, ltb-false}
use Rattle.value.specs.Value.{Label, bit, half, text_of, word0, words, NoneL, BoolL, I64L, F64L, BytesL, StringL, ListL, TupleL, SetL, FrozenSetL, DictL, GlobalL, ObjectL}
use Rattle.value.specs.Shape.{kind_in, fresh_in, state_in, head_of, word_of, labels_of, label_of, arity_of, fitting}

-- ---- the words of a record of a known kind

-- word 0: the kind; an Object's flags; 0 for an unknown kind
unfoldable pub right0 : ℕ → ℕ
right0 a = let k = kind_in a in cond (ltb k 12) k (cond (ltb k 13) (word_of (head_of a)) 0)

-- word 1, its text being at p
unfoldable pub right1 : ℕ → ℕ → ℕ → ℕ
right1 k b p = cond (ltb k 1) 0 (cond (ltb k 2) (bit (eqb b 1)) (cond (ltb k 4) b (cond (ltb k 6) p (cond (ltb k 11) b p))))

-- word 2, of z records with itself
unfoldable pub right2 : ℕ → ℕ → ℕ → ℕ
right2 k c z = cond (ltb k 4) 0 (cond (ltb k 6) c (cond (ltb k 11) z c))

-- word 3
unfoldable pub right3 : ℕ → ℕ → ℕ
right3 k z = cond (ltb k 12) 0 z

-- how much text it has
unfoldable pub span_of : ℕ → ℕ → ℕ
span_of k c = cond (ltb k 4) 0 (cond (ltb k 6) c (cond (ltb k 11) 0 (c / 2 ^ 32 + c % 2 ^ 32)))

-- how many records it has with itself, as it says
unfoldable pub size_of : ℕ → ℕ → ℕ → ℕ
size_of k c d = cond (ltb k 6) 1 (cond (ltb k 11) c (cond (ltb k 12) 1 d))

-- ---- one kind after the other

-- a property of each number below n
unfoldable pub EachBelow : ℕ → (ℕ → Type 0) → Type 0
EachBelow zero P = Unit {0}
EachBelow (suc n) P = P 0 × EachBelow n (λ k. P (suc k))

pub each_below : (n : ℕ) (P : ℕ → Type 0) → EachBelow n P → (k : ℕ) → k < n → P k
unfolding EachBelow
each_below zero P b k h = absurd (omega arith)
each_below (suc n) P b zero h = b.0
each_below (suc n) P b (suc k) h = each_below n (λ j. P (suc j)) b.1 k (omega arith)

-- the label, by its kind k
unfoldable pub label_by : Bool → ℕ → ℕ → List ℕ → ℕ → Label
label_by new b c t k =
    let m = take (c / 2 ^ 32) t in
    let n = take (c % 2 ^ 32) (drop (c / 2 ^ 32) t) in
    get_or (NoneL ∷ BoolL (eqb b 1) ∷ I64L b ∷ F64L b ∷ BytesL (take c t) ∷ StringL (take c t) ∷ ListL ∷ TupleL ∷ SetL ∷ FrozenSetL ∷ DictL ∷ GlobalL m n ∷ ObjectL m n new ∷ []) k NoneL

-- the number of values in a record, by its kind k
unfoldable pub arity_by : Bool → ℕ → ℕ → ℕ
arity_by s b k = cond (ltb k 6) 0 (cond (ltb k 10) b (cond (eqb k 10) (b + b) (cond (eqb k 12) (suc (bit s)) 0)))

half_of : (s : Bool) → half (suc (bit s)) ≡ bit s
half_of true = refl
half_of false = refl

pub half_twice : (x : ℕ) → half (x + x) ≡ x
half_twice zero = refl
half_twice (suc x) = let e : suc x + suc x ≡ suc (suc (x + x)) = omega arith in rw e (ap suc (half_twice x))

-- a module and a name that fit: their lengths, and the word of both
names_cut : (c : ℕ) (x : List ℕ) → c / 2 ^ 32 + c % 2 ^ 32 ≤ length x → length (take (c / 2 ^ 32) x ++ take (c % 2 ^ 32) (drop (c / 2 ^ 32) x)) ≡ c / 2 ^ 32 + c % 2 ^ 32
names_cut c x h = length-append (take (c / 2 ^ 32) x) _ ∙ simp (length-take, length-drop) (omega arith)

names-word : (c : ℕ) (x : List ℕ) → c / 2 ^ 32 + c % 2 ^ 32 ≤ length x → length (take (c / 2 ^ 32) x) * 2 ^ 32 + length (take (c % 2 ^ 32) (drop (c / 2 ^ 32) x)) ≡ c
names-word c x h = simp (length-take, length-drop) (omega arith)

names_misfit : (c : ℕ) (x : List ℕ) → length x < c / 2 ^ 32 + c % 2 ^ 32 → length (take (c / 2 ^ 32) x) * 2 ^ 32 + length (take (c % 2 ^ 32) (drop (c / 2 ^ 32) x)) ≡ c → ⊥
names_misfit c x h e =
    let a = length-take (c / 2 ^ 32) x in
    let b = length-take (c % 2 ^ 32) (drop (c / 2 ^ 32) x) in
    let d = length-drop (c / 2 ^ 32) x in
    omega arith

cut_misfit : (c : ℕ) (x : List ℕ) → length x < c → length (take c x) ≡ c → ⊥
cut_misfit c x h e = let a = length-take c x in omega arith

name-short : (c : ℕ) (x : List ℕ) → ltb (length (take (c % 2 ^ 32) x)) (2 ^ 32) ≡ true
name-short c x =
    let a = length-take (c % 2 ^ 32) x in
    lt-ltb (length (take (c % 2 ^ 32) x)) (2 ^ 32) (omega arith)

object_fits : (s : Bool) (c : ℕ) (x : List ℕ) → T (ltb 0 (suc (bit s)) && (ltb (suc (bit s)) 3 && ltb (length (take (c % 2 ^ 32) x)) (2 ^ 32)))
object_fits true c x = rw (name-short c x) tt
object_fits false c x = rw (name-short c x) tt

no : {A : Type 0} {n : ℕ} → n < 0 → A
no h = absurd (omega arith)

module _ (a b c p z : ℕ) (x : List ℕ) (known : kind_in a < 13) where
  flags : 12 + 16 * bit (fresh_in a) + 32 * half (suc (bit (state_in a))) ≡ 12 + 16 * bit (fresh_in a) + 32 * bit (state_in a)
  flags = rw (half_of (state_in a))

  known0 : word0 (label_of a b c x) (arity_of a b) ≡ right0 a
  unfolding label_of arity_of right0 EachBelow label_by arity_by
  known0 =
      each_below 13 (λ k. word0 (label_by (fresh_in a) b c x k) (arity_by (state_in a) b k) ≡ cond (ltb k 12) k (cond (ltb k 13) (word_of (record { kind = k; new = fresh_in a; state = state_in a })) 0))
      (refl, (refl, (refl, (refl, (refl, (refl, (refl, (refl, (refl, (refl, (refl, (refl, (flags, tt))))))))))))) (kind_in a) known

  pub back1 : get_or (words (label_of a b c x) p (arity_of a b) z) 0 0 ≡ right1 (kind_in a) b p
  unfolding label_of arity_of right1 EachBelow label_by arity_by
  back1 =
      each_below 13 (λ k. get_or (words (label_by (fresh_in a) b c x k) p (arity_by (state_in a) b k) z) 0 0 ≡ right1 k b p)
      (refl, (refl, (refl, (refl, (refl, (refl, (refl, (refl, (refl, (refl, (half_twice b, (refl, (refl, tt))))))))))))) (kind_in a) known

  pub back3 : get_or (words (label_of a b c x) p (arity_of a b) z) 2 0 ≡ right3 (kind_in a) z
  unfolding label_of arity_of right3 EachBelow label_by arity_by
  back3 =
      each_below 13 (λ k. get_or (words (label_by (fresh_in a) b c x k) p (arity_by (state_in a) b k) z) 2 0 ≡ right3 k z)
      (refl, (refl, (refl, (refl, (refl, (refl, (refl, (refl, (refl, (refl, (refl, (refl, (refl, tt))))))))))))) (kind_in a) known

  -- where the text is long enough

  pub back2 : span_of (kind_in a) c ≤ length x → get_or (words (label_of a b c x) p (arity_of a b) z) 1 0 ≡ right2 (kind_in a) c z
  unfolding label_of arity_of right2 span_of EachBelow label_by arity_by
  back2 =
      each_below 13 (λ k. span_of k c ≤ length x → get_or (words (label_by (fresh_in a) b c x k) p (arity_by (state_in a) b k) z) 1 0 ≡ right2 k c z)
      ((λ h. refl), ((λ h. refl), ((λ h. refl), ((λ h. refl), (length-take-le c x, (length-take-le c x, ((λ h. refl), ((λ h. refl), ((λ h. refl), ((λ h. refl), ((λ h. refl), (names-word c x, (names-word c x, tt))))))))))))) (kind_in a) known

  pub back_text : span_of (kind_in a) c ≤ length x → length (text_of (label_of a b c x)) ≡ span_of (kind_in a) c
  unfolding label_of span_of EachBelow label_by
  back_text =
      each_below 13 (λ k. let s = span_of k c in s ≤ length x → length (text_of (label_by (fresh_in a) b c x k)) ≡ s)
      ((λ h. refl), ((λ h. refl), ((λ h. refl), ((λ h. refl), (length-take-le c x, (length-take-le c x, ((λ h. refl), ((λ h. refl), ((λ h. refl), ((λ h. refl), ((λ h. refl), (names_cut c x, (names_cut c x, tt))))))))))))) (kind_in a) known

  -- and where it is not
  pub misfit : length x < span_of (kind_in a) c → get_or (words (label_of a b c x) p (arity_of a b) z) 1 0 ≡ c → ⊥
  unfolding label_of arity_of span_of EachBelow label_by arity_by
  misfit =
      each_below 13 (λ k. length x < span_of k c → get_or (words (label_by (fresh_in a) b c x k) p (arity_by (state_in a) b k) z) 1 0 ≡ c → ⊥)
      (no, (no, (no, (no, (cut_misfit c x, (cut_misfit c x, (no, (no, (no, (no, (no, (names_misfit c x, (names_misfit c x, tt))))))))))))) (kind_in a) known

  -- the number of values suits the label
  pub back_fits : T (fitting (label_of a b c x) (arity_of a b))
  unfolding label_of arity_of EachBelow label_by arity_by
  back_fits =
      each_below 13 (λ k. T (fitting (label_by (fresh_in a) b c x k) (arity_by (state_in a) b k)))
      (tt, (tt, (tt, (tt, (tt, (tt, (tt, (tt, (tt, (tt, (rw (half_twice b) (eqb_refl (b + b)), (rw (name-short c (drop (c / 2 ^ 32) x)) tt, (object_fits (state_in a) c (drop (c / 2 ^ 32) x), tt))))))))))))) (kind_in a) known

  -- the size that a right record says
  pub back_size : c ≡ right2 (kind_in a) c z → (d : ℕ) → d ≡ right3 (kind_in a) z → (arity_of a b ≡ 0 → z ≡ 1) → size_of (kind_in a) c d ≡ z
  unfolding arity_of right2 right3 size_of EachBelow arity_by
  back_size f d g one =
      each_below 13 (λ k. c ≡ right2 k c z → d ≡ right3 k z → (arity_by (state_in a) b k ≡ 0 → z ≡ 1) → size_of k c d ≡ z)
      ((λ f g o. sym (o refl)), ((λ f g o. sym (o refl)), ((λ f g o. sym (o refl)), ((λ f g o. sym (o refl)), ((λ f g o. sym (o refl)), ((λ f g o. sym (o refl)), ((λ f g o. f), ((λ f g o. f), ((λ f g o. f), ((λ f g o. f), ((λ f g o. f), ((λ f g o. sym (o refl)), ((λ f g o. g), tt))))))))))))) (kind_in a) known f g one

-- an unknown kind
unknown : (a b c : ℕ) (x : List ℕ) → 13 ≤ kind_in a → label_of a b c x ≡ NoneL
unfolding label_of
unknown a b c x h = get_or-eq_default (labels_of a b c x) NoneL h

unknown0 : (a : ℕ) → 13 ≤ kind_in a → right0 a ≡ 0
unfolding right0
unknown0 a h = rw (le-ltb (kind_in a) 12 (omega arith), le-ltb (kind_in a) 13 h)

pub back0 : (a b c : ℕ) (x : List ℕ) → word0 (label_of a b c x) (arity_of a b) ≡ right0 a
back0 a b c x = go (ltb (kind_in a) 13) refl
  where
    go : (h : Bool) → ltb (kind_in a) 13 ≡ h → word0 (label_of a b c x) (arity_of a b) ≡ right0 a
    go true e = known0 a b c 0 0 x (ltb-true (kind_in a) 13 e)
    go false e = let h = ltb-false (kind_in a) 13 e in rw (unknown a b c x h, unknown0 a h)

-- a right word 0 is of a known kind
pub right_known : (a : ℕ) → a ≡ right0 a → kind_in a < 13
unfolding kind_in
right_known a e = go (ltb (kind_in a) 13) refl
  where
    go : (h : Bool) → ltb (kind_in a) 13 ≡ h → kind_in a < 13
    go true e = ltb-true (kind_in a) 13 e
    go false f = let h = ltb-false (kind_in a) 13 f in let z : a ≡ 0 = e ∙ unknown0 a h in absurd (omega arith)

-- an Object's arguments and any state
pub arity_object : (a b k : ℕ) → k ≡ kind_in a → k ≡ 12 → arity_of a b ≡ suc (bit (state_in a))
unfolding arity_of
arity_object a b k e h = rw (← e, h)

-- the length of a record's text, by its kind k
module _ (a c k : ℕ) (e : k ≡ kind_in a) where
  pub span_text : 4 ≤ k → k < 6 → span_of (kind_in a) c ≡ c
  unfolding span_of
  span_text g h = rw (← e, le-ltb k 4 g, lt-ltb k 6 h)

  pub span_names : 11 ≤ k → span_of (kind_in a) c ≡ c / 2 ^ 32 + c % 2 ^ 32
  unfolding span_of
  span_names g = rw (← e, le-ltb k 4 (omega arith), le-ltb k 6 (omega arith), le-ltb k 11 g)
