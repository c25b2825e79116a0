-- Reading a record's words: the label and the number of values that they say.
use Rattle.std.specs.Prelude.{ℕ, suc, zero, ◌+◌, ◌*◌, ◌^◌, ◌/◌, ◌%◌, ◌≤◌, ◌<◌, Bool, true, false, cond, not, ◌&&◌, List, [], ◌∷◌, ◌++◌, ◌≡◌, refl, length, get_or, take, drop, T, eqb, ltb, ◌≢◌}
use Rattle.std.proofs.Common.{append_assoc, sym, ap, ap₂, eqb→eq, ltb→lt, arith}
use Rattle.std.proofs.Math.Seq.{take-append_seam, drop-append_seam}
use Rattle.std.proofs.Math.Pow.{high, low}
use borrow.Author.Tests.{lt-ltb, le-ltb, ne_eqb, eqb-true, ltb-false}
use Rattle.value.specs.declared.Head.{Head}
use Rattle.value.specs.Value.{Label, Forest, bit, half, text_of, count, word0, words, NoneL, BoolL, I64L, F64L, BytesL, StringL, ListL, TupleL, SetL, FrozenSetL, DictL, GlobalL, ObjectL, nil, node}

-- every word is below 2^64, as in a slice of u64
abbrev pub Words : List ℕ → Type 0
Words l = (i : ℕ) → get_or l i 0 < 2 ^ 64

-- ---- word 0

unfoldable pub kind_in : ℕ → ℕ
kind_in a = a % 16

unfoldable pub fresh_in : ℕ → Bool
fresh_in a = eqb (a / 16 % 2) 1

unfoldable pub state_in : ℕ → Bool
state_in a = eqb (a / 32 % 2) 1

abbrev pub head_of : ℕ → Head
head_of a = record { kind = kind_in a; new = fresh_in a; state = state_in a }

abbrev pub word_of : Head → ℕ
word_of h = h.kind + 16 * bit h.new + 32 * bit h.state

-- what is made is read back
pub head_back : (h : Head) → h.kind < 16 → head_of (word_of h) ≡ h
unfolding kind_in fresh_in state_in
head_back h k = go h.kind h.new h.state k
  where
    go : (a : ℕ) (n s : Bool) → a < 16 → head_of (a + 16 * bit n + 32 * bit s) ≡ record { kind = a; new = n; state = s }
    go a true true k =
        let e₁ : (a + 16 * bit true + 32 * bit true) % 16 ≡ a = omega arith in
        let e₂ : (a + 16 * bit true + 32 * bit true) / 16 ≡ 3 = omega arith in
        let e₃ : (a + 16 * bit true + 32 * bit true) / 32 ≡ 1 = omega arith in
        rw (e₁, e₂, e₃)
    go a true false k =
        let e₁ : (a + 16 * bit true + 32 * bit false) % 16 ≡ a = omega arith in
        let e₂ : (a + 16 * bit true + 32 * bit false) / 16 ≡ 1 = omega arith in
        let e₃ : (a + 16 * bit true + 32 * bit false) / 32 ≡ 0 = omega arith in
        rw (e₁, e₂, e₃)
    go a false true k =
        let e₁ : (a + 16 * bit false + 32 * bit true) % 16 ≡ a = omega arith in
        let e₂ : (a + 16 * bit false + 32 * bit true) / 16 ≡ 2 = omega arith in
        let e₃ : (a + 16 * bit false + 32 * bit true) / 32 ≡ 1 = omega arith in
        rw (e₁, e₂, e₃)
    go a false false k =
        let e₁ : (a + 16 * bit false + 32 * bit false) % 16 ≡ a = omega arith in
        let e₂ : (a + 16 * bit false + 32 * bit false) / 16 ≡ 0 = omega arith in
        let e₃ : (a + 16 * bit false + 32 * bit false) / 32 ≡ 0 = omega arith in
        rw (e₁, e₂, e₃)

-- ---- a record's label and the number of values directly in it, from its first three words and the text from its place on

-- a module's and a name's text, from the word that holds both lengths
abbrev pub module_part : ℕ → List ℕ → List ℕ
module_part c t = take (c / 2 ^ 32) t

abbrev pub name_part : ℕ → List ℕ → List ℕ
name_part c t = take (c % 2 ^ 32) (drop (c / 2 ^ 32) t)

abbrev pub labels_of : ℕ → ℕ → ℕ → List ℕ → List Label
labels_of a b c t =
    NoneL ∷ BoolL (eqb b 1) ∷ I64L b ∷ F64L b ∷ BytesL (take c t) ∷ StringL (take c t) ∷ ListL ∷ TupleL ∷ SetL ∷ FrozenSetL ∷ DictL ∷ GlobalL (module_part c t) (name_part c t) ∷ ObjectL (module_part c t) (name_part c t) (fresh_in a) ∷ []

unfoldable pub label_of : ℕ → ℕ → ℕ → List ℕ → Label
label_of a b c t = get_or (labels_of a b c t) (kind_in a) NoneL

-- the items of List, Tuple, Set and FrozenSet; a Dict's keys and values; an Object's arguments and any state
unfoldable pub arity_of : ℕ → ℕ → ℕ
arity_of a b =
    cond (ltb (kind_in a) 6) 0
    (cond (ltb (kind_in a) 10) b
    (cond (eqb (kind_in a) 10) (b + b)
    (cond (eqb (kind_in a) 12) (suc (bit (state_in a))) 0)))

-- a kind of values that have others in them
abbrev pub holding : ℕ → Bool
holding k = ltb 5 k && not (eqb k 11)

-- where the text of a name that stands at b ends
abbrev pub names_end : ℕ → ℕ → ℕ
names_end b c = b + (c / 2 ^ 32 + c % 2 ^ 32)

-- ---- how many values may stand directly in a label, and how long a name may be

abbrev pub fitting : Label → ℕ → Bool
fitting NoneL n = eqb n 0
fitting (BoolL b) n = eqb n 0
fitting (I64L i) n = eqb n 0
fitting (F64L i) n = eqb n 0
fitting (BytesL t) n = eqb n 0
fitting (StringL t) n = eqb n 0
fitting ListL n = true
fitting TupleL n = true
fitting SetL n = true
fitting FrozenSetL n = true
fitting DictL n = eqb n (half n + half n)
fitting (GlobalL m k) n = eqb n 0 && ltb (length k) (2 ^ 32)
fitting (ObjectL m k b) n = ltb 0 n && (ltb n 3 && ltb (length k) (2 ^ 32))

unfoldable pub shaped : Forest → Bool
shaped nil = true
shaped (node l c r) = fitting l (count c) && (shaped c && shaped r)

pub and_l : (a b : Bool) → T (a && b) → T a
and_l true b h = tt
and_l false b h = h

pub and_r : (a b : Bool) → T (a && b) → T b
and_r true b h = h
and_r false b h = absurd h

object-name : (m k : List ℕ) (b : Bool) (n : ℕ) → T (fitting (ObjectL m k b) n) → length k < 2 ^ 32
object-name m k b n h = ltb→lt (length k) (2 ^ 32) (and_r (ltb n 3) _ (and_r (ltb 0 n) _ h))

object_few : (m k : List ℕ) (b : Bool) (n : ℕ) → T (fitting (ObjectL m k b) (suc (suc (suc n)))) → ⊥
object_few m k b n h =
    let l = ltb→lt (suc (suc (suc n))) 3 (and_l (ltb (suc (suc (suc n))) 3) (ltb (length k) (2 ^ 32)) (and_r (ltb 0 (suc (suc (suc n)))) (ltb (suc (suc (suc n))) 3 && ltb (length k) (2 ^ 32)) h)) in
    omega arith

pub arity_back : (l : Label) (p n z : ℕ) → T (fitting l n) → arity_of (word0 l n) (get_or (words l p n z) 0 0) ≡ n
unfolding arity_of kind_in state_in
arity_back NoneL p n z h = sym (eqb→eq n 0 h)
arity_back (BoolL b) p n z h = sym (eqb→eq n 0 h)
arity_back (I64L i) p n z h = sym (eqb→eq n 0 h)
arity_back (F64L i) p n z h = sym (eqb→eq n 0 h)
arity_back (BytesL t) p n z h = sym (eqb→eq n 0 h)
arity_back (StringL t) p n z h = sym (eqb→eq n 0 h)
arity_back ListL p n z h = refl
arity_back TupleL p n z h = refl
arity_back SetL p n z h = refl
arity_back FrozenSetL p n z h = refl
arity_back DictL p n z h = sym (eqb→eq n (half n + half n) h)
arity_back (GlobalL m k) p n z h = sym (eqb→eq n 0 (and_l (eqb n 0) (ltb (length k) (2 ^ 32)) h))
arity_back (ObjectL m k b) p zero z h = absurd h
arity_back (ObjectL m k true) p (suc zero) z h = refl
arity_back (ObjectL m k false) p (suc zero) z h = refl
arity_back (ObjectL m k true) p (suc (suc zero)) z h = refl
arity_back (ObjectL m k false) p (suc (suc zero)) z h = refl
arity_back (ObjectL m k b) p (suc (suc (suc n))) z h = absurd (object_few m k b n h)

-- a module and a name, from their two lengths in one word
module_back : (m k s : List ℕ) → length k < 2 ^ 32 → take ((length m * 2 ^ 32 + length k) / 2 ^ 32) (m ++ k ++ s) ≡ m
module_back m k s h = rw (high (length m) 32 h, append_assoc) (take-append_seam m (k ++ s))

name_back : (m k s : List ℕ) → length k < 2 ^ 32 → take ((length m * 2 ^ 32 + length k) % 2 ^ 32) (drop ((length m * 2 ^ 32 + length k) / 2 ^ 32) (m ++ k ++ s)) ≡ k
name_back m k s h = rw (high (length m) 32 h, low (length m) 32 h, append_assoc, drop-append_seam m (k ++ s)) (take-append_seam k s)

object_back : (m k s : List ℕ) (b : Bool) → length k < 2 ^ 32 → ObjectL (take ((length m * 2 ^ 32 + length k) / 2 ^ 32) (m ++ k ++ s)) (take ((length m * 2 ^ 32 + length k) % 2 ^ 32) (drop ((length m * 2 ^ 32 + length k) / 2 ^ 32) (m ++ k ++ s))) b ≡ ObjectL m k b
object_back m k s b q = ap₂ (λ (a c : List ℕ). ObjectL a c b) (module_back m k s q) (name_back m k s q)

pub label_back : (l : Label) (p n z : ℕ) (s : List ℕ) → T (fitting l n) → label_of (word0 l n) (get_or (words l p n z) 0 0) (get_or (words l p n z) 1 0) (text_of l ++ s) ≡ l
unfolding label_of kind_in fresh_in
label_back NoneL p n z s h = refl
label_back (BoolL true) p n z s h = refl
label_back (BoolL false) p n z s h = refl
label_back (I64L i) p n z s h = refl
label_back (F64L i) p n z s h = refl
label_back (BytesL t) p n z s h = ap BytesL (take-append_seam t s)
label_back (StringL t) p n z s h = ap StringL (take-append_seam t s)
label_back ListL p n z s h = refl
label_back TupleL p n z s h = refl
label_back SetL p n z s h = refl
label_back FrozenSetL p n z s h = refl
label_back DictL p n z s h = refl
label_back (GlobalL m k) p n z s h =
    let q : length k < 2 ^ 32 = ltb→lt (length k) (2 ^ 32) (and_r (eqb n 0) _ h) in
    ap₂ GlobalL (module_back m k s q) (name_back m k s q)
label_back (ObjectL m k b) p zero z s h = absurd h
label_back (ObjectL m k true) p (suc zero) z s h = object_back m k s true (object-name m k true 1 h)
label_back (ObjectL m k false) p (suc zero) z s h = object_back m k s false (object-name m k false 1 h)
label_back (ObjectL m k true) p (suc (suc zero)) z s h = object_back m k s true (object-name m k true 2 h)
label_back (ObjectL m k false) p (suc (suc zero)) z s h = object_back m k s false (object-name m k false 2 h)
label_back (ObjectL m k b) p (suc (suc (suc n))) z s h = absurd (object_few m k b n h)

-- the others have none in them, and are no Object
pub nothing_held : (a b : ℕ) → holding (kind_in a) ≡ false → arity_of a b ≡ 0
unfolding arity_of
nothing_held a b h = go (ltb 5 (kind_in a)) (eqb (kind_in a) 11) refl refl h
  where
    go : (x y : Bool) → ltb 5 (kind_in a) ≡ x → eqb (kind_in a) 11 ≡ y → (x && not y) ≡ false → cond (ltb (kind_in a) 6) 0 (cond (ltb (kind_in a) 10) b (cond (eqb (kind_in a) 10) (b + b) (cond (eqb (kind_in a) 12) (suc (bit (state_in a))) 0))) ≡ 0
    go false y p q e = let l = ltb-false 5 (kind_in a) p in rw (lt-ltb (kind_in a) 6 (omega arith))
    go true true p q e = let d = eqb-true (kind_in a) 11 q in rw d
    go true false p q e = let z : ◌≡◌ {A = ℕ} 0 1 = cc in absurd (omega arith)

-- ---- the number of values in a record, by its kind k
module _ (a b k : ℕ) (e : k ≡ kind_in a) where
  pub arity_none : k < 6 → 0 ≡ arity_of a b
  unfolding arity_of
  arity_none h = rw (← e, lt-ltb k 6 h)

  pub arity_items : 6 ≤ k → k < 10 → b ≡ arity_of a b
  unfolding arity_of
  arity_items g h = rw (← e, le-ltb k 6 g, lt-ltb k 10 h)

  pub arity_dict : k ≡ 10 → b + b ≡ arity_of a b
  unfolding arity_of
  arity_dict h = rw (← e, h)

  pub arity_object : k ≡ 12 → (b' : ℕ) → b' ≡ bit (state_in a) → 1 + b' ≡ arity_of a b
  unfolding arity_of
  arity_object h b' s = rw (← e, h, s) (omega arith)

  pub arity_other : 10 < k → k ≢ 12 → 0 ≡ arity_of a b
  unfolding arity_of
  arity_other h n = rw (← e, le-ltb k 6 (omega arith), le-ltb k 10 (omega arith), ne_eqb k 10 (omega arith), ne_eqb k 12 n)
