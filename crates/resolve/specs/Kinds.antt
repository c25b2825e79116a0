-- The kind of a node's value, by the node's first word, and the kinds that have contents.
use Rattle.std.specs.Prelude.{ℕ, suc, zero, ◌-◌, ◌<◌, ◌≤◌, Bool, true, false, cond, List, [], ◌∷◌, ◌≡◌, eqb, ltb}
use Rattle.std.proofs.Math.Path.{refl, sym}
use Rattle.std.proofs.Common.{◌∙◌, ap}
use Rattle.std.proofs.Math.ListN.{get_or, get_or-map, get_or-append, get_or-eq_default}
use borrow.Author.Tests.{le-ltb, ne_eqb}
use Rattle.std.proofs.Math.Decide.{dec_lt, ℕ_discrete}
use native.Mathlib.Omega.{arith}
use Rattle.value.specs.Value.{Label, kind, NoneL, BoolL, I64L, F64L, BytesL, StringL, ListL, TupleL, SetL, FrozenSetL, DictL, GlobalL, ObjectL}
use Rattle.value.specs.Shape.{kind_in}
use Rattle.store.specs.Rooms.{tabulated}
use Rattle.store.specs.RoomLists.{get_d_tab}
use Rattle.steps.specs.NodeWords.{first, second}
use Rattle.resolve.specs.Noted.{is_container}
use Rattle.resolve.specs.Dues.{is_due}
use Rattle.resolve.specs.Shown.{node_labels, node_label, sorted_in}

-- ---- a value's kind

-- the kinds of labels, for the kinds 0 to 14 of nodes
abbrev kinds : List ℕ
kinds = 0 ∷ 1 ∷ 2 ∷ 3 ∷ 4 ∷ 5 ∷ 6 ∷ 7 ∷ 8 ∷ 9 ∷ 10 ∷ 11 ∷ 12 ∷ 4 ∷ 5 ∷ []

-- the kind of a node's label, by the node's first word
unfoldable pub kind_of : ℕ → ℕ
kind_of a = get_or kinds (kind_in a) 0

module _ (a : ℕ) where
  pub kind-same : kind_in a < 13 → kind_of a ≡ kind_in a
  unfolding kind_of tabulated
  kind-same h = get_or-append (tabulated (λ i. i) 13) (4 ∷ 5 ∷ []) 0 (kind_in a) h ∙ get_d_tab (λ i. i) 13 (kind_in a) 0 h

  -- 13 and 14 are texts as their lines
  pub kind-line : 13 ≤ kind_in a → kind_in a < 15 → kind_of a ≡ kind_in a - 9
  unfolding kind_of
  kind-line h l = go (ℕ_discrete (kind_in a) 13)
    where
      go : Dec (kind_in a ≡ 13) → get_or kinds (kind_in a) 0 ≡ kind_in a - 9
      go (yes e) = rw e
      go (no e) = let f : kind_in a ≡ 14 = omega arith in rw f

  -- behind them is None
  pub kind-none : 15 ≤ kind_in a → kind_of a ≡ 0
  unfolding kind_of
  kind-none h = get_or-eq_default kinds 0 {n = kind_in a} (omega arith)

  pub kind-small : kind_of a < 13
  kind-small = go (dec_lt (kind_in a) 13) (dec_lt (kind_in a) 15)
    where
      go : Dec (kind_in a < 13) → Dec (kind_in a < 15) → kind_of a < 13
      go (yes x) y = rw (kind-same x) x
      go (no x) (yes y) = rw (kind-line (omega arith) y) (omega arith)
      go (no x) (no y) = rw (kind-none (omega arith)) (omega arith)

  -- a kind below 4 and not 0 is the node's own
  pub kind_low : 0 < kind_of a → kind_of a < 4 → kind_in a ≡ kind_of a
  kind_low l m = go (dec_lt (kind_in a) 13) (dec_lt (kind_in a) 15)
    where
      go : Dec (kind_in a < 13) → Dec (kind_in a < 15) → kind_in a ≡ kind_of a
      go (yes x) y = sym (kind-same x)
      go (no x) (yes y) = absurd (omega (arith, kind-line (omega arith) y))
      go (no x) (no y) = absurd (omega (arith, kind-none (omega arith)))

-- ---- contents

-- the kinds with contents, of values and of nodes
unfoldable pub container_kind : ℕ → Bool
container_kind k = cond (ltb k 6) false (cond (ltb k 11) true (eqb k 12))

pub container-kind : (l : Label) → is_container l ≡ container_kind (kind l)
unfolding container_kind
container-kind NoneL = refl
container-kind (BoolL b) = refl
container-kind (I64L n) = refl
container-kind (F64L n) = refl
container-kind (BytesL t) = refl
container-kind (StringL t) = refl
container-kind ListL = refl
container-kind TupleL = refl
container-kind SetL = refl
container-kind FrozenSetL = refl
container-kind DictL = refl
container-kind (GlobalL m n) = refl
container-kind (ObjectL m n b) = refl

-- ---- every kind

-- what holds of each kind that has a label of its own and of all other numbers holds of every number
pub by_kind : (Q : ℕ → Type 0) → Q 0 → Q 1 → Q 2 → Q 3 → Q 4 → Q 5 → Q 6 → Q 7 → Q 8 → Q 9 → Q 10 → Q 11 → Q 12 → Q 13 → Q 14 → ((k : ℕ) → 15 ≤ k → Q k) → (k : ℕ) → Q k
by_kind Q q0 q1 q2 q3 q4 q5 q6 q7 q8 q9 q10 q11 q12 q13 q14 r zero = q0
by_kind Q q0 q1 q2 q3 q4 q5 q6 q7 q8 q9 q10 q11 q12 q13 q14 r (suc zero) = q1
by_kind Q q0 q1 q2 q3 q4 q5 q6 q7 q8 q9 q10 q11 q12 q13 q14 r (suc (suc zero)) = q2
by_kind Q q0 q1 q2 q3 q4 q5 q6 q7 q8 q9 q10 q11 q12 q13 q14 r (suc (suc (suc zero))) = q3
by_kind Q q0 q1 q2 q3 q4 q5 q6 q7 q8 q9 q10 q11 q12 q13 q14 r (suc (suc (suc (suc zero)))) = q4
by_kind Q q0 q1 q2 q3 q4 q5 q6 q7 q8 q9 q10 q11 q12 q13 q14 r (suc (suc (suc (suc (suc zero))))) = q5
by_kind Q q0 q1 q2 q3 q4 q5 q6 q7 q8 q9 q10 q11 q12 q13 q14 r (suc (suc (suc (suc (suc (suc zero)))))) = q6
by_kind Q q0 q1 q2 q3 q4 q5 q6 q7 q8 q9 q10 q11 q12 q13 q14 r (suc (suc (suc (suc (suc (suc (suc zero))))))) = q7
by_kind Q q0 q1 q2 q3 q4 q5 q6 q7 q8 q9 q10 q11 q12 q13 q14 r (suc (suc (suc (suc (suc (suc (suc (suc zero)))))))) = q8
by_kind Q q0 q1 q2 q3 q4 q5 q6 q7 q8 q9 q10 q11 q12 q13 q14 r (suc (suc (suc (suc (suc (suc (suc (suc (suc zero))))))))) = q9
by_kind Q q0 q1 q2 q3 q4 q5 q6 q7 q8 q9 q10 q11 q12 q13 q14 r (suc (suc (suc (suc (suc (suc (suc (suc (suc (suc zero)))))))))) = q10
by_kind Q q0 q1 q2 q3 q4 q5 q6 q7 q8 q9 q10 q11 q12 q13 q14 r (suc (suc (suc (suc (suc (suc (suc (suc (suc (suc (suc zero))))))))))) = q11
by_kind Q q0 q1 q2 q3 q4 q5 q6 q7 q8 q9 q10 q11 q12 q13 q14 r (suc (suc (suc (suc (suc (suc (suc (suc (suc (suc (suc (suc zero)))))))))))) = q12
by_kind Q q0 q1 q2 q3 q4 q5 q6 q7 q8 q9 q10 q11 q12 q13 q14 r (suc (suc (suc (suc (suc (suc (suc (suc (suc (suc (suc (suc (suc zero))))))))))))) = q13
by_kind Q q0 q1 q2 q3 q4 q5 q6 q7 q8 q9 q10 q11 q12 q13 q14 r (suc (suc (suc (suc (suc (suc (suc (suc (suc (suc (suc (suc (suc (suc zero)))))))))))))) = q14
by_kind Q q0 q1 q2 q3 q4 q5 q6 q7 q8 q9 q10 q11 q12 q13 q14 r (suc (suc (suc (suc (suc (suc (suc (suc (suc (suc (suc (suc (suc (suc (suc k))))))))))))))) = r (suc (suc (suc (suc (suc (suc (suc (suc (suc (suc (suc (suc (suc (suc (suc k))))))))))))))) (omega arith)

-- ---- the label of a node, by its first word

module _ (p ws : List ℕ) (i : ℕ) where
  abbrev all : List Label
  all = node_labels p ws (first ws i) (second ws i)

  pub kind_is : kind (node_label p ws i) ≡ kind_of (first ws i)
  unfolding node_label kind_of
  kind_is = sym (get_or-map kind all (kind_in (first ws i)) NoneL)

  pub container_is : is_container (node_label p ws i) ≡ container_kind (kind_of (first ws i))
  container_is = container-kind (node_label p ws i) ∙ ap container_kind kind_is

  -- a container by its node's kind, and a Set or a Dict
  pub container_node : is_container (node_label p ws i) ≡ container_kind (kind_in (first ws i))
  unfolding node_label container_kind
  container_node =
      by_kind (λ k. is_container (get_or all k NoneL) ≡ container_kind k)
      refl refl refl refl refl refl refl refl refl refl refl refl refl refl refl
      (λ k l. rw (get_or-eq_default all NoneL l, le-ltb k 6 (omega arith), le-ltb k 11 (omega arith), ne_eqb k 12 (λ e. omega arith)))
      (kind_in (first ws i))

  pub sorted_due : is_due (node_label p ws i) ≡ sorted_in (kind_in (first ws i))
  unfolding node_label sorted_in
  sorted_due =
      by_kind (λ k. is_due (get_or all k NoneL) ≡ sorted_in k)
      refl refl refl refl refl refl refl refl refl refl refl refl refl refl refl
      (λ k l. rw (get_or-eq_default all NoneL l, ne_eqb k 8 (λ e. omega arith), ne_eqb k 9 (λ e. omega arith), ne_eqb k 10 (λ e. omega arith)))
      (kind_in (first ws i))
