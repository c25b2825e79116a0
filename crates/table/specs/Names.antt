-- What a label asks of its text, apart from what it asks of its contents.
use Rattle.std.specs.Prelude.{ℕ, ◌^◌, ◌/◌, ◌%◌, ◌≤◌, ◌<◌, Bool, true, false, cond, ◌&&◌, List, ◌≡◌, refl, take, drop, ltb}
use Rattle.std.proofs.Math.Bool.{and_comm}
use Rattle.std.proofs.Common.{arith}
use borrow.Author.Tests.{lt-ltb, le-ltb}
use Rattle.utf8.specs.Utf8.{valid}
use Rattle.value.specs.Value.{Label, Forest, NoneL, BoolL, I64L, F64L, BytesL, StringL, ListL, TupleL, SetL, FrozenSetL, DictL, GlobalL, ObjectL}
use Rattle.value.specs.Shape.{kind_in, fresh_in, label_of}
use Rattle.value.specs.WellFormed.{proper, ascending, keys, first_is_tuple}
use Rattle.table.specs.Record.{right1, EachBelow, each_below, label_by}

-- String and names valid UTF-8
unfoldable pub valid_in : Label → Bool
valid_in NoneL = true
valid_in (BoolL b) = true
valid_in (I64L i) = true
valid_in (F64L i) = true
valid_in (BytesL t) = true
valid_in (StringL t) = valid t
valid_in ListL = true
valid_in TupleL = true
valid_in SetL = true
valid_in FrozenSetL = true
valid_in DictL = true
valid_in (GlobalL m k) = valid m && valid k
valid_in (ObjectL m k b) = valid m && valid k

-- set items and dict keys strictly ascending, an Object's arguments a Tuple
unfoldable pub ordered_in : Label → Forest → Bool
ordered_in NoneL c = true
ordered_in (BoolL b) c = true
ordered_in (I64L i) c = true
ordered_in (F64L i) c = true
ordered_in (BytesL t) c = true
ordered_in (StringL t) c = true
ordered_in ListL c = true
ordered_in TupleL c = true
ordered_in SetL c = ascending c
ordered_in FrozenSetL c = ascending c
ordered_in DictL c = ascending (keys c)
ordered_in (GlobalL m k) c = true
ordered_in (ObjectL m k b) c = first_is_tuple c

and-true : (b : Bool) → b ≡ (b && true)
and-true true = refl
and-true false = refl

pub proper_parts : (l : Label) (c : Forest) → proper l c ≡ (valid_in l && ordered_in l c)
unfolding valid_in ordered_in
proper_parts NoneL c = refl
proper_parts (BoolL b) c = refl
proper_parts (I64L i) c = refl
proper_parts (F64L i) c = refl
proper_parts (BytesL t) c = refl
proper_parts (StringL t) c = and-true (valid t)
proper_parts ListL c = refl
proper_parts TupleL c = refl
proper_parts SetL c = refl
proper_parts FrozenSetL c = refl
proper_parts DictL c = refl
proper_parts (GlobalL m k) c = and-true (valid m && valid k)
proper_parts (ObjectL m k b) c = and_comm (first_is_tuple c) (valid m && valid k)

-- the text from its place on, by the kind
unfoldable pub names_right : ℕ → ℕ → List ℕ → Bool
names_right k c x = cond (ltb k 5) true (cond (ltb k 6) (valid (take c x)) (cond (ltb k 11) true (valid (take (c / 2 ^ 32) x) && valid (take (c % 2 ^ 32) (drop (c / 2 ^ 32) x)))))

pub names_back : (a b c p : ℕ) (t : List ℕ) → kind_in a < 13 → b ≡ right1 (kind_in a) b p → valid_in (label_of a b c (drop b t)) ≡ names_right (kind_in a) c (drop p t)
unfolding valid_in label_of label_by right1 names_right EachBelow
names_back a b c p t known =
    each_below 13 (λ k. b ≡ right1 k b p → valid_in (label_by (fresh_in a) b c (drop b t) k) ≡ (let x = drop p t in names_right k c x))
    ((λ e. refl), ((λ e. refl), ((λ e. refl), ((λ e. refl), ((λ e. refl), ((λ e. rw e), ((λ e. refl), ((λ e. refl), ((λ e. refl), ((λ e. refl), ((λ e. refl), ((λ e. rw e), ((λ e. rw e), tt))))))))))))) (kind_in a) known

-- the text, by the kind k
module _ (a c k : ℕ) (t : List ℕ) (e : k ≡ kind_in a) where
  pub names-string : 5 ≤ k → k < 6 → names_right (kind_in a) c t ≡ valid (take c t)
  unfolding names_right
  names-string g h = rw (← e, le-ltb k 5 g, lt-ltb k 6 h)

  pub names-both : 11 ≤ k → names_right (kind_in a) c t ≡ (valid (take (c / 2 ^ 32) t) && valid (take (c % 2 ^ 32) (drop (c / 2 ^ 32) t)))
  unfolding names_right
  names-both g = rw (← e, le-ltb k 5 (omega arith), le-ltb k 6 (omega arith), le-ltb k 11 g)
