-- Facts of what comes out of a computation that may refuse: one combinator for each way in which the parts of a step are joined.
use Prim.Native.Nat.{ℕ, suc, zero, ◌<◌}
use Rattle.std.specs.Prelude.{Bool, true, false, ◌≡◌, refl, length, get_or, take, drop, T}
use mathlib.Core.List.{List, [], ◌∷◌, ◌++◌}
use Rattle.std.proofs.Common.{arith}
use Rattle.refusal.specs.Read.{Read, got, refused}
use Rattle.refusal.specs.declared.Refusal.{Refusal}
use Rattle.steps.specs.State.{Res, ok, no, ◌>>=◌, need, leaf}

-- P holds of what comes out, if anything does
unfoldable pub Out : {A : Type 0} → (A → Type 0) → Res A → Type 0
Out P (ok a) = P a
Out P (no why) = Unit {0}

pub out : {A : Type 0} (P : A → Type 0) (a : A) → P a → Out P (ok a)
unfolding Out
out P a h = h

pub of_out : {A : Type 0} (P : A → Type 0) (r : Res A) (a : A) → Out P r → r ≡ ok a → P a
unfolding Out
of_out P r a h e = rw e at h

pub weaken : {A : Type 0} (P Q : A → Type 0) (r : Res A) → Out P r → ((a : A) → P a → Q a) → Out Q r
unfolding Out
weaken P Q (ok a) h k = k a h
weaken P Q (no why) h k = tt

pub both_out : {A : Type 0} (P Q : A → Type 0) (r : Res A) → Out P r → Out Q r → Out (λ (a : A). P a × Q a) r
unfolding Out
both_out P Q (ok a) p q = (p, q)
both_out P Q (no why) p q = tt

pub bind : {A B : Type 0} (P : A → Type 0) (Q : B → Type 0) (r : Res A) (f : A → Res B) → Out P r → ((a : A) → P a → Out Q (f a)) → Out Q (r >>= f)
unfolding Out ◌>>=◌
bind P Q (ok a) f h k = k a h
bind P Q (no why) f h k = tt

-- nothing is known of what came out of the first part but that it did
pub bind_any : {A B : Type 0} (Q : B → Type 0) (r : Res A) (f : A → Res B) → ((a : A) → r ≡ ok a → Out Q (f a)) → Out Q (r >>= f)
unfolding Out ◌>>=◌
bind_any Q (ok a) f k = k a refl
bind_any Q (no why) f k = tt

pub bind_need : {B : Type 0} (Q : B → Type 0) (b : Bool) (why : Refusal) (f : Unit {0} → Res B) → (T b → Out Q (f tt)) → Out Q (need b why >>= f)
unfolding Out ◌>>=◌ need
bind_need Q true why f k = k tt
bind_need Q false why f k = tt

-- a check at the start of a part that is joined to more
pub join-need : {A B : Type 0} (Q : B → Type 0) (b : Bool) (why : Refusal) (g : Unit {0} → Res A) (f : A → Res B) → (T b → Out Q (g tt >>= f)) → Out Q (need b why >>= g >>= f)
unfolding Out ◌>>=◌ need
join-need Q true why g f k = k tt
join-need Q false why g f k = tt

pub bind_leaf : {A B : Type 0} (Q : B → Type 0) (r : Read A) (f : A → Res B) → ((a : A) → r ≡ got a → Out Q (f a)) → Out Q (leaf r >>= f)
unfolding Out ◌>>=◌ leaf
bind_leaf Q (got a) f k = k a refl
bind_leaf Q (refused why place) f k = tt

-- ---- a fact of each member of a list

unfoldable pub Every : {A : Type 0} → (A → Type 0) → List A → Type 0
Every P [] = Unit {0}
Every P (x ∷ l) = P x × Every P l

module _ {A : Type 0} (P : A → Type 0) where
  pub every_append : (k l : List A) → Every P k → Every P l → Every P (k ++ l)
  unfolding Every
  every_append [] l a b = b
  every_append (x ∷ k) l a b = (a.0, every_append k l a.1 b)

  pub every_take : (n : ℕ) (l : List A) → Every P l → Every P (take n l)
  unfolding Every
  every_take zero l a = tt
  every_take (suc n) [] a = tt
  every_take (suc n) (x ∷ l) a = (a.0, every_take n l a.1)

  pub every_drop : (n : ℕ) (l : List A) → Every P l → Every P (drop n l)
  unfolding Every
  every_drop zero l a = a
  every_drop (suc n) [] a = tt
  every_drop (suc n) (x ∷ l) a = every_drop n l a.1

  pub every_at : (n : ℕ) (l : List A) (d : A) → Every P l → n < length l → P (get_or l n d)
  unfolding Every
  every_at n [] d a h = absurd (omega arith)
  every_at zero (x ∷ l) d a h = a.0
  every_at (suc n) (x ∷ l) d a h = every_at n l d a.1 (omega arith)

  pub every_of : (l : List A) (d : A) → ((n : ℕ) → n < length l → P (get_or l n d)) → Every P l
  unfolding Every
  every_of [] d h = tt
  every_of (x ∷ l) d h = (h 0 (omega arith), every_of l d (λ n u. h (suc n) (omega arith)))

  pub every_more : (Q : A → Type 0) (l : List A) → ((x : A) → P x → Q x) → Every P l → Every Q l
  unfolding Every
  every_more Q [] h a = tt
  every_more Q (x ∷ l) h a = (h x a.0, every_more Q l h a.1)
