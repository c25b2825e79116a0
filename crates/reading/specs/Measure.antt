-- RULES A3.3: depth, values and text, measured on the tree that `Builder` makes, before equal keys or
-- items collapse (`depth`, `size` and `text` of crate value, on that tree). A Set costs its argument too, and an Object its arguments'
-- Tuple; a node inside itself is one None; a copied part measures what it measured at its first place.
use Rattle.std.specs.Prelude.{ℕ, ◌≤◌, ◌<◌, Bool, length}
use Rattle.std.proofs.Math.Bool.{true, false}
use Rattle.std.proofs.Math.Path.{◌≡◌, refl}
use Rattle.std.proofs.Math.Dec.{leb}
use borrow.Author.Tests.{le-leb, lt-leb, leb-true}
use Rattle.std.proofs.Common.{arith}
use Rattle.refusal.specs.declared.Refusal.TheVariants.{TooDeep, TooManyValues, TextFull}
use Rattle.value.specs.Value.{Forest, depth, size, text}
use Rattle.steps.specs.State.{Res, ok, no, ◌>>=◌, need}

abbrev pub depth_limit : ℕ
depth_limit = 64

abbrev pub values_limit : ℕ
values_limit = 2048

abbrev pub text_limit : ℕ
text_limit = 65536

-- the refusal that is due over the whole tree: 17, then 18, then 19
unfoldable pub measured : Forest → Res (Unit {0})
measured f = do
  _ ← need (leb (depth f) depth_limit) TooDeep
  _ ← need (leb (size f) values_limit) TooManyValues
  need (leb (length (text f)) text_limit) TextFull

-- ---- the same, case by case

module _ (f : Forest) where
  pub too_deep : depth_limit < depth f → measured f ≡ no TooDeep
  unfolding measured ◌>>=◌ need
  too_deep h = rw (lt-leb (depth f) depth_limit h)

  pub too_many_values : depth f ≤ depth_limit → values_limit < size f → measured f ≡ no TooManyValues
  unfolding measured ◌>>=◌ need
  too_many_values d h = rw (le-leb (depth f) depth_limit d, lt-leb (size f) values_limit h)

  pub text_full : depth f ≤ depth_limit → size f ≤ values_limit → text_limit < length (text f) → measured f ≡ no TextFull
  unfolding measured ◌>>=◌ need
  text_full d v h = rw (le-leb (depth f) depth_limit d, le-leb (size f) values_limit v, lt-leb (length (text f)) text_limit h)

  pub within_limits : depth f ≤ depth_limit → size f ≤ values_limit → length (text f) ≤ text_limit → measured f ≡ ok tt
  unfolding measured ◌>>=◌ need
  within_limits d v h = rw (le-leb (depth f) depth_limit d, le-leb (size f) values_limit v, le-leb (length (text f)) text_limit h)

  -- nothing due: all three are within
  pub measured-within : measured f ≡ ok tt → (depth f ≤ depth_limit) × (size f ≤ values_limit) × (length (text f) ≤ text_limit)
  unfolding measured ◌>>=◌ need
  measured-within = go (leb (depth f) depth_limit) refl (leb (size f) values_limit) refl (leb (length (text f)) text_limit) refl
    where
      go : (a : Bool) → leb (depth f) depth_limit ≡ a → (b : Bool) → leb (size f) values_limit ≡ b → (c : Bool) → leb (length (text f)) text_limit ≡ c
          → (need a TooDeep >>= λ x. need b TooManyValues >>= λ y. need c TextFull) ≡ ok tt
          → (depth f ≤ depth_limit) × (size f ≤ values_limit) × (length (text f) ≤ text_limit)
      go true p true q true r h = (leb-true (depth f) depth_limit p, leb-true (size f) values_limit q, leb-true (length (text f)) text_limit r)
      go false p b q c r h = absurd (let z : ◌≡◌ {A = ℕ} 0 1 = cc in omega arith)
      go true p false q c r h = absurd (let z : ◌≡◌ {A = ℕ} 0 1 = cc in omega arith)
      go true p true q false r h = absurd (let z : ◌≡◌ {A = ℕ} 0 1 = cc in omega arith)
