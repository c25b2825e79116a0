-- The decimal digits at the front of a text.
use Rattle.std.specs.Prelude.{ℕ, ◌+◌, Bool, true, false, cond, ◌&&◌, List, [], ◌∷◌, ◌++◌, ◌≡◌, refl, leb, length, drop}
use Rattle.std.proofs.Common.{ap, sym, ◌∙◌, length-append}

-- '0' to '9'
unfoldable pub digit : ℕ → Bool
digit b = leb 0x30 b && leb b 0x39

-- the digits that a text begins with
unfoldable pub lead : List ℕ → List ℕ
lead [] = []
lead (b ∷ s) = cond (digit b) (b ∷ lead s) []

-- what comes after them
unfoldable pub past : List ℕ → List ℕ
past [] = []
past (b ∷ s) = cond (digit b) (past s) (b ∷ s)

pub lead-past : (s : List ℕ) → lead s ++ past s ≡ s
unfolding lead past
lead-past [] = refl
lead-past (b ∷ s) = go (digit b) (lead-past s)
  where
    go : (x : Bool) → lead s ++ past s ≡ s → cond x (b ∷ lead s) [] ++ cond x (past s) (b ∷ s) ≡ b ∷ s
    go true h = ap (λ (t : List ℕ). b ∷ t) h
    go false h = refl

pub lead-length : (s : List ℕ) → length (lead s) + length (past s) ≡ length s
lead-length s = sym (length-append (lead s) (past s)) ∙ ap length (lead-past s)

pub drop-lead : (s : List ℕ) → drop (length (lead s)) s ≡ past s
unfolding lead past
drop-lead [] = refl
drop-lead (b ∷ s) = go (digit b) (drop-lead s)
  where
    go : (x : Bool) → drop (length (lead s)) s ≡ past s → drop (length (cond x (b ∷ lead s) [])) (b ∷ s) ≡ cond x (past s) (b ∷ s)
    go true h = h
    go false h = refl
