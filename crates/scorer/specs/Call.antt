-- What the score call answers, for any lent table: 21, then 24 exactly where the table's value is no sheet, else its score and items.
use Rattle.std.specs.Prelude.{ℕ, cond, List, ◌⊎◌, ◌≡◌}
use Rattle.std.proofs.Common.{inl, inr, sym, ◌∙◌}
use Rattle.refusal.specs.Numbers.{number_of}
use Rattle.refusal.specs.declared.Which.TheVariants.{First}
use Rattle.refusal.specs.declared.Refusal.TheVariants.{BadTable}
use Rattle.value.specs.Value.{Value}
use Rattle.value.specs.WellFormed.{WellFormed}
use Rattle.table.specs.Compare.{decided}
use Rattle.scorer.specs.Sheet.{is_sheet, score_of, items_of}
use Rattle.scorer.specs.declared.Scored.{Scored}
use Rattle.std.specs.declared.option.Option.{Option}
use Rattle.std.specs.declared.option.Option.TheVariants.{None, Some}

-- number and detail of SheetShape
abbrev pub sheet_shape : ℕ × ℕ
sheet_shape = (24, 0)

-- a refusal, by its number and detail
abbrev pub unscored : ℕ × ℕ → Scored
unscored why = record { number = why.0; detail = why.1; score = 0; items = 0 }

-- the answer for a value
unfoldable pub scored_of : Option (ℕ × ℕ) → Scored
scored_of None = unscored sheet_shape
scored_of (Some (s, n)) = record { number = 0; detail = 0; score = s; items = n }

unfoldable pub tally_of : Value → Option (ℕ × ℕ)
tally_of v = cond {A = Option (ℕ × ℕ)} (is_sheet v) (Some (score_of v, items_of v)) None

-- of whatever count the table is well formed
abbrev pub Assesses : List ℕ → List ℕ → Option (ℕ × ℕ) → Type 0
Assesses w t r = (n : ℕ) (f : WellFormed w n t) → r ≡ tally_of f.value

-- the call, lent n records in w and the text t, answers r
pub record Scores (w : List ℕ) (n : ℕ) (t : List ℕ) (r : Scored) : Type 0 where
  pub bad : (WellFormed w n t → ⊥) → r ≡ unscored (number_of (BadTable First))
  pub good : (f : WellFormed w n t) → r ≡ scored_of (tally_of f.value)

-- the answer is determined
pub score_one : {w : List ℕ} {n : ℕ} {t : List ℕ} {r s : Scored} → Scores w n t r → Scores w n t s → r ≡ s
score_one {w} {n} {t} {r} {s} x y = go (decided w n t)
  where
    go : WellFormed w n t ⊎ (WellFormed w n t → ⊥) → r ≡ s
    go (inl f) = x.good f ∙ sym (y.good f)
    go (inr h) = x.bad h ∙ sym (y.bad h)

-- ---- the code's answers

module _ (w : List ℕ) (n : ℕ) (t : List ℕ) (r : Scored) where
  pub scores_good : WellFormed w n t → ((f : WellFormed w n t) → r ≡ scored_of (tally_of f.value)) → Scores w n t r
  scores_good f h = record { bad = λ q. absurd (q f); good = h }
