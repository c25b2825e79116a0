-- A call that writes something of a table's value to a lent output: 21, else what is due for the value and the output. Where
-- bytes are due, 22 exactly where they are longer than the output; else they stand at its front, and their length is answered.
use Rattle.std.specs.Prelude.{ℕ, ◌≤◌, ◌<◌, cond, List, ◌++◌, ◌⊎◌, ◌≡◌, leb, length, drop}
use Rattle.std.proofs.Common.{inl, inr, sym, ◌∙◌, le-leb}
use Rattle.std.proofs.lemmas.Bool.{lt-leb}
use Rattle.refusal.specs.declared.Answer.{Answer}
use Rattle.refusal.specs.declared.Refusal.TheVariants.{BadTable, OutputFull}
use Rattle.refusal.specs.declared.Which.TheVariants.{First}
use Rattle.refusal.specs.Numbers.{refused_answer}
use Rattle.value.specs.Value.{Value}
use Rattle.value.specs.WellFormed.{WellFormed}
use Rattle.table.specs.Compare.{decided}

-- a call's answer, and the output behind it
pub data Told : Type 0 where
  told : Answer → List ℕ → Told

-- number 0 and the bytes written as length
abbrev pub done : ℕ → Answer
done n = record { number = 0; detail = 0; length = n; count = 0 }

-- b at the front of the output where that is long enough, else nothing
unfoldable pub answered : List ℕ → List ℕ → Told
answered b o = cond (leb (length b) (length o)) (told (done (length b)) (b ++ drop (length b) o)) (told (refused_answer OutputFull) o)

pub record Call (due : Value → List ℕ → Told) (w : List ℕ) (n : ℕ) (t o o' : List ℕ) (r : Answer) : Type 0 where
  pub bad : (WellFormed w n t → ⊥) → told r o' ≡ told (refused_answer (BadTable First)) o
  pub good : (f : WellFormed w n t) → told r o' ≡ due f.value o

-- the answer and the output are determined
pub call_one : {due : Value → List ℕ → Told} {w : List ℕ} {n : ℕ} {t o p q : List ℕ} {r s : Answer} → Call due w n t o p r → Call due w n t o q s → (r ≡ s) × (p ≡ q)
call_one {due} {w} {n} {t} {o} {p} {q} {r} {s} x y = go (decided w n t)
  where
    both : told r p ≡ told s q → (r ≡ s) × (p ≡ q)
    both e = (cc, cc)

    go : WellFormed w n t ⊎ (WellFormed w n t → ⊥) → (r ≡ s) × (p ≡ q)
    go (inl f) = both (x.good f ∙ sym (y.good f))
    go (inr h) = both (x.bad h ∙ sym (y.bad h))

-- ---- the answers

module _ (due : Value → List ℕ → Told) (w : List ℕ) (n : ℕ) (t o o' : List ℕ) (r : Answer) where
  pub call_bad : (WellFormed w n t → ⊥) → r ≡ refused_answer (BadTable First) → o' ≡ o → Call due w n t o o' r
  call_bad h e k = record { bad = λ q. (cc); good = λ f. absurd (h f) }

  pub call_good : WellFormed w n t → ((f : WellFormed w n t) → told r o' ≡ due f.value o) → Call due w n t o o' r
  call_good f h = record { bad = λ q. absurd (q f); good = h }

-- the output is too short, or it is not
pub answered_full : (b o : List ℕ) → length o < length b → answered b o ≡ told (refused_answer OutputFull) o
unfolding answered
answered_full b o h = rw (lt-leb (length b) (length o) h)

pub answered-all : (b o : List ℕ) → length b ≤ length o → answered b o ≡ told (done (length b)) (b ++ drop (length b) o)
unfolding answered
answered-all b o h = rw (le-leb (length b) (length o) h)
