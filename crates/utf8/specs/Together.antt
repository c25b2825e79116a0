-- Tests that are made together, so that several bytes cost one branch.
use Rattle.std.specs.Prelude.{ℕ, suc, zero, ◌≤◌, Bool, true, false, ◌&&◌, ◌≡◌, refl, leb}
use Rattle.std.proofs.Common.{sym, ◌∙◌, leb-true, leb-false, arith}
use Rattle.utf8.specs.Rows.{and_left, and_right}

-- a first test, and those numbered 1 to n
unfoldable pub together : Bool → (ℕ → Bool) → ℕ → Bool
together b p zero = b
together b p (suc n) = together b p n && p (suc n)

-- where all hold, each does
pub together-each : (b : Bool) (p : ℕ → Bool) → b ≡ p 0 → (n : ℕ) → together b p n ≡ true → (k : ℕ) → k ≤ n → p k ≡ true
unfolding together
together-each b p e zero h k l = let z : k ≡ 0 = omega arith in rw z (sym e ∙ h)
together-each b p e (suc n) h k l = go (leb k n) refl (together-each b p e n (and_left (together b p n) (p (suc n)) h) k)
  where
    go : (x : Bool) → leb k n ≡ x → (k ≤ n → p k ≡ true) → p k ≡ true
    go true q g = g (leb-true k n q)
    go false q g = let y = leb-false k n q in let z : k ≡ suc n = omega arith in rw z (and_right (together b p n) (p (suc n)) h)
