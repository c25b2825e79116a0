-- A step of the profile is the full reader's, unless its byte is one of the six opcodes outside the profile: then it is 26 with that byte.
-- So a run of the profile is the full reader's, or ends at the first of the six that the full reader comes to.
use Prim.Native.Nat.{ℕ, suc, zero, ◌<◌}
use Rattle.std.specs.Prelude.{Bool, true, false, Some, None, List, ◌∷◌, ◌≡◌, get_or, take, drop, T}
use Rattle.std.proofs.Math.Path.{refl, sym}
use Rattle.std.proofs.Common.{◌∙◌, arith}
use Rattle.std.proofs.Math.ListN.{length}
use Rattle.refusal.specs.declared.Refusal.TheVariants.{OutsideProfile}
use Rattle.op.specs.Edition.{outside, unknown, highest, is_one_of, against}
use Rattle.op.specs.declared.Edition.TheVariants.{Full, Plain}
use Rattle.op.specs.declared.Objection.TheVariants.{Outside}
use Rattle.steps.specs.State.{State, Res, ok, no, ◌>>=◌, byte}
use Rattle.steps.specs.Run.{Next, goes, stops, admit, step, start, run}
use Rattle.steps.specs.Out.{Out}
use Rattle.steps.specs.Arguments.{ReadsOnly, byte-read}
use Rattle.steps.specs.Pickletools.{byte-leads}
use Rattle.steps.specs.Keeps.{state_after}
use Rattle.steps.specs.Shrinks.{step_less}
use Rattle.steps.specs.Fuel.{run_from, run_finish, finish_refused, finish_stops, finish-goes}
use Rattle.machine.specs.Ran.{after_steps}
use Rattle.run_laws.specs.Steps.{one_step, still_to_run}

-- the byte of one of the six
abbrev pub Barred : ℕ → Type 0
Barred b = T (is_one_of (outside Plain) b)

-- ---- one step

full_free : (b : ℕ) → against Full b ≡ None
unfolding against outside unknown is_one_of
full_free b = refl

plain_free : (b : ℕ) → is_one_of (outside Plain) b ≡ false → against Plain b ≡ None
unfolding against unknown is_one_of
plain_free b e = rw e

plain_barred : (b : ℕ) → is_one_of (outside Plain) b ≡ true → against Plain b ≡ Some Outside
unfolding against
plain_barred b e = rw e

pub data StepAlike (s : State) : Type 0 where
  as_full : step Plain s ≡ step Full s → StepAlike s
  barred : (b : ℕ) (rest : List ℕ) → s.input ≡ b ∷ rest → Barred b → step Plain s ≡ no (OutsideProfile b) → StepAlike s

pub step_alike : (s : State) → StepAlike s
unfolding step admit ◌>>=◌ highest Out
step_alike s = go (byte s) refl (byte-read s)
  where
    go : (r : Res (ℕ × State)) → byte s ≡ r → Out (λ (p : ℕ × State). (p.0 ≡ get_or (take 1 s.input) 0 0) × ReadsOnly 1 s p.1) r → StepAlike s
    go (no why) e h = as_full (rw e)
    go (ok p) e h = by (is_one_of (outside Plain) p.0) refl
      where
        by : (c : Bool) → is_one_of (outside Plain) p.0 ≡ c → StepAlike s
        by true q = barred p.0 (drop 1 s.input) (byte-leads s p h) (rw q tt) (rw (e, plain_barred p.0 q))
        by false q = as_full (rw (e, plain_free p.0 q, full_free p.0))

-- ---- the run

-- the full reader comes to the byte b, where an opcode stands
pub record Meets (p : List ℕ) (b : ℕ) : Type 0 where
  pub steps : ℕ
  pub state : State
  pub there : after_steps Full steps p ≡ ok (goes state)
  pub rest : List ℕ
  pub at : state.input ≡ b ∷ rest

pub data RunAlike (p : List ℕ) : Type 0 where
  runs_as_full : run Plain p ≡ run Full p → RunAlike p
  runs_barred : (b : ℕ) → Barred b → Meets p b → run Plain p ≡ no (OutsideProfile b) → RunAlike p

module _ (p : List ℕ) where
  -- s after m steps of the full reader, with n - 1 bytes left at most
  from : (n m : ℕ) (s : State) → length s.input < n → after_steps Full m p ≡ ok (goes s) → run_from Full s ≡ run Full p → run_from Plain s ≡ run Plain p → RunAlike p
  unfolding Out state_after
  from zero m s l e f g = absurd (omega arith)
  from (suc n) m s l e f g = by (step_alike s) (step Full s) refl (step_less Full s) (from n (suc m))
    where
      by : StepAlike s → (x : Res Next) → step Full s ≡ x → Out (λ (k : Next). length (state_after k).input < length s.input) x
          → ((t : State) → length t.input < n → after_steps Full (suc m) p ≡ ok (goes t) → run_from Full t ≡ run Full p → run_from Plain t ≡ run Plain p → RunAlike p)
          → RunAlike p
      by (barred b r i o q) x y h more = runs_barred b o (record { steps = m; state = s; there = e; rest = r; at = i }) (sym g ∙ finish_refused Plain s s (OutsideProfile b) q)
      by (as_full q) (no why) y h more = runs_as_full (sym g ∙ finish_refused Plain s s why (q ∙ y) ∙ sym (finish_refused Full s s why y) ∙ f)
      by (as_full q) (ok (stops t)) y h more = runs_as_full (sym g ∙ finish_stops Plain s t (q ∙ y) ∙ sym (finish_stops Full s t y) ∙ f)
      by (as_full q) (ok (goes t)) y h more = more t (omega arith) (one_step Full p m s e ∙ y) (sym (finish-goes Full s t y) ∙ f) (sym (finish-goes Plain s t (q ∙ y)) ∙ g)

  pub run_alike : RunAlike p
  unfolding after_steps start
  run_alike = from (suc (length p)) 0 (start p) (omega arith) refl (sym (run_finish Full p)) (sym (run_finish Plain p))

-- ---- the steps that are executed

-- among the steps that the full reader executes is one at the byte b
pub record Executes (p : List ℕ) (b : ℕ) : Type 0 where
  pub meets : Meets p b
  pub then : Next
  pub does : step Full meets.state ≡ ok then

-- where it comes to STOP it has executed all that it came to
pub executes : (p : List ℕ) (b : ℕ) (z : State) → run Full p ≡ ok z → Meets p b → Executes p b
executes p b z stop m = go (step Full m.state) refl
  where
    go : (x : Res Next) → step Full m.state ≡ x → Executes p b
    go (ok n) e = record { meets = m; then = n; does = e }
    go (no why) e =
        let q : ok z ≡ no why = sym stop ∙ sym (still_to_run Full p m.steps m.state m.there) ∙ finish_refused Full m.state m.state why e in
        absurd (let c : ◌≡◌ {A = ℕ} 0 1 = cc in omega arith)
