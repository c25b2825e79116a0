-- A run is its steps: for every pickle there is one number of steps that gives what `run` gives, the machine at STOP or the refusal, and
-- before that the machine goes on. Of the code: steps of `take_step`, one after the other, end in what `machine::run` comes to.
use Prim.Native.Nat.{ℕ, suc, zero, ◌+◌, ◌<◌, ◌≤◌}
use Rattle.std.specs.Prelude.{Ok, Err, List, ◌⊎◌, length}
use Rattle.std.proofs.Common.{inl, inr, ◌∙◌, ap}
use Rattle.std.proofs.Math.Path.{◌≡◌, refl, sym}
use native.Mathlib.Omega.{arith}
use Rattle.refusal.specs.declared.Refusal.{Refusal}
use Rattle.op.specs.declared.Edition.{Edition}
use Rattle.input.specs.Bytes.{lt_or_le}
use Rattle.store.specs.declared.Counts.{Counts}
use Rattle.steps.specs.State.{State, Res, ok, no, ◌>>=◌}
use Rattle.steps.specs.Run.{Next, goes, stops, step, start, run}
use Rattle.steps.specs.Out.{Out}
use Rattle.steps.specs.Keeps.{state_after}
use Rattle.steps.specs.Shrinks.{step_less}
use Rattle.steps.specs.Fuel.{run_from, run_finish, finish_refused, finish_stops, finish-goes}
use Rattle.store.specs.Rooms.{Rooms, state_of}
use Rattle.machine.specs.declared.Step.TheVariants as taken_step
use Rattle.machine.specs.Done.{meant, Done}
use Rattle.machine.specs.declared.Outcome.{Outcome}
use Rattle.machine.specs.Ran.{ended, Ran, Steps, onward, after_steps, after_n_steps}

-- what a run gives, as steps give it
unfoldable pub at_end : Res State → Res Next
at_end (ok s) = ok (stops s)
at_end (no why) = no why

-- after k steps the machine goes on
pub record GoesOn (ed : Edition) (p : List ℕ) (k : ℕ) : Type 0 where
  pub state : State
  pub there : after_steps ed k p ≡ ok (goes state)

-- the run of p takes n steps
pub record Takes (ed : Edition) (p : List ℕ) (n : ℕ) : Type 0 where
  pub ends : after_steps ed n p ≡ at_end (run ed p)
  pub before : (k : ℕ) → k < n → GoesOn ed p k

-- ---- every run takes a number of steps, at most one for each byte and one more

pub record InSteps (ed : Edition) (p : List ℕ) : Type 0 where
  pub steps : ℕ
  pub few : steps ≤ suc (length p)
  pub takes : Takes ed p steps

module _ (ed : Edition) (p : List ℕ) where
  -- the machine goes on after m steps, and so it did before
  up_to : (m : ℕ) (s : State) → after_steps ed m p ≡ ok (goes s) → ((k : ℕ) → k < m → GoesOn ed p k) → (k : ℕ) → k < suc m → GoesOn ed p k
  up_to m s e g k h = go (lt_or_le k m)
    where
      go : (k < m) ⊎ (m ≤ k) → GoesOn ed p k
      go (inl l) = g k l
      go (inr l) = let q : k ≡ m = omega arith in record { state = s; there = rw q e }

  pub one_step : (m : ℕ) (s : State) → after_steps ed m p ≡ ok (goes s) → after_steps ed (suc m) p ≡ step ed s
  unfolding after_steps onward ◌>>=◌
  one_step m s e = rw e

  -- s after m steps, with b - 1 bytes left at most
  from : (b m : ℕ) (s : State) → length s.input < b → m + length s.input ≤ length p → after_steps ed m p ≡ ok (goes s) → run_from ed s ≡ run ed p → ((k : ℕ) → k < m → GoesOn ed p k) → InSteps ed p
  unfolding Out state_after at_end
  from zero m s l r e f g = absurd (omega arith)
  from (suc b) m s l r e f g = go (step ed s) refl (step_less ed s) (from b (suc m))
    where
      last : (x : Res Next) → step ed s ≡ x → x ≡ at_end (run ed p) → InSteps ed p
      last x q z = record { steps = suc m; few = omega arith; takes = record { ends = one_step m s e ∙ q ∙ z; before = up_to m s e g } }

      go : (x : Res Next) → step ed s ≡ x → Out (λ (n : Next). length (state_after n).input < length s.input) x
          → ((t : State) → length t.input < b → suc m + length t.input ≤ length p → after_steps ed (suc m) p ≡ ok (goes t) → run_from ed t ≡ run ed p → ((k : ℕ) → k < suc m → GoesOn ed p k) → InSteps ed p)
          → InSteps ed p
      go (no why) q h more = last (no why) q (ap at_end (sym (finish_refused ed s s why q) ∙ f))
      go (ok (stops t)) q h more = last (ok (stops t)) q (ap at_end (sym (finish_stops ed s t q) ∙ f))
      go (ok (goes t)) q h more = more t (omega arith) (omega arith) (one_step m s e ∙ q) (sym (finish-goes ed s t q) ∙ f) (up_to m s e g)

  pub in_steps : InSteps ed p
  unfolding after_steps start
  in_steps = from (suc (length p)) 0 (start p) (omega arith) (omega arith) refl (sym (run_finish ed p)) (λ k h. absurd (omega arith))

  -- ---- steps after the last change nothing, so that there is one such number

  at_end_stays : (r : Res State) → (at_end r >>= onward ed) ≡ at_end r
  unfolding at_end onward ◌>>=◌
  at_end_stays (ok s) = refl
  at_end_stays (no why) = refl

  pub from_then_on : (n m : ℕ) → Takes ed p n → n ≤ m → after_steps ed m p ≡ at_end (run ed p)
  unfolding after_steps
  from_then_on n zero t h = let q : n ≡ 0 = omega arith in rw q at t.ends
  from_then_on n (suc m) t h = go (lt_or_le m n) (from_then_on n m t)
    where
      go : (m < n) ⊎ (n ≤ m) → (n ≤ m → after_steps ed m p ≡ at_end (run ed p)) → after_steps ed (suc m) p ≡ at_end (run ed p)
      go (inl l) k = let q : n ≡ suc m = omega arith in rw q at t.ends
      go (inr l) k = rw (k (omega arith)) (at_end_stays (run ed p))

  not_both : (r : Res State) (s : State) → ok (goes s) ≡ at_end r → ⊥
  unfolding at_end
  not_both (ok t) s e = let z : ◌≡◌ {A = ℕ} 0 1 = cc in omega arith
  not_both (no why) s e = let z : ◌≡◌ {A = ℕ} 0 1 = cc in omega arith

  not_less : (n m : ℕ) → Takes ed p n → Takes ed p m → ¬ (n < m)
  not_less n m t u h = let g = u.before n h in not_both (run ed p) g.state (sym g.there ∙ t.ends)

  pub one_number : (n m : ℕ) → Takes ed p n → Takes ed p m → n ≡ m
  one_number n m t u = go (lt_or_le n m) (lt_or_le m n)
    where
      go : (n < m) ⊎ (m ≤ n) → (m < n) ⊎ (n ≤ m) → n ≡ m
      go (inl l) d = absurd (not_less n m t u l)
      go (inr l) (inl k) = absurd (not_less m n u t k)
      go (inr l) (inr k) = omega arith

  -- ---- what is reached is what the run is from there

  pub still_to_run : (k : ℕ) (s : State) → after_steps ed k p ≡ ok (goes s) → run_from ed s ≡ run ed p
  unfolding after_steps onward ◌>>=◌
  still_to_run zero s e = let q : start p ≡ s = cc in rw (← q) (sym (run_finish ed p))
  still_to_run (suc k) s e = go (after_steps ed k p) refl e (still_to_run k)
    where
      go : (x : Res Next) → after_steps ed k p ≡ x → (x >>= onward ed) ≡ ok (goes s) → ((t : State) → after_steps ed k p ≡ ok (goes t) → run_from ed t ≡ run ed p) → run_from ed s ≡ run ed p
      go (no why) q h more = absurd (let z : ◌≡◌ {A = ℕ} 0 1 = cc in omega arith)
      go (ok (stops t)) q h more = absurd (let z : ◌≡◌ {A = ℕ} 0 1 = cc in omega arith)
      go (ok (goes t)) q h more = sym (finish-goes ed t s h) ∙ more t q

-- ---- the code's steps and the code's run

-- After n steps of `take_step` that go on comes one that stops, or refuses: that machine, or that refusal, is what the run gives, and what
-- an outcome of `machine::run` on the same pickle means.
module _ (ed : Edition) (f : ℕ → Rooms) (g : ℕ → Counts) (n : ℕ) (s : Steps ed f g n) (r : Rooms) (d : Counts) where
  rest : run_from ed (state_of (f n) (g n)) ≡ run ed (f 0).pickle
  rest = still_to_run ed (f 0).pickle n (state_of (f n) (g n)) (sym (after_n_steps ed f g n s))

  pub steps_stop : Done (Ok (taken_step.Stop d)) (f n) r (step ed (state_of (f n) (g n))) → run ed (f 0).pickle ≡ ok (state_of r d)
  unfolding meant
  steps_stop t = sym rest ∙ finish_stops ed (state_of (f n) (g n)) (state_of r d) (sym t.means)

  pub steps_refuse : (why : Refusal) → Done (Err why) (f n) r (step ed (state_of (f n) (g n))) → run ed (f 0).pickle ≡ no why
  unfolding meant
  steps_refuse why t = sym rest ∙ finish_refused ed (state_of (f n) (g n)) (state_of (f n) (g n)) why (sym t.means)

  module _ (o : Outcome) (r' : Rooms) (ran : Ran ed o (f 0).pickle r') where
    pub ran_stops : Done (Ok (taken_step.Stop d)) (f n) r (step ed (state_of (f n) (g n))) → ended o r' ≡ ok (state_of r d)
    ran_stops t = ran.means ∙ steps_stop t

    pub ran_refuses : (why : Refusal) → Done (Err why) (f n) r (step ed (state_of (f n) (g n))) → ended o r' ≡ no why
    ran_refuses why t = ran.means ∙ steps_refuse why t
