-- The fuel of `runs` never shows: more of it than there are bytes left makes no difference. The run by its equations.
use Rattle.std.specs.Prelude.{ℕ, suc, zero, ◌<◌, List, ◌≡◌, refl, length}
use Rattle.std.proofs.Common.{arith}
use Rattle.refusal.specs.declared.Refusal.{Refusal}
use Rattle.op.specs.declared.Edition.{Edition}
use Rattle.steps.specs.State.{State, Res, ok, no}
use Rattle.steps.specs.Run.{Next, goes, stops, step, runs, start, run}
use Rattle.steps.specs.Out.{Out, of_out}
use Rattle.steps.specs.Keeps.{state_after}
use Rattle.steps.specs.Shrinks.{step_less}

pub runs_enough : (ed : Edition) (k j : ℕ) (s : State) → length s.input < k → length s.input < j → runs ed k s ≡ runs ed j s
unfolding runs Out state_after
runs_enough ed zero j s h u = absurd (omega arith)
runs_enough ed (suc k) zero s h u = absurd (omega arith)
runs_enough ed (suc k) (suc j) s h u = go (step ed s) refl (step_less ed s) (runs_enough ed k j)
  where
    go : (r : Res Next) → step ed s ≡ r → Out (λ (n : Next). length (state_after n).input < length s.input) r → ((t : State) → length t.input < k → length t.input < j → runs ed k t ≡ runs ed j t) → runs ed (suc k) s ≡ runs ed (suc j) s
    go (no why) e l more = rw (e, runs)
    go (ok (stops t)) e l more = rw (e, runs)
    go (ok (goes t)) e l more = rw (e, runs) (more t (omega arith) (omega arith))

-- the run from any state to STOP
unfoldable pub run_from : Edition → State → Res State
run_from ed s = runs ed (suc (length s.input)) s

pub run_finish : (ed : Edition) (p : List ℕ) → run ed p ≡ run_from ed (start p)
unfolding run run_from start
run_finish ed p = refl

-- its three equations
module _ (ed : Edition) (s t : State) where
  pub finish_refused : (why : Refusal) → step ed s ≡ no why → run_from ed s ≡ no why
  unfolding run_from runs
  finish_refused why e = rw (e, runs)

  pub finish_stops : step ed s ≡ ok (stops t) → run_from ed s ≡ ok t
  unfolding run_from runs
  finish_stops e = rw (e, runs)

  pub finish-goes : step ed s ≡ ok (goes t) → run_from ed s ≡ run_from ed t
  unfolding run_from runs state_after
  finish-goes e = rw (e, runs) (runs_enough ed (length s.input) (suc (length t.input)) t (of_out _ (step ed s) (goes t) (step_less ed s) e) (omega arith))
