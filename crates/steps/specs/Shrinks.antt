-- The input left after a step is what was there less its beginning, of a byte at least.
use Rattle.std.specs.Prelude.{ℕ, suc, zero, ◌+◌, ◌-◌, ◌<◌, ◌≤◌, List, ◌≡◌, refl, length, drop}
use Rattle.std.proofs.Common.{◌∙◌, length-drop, drop-drop, arith}
use Rattle.op.specs.declared.Edition.{Edition}
use Rattle.steps.specs.State.{State, Res, ok, no, with_input}
use Rattle.steps.specs.Run.{Next, goes, stops, step, runs, start, run}
use Rattle.steps.specs.Out.{Out, weaken}
use Rattle.steps.specs.Effect.{effect_input}
use Rattle.steps.specs.Keeps.{state_after, Effected, step_effected}

-- t's input is i less its first bytes, `least` at least
pub record Later (least : ℕ) (i : List ℕ) (t : State) : Type 0 where
  pub read : ℕ
  pub enough : least ≤ read
  pub inside : read ≤ length i
  pub left : t.input ≡ drop read i

later : {least : ℕ} (s t : State) → Effected least s t → Later least s.input t
later s t e = record { read = e.read; enough = e.enough; inside = e.inside; left = effect_input (with_input s (drop e.read s.input)) t e.effect }

-- a step: a byte at least
pub step_later : (ed : Edition) (s : State) → Out (λ (n : Next). Later 1 s.input (state_after n)) (step ed s)
step_later ed s = weaken _ _ _ (step_effected ed s) (λ n e. later s (state_after n) e)

pub step_less : (ed : Edition) (s : State) → Out (λ (n : Next). length (state_after n).input < length s.input) (step ed s)
step_less ed s = weaken _ _ _ (step_later ed s) λ n l. rw (l.left, length-drop) (let a = l.enough in let b = l.inside in omega arith)

-- ---- the whole run

later_later : {a b : ℕ} (i : List ℕ) (s t : State) → Later a i s → Later b s.input t → Later (a + b) i t
later_later i s t x y =
    let e = x.left in
    let p = x.enough in
    let q = y.enough in
    let l = x.inside in
    let k : y.read ≤ length i - x.read = let z : y.read ≤ length (drop x.read i) = rw e at y.inside in rw length-drop at z in
    record { read = x.read + y.read; enough = omega arith; inside = omega arith; left = y.left ∙ rw (e, drop-drop) }

-- what is left at STOP is a pickle's end, less a byte at least
pub runs_later : (ed : Edition) (i : List ℕ) (k : ℕ) (s : State) → Later 0 i s → Out (Later 1 i) (runs ed k s)
unfolding runs Out state_after
runs_later ed i zero s l = tt
runs_later ed i (suc k) s l = go (step ed s) refl (step_later ed s) (runs_later ed i k)
  where
    go : (r : Res Next) → step ed s ≡ r → Out (λ (n : Next). Later 1 s.input (state_after n)) r → ((t : State) → Later 0 i t → Out (Later 1 i) (runs ed k t)) → Out (Later 1 i) (runs ed (suc k) s)
    go (no why) e h more = rw (e, runs) tt
    go (ok (stops t)) e h more = rw (e, runs) (later_later i s t l h)
    go (ok (goes t)) e h more =
        let m = later_later i s t l h in
        rw (e, runs) (more t (record { read = m.read; enough = omega arith; inside = m.inside; left = m.left }))

pub run_later : (ed : Edition) (p : List ℕ) → Out (Later 1 p) (run ed p)
unfolding run start
run_later ed p = runs_later ed p (suc (length p)) (start p) (record { read = 0; enough = omega arith; inside = omega arith; left = refl })
