-- An opcode reads its argument and has one effect; a step reads a byte before. So what reading and the eight effects keep, every
-- opcode, every step and the run keep.
use Prim.Native.Nat.{ℕ, suc, zero, ◌≤◌}
use Rattle.std.specs.Prelude.{List, ◌≡◌, length, drop}
use Rattle.std.proofs.Math.Option.{Option, none, some}
use Rattle.std.proofs.Math.Path.{refl}
use Rattle.std.proofs.Common.{arith}
use Rattle.op.specs.Table.{Row, code_of, row_of}
use Rattle.op.specs.declared.Opcode.{Opcode}
use Rattle.op.specs.declared.Edition.{Edition}
use Rattle.steps.specs.State.{State, Res, ok, no, with_input}
use Rattle.steps.specs.Run.{Next, goes, stops, does, step, runs, start, run}
use Rattle.steps.specs.Out.{Out, weaken}
use Rattle.steps.specs.Effect.{StateEffect, same}
use Rattle.steps.specs.Arguments.{argument_length}
use Rattle.steps.specs.Pickletools.{FitsRow, does_fits, step_fits}

-- the machine after a step, whether it goes on or has stopped
unfoldable pub state_after : Next → State
state_after (goes t) = t
state_after (stops t) = t

-- from s to t: bytes read, `least` at least, and an effect
pub record Effected (least : ℕ) (s t : State) : Type 0 where
  pub read : ℕ
  pub enough : least ≤ read
  pub inside : read ≤ length s.input
  pub effect : StateEffect (with_input s (drop read s.input)) t

effected : (r : Option Row) (s : State) (n : Next) → FitsRow r s n → Effected 0 s (state_after n)
unfolding FitsRow state_after
effected none s n f = absurd f
effected (some r) s (goes t) f = record { read = argument_length r.form s.input; enough = omega arith; inside = f.reads.fits; effect = rw f.reads.rest at f.did.effect }
effected (some r) s (stops t) f = record { read = 0; enough = omega arith; inside = omega arith; effect = rw f.1 same }

pub does_effected : (v : ℕ) (o : Opcode) (s : State) → Out (λ (n : Next). Effected 0 s (state_after n)) (does v o s)
does_effected v o s = weaken _ _ _ (does_fits v o s) (λ n f. effected (row_of (code_of o)) s n f)

pub step_effected : (ed : Edition) (s : State) → Out (λ (n : Next). Effected 1 s (state_after n)) (step ed s)
step_effected ed s = weaken _ _ _ (step_fits ed s) λ n f.
    let e = effected (row_of f.code) (with_input s f.rest) n f.fits in
    let i = e.inside in
    record { read = suc e.read; enough = omega arith; inside = rw f.input_is (omega arith); effect = rw f.input_is e.effect }

module _
    (P : State → Type 0)
    (reads : (s : State) (i : List ℕ) → P s → P (with_input s i))
    (effects : (s t : State) → P s → StateEffect s t → P t)
  where
    keeps : {n : ℕ} (s t : State) → P s → Effected n s t → P t
    keeps s t p e = effects (with_input s (drop e.read s.input)) t (reads s (drop e.read s.input) p) e.effect

    pub step_keeps : (ed : Edition) (s : State) → P s → Out (λ (n : Next). P (state_after n)) (step ed s)
    step_keeps ed s p = weaken _ _ _ (step_effected ed s) (λ n e. keeps s (state_after n) p e)

    pub runs_keeps : (ed : Edition) (k : ℕ) (s : State) → P s → Out P (runs ed k s)
    unfolding runs Out state_after
    runs_keeps ed zero s p = tt
    runs_keeps ed (suc k) s p = go (step ed s) refl (step_keeps ed s p) (runs_keeps ed k)
      where
        go : (r : Res Next) → step ed s ≡ r → Out (λ (n : Next). P (state_after n)) r → ((t : State) → P t → Out P (runs ed k t)) → Out P (runs ed (suc k) s)
        go (no why) e h more = rw (e, runs) tt
        go (ok (stops t)) e h more = rw (e, runs) h
        go (ok (goes t)) e h more = rw (e, runs) (more t h)

    pub run_keeps : (ed : Edition) (p : List ℕ) → P (start p) → Out P (run ed p)
    unfolding run
    run_keeps ed p h = runs_keeps ed _ (start p) h
