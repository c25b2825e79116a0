-- The run to STOP in the rooms: what an outcome means, and the run step by step.
use Rattle.std.specs.Prelude.{Result, Ok, Err, ℕ, zero, suc, ◌-◌, ◌<◌, ◌≤◌, List, ◌≡◌, refl, replicate}
use Rattle.std.proofs.Math.Path.{sym}
use Rattle.std.proofs.Common.{◌∙◌, ap, length-drop, arith}
use Rattle.std.proofs.Math.ListN.{length}
use Rattle.std.proofs.lemmas.List.{length-replicate}
use Rattle.refusal.specs.declared.Refusal.{Refusal}
use Rattle.op.specs.declared.Edition.{Edition}
use Rattle.store.specs.declared.Counts.{Counts}
use Rattle.steps.specs.State.{State, Res, ok, no, ◌>>=◌}
use Rattle.steps.specs.Run.{Next, goes, stops, step, run, start as begin}
use Rattle.steps.specs.Out.{of_out}
use Rattle.steps.specs.Keeps.{state_after}
use Rattle.steps.specs.Shrinks.{step_less}
use Rattle.steps.specs.Fuel.{run_from, run_finish, finish_refused, finish_stops, finish-goes}
use Rattle.steps.specs.Range.{InRange, step_range, start_range}
use Rattle.store.specs.Rooms.{LentAs, Rooms, state_of}
use Rattle.store.specs.RoomReads.{start_of, input_of}
use Rattle.store.specs.RoomKeeps.{kept_start}
use Rattle.store.specs.RoomMemo.{numbered-none}
use Rattle.store.specs.Effects.{Lengths, AsLentBehind, Sound}
use Rattle.machine.specs.declared.Step.{Step}
use Rattle.machine.specs.declared.Step.TheVariants as taken_step
use Rattle.machine.specs.Done.{meant, Stays, Done}
use Rattle.machine.specs.RoomsOf.{lent_rooms}
use Rattle.machine.specs.declared.Outcome.{Outcome}

-- nothing read or used
abbrev pub start_counts : Counts
start_counts = record { at = 0; nodes = 0; links = 0; stack = 0; deepest = 0; marks = 0; most = 0; memo = 0; greatest = 0 }

pub all_zero : (c : Counts) → (c.at ≡ 0) × ((c.nodes ≡ 0) × ((c.links ≡ 0) × ((c.stack ≡ 0) × ((c.deepest ≡ 0) × ((c.marks ≡ 0) × ((c.most ≡ 0) × ((c.memo ≡ 0) × (c.greatest ≡ 0)))))))) → c ≡ start_counts
all_zero c e = λ i. record { at = e.0 i; nodes = e.1.0 i; links = e.1.1.0 i; stack = e.1.1.1.0 i; deepest = e.1.1.1.1.0 i; marks = e.1.1.1.1.1.0 i; most = e.1.1.1.1.1.1.0 i; memo = e.1.1.1.1.1.1.1.0 i; greatest = e.1.1.1.1.1.1.1.1 i }

-- a step in the rooms r with the counts c, which leaves the rooms r'
abbrev pub Stepped : Edition → Result Step Refusal → Counts → Rooms → Rooms → Type 0
Stepped ed t c r r' = Done t r r' (step ed (state_of r c))

-- rooms that are sound, had they been lent in some way
pub record SomeSound (c : Counts) (rooms : LentAs → Rooms) : Type 0 where
  pub lent : LentAs
  pub sound : Sound (rooms lent) c

-- in whatever way they were lent, if they are sound the step is t
unfoldable pub StepTaken : Edition → Result Step Refusal → Counts → (LentAs → Rooms) → (LentAs → Rooms) → Type 0
StepTaken ed t c before after = (l : LentAs) → Sound (before l) c → Stepped ed t c (before l) (after l)

-- what an outcome means
unfoldable pub ended : Outcome → Rooms → Res State
ended o r = at o.ended
  where
    at : Result (Unit {0}) Refusal → Res State
    at (Ok u) = ok (state_of r o.counts)
    at (Err why) = no why

-- a run of the pickle p in an edition that leaves the rooms r
pub record Ran (ed : Edition) (o : Outcome) (p : List ℕ) (r : Rooms) : Type 0 where
  pub means : ended o r ≡ run ed p
  pub sound : Sound r o.counts
  pub same : r.pickle ≡ p

-- rooms as long as they were lent
pub record AsLong (r : Rooms) : Type 0 where
  pub nodes : length r.nodes ≡ length r.lent.nodes
  pub owners : length r.owners ≡ length r.lent.owners
  pub children : length r.children ≡ length r.lent.children
  pub stack : length r.stack ≡ length r.lent.stack
  pub marks : length r.marks ≡ length r.lent.marks
  pub keys : length r.keys ≡ length r.lent.keys
  pub held : length r.held ≡ length r.lent.held

-- ---- rooms as they are lent

as_lent : {n : ℕ} {room : List ℕ} → AsLentBehind n room room
as_lent = record { same = refl }

-- rooms that are long enough are sound as they are lent
pub lent_sound : (p nodes owners children stack marks keys held : List ℕ) → Lengths (lent_rooms p nodes owners children stack marks keys held) → Sound (lent_rooms p nodes owners children stack marks keys held) start_counts
lent_sound p nodes owners children stack marks keys held l = record {
  firm = record {
    lengths = l;
    at = omega arith;
    nodes = omega arith;
    links = omega arith;
    stack = omega arith;
    deepest = omega arith;
    marks = omega arith;
    most = omega arith;
    memo = omega arith;
    numbered = numbered-none keys 0;
    kept = kept_start nodes owners children;
    clean = record { nodes = as_lent; owners = as_lent; children = as_lent; stack = as_lent; marks = as_lent; keys = as_lent; held = as_lent };
  };
  range = rw (start_of (lent_rooms p nodes owners children stack marks keys held)) (start_range p);
}

-- as a program makes them
pub made-long : (p : List ℕ) → length p ≤ 65536 → Lengths (lent_rooms p (replicate 8192 0) (replicate 8192 0) (replicate 8192 0) (replicate 2048 0) (replicate 256 0) (replicate 1024 0) (replicate 1024 0))
made-long p h = record { pickle = h; nodes = long 8192; owners = long 8192; children = long 8192; stack = long 2048; marks = long 256; keys = long 1024; held = long 1024 }
  where
    long : (n : ℕ) → n ≤ length (replicate {A = ℕ} n 0)
    long n = rw length-replicate (omega arith)

-- ---- one step

module _ (ed : Edition) (r r' : Rooms) (c : Counts) (s : Sound r c) where
  module _ (d : Counts) (t : Done (Ok (taken_step.Next d)) r r' (step ed (state_of r c))) where
    stepped : step ed (state_of r c) ≡ ok (goes (state_of r' d))
    unfolding meant
    stepped = sym t.means

    pub step_sound : Sound r' d
    unfolding Stays state_after
    step_sound = record { firm = t.stays; range = of_out (λ (n : Next). InRange (state_after n)) (step ed (state_of r c)) (goes (state_of r' d)) (step_range ed (state_of r c) s.range) stepped }

    less : length (state_of r' d).input < length (state_of r c).input
    unfolding state_after
    less = of_out (λ (n : Next). length (state_after n).input < length (state_of r c).input) (step ed (state_of r c)) (goes (state_of r' d)) (step_less ed (state_of r c)) stepped

    pub step_further : r'.pickle ≡ r.pickle → length r.pickle - d.at < length r.pickle - c.at
    step_further e =
        let x : length r'.pickle - d.at < length r.pickle - c.at = rw (input_of r' d, input_of r c, length-drop, length-drop) at less in
        rw e at x

    pub step-goes : run_from ed (state_of r c) ≡ run_from ed (state_of r' d)
    step-goes = finish-goes ed (state_of r c) (state_of r' d) stepped

  pub step_stops : (d : Counts) → Done (Ok (taken_step.Stop d)) r r' (step ed (state_of r c)) → (run_from ed (state_of r c) ≡ ok (state_of r' d)) × Sound r' d
  unfolding meant Stays state_after
  step_stops d t =
      (finish_stops ed (state_of r c) (state_of r' d) (sym t.means), record { firm = t.stays; range = of_out (λ (n : Next). InRange (state_after n)) (step ed (state_of r c)) (stops (state_of r' d)) (step_range ed (state_of r c) s.range) (sym t.means) })

  pub step-refuses : (why : Refusal) → Done (Err why) r r' (step ed (state_of r c)) → (run_from ed (state_of r c) ≡ no why) × (r' ≡ r)
  unfolding meant Stays
  step-refuses why t = (finish_refused ed (state_of r c) (state_of r c) why (sym t.means), t.stays)

-- ---- the loop: what is left is what there was

pub record Running (ed : Edition) (p : List ℕ) (r : Rooms) (c : Counts) : Type 0 where
  pub left : run_from ed (state_of r c) ≡ run ed p
  pub sound : Sound r c
  pub same : r.pickle ≡ p

pub running-start : (ed : Edition) (r : Rooms) → Sound r start_counts → Running ed r.pickle r start_counts
running-start ed r s = record { left = rw (start_of r) (sym (run_finish ed r.pickle)); sound = s; same = refl }

module _ (ed : Edition) (p : List ℕ) (r r' : Rooms) (c : Counts) (h : Running ed p r c) (e : r'.pickle ≡ r.pickle) where
  pub running_next : (d : Counts) → Done (Ok (taken_step.Next d)) r r' (step ed (state_of r c)) → Running ed p r' d
  running_next d t = record { left = sym (step-goes ed r r' c h.sound d t) ∙ h.left; sound = step_sound ed r r' c h.sound d t; same = e ∙ h.same }

  pub running-less : (d : Counts) → Done (Ok (taken_step.Next d)) r r' (step ed (state_of r c)) → length p - d.at < length p - c.at
  running-less d t = rw h.same at (step_further ed r r' c h.sound d t e)

  pub ran_stopped : (d : Counts) → Done (Ok (taken_step.Stop d)) r r' (step ed (state_of r c)) → Ran ed (record { counts = d; ended = Ok tt }) p r'
  unfolding ended
  ran_stopped d t = let x = step_stops ed r r' c h.sound d t in record { means = sym x.0 ∙ h.left; sound = x.1; same = e ∙ h.same }

  pub ran_refused : (why : Refusal) → Done (Err why) r r' (step ed (state_of r c)) → Ran ed (record { counts = c; ended = Err why }) p r'
  unfolding ended
  ran_refused why t = let x = step-refuses ed r r' c h.sound why t in record { means = sym x.0 ∙ h.left; sound = rw x.1 h.sound; same = e ∙ h.same }

-- ---- after n steps

-- rooms and counts, one step after the other, as the code takes them
pub record Steps (ed : Edition) (f : ℕ → Rooms) (g : ℕ → Counts) (n : ℕ) : Type 0 where
  pub first : state_of (f 0) (g 0) ≡ begin (f 0).pickle
  pub each : (i : ℕ) → i < n → Done (Ok (taken_step.Next (g (suc i)))) (f i) (f (suc i)) (step ed (state_of (f i) (g i)))

-- a step behind a step: a machine that has stopped stays as it is
unfoldable pub onward : Edition → Next → Res Next
onward ed (goes s) = step ed s
onward ed (stops s) = ok (stops s)

-- the definition after n steps
unfoldable pub after_steps : Edition → ℕ → List ℕ → Res Next
after_steps ed zero p = ok (goes (begin p))
after_steps ed (suc n) p = after_steps ed n p >>= onward ed

-- After n steps of the code that go on, its rooms and counts mean the definition's state after n.
pub after_n_steps : (ed : Edition) (f : ℕ → Rooms) (g : ℕ → Counts) (n : ℕ) → Steps ed f g n → ok (goes (state_of (f n) (g n))) ≡ after_steps ed n (f 0).pickle
unfolding after_steps meant onward ◌>>=◌
after_n_steps ed f g zero s = ap (λ (t : State). ok (goes t)) s.first
after_n_steps ed f g (suc n) s =
    let e = after_n_steps ed f g n (record { first = s.first; each = λ i h. s.each i (omega arith) }) in
    rw (← e) (s.each n (omega arith)).means
