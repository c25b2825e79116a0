-- The run: a step leaves what is left of it, or ends it.
use Rattle.std.proofs.Common.{◌≡◌, refl, ◌∙◌, Ok, rules}
use Rattle.machine.specs.declared.Step.TheVariants.{Next, Stop}
use Rattle.machine.specs.Ran.{StepTaken, all_zero, lent_sound, running-start, running_next, running-less, ran_stopped, ran_refused}
use Rattle.machine.proofs.run.Goals as goal

pub loop-d-init : goal.loop-d-init
loop-d-init c =
    rw (all_zero c.default-c.result c.default-c.ensures)
    (running-start _ _ (lent_sound _ _ _ _ _ _ _ _ c.requires), record { nodes = refl; owners = refl; children = refl; stack = refl; marks = refl; keys = refl; held = refl })

pub take_step-t-requires : goal.take_step-t-requires
take_step-t-requires c = record { lent = _; sound = c.loop-d.invariant.0.sound }

pub loop-d-smaller : goal.loop-d-smaller
unfolding StepTaken
loop-d-smaller c =
    let e : c.take_step-t.result ≡ Ok (Next c.in-Ok-Next.d) = search rules in
    running-less _ _ _ _ _ c.loop-d.invariant.0 refl _ (rw e at (c.take_step-t.ensures _ c.loop-d.invariant.0.sound))

pub loop-d-preserved : goal.loop-d-preserved
unfolding StepTaken
loop-d-preserved c =
    let e : c.take_step-t.result ≡ Ok (Next c.in-Ok-Next.d) = search rules in
    let kept = c.take_step-t.auto in
    let were = c.loop-d.invariant.1 in (
      running_next _ _ _ _ _ c.loop-d.invariant.0 refl _ (rw e at (c.take_step-t.ensures _ c.loop-d.invariant.0.sound)),
      record { nodes = kept.nodes ∙ were.nodes; owners = kept.owners ∙ were.owners; children = kept.children ∙ were.children; stack = kept.stack ∙ were.stack; marks = kept.marks ∙ were.marks; keys = kept.keys ∙ were.keys; held = kept.held ∙ were.held },
    )

pub returns-in-Ok-Stop : goal.returns-in-Ok-Stop
unfolding StepTaken
returns-in-Ok-Stop c =
    let e : c.take_step-t.result ≡ Ok (Stop c.in-Ok-Stop.d) = search rules in
    ran_stopped _ _ _ _ _ c.loop-d.invariant.0 refl _ (rw e at (c.take_step-t.ensures _ c.loop-d.invariant.0.sound))

pub returns-in-Err : goal.returns-in-Err
unfolding StepTaken
returns-in-Err c = ran_refused _ _ _ _ _ c.loop-d.invariant.0 refl _ (rw c.in-Err.is at (c.take_step-t.ensures _ c.loop-d.invariant.0.sound))
