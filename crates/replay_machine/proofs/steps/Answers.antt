-- The rooms are sound as they are lent, and each step keeps them so and reads on.
use Rattle.std.proofs.Common.{◌≡◌, refl, ◌∙◌, Ok, rules}
use Rattle.machine.specs.declared.Step.TheVariants.{Next}
use Rattle.machine.specs.Ran.{StepTaken, all_zero, lent_sound, step_sound, step_further}
use Rattle.replay_machine.proofs.steps.Goals as goal

pub loop-d-init : goal.loop-d-init
loop-d-init c =
    rw (all_zero c.default-c.result c.default-c.ensures)
    (lent_sound _ _ _ _ _ _ _ _ c.requires, record { nodes = refl; owners = refl; children = refl; stack = refl; marks = refl; keys = refl; held = refl })

pub loop-d-smaller : goal.loop-d-smaller
unfolding StepTaken
loop-d-smaller c =
    let e : c.take_step-t.result ≡ Ok (Next c.in-Ok-Next.d) = search rules in
    step_further _ _ _ _ c.loop-d.invariant.0 _ (rw e at (c.take_step-t.ensures _ c.loop-d.invariant.0)) refl

pub loop-d-preserved : goal.loop-d-preserved
unfolding StepTaken
loop-d-preserved c =
    let e : c.take_step-t.result ≡ Ok (Next c.in-Ok-Next.d) = search rules in
    let kept = c.take_step-t.auto in
    let were = c.loop-d.invariant.1 in (
      step_sound _ _ _ _ c.loop-d.invariant.0 _ (rw e at (c.take_step-t.ensures _ c.loop-d.invariant.0)),
      record { nodes = kept.nodes ∙ were.nodes; owners = kept.owners ∙ were.owners; children = kept.children ∙ were.children; stack = kept.stack ∙ were.stack; marks = kept.marks ∙ were.marks; keys = kept.keys ∙ were.keys; held = kept.held ∙ were.held },
    )
