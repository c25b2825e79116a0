-- A step: what is decided, applied.
use Rattle.std.proofs.Common.{refl, sym}
use Rattle.std.proofs.lemmas.Result.{err_from_is_err_and}
use Rattle.store.specs.Rooms.{Rooms}
use Rattle.store.specs.Effects.{Decides}
use Rattle.machine.specs.RoomsOf.{Agrees}
use Rattle.machine.specs.Ran.{StepTaken}
use Rattle.machine.specs.Applied.{Applies}
use Rattle.machine.specs.Done.{done_refused}
use Rattle.machine.proofs.take_step.Goals as goal

agrees : (r : Rooms) → Agrees r.pickle r.nodes r.children r.stack r.marks r.keys r.held r
agrees r = record { pickle = refl; nodes = refl; children = refl; stack = refl; marks = refl; keys = refl; held = refl }

pub decide-requires : goal.decide-requires
decide-requires c = let s = c.requires in record { rooms = _; sound = s.sound; agrees = agrees _ }

pub returns-in_err-e : goal.returns-in_err-e
unfolding Decides StepTaken
returns-in_err-e c =
    let p = err_from_is_err_and c.from_residual.result c.from_residual.ensures.1 in
    λ l sound. rw (p.1, p.2) (done_refused _ _ _ (sym (c.in_err-e.ensures _ sound (agrees _)).enacts))

pub apply-requires : goal.apply-requires
unfolding Decides
apply-requires c = let s = c.requires in record { lent = s.lent; pickle = c.args.pickle.now; fits = (c.in_ok-e.ensures _ s.sound (agrees _)).fits }

pub returns : goal.returns
unfolding Decides Applies StepTaken
returns c = λ l sound.
    let says = c.in_ok-e.ensures _ sound (agrees _) in
    rw says.enacts at (c.apply.ensures l c.args.pickle.now says.fits)
