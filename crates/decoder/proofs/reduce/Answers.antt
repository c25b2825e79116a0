-- REDUCE.
use Rattle.std.proofs.lemmas.Result.{err_from_is_err_and}
use Rattle.steps.specs.Opcodes.{reduce}
use Rattle.store.specs.Effects.{Decides}
use Rattle.decoder.proofs.LawsCalls.{call_of, call_refused}
use Rattle.decoder.proofs.reduce.Goals as goal

pub returns-in_err-class : goal.returns-in_err-class
unfolding Decides reduce
returns-in_err-class c = let p = err_from_is_err_and c.from_residual.result c.from_residual.ensures.1 in rw (p.1, p.2) (λ r s q. call_refused _ _ _ _ c.class_and_arguments.ensures r s q.1 q.3 _ _ c.in_err-class.was)

pub reduced-requires : goal.reduced-requires
reduced-requires c = let l = c.requires in let q = l.agrees in record { rooms = l.rooms; sound = l.sound; agrees = (q.0, q.1, q.2, call_of _ _ _ _ c.class_and_arguments.ensures _ l.sound q.1 q.3 _ _ c.in_ok-class.was) }

pub returns : goal.returns
unfolding Decides
returns c = λ r s q. c.reduced.ensures r s (q.0, q.1, q.2, call_of _ _ _ _ c.class_and_arguments.ensures r s q.1 q.3 _ _ c.in_ok-class.was)
