-- NEWOBJ.
use Rattle.std.proofs.Common.{refl, true, arith}
use Rattle.std.proofs.lemmas.Result.{err_from_is_err_and}
use Rattle.steps.specs.Opcodes.{object, newobj}
use Rattle.steps.specs.NodeWords.{object_word}
use Rattle.store.specs.Effects.{Decides}
use Rattle.decoder.proofs.LawsCalls.{call_of, call_refused, call-rooms, says-object}
use Rattle.decoder.proofs.newobj.Goals as goal

pub returns-in_err-class : goal.returns-in_err-class
unfolding Decides newobj
returns-in_err-class c = let p = err_from_is_err_and c.from_residual.result c.from_residual.ensures.1 in rw (p.1, p.2) (λ r s q. call_refused _ _ _ _ c.class_and_arguments.ensures r s q.0 q.1 _ _ c.in_err-class.was)

pub overflow_sub-result : goal.overflow_sub-result
overflow_sub-result c = let l = c.requires in let h = call_of _ _ _ _ c.class_and_arguments.ensures _ l.sound l.agrees.0 l.agrees.1 _ _ c.in_ok-class.was in let s = call-rooms _ _ l.sound _ _ h in h.two

pub overflow_mul-result : goal.overflow_mul-result
overflow_mul-result c = let l = c.requires in let h = call_of _ _ _ _ c.class_and_arguments.ensures _ l.sound l.agrees.0 l.agrees.1 _ _ c.in_ok-class.was in let s = call-rooms _ _ l.sound _ _ h in omega arith

pub overflow_add-result-2 : goal.overflow_add-result-2
overflow_add-result-2 c = let l = c.requires in let h = call_of _ _ _ _ c.class_and_arguments.ensures _ l.sound l.agrees.0 l.agrees.1 _ _ c.in_ok-class.was in let s = call-rooms _ _ l.sound _ _ h in omega arith

pub returns : goal.returns
unfolding Decides newobj object_word
returns c = λ r s q. says-object r _ s _ _ (call_of _ _ _ _ c.class_and_arguments.ensures r s q.0 q.1 _ _ c.in_ok-class.was) (λ c args items. object c true args) true _ _ _ refl refl (omega arith) refl
