-- A node again.
use Rattle.machine.specs.Push.{PushId, push_id_full, push_id-done}
use Rattle.machine.proofs.effects.push_id.Goals as goal

pub returns-then-c-ge-STACK : goal.returns-then-c-ge-STACK
unfolding PushId
returns-then-c-ge-STACK c = λ r h q f. rw (← q) (push_id_full r h _ _ f c.if-c-ge-STACK.true)

pub returns : goal.returns
unfolding PushId
returns c = λ r h q f. rw (c.pushed.ensures, ← q) (push_id-done r h _ _ f c.if-c-ge-STACK.false)
