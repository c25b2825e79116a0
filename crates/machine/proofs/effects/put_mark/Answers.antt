-- The stack's length as a mark.
use Rattle.machine.specs.Push.{PutMark, put_mark_full, put_mark-done}
use Rattle.machine.proofs.effects.put_mark.Goals as goal

pub returns-then-c-ge-MARKS : goal.returns-then-c-ge-MARKS
unfolding PutMark
returns-then-c-ge-MARKS c = λ r h q f. rw (← q) (put_mark_full r h _ f c.if-c-ge-MARKS.true)

pub returns : goal.returns
unfolding PutMark
returns c = λ r h q f. rw (c.max.ensures, ← q) (put_mark-done r h _ f c.if-c-ge-MARKS.false)
