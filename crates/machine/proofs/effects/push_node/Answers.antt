-- A node with its words.
use Rattle.machine.specs.Done.{words-plus}
use Rattle.machine.specs.Push.{PushNode, push_node_full, push_node-high, push_node-done}
use Rattle.machine.proofs.effects.push_node.Goals as goal

pub returns-then-c-ge-NODES : goal.returns-then-c-ge-NODES
unfolding PushNode
returns-then-c-ge-NODES c = λ r h p q f. rw (← p, ← q) (push_node_full r h _ _ _ f c.if-c-ge-NODES.true)

pub returns-then-c-ge-STACK : goal.returns-then-c-ge-STACK
unfolding PushNode
returns-then-c-ge-STACK c = λ r h p q f. rw (← p, ← q) (push_node-high r h _ _ _ f c.if-c-ge-NODES.false c.if-c-ge-STACK.true)

pub returns : goal.returns
unfolding PushNode
returns c = let a = c.args in λ r h p q f. rw (c.pushed.ensures, ← p, ← q, words-plus r.nodes a.c.nodes a.a a.b) (push_node-done r h _ _ _ f c.if-c-ge-NODES.false c.if-c-ge-STACK.false)
