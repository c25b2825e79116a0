-- A container made of its items.
use Rattle.std.proofs.Common.{arith, length-set}
use Rattle.machine.specs.Containers.{make_rooms, make_linkable, made_lent, make_full_lent, make_crowded_lent, make_high_lent}
use Rattle.machine.proofs.effects.make.Goals as goal

pub overflow_sub-items : goal.overflow_sub-items
overflow_sub-items c = let v = make_rooms c.requires in omega arith

pub overflow_sub-c : goal.overflow_sub-c
overflow_sub-c c = let v = make_rooms c.requires in omega arith

pub returns-then-c-items : goal.returns-then-c-items
returns-then-c-items c = make_full_lent c.requires c.if-c-items.true

pub returns-then-c-ge-NODES : goal.returns-then-c-ge-NODES
returns-then-c-ge-NODES c = make_crowded_lent c.requires c.if-c-items.false c.if-c-ge-NODES.true

pub returns-then-c-ge-STACK : goal.returns-then-c-ge-STACK
returns-then-c-ge-STACK c = make_high_lent c.requires c.if-c-items.false c.if-c-ge-NODES.false c.if-c-ge-STACK.true

pub bounds-nodes-id : goal.bounds-nodes-id
bounds-nodes-id c = let v = make_rooms c.requires in omega arith

pub overflow_mul-nodes-2 : goal.overflow_mul-nodes-2
overflow_mul-nodes-2 c = let v = make_rooms c.requires in omega arith

pub bounds-nodes-id-2 : goal.bounds-nodes-id-2
bounds-nodes-id-2 c = let v = make_rooms c.requires in rw length-set (omega arith)

pub link_all-links-requires : goal.link_all-links-requires
link_all-links-requires c = make_linkable c.requires c.if-c-items.false c.if-c-ge-NODES.false

pub bounds-stack-c : goal.bounds-stack-c
bounds-stack-c c = let v = make_rooms c.requires in omega arith

pub returns : goal.returns
returns c = rw c.pushed.ensures (made_lent c.requires _ _ _ _ c.if-c-items.false c.if-c-ge-NODES.false c.if-c-ge-STACK.false c.link_all-links.ensures.0 c.link_all-links.ensures.1)
