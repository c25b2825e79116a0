-- A container with items more.
use Rattle.std.proofs.Common.{arith}
use Rattle.machine.specs.Containers.{extend-rooms, extend_linkable, extended_lent, extend_full_lent}
use Rattle.machine.proofs.effects.extend.Goals as goal

pub overflow_sub-c : goal.overflow_sub-c
overflow_sub-c c = let v = extend-rooms c.requires in omega arith

pub overflow_sub-had : goal.overflow_sub-had
overflow_sub-had c = let v = extend-rooms c.requires in omega arith

pub returns-then-c-had : goal.returns-then-c-had
returns-then-c-had c = extend_full_lent c.requires c.if-c-had.true

pub link_all-links-requires : goal.link_all-links-requires
link_all-links-requires c = extend_linkable c.requires c.if-c-had.false

pub returns : goal.returns
returns c = extended_lent c.requires _ _ _ _ c.if-c-had.false c.link_all-links.ensures.0 c.link_all-links.ensures.1
