-- An entry of the memo.
use Rattle.std.proofs.Common.{arith}
use Rattle.machine.specs.Memo.{remember_room, remember-numbered, replaced_lent, full_lent, more_lent}
use Rattle.machine.proofs.effects.remember.Goals as goal

pub slot-requires : goal.slot-requires
slot-requires c = let v = remember_room _ _ _ _ _ c.requires in (omega arith, omega arith, remember-numbered _ _ _ _ _ c.requires)

pub overflow_cast-held : goal.overflow_cast-held
overflow_cast-held c = let v = remember_room _ _ _ _ _ c.requires in omega arith

pub offset_bounds-held-place : goal.offset_bounds-held-place
offset_bounds-held-place c = let v = remember_room _ _ _ _ _ c.requires in omega (arith, c.in-Some.ensures.0)

pub bounds-held-place : goal.bounds-held-place
bounds-held-place c = let v = remember_room _ _ _ _ _ c.requires in omega (arith, c.in-Some.ensures.0)

pub returns-in-Some : goal.returns-in-Some
returns-in-Some c = let s = c.in-Some.ensures in replaced_lent _ _ _ _ _ _ s.0 s.2 s.1

pub returns-then-c-ge-MEMO : goal.returns-then-c-ge-MEMO
returns-then-c-ge-MEMO c = full_lent _ _ _ _ _ c.in_default.ensures c.if-c-ge-MEMO.true

pub bounds-keys-c : goal.bounds-keys-c
bounds-keys-c c = let v = remember_room _ _ _ _ _ c.requires in omega arith

pub overflow_cast-held-2 : goal.overflow_cast-held-2
overflow_cast-held-2 c = let v = remember_room _ _ _ _ _ c.requires in omega arith

pub bounds-held-c : goal.bounds-held-c
bounds-held-c c = let v = remember_room _ _ _ _ _ c.requires in omega arith

pub returns : goal.returns
returns c = rw c.max.ensures (more_lent _ _ _ _ _ c.in_default.ensures c.if-c-ge-MEMO.false)
