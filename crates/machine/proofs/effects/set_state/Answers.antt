-- An Object's state.
use Rattle.std.proofs.Common.{◌+◌, ◌*◌, arith, length-set, get_or-set_other}
use Rattle.machine.specs.Words.{build_room, state_lent}
use Rattle.machine.proofs.effects.set_state.Goals as goal

pub overflow_mul-first : goal.overflow_mul-first
overflow_mul-first c = let v = build_room _ _ _ _ c.requires in omega arith

pub overflow_add-second : goal.overflow_add-second
overflow_add-second c = let v = build_room _ _ _ _ c.requires in omega arith

pub offset_bounds-nodes-first : goal.offset_bounds-nodes-first
offset_bounds-nodes-first c = let v = build_room _ _ _ _ c.requires in omega arith

pub bounds-nodes-first : goal.bounds-nodes-first
bounds-nodes-first c = let v = build_room _ _ _ _ c.requires in omega arith

pub with_state-requires : goal.with_state-requires
with_state-requires c = (build_room _ _ _ _ c.requires).0

pub offset_bounds-nodes-first-2 : goal.offset_bounds-nodes-first-2
offset_bounds-nodes-first-2 c = let v = build_room _ _ _ _ c.requires in omega arith

pub bounds-nodes-first-2 : goal.bounds-nodes-first-2
bounds-nodes-first-2 c = let v = build_room _ _ _ _ c.requires in omega arith

pub overflow_mul-nodes : goal.overflow_mul-nodes
overflow_mul-nodes c = let v = build_room _ _ _ _ c.requires in omega arith

pub offset_bounds-nodes-second : goal.offset_bounds-nodes-second
offset_bounds-nodes-second c = let v = build_room _ _ _ _ c.requires in omega arith

pub bounds-nodes-second : goal.bounds-nodes-second
bounds-nodes-second c = let v = build_room _ _ _ _ c.requires in rw length-set (omega arith)

pub overflow_add-nodes : goal.overflow_add-nodes
overflow_add-nodes c = let v = build_room _ _ _ _ c.requires in omega arith

pub offset_bounds-nodes-second-2 : goal.offset_bounds-nodes-second-2
offset_bounds-nodes-second-2 c = let v = build_room _ _ _ _ c.requires in omega arith

pub bounds-nodes-second-2 : goal.bounds-nodes-second-2
bounds-nodes-second-2 c = let v = build_room _ _ _ _ c.requires in rw length-set (omega arith)

pub returns : goal.returns
returns c =
    let n = c.args.nodes.now in
    let o = c.args.object.0 in
    rw (get_or-set_other n (2 * o) (2 * o + 1) c.with_state.result 0 (λ e. omega arith), c.with_state.ensures) (state_lent _ _ _ _)
