use Rattle.std.proofs.Common.{sym, arith}
use Rattle.resolve.specs.Blocked.{held_other, held_none, arguments_taken-first}
use Rattle.resolve.proofs.blocked.Goals as goal
use Rattle.resolve.proofs.blocked.Goals.{then-kind-ne-KIND_OBJECT-via-then-kind-ne-KIND_OBJECT, then-kind-ne-KIND_OBJECT-via-else-kind-ne-KIND_OBJECT+then-end-at}

pub returns-then-kind-ne-KIND_OBJECT : goal.returns-then-kind-ne-KIND_OBJECT
returns-then-kind-ne-KIND_OBJECT c =
    elim c.then-kind-ne-KIND_OBJECT.branch [
      | then-kind-ne-KIND_OBJECT-via-then-kind-ne-KIND_OBJECT w ↦ sym (held_other _ _ _ w.if-kind-ne-KIND_OBJECT.true)
      | then-kind-ne-KIND_OBJECT-via-else-kind-ne-KIND_OBJECT+then-end-at w ↦ sym (held_none _ _ _ _ _ w.if-end-at.true)
    ]

pub returns : goal.returns
returns c = sym (arguments_taken-first c.args.kind c.args.at c.args.end c.args.sorted.now c.args.measures.now (omega arith) (omega arith) c.requires.end_in_bounds)
