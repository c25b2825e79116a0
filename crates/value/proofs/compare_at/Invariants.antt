-- What is left of the walk, for any two values that stand there. The measure is what is left of the first table.
use Rattle.std.proofs.Common.{◌-◌, ◌*◌, length}
use Rattle.value.specs.Value.{Value, one}
use Rattle.value.specs.Order.{order}
use Rattle.value.specs.Stands.{Stands}
use Rattle.value.specs.Told.{told}
use Rattle.value.specs.Left.{StillToCompare}
use Rattle.value.proofs.compare_at.Given as goal

abbrev pub invariant-loop-walk : goal.invariant-loop-walk
invariant-loop-walk l = (v w : Value) → Stands l.fn.a l.fn.s l.fn.i (one v) → Stands l.fn.b l.fn.t l.fn.j (one w) → StillToCompare l.a l.s l.b l.t l.k l.l l.walk.left (told l.walk.verdict) (order v w)

abbrev pub decreases-loop-walk : goal.decreases-loop-walk
decreases-loop-walk l = length l.a - 4 * l.k
