-- A case of `NextToCompare` at each return.
use Rattle.std.proofs.Common.{◌∙◌, ap}
use Rattle.value.specs.Told.{told, told_numbers, told_bits}
use Rattle.value.specs.Left.{next_newer, next_sized}
use Rattle.value.proofs.next.Goals as goal

pub returns-then-new-other : goal.returns-then-new-other
returns-then-new-other c = next_newer _ _ _ _ c.args.new c.args.other c.if-new-other.true _ (ap told c.cmp.ensures ∙ told_bits _ _)

pub returns-then-n-m : goal.returns-then-n-m
returns-then-n-m c = next_sized _ _ _ _ c.args.new c.args.other c.if-new-other.false c.if-n-m.true _ c.min.ensures _ (ap told c.cmp-then-n-m.ensures ∙ told_numbers _ _)
