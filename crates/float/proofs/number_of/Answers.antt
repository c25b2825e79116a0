-- One law for each way out.
use Rattle.std.proofs.Common.{Some, ap, sym, ◌∙◌, arith}
use Rattle.float.proofs.Values.{written_none, shift_room, number_up, number_far, number_near, number_unformed}
use Rattle.float.proofs.number_of.Goals as goal

pub returns-then-m-eq0 : goal.returns-then-m-eq0
returns-then-m-eq0 c = written_none c.args.negative c.args.text.now (sym c.mantissa_of-m.ensures.all ∙ c.if-m-eq0.true)

pub overflow_add-down : goal.overflow_add-down
overflow_add-down c = omega (arith, shift_room c.args.text.now c.mantissa_of-m.result c.mantissa_of-m.ensures)

pub returns-in-None : goal.returns-in-None
returns-in-None c = number_unformed _ _ _ _ c.mantissa_of-m.ensures c.if-m-eq0.false c.exponent_of.ensures c.in-None.is

pub returns-in-Some-Up : goal.returns-in-Some-Up
returns-in-Some-Up c =
    let e = c.in-Some-Up.is ∙ ap Some c.in-Some-Up.field-0-is in
    c.settled.ensures ∙ number_up _ _ _ _ c.mantissa_of-m.ensures c.if-m-eq0.false c.exponent_of.ensures _ e (omega (arith, shift_room _ _ c.mantissa_of-m.ensures))

pub returns-in-Some-Down : goal.returns-in-Some-Down
returns-in-Some-Down c =
    let e = c.in-Some-Down.is ∙ ap Some c.in-Some-Down.field-0-is in
    c.settled-in-Some-Down.ensures ∙ number_far _ _ _ _ c.mantissa_of-m.ensures c.if-m-eq0.false c.exponent_of.ensures _ e c.if-down-gt22.true

pub returns-in-Some-Down-2 : goal.returns-in-Some-Down-2
returns-in-Some-Down-2 c =
    let e = c.in-Some-Down.is ∙ ap Some c.in-Some-Down.field-0-is in
    c.settled-in-Some-Down-2.ensures ∙ number_near _ _ _ _ c.mantissa_of-m.ensures c.if-m-eq0.false c.exponent_of.ensures _ e c.if-down-gt22.false
