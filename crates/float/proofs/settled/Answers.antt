-- One law for each way out.
use Rattle.std.proofs.Common.{◌-◌, ap, sym, ◌∙◌, inl, inr, arith}
use Rattle.refusal.specs.Read.{got}
use Rattle.float.specs.Literal.{bits_up, bits_down}
use Rattle.float.proofs.Values.{value_zero, value_out, settled_is, settled-below}
use Rattle.float.proofs.settled.Goals as goal

pub returns-then-w-eq0 : goal.returns-then-w-eq0
returns-then-w-eq0 c =
    let a = c.args in
    ap got c.with_sign.ensures ∙ sym (value_zero a.negative a.w a.up a.down c.if-w-eq0.true)

pub returns-then-w-gt9007199254740992 : goal.returns-then-w-gt9007199254740992
returns-then-w-gt9007199254740992 c =
    let a = c.args in
    sym (value_out a.negative a.w a.up a.down (omega arith) (inl (omega arith)))

pub returns-then-lower-gt22 : goal.returns-then-lower-gt22
returns-then-lower-gt22 c =
    let a = c.args in
    sym (value_out a.negative a.w a.up a.down (omega arith) (inr (inl (omega arith))))

pub with_sign-requires-then-up-down : goal.with_sign-requires-then-up-down
with_sign-requires-then-up-down c =
    let a = c.args in
    let e = c.divided.ensures ∙ sym (bits_down a.w a.up a.down (a.down - a.up) (omega arith)) in
    settled-below a.negative a.w a.up a.down c.divided.result (omega arith) (omega arith) (omega arith) (omega arith) e

pub returns-then-up-down : goal.returns-then-up-down
returns-then-up-down c =
    let a = c.args in
    let e = c.divided.ensures ∙ sym (bits_down a.w a.up a.down (a.down - a.up) (omega arith)) in
    ap got c.with_sign-then-up-down.ensures ∙ settled_is a.negative a.w a.up a.down c.divided.result (omega arith) (omega arith) (omega arith) (omega arith) e

pub returns-then-raise-gt22 : goal.returns-then-raise-gt22
returns-then-raise-gt22 c =
    let a = c.args in
    sym (value_out a.negative a.w a.up a.down (omega arith) (inr (inr (omega arith))))

pub with_sign-requires-2 : goal.with_sign-requires-2
with_sign-requires-2 c =
    let a = c.args in
    let e = c.multiplied.ensures ∙ sym (bits_up a.w a.up a.down (a.up - a.down) (omega arith)) in
    settled-below a.negative a.w a.up a.down c.multiplied.result (omega arith) (omega arith) (omega arith) (omega arith) e

pub returns : goal.returns
returns c =
    let a = c.args in
    let e = c.multiplied.ensures ∙ sym (bits_up a.w a.up a.down (a.up - a.down) (omega arith)) in
    ap got c.with_sign-2.ensures ∙ settled_is a.negative a.w a.up a.down c.multiplied.result (omega arith) (omega arith) (omega arith) (omega arith) e
