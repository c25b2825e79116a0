use Rattle.std.proofs.Common.{◌≡◌, ◌≤◌, ap, ◌∙◌, length, get_or, arith}
use Rattle.std.proofs.lemmas.Result.{err_from_is_err_and}
use Rattle.refusal.specs.Read.{got}
use Rattle.number.specs.Number.{turned}
use Rattle.number.proofs.Number.{negated_is, below_read, above_read}
use Rattle.number.proofs.integer.Goals as goal
use Rattle.number.proofs.integer.Goals.{in_default-via-then-text-lt1, in_default-via-in-len1-up+else-b-eq45}

pub returns-in_err-n-in-len1-up : goal.returns-in_err-n-in-len1-up
unfolding turned
returns-in_err-n-in-len1-up c =
    let e = below_read c.args.text.now (omega arith) c.if-b-eq45.true _ c.in_err-n-in-len1-up.ensures in
    let p = err_from_is_err_and c.from_residual.result c.from_residual.ensures.1 in
    rw (p.1, p.2) e

pub returns-in_ok-n-in-len1-up : goal.returns-in_ok-n-in-len1-up
unfolding turned
returns-in_ok-n-in-len1-up c =
    ap got (negated_is _ _ (omega arith) (omega arith) c.wrapping_neg.ensures) ∙ below_read c.args.text.now (omega arith) c.if-b-eq45.true _ c.in_ok-n-in-len1-up.ensures

pub returns-in_default : goal.returns-in_default
returns-in_default c =
    let no : 1 ≤ length c.args.text.now → get_or c.args.text.now 0 0 ≡ 45 → ⊥ =
    λ l e. elim c.in_default.branch [ in_default-via-then-text-lt1 w ↦ grind arith | in_default-via-in-len1-up+else-b-eq45 w ↦ w.if-b-eq45.false e ] in
    above_read c.args.text.now no _ c.plus.ensures
