use Rattle.std.proofs.Common.{◌≡◌, ◌≤◌, ap, ◌∙◌, length, get_or, leb, arith}
use Rattle.number.specs.Number.{only}
use Rattle.number.proofs.Number.{plus_sign, plus_plain}
use Rattle.number.proofs.plus.Goals as goal
use Rattle.number.proofs.plus.Goals.{in_default-via-then-text-lt1, in_default-via-in-len1-up+else-b-eq43}

pub returns-in-len1-up : goal.returns-in-len1-up
returns-in-len1-up c = c.natural.ensures ∙ ap (only (λ n. leb n c.args.most)) (plus_sign c.args.text.now (omega arith) c.if-b-eq43.true)

pub returns-in_default : goal.returns-in_default
returns-in_default c =
    let no : 1 ≤ length c.args.text.now → get_or c.args.text.now 0 0 ≡ 43 → ⊥ =
    λ l e. elim c.in_default.branch [ in_default-via-then-text-lt1 w ↦ grind arith | in_default-via-in-len1-up+else-b-eq43 w ↦ w.if-b-eq43.false e ] in
    c.natural-in_default.ensures ∙ ap (only (λ n. leb n c.args.most)) (plus_plain c.args.text.now no)
