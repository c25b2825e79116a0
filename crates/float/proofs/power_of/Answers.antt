use Rattle.std.proofs.Common.{sym, ◌∙◌, arith}
use Rattle.float.proofs.Scans.{run_count, power-none, power_more, power-read}
use Rattle.float.proofs.power_of.Goals as goal
use Rattle.float.proofs.power_of.Goals.{then-run-eq0-via-then-run-eq0, then-run-eq0-via-else-run-eq0+then-run-text}

pub returns-then-run-eq0 : goal.returns-then-run-eq0
returns-then-run-eq0 c =
    let n = run_count 0 c.args.text.now c.digit_run-run.result c.digit_run-run.ensures.run in
    elim c.then-run-eq0.branch [
      | then-run-eq0-via-then-run-eq0 w ↦ power-none _ c.args.text.now (sym n ∙ w.if-run-eq0.true)
      | then-run-eq0-via-else-run-eq0+then-run-text w ↦ power_more _ c.args.text.now (omega (arith, n, w.if-run-text.true))
    ]

pub returns-then-negative : goal.returns-then-negative
returns-then-negative c =
    let e = power-read c.args.negative c.args.text.now c.digit_run-run.result c.digit_run-run.ensures.run c.if-run-eq0.false c.if-run-text.false in
    rw c.if-negative.true (rw c.if-negative.true at e)

pub returns-else-negative : goal.returns-else-negative
returns-else-negative c =
    let e = power-read c.args.negative c.args.text.now c.digit_run-run.result c.digit_run-run.ensures.run c.if-run-eq0.false c.if-run-text.false in
    rw c.if-negative.false (rw c.if-negative.false at e)
