use Rattle.std.proofs.Common.{◌+◌, drop, sym, ap, ◌∙◌, refl, arith}
use Rattle.std.proofs.lemmas.Grind.{common_steps}
use Rattle.float.specs.Scan.{run_of}
use Rattle.float.proofs.Scans.{left_first, left_rest, run_count, run_value, read_cap, scanned_point, scanned_plain}
use Rattle.float.proofs.mantissa_of.Goals as goal

pub digit_run-part-requires : goal.digit_run-part-requires
digit_run-part-requires c = rw (run_value 0 c.args.text.now c.digit_run-whole.result c.digit_run-whole.ensures.run) (read_cap 0 c.args.text.now)

pub returns-in-len1-up : goal.returns-in-len1-up
returns-in-len1-up c =
    let s = c.args.text.now in
    let r = c.digit_run-whole.result in
    let d = c.digit_run-whole.ensures.run in
    let t = drop (r.count + 1) s in
    let q = c.digit_run-part.result in
    let e = c.digit_run-part.ensures.run ∙ ap (run_of r.value) (left_rest s r.count) in
    scanned_point s t r.count r.value q.count q.value (run_count 0 s r d) (run_value 0 s r d) (grind (arith, common_steps)) (sym (left_first s r.count) ∙ c.if-b-eq46.true) refl
    (run_count r.value t q e)
    (run_value r.value t q e)

pub returns-in_default : goal.returns-in_default
returns-in_default c =
    let s = c.args.text.now in
    let r = c.digit_run-whole.result in
    let d = c.digit_run-whole.ensures.run in
    scanned_plain s r.count r.value (run_count 0 s r d) (run_value 0 s r d) (λ h e. grind (arith, common_steps))

pub returns-in_default-2 : goal.returns-in_default-2
returns-in_default-2 c =
    let s = c.args.text.now in
    let r = c.digit_run-whole.result in
    let d = c.digit_run-whole.ensures.run in
    scanned_plain s r.count r.value (run_count 0 s r d) (run_value 0 s r d) (λ h e. c.if-b-eq46.false (left_first s r.count ∙ e))
