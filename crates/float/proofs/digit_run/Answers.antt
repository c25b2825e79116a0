use Rattle.std.proofs.Common.{◌≡◌, ◌+◌, ◌-◌, ◌*◌, min, ap, ℕ, length, get_or, drop, sym, ◌∙◌, arith, rules}
use native.Mathlib.Nat.{min-le_right}
use Rattle.float.specs.Digits.{digit}
use Rattle.float.specs.Scan.{cap}
use Rattle.float.proofs.Scans.{run_start, run_more, run_end, lead-none}
use Rattle.float.proofs.digit_run.Goals as goal

pub loop-count-init : goal.loop-count-init
loop-count-init c = record { small = search rules; whole = run_start _ _ }

pub append-value-requires : goal.append-value-requires
unfolding digit
append-value-requires c = sym c.if-not-is_ascii_digit.ensures.value

pub returns-then-not-is_ascii_digit-clause-run : goal.returns-then-not-is_ascii_digit-clause-run
unfolding digit
returns-then-not-is_ascii_digit-clause-run c =
    let t = c.args.text.now in
    let l = c.loop-count in
    run_end l.value l.count (drop l.count t) l.invariant.small (lead-none t l.count (λ h. sym c.if-not-is_ascii_digit.ensures.value)) ∙ l.invariant.whole

pub loop-count-preserved : goal.loop-count-preserved
unfolding digit
loop-count-preserved c =
    let t = c.args.text.now in
    let l = c.loop-count in
    let e : c.append-value.result ≡ min (l.value * 10 + (get_or t l.count 0 - 0x30)) cap = c.append-value.ensures in
    record {
      small = rw e (min-le_right _ cap);
      whole = rw e (run_more t l.count l.value (omega arith) (sym c.if-not-is_ascii_digit.ensures.value)) ∙ l.invariant.whole;
    }

pub returns-clause-run : goal.returns-clause-run
returns-clause-run c =
    let t = c.args.text.now in
    let l = c.loop-count in
    let e : length t ≡ l.count = omega arith in
    ap (λ (n : ℕ). record { value = l.value; count = n }) e ∙ run_end l.value l.count (drop l.count t) l.invariant.small (lead-none t l.count (λ h. absurd (omega arith))) ∙ l.invariant.whole
