use Rattle.std.proofs.Common.{arith, lit<, ◌∙◌, ◌≡◌, ◌+◌, ◌-◌, drop, length, length-drop, take_all}
use Rattle.text.proofs.Digits.{grown, octals_zero, octals-stop, octal_inside, octal_step, octal_done}
use Rattle.text.proofs.octal_escape.Goals as goal
use Rattle.text.proofs.octal_escape.Goals.{else-loop-more-test, then-loop-more-test+in_default}

pub overflow_mul-value : goal.overflow_mul-value
overflow_mul-value c = omega (arith, grown 8 c.loop-more.more 3 {d = 0} (lit< tt) (omega arith) c.loop-more.invariant.small (lit< tt))

pub overflow_add-value : goal.overflow_add-value
overflow_add-value c =
    omega (arith, grown 8 c.loop-more.more 3 {d = c.in-Some.d} (lit< tt) (omega arith) c.loop-more.invariant.small (omega (arith, c.in-Some.ensures)))

pub loop-more-preserved : goal.loop-more-preserved
loop-more-preserved c =
    let l = c.loop-more in
    let t = c.args.text.now in
    let d = rw (take_all (length t - l.more) (drop l.more t) (omega (arith, length-drop l.more t))) at (c.in-Some.ensures) in
    let e = octal_step t l.more l.value (3 - l.more) (omega arith) d.0 in
    let z : 3 - (l.more + 1) ≡ 3 - l.more - 1 = omega arith in
    record {
      value = rw (d.1, z) (e.0 ∙ l.invariant.value);
      count = rw z (e.1 ∙ l.invariant.count);
      small = grown 8 l.more (l.more + 1) (lit< tt) (omega arith) l.invariant.small (omega (arith, d));
      few = omega arith;
      inside = omega (arith, octal_inside (drop l.more t) d.0, length-drop l.more t);
    }

pub returns : goal.returns
returns c =
    let l = c.loop-more in
    let done = octal_done c.args.text.now l.more l.value (3 - l.more) l.invariant.value l.invariant.count in
    elim c.loop-more-test.branch [
      | else-loop-more-test w ↦ done (let z : 3 - l.more ≡ 0 = omega arith in rw z (octals_zero _))
      | then-loop-more-test+in_default w ↦ done (octals-stop _ _ (rw (take_all (length c.args.text.now - l.more) (drop l.more c.args.text.now) (omega (arith, length-drop l.more c.args.text.now))) at w.in_default.ensures))
    ]
