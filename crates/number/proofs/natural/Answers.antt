use Rattle.std.proofs.Common.{ap, ◌∙◌, leb, arith}
use Rattle.std.proofs.lemmas.Grind.{common_steps}
use Rattle.number.specs.Number.{only, invalid}
use Rattle.number.proofs.Number.{turn_bad, turn_more, turn_over, start_none, start_some, end_some}
use Rattle.number.proofs.natural.Goals as goal

pub returns-then-is_empty : goal.returns-then-is_empty
unfolding invalid
returns-then-is_empty c = start_none c.args.text.now _ (grind (arith, common_steps))

pub loop-b-init : goal.loop-b-init
loop-b-init c = record {
  whole = ap (only (λ k. leb k c.args.most)) (start_some c.args.text.now (λ e. grind (arith, common_steps)));
  small = omega arith;
}

pub returns-then-not-is_ascii_digit : goal.returns-then-not-is_ascii_digit
unfolding invalid
returns-then-not-is_ascii_digit c = turn_bad _ _ _ _ c.loop-b-test.true c.if-not-is_ascii_digit.ensures.cases ∙ c.loop-b.invariant.whole

pub returns-then-most-n : goal.returns-then-most-n
unfolding invalid
returns-then-most-n c =
    let r = c.if-not-is_ascii_digit.ensures.cases in
    turn_over _ _ _ _ c.loop-b-test.true r.0 r.1 (omega arith) ∙ c.loop-b.invariant.whole

pub loop-b-preserved : goal.loop-b-preserved
loop-b-preserved c =
    let r = c.if-not-is_ascii_digit.ensures.cases in
    record {
      whole = turn_more _ _ _ _ c.loop-b-test.true r.0 r.1 ∙ c.loop-b.invariant.whole;
      small = omega arith;
    }

pub returns : goal.returns
returns c = end_some c.args.text.now c.loop-b.b-index c.loop-b.n c.args.most (omega arith) c.loop-b.invariant.small ∙ c.loop-b.invariant.whole
