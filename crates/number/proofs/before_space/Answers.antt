-- The bytes are looked at one after the other, from the last on.
use Rattle.std.proofs.Common.{arith}
use Rattle.number.proofs.Space.{behind, tested, tested_yes, tested_no, no_space_out, no_space-all, front_is}
use Rattle.number.proofs.before_space.Goals as goal
use Rattle.number.proofs.before_space.Goals.{in_default-via-then-text-lt1, in_default-via-in-len1-up+else-space_one+then-text-lt2, in_default-via-in-len2-up+else-space_two+then-text-lt3, in_default-via-in-len3-up+else-space_three}

pub returns-in-len1-up : goal.returns-in-len1-up
returns-in-len1-up c =
    let one = tested (behind c.args.text.now) (omega arith) c.space_one.ensures in
    front_is _ _ _ (tested_yes one (omega arith) c.if-space_one.true)

pub returns-in-len2-up : goal.returns-in-len2-up
returns-in-len2-up c =
    let one = tested (behind c.args.text.now) (omega arith) c.space_one.ensures in
    let two = tested (tested_no one c.if-space_one.false) (omega arith) c.space_two.ensures in
    front_is _ _ _ (tested_yes two (omega arith) c.if-space_two.true)

pub returns-in-len3-up : goal.returns-in-len3-up
returns-in-len3-up c =
    let one = tested (behind c.args.text.now) (omega arith) c.space_one.ensures in
    let two = tested (tested_no one c.if-space_one.false) (omega arith) c.space_two.ensures in
    let three = tested (tested_no two c.if-space_two.false) (omega arith) c.space_three.ensures in
    front_is _ _ _ (tested_yes three (omega arith) c.if-space_three.true)

pub returns-in_default : goal.returns-in_default
returns-in_default c =
    elim c.in_default.branch [
      | in_default-via-then-text-lt1 w ↦ no_space_out (behind c.args.text.now) (grind arith)
      | in_default-via-in-len1-up+else-space_one+then-text-lt2 w ↦
          let one = tested (behind c.args.text.now) (omega arith) w.space_one.ensures in
          no_space_out (tested_no one w.if-space_one.false) (grind arith)
      | in_default-via-in-len2-up+else-space_two+then-text-lt3 w ↦
          let one = tested (behind c.args.text.now) (omega arith) w.space_one.ensures in
          let two = tested (tested_no one w.if-space_one.false) (omega arith) w.space_two.ensures in
          no_space_out (tested_no two w.if-space_two.false) (grind arith)
      | in_default-via-in-len3-up+else-space_three w ↦
          let one = tested (behind c.args.text.now) (omega arith) w.space_one.ensures in
          let two = tested (tested_no one w.if-space_one.false) (omega arith) w.space_two.ensures in
          let three = tested (tested_no two w.if-space_two.false) (omega arith) w.space_three.ensures in
          no_space-all (tested_no three w.if-space_three.false)
    ]
