-- Each return by what the walk comes to there; a turn by what was learnt of its child.
use Rattle.std.proofs.Common.{◌-◌, ◌≤◌, ◌/◌, arith}
use Rattle.std.proofs.lemmas.Result.{err_from_is_err_and}
use Rattle.resolve.specs.MeasureWord.{pack_w}
use Rattle.resolve.specs.Loop.{mid_start, mid_room}
use Rattle.resolve.specs.Ends.{Walks, moved, own_len, open_free, open_owned, open_first, enter, ends_blocked, ends_done}
use Rattle.resolve.proofs.Turn.{turn, child_node, to_walk, Found, word_found, empty_found, walked_found, walked-why, level_out, word-deep, walk_too, sums}
use Rattle.resolve.proofs.+measure.Goals as goal
use Rattle.resolve.proofs.+measure.Goals.{in-Word+else-levels-w, in-Empty, in-Open+in_ok-found-in-Open, in-Some, in-None}

pub blocked-requires-clause-at_in_bounds : goal.blocked-requires-clause-at_in_bounds
blocked-requires-clause-at_in_bounds t c = open_first c.requires.opens

pub returns-then-blocked : goal.returns-then-blocked
unfolding Walks
returns-then-blocked t c = λ o. ends_blocked o _ c.requires.levels_in_range.0 c.blocked.ensures c.if-blocked.true

pub own_text_len-texts-requires : goal.own_text_len-texts-requires
own_text_len-texts-requires t c = open_owned c.requires.opens

pub loop-i-init : goal.loop-i-init
loop-i-init t c =
    record { few = omega arith; short = omega (arith, own_len c.requires.opens _ _ c.own_text_len-texts.ensures); shallow = omega arith; midway = λ I. mid_start I _ _ }

pub returns-then-levels-eq1 : goal.returns-then-levels-eq1
unfolding Walks
returns-then-levels-eq1 t c = let T = turn c.own_text_len-texts.ensures c.loop-i.invariant.midway c.loop-i-test.true c.requires.levels_in_range.0 in λ o. level_out T o (open_free o c.blocked.ensures c.if-blocked.false) _ _ _ c.if-levels-eq1.true

pub known-requires-clause-length_readable : goal.known-requires-clause-length_readable
known-requires-clause-length_readable t c = let T = turn c.own_text_len-texts.ensures c.loop-i.invariant.midway c.loop-i-test.true c.requires.levels_in_range.0 in c.requires.opens.facts.readable _ (child_node T c.requires.opens).0

pub known-requires-clause-node_in_bounds : goal.known-requires-clause-node_in_bounds
known-requires-clause-node_in_bounds t c = let T = turn c.own_text_len-texts.ensures c.loop-i.invariant.midway c.loop-i-test.true c.requires.levels_in_range.0 in (child_node T c.requires.opens).1

pub returns-then-levels-w : goal.returns-then-levels-w
unfolding Walks
returns-then-levels-w t c = let T = turn c.own_text_len-texts.ensures c.loop-i.invariant.midway c.loop-i-test.true c.requires.levels_in_range.0 in let left : (1 ≤ c.args.levels - 1) × (c.args.levels - 1 ≤ 64) = (omega (arith, c.if-levels-eq1.false, c.requires.levels_in_range), omega (arith, c.requires.levels_in_range)) in
    λ o. word-deep T o (open_free o c.blocked.ensures c.if-blocked.false) _ _ _ left c.known.new.measures c.known.result c.known.ensures c.in-Word.w c.in-Word.is c.if-levels-w.true

pub measure-requires : goal.measure-requires
measure-requires t c =
    let T = turn c.own_text_len-texts.ensures c.loop-i.invariant.midway c.loop-i-test.true c.requires.levels_in_range.0 in
    let left : (1 ≤ c.args.levels - 1) × (c.args.levels - 1 ≤ 64) = (omega (arith, c.if-levels-eq1.false, c.requires.levels_in_range), omega (arith, c.requires.levels_in_range)) in
    (omega (arith, c.decreases, c.requires.levels_in_range), (left, to_walk T left c.known.new.measures c.known.result c.known.ensures c.in-Open.is c.requires.opens))

pub returns-in_err-found-in-Open : goal.returns-in_err-found-in-Open
unfolding Walks
returns-in_err-found-in-Open t c = λ o.
    let T = turn c.own_text_len-texts.ensures c.loop-i.invariant.midway c.loop-i-test.true c.requires.levels_in_range.0 in
    let left : (1 ≤ c.args.levels - 1) × (c.args.levels - 1 ≤ 64) = (omega (arith, c.if-levels-eq1.false, c.requires.levels_in_range), omega (arith, c.requires.levels_in_range)) in
    let m = c.measure.new in
    let p = err_from_is_err_and c.from_residual.result c.from_residual.ensures.1 in
    let why = walked-why T left c.known.new.measures c.known.result c.known.ensures m.measures m.sorted m.dues c.measure.result c.measure.ensures c.in-Open.is o _ c.in_err-found-in-Open.was in
    rw (p.1, p.2, why)
    (walk_too T o (open_free o c.blocked.ensures c.if-blocked.false) _ _ _ left c.known.new.measures c.known.result c.known.ensures m.measures m.sorted m.dues c.measure.result c.measure.ensures
    c.in-Open.is (rw why at (c.in_err-found-in-Open.was)))

pub loop-i-preserved : goal.loop-i-preserved
loop-i-preserved t c =
    let T = turn c.own_text_len-texts.ensures c.loop-i.invariant.midway c.loop-i-test.true c.requires.levels_in_range.0 in
    let left : (1 ≤ c.args.levels - 1) × (c.args.levels - 1 ≤ 64) = (omega (arith, c.if-levels-eq1.false, c.requires.levels_in_range), omega (arith, c.requires.levels_in_range)) in
    let known = c.match-known in
    let A : Found T known.found known.measures known.sorted known.dues = elim known.branch [
      | in-Word+else-levels-w w ↦ rw (w.found-is, w.measures-is, w.sorted-is, w.dues-is) (word_found T left c.known.new.measures c.known.result c.known.ensures w.in-Word.w w.in-Word.is w.if-levels-w.false)
      | in-Empty w ↦ rw (w.found-is, w.measures-is, w.sorted-is, w.dues-is) (empty_found T left c.known.new.measures c.known.result c.known.ensures w.in-Empty.is)
      | in-Open+in_ok-found-in-Open w ↦
          let m = w.measure.new in
          rw (w.found-is, w.measures-is, w.sorted-is, w.dues-is)
          (walked_found T left c.known.new.measures c.known.result c.known.ensures m.measures m.sorted m.dues w.measure.result w.measure.ensures w.in-Open.is _ w.in_ok-found-in-Open.was)
    ] in
    let s = sums c.loop-i.values (c.match-found.w / 128) c.loop-i.texts (c.match-found.w / 524288) c.loop-i.i c.loop-i.deepest c.match-found.w c.max-deepest.result
    c.loop-i.invariant.few c.loop-i.invariant.short c.loop-i.invariant.shallow c.max-deepest.ensures in
    record {
      few = s.0;
      short = s.1;
      shallow = s.2;
      midway = rw c.max-deepest.ensures (elim c.match-found.branch [
        | in-Some w ↦ rw (w.sorted-is, w.w-is) (rw w.in-Some.is at A)
        | in-None w ↦ rw (w.sorted-is, w.w-is) (rw w.in-None.is at A)
      ]);
    }

pub note-requires : goal.note-requires
note-requires t c =
    let I = enter (moved c.requires.opens _ _ c.own_text_len-texts.ensures) in
    mid_room I _ (c.loop-i.invariant.midway I)

pub returns : goal.returns
unfolding Walks pack_w
returns t c = λ o.
    let m = moved o _ _ c.own_text_len-texts.ensures in
    ends_done m _ c.requires.levels_in_range.0 (open_free o c.blocked.ensures c.if-blocked.false) (c.loop-i.invariant.midway (enter m)) _ _ c.requires.levels_in_range.1 c.loop-i-test.false c.note.ensures
    (own_len o _ _ c.own_text_len-texts.ensures) c.measure_word-w.ensures
