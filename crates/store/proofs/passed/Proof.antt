-- `store::passed` meets its contract. The loop's invariant: none of the numbers passed is the key. Assumes nothing.
use Prim.Native.Nat.{◌≤◌}
use mathlib.Core.Bool.{◌&&◌}
use native.Mathlib.Omega.{arith}
use borrow.Author.Rules.{rules}
use borrow.Author.Tests.{not-false}
use Rattle.utf8.specs.Rows.{and_left, and_right}
use Rattle.store.specs.Rooms.{Passed}
use Rattle.store.specs.RoomMemo.{passed_join}
use Rattle.store.proofs.passed.Statement.{statement}
use Rattle.store.proofs.passed.Tie as tie

abbrev invariant-loop : tie.invariant-loop-i
invariant-loop keys memo k i₀ i = (i ≤ memo) × Passed keys i memo k

abbrev decreases-loop : tie.decreases-loop-i
decreases-loop keys memo k i₀ i = i

loop-again : tie.Need-loop-i-preserved invariant-loop decreases-loop
loop-again c =
    let l = c.before.before.before.before.before.before in
    let first = c.differ in
    let second = c.differ-in-loop-i in
    let third = c.differ-in-loop-i-2 in
    let fourth = c.differ-in-loop-i-3 in
    let four = not-false _ c.if-not-differ.false-raw in
    let three = and_left ((first.result && second.result) && third.result) fourth.result four in
    let two = and_left (first.result && second.result) third.result three in
    let join = passed_join l.args.keys.now in
    let d = join _ _ _ _ _ (fourth.ensures (and_right ((first.result && second.result) && third.result) fourth.result four)) l.loop-i.invariant.1 (omega arith) in
    let b = join _ _ _ _ _ (third.ensures (and_right (first.result && second.result) third.result three)) d (omega arith) in
    let a = join _ _ _ _ _ (second.ensures (and_right first.result second.result two)) b (omega arith) in
    (omega arith, join _ _ _ _ _ (first.ensures (and_left first.result second.result two)) a (omega arith))

pub passed_spec : {M : Type 1} → statement M
passed_spec =
    tie.close
    (tie.spec
    invariant-loop
    decreases-loop
    (λ c. (omega arith, λ j h l. absurd (omega arith)))
    (λ c κs. omega arith)
    (λ c. search rules)
    (λ c κs. omega arith)
    (λ c. search rules)
    (λ c κs. omega arith)
    (λ c. search rules)
    (λ c κs. omega arith)
    (λ c. search rules)
    (λ c. search rules)
    loop-again
    (λ c. search rules))
