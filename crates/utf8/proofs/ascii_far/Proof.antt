-- `utf8::ascii_far` meets its contract. The loop's invariant: what is passed is ASCII. Assumes nothing.
use Prim.Native.Nat.{◌+◌, ◌-◌, ◌≤◌}
use mathlib.Core.Bool.{◌&&◌}
use mathlib.Core.Path.{refl}
use native.Mathlib.Omega.{arith}
use lib.ListN.{length}
use borrow.Author.Rules.{rules}
use borrow.Author.Tests.{not-false}
use Rattle.utf8.specs.Place.{Ascii}
use Rattle.utf8.specs.Rows.{and_left, and_right}
use Rattle.utf8.proofs.Pieces.{ascii-join}
use Rattle.utf8.proofs.ascii_far.Statement.{statement}
use Rattle.utf8.proofs.ascii_far.Tie as tie

abbrev invariant-loop : tie.invariant-loop-i
invariant-loop s i₀ i = (i ≤ length s) × Ascii s 0 i

abbrev decreases-loop : tie.decreases-loop-i
decreases-loop s i₀ i = length s - i

loop-again : tie.Need-loop-i-preserved invariant-loop decreases-loop
loop-again c =
    let l = c.before.before.before.before.before.before in
    let s = l.args.s.now in
    let i = l.loop-i.i in
    let first = c.is_ascii in
    let second = c.is_ascii-in-loop-i in
    let third = c.is_ascii-in-loop-i-2 in
    let fourth = c.is_ascii-in-loop-i-3 in
    let four = not-false _ c.if-not-is_ascii.false-raw in
    let three = and_left ((first.result && second.result) && third.result) fourth.result four in
    let two = and_left (first.result && second.result) third.result three in
    let a = ascii-join s i 8 (i + 8) 8 refl (first.ensures (and_left first.result second.result two)) (second.ensures (and_right first.result second.result two)) in
    let b = ascii-join s i 16 (i + 16) 8 refl a (third.ensures (and_right (first.result && second.result) third.result three)) in
    let d = ascii-join s i 24 (i + 24) 8 refl b (fourth.ensures (and_right ((first.result && second.result) && third.result) fourth.result four)) in
    (omega arith, ascii-join s 0 i i 32 (omega arith) l.loop-i.invariant.1 d)

pub ascii_far_spec : {M : Type 1} → statement M
ascii_far_spec =
    tie.close
    (tie.spec
    invariant-loop
    decreases-loop
    (λ c. (omega arith, λ k h. absurd (omega arith)))
    (λ c. search rules)
    (λ c κs. omega arith)
    (λ c. search rules)
    (λ c κs. omega arith)
    (λ c. search rules)
    (λ c κs. omega arith)
    (λ c. search rules)
    (λ c κs. omega arith)
    (λ c. c.loop-i.invariant)
    (λ c. search rules)
    (λ c. omega arith)
    loop-again
    (λ c. c.loop-i.invariant))
