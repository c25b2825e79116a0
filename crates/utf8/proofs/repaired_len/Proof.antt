-- `utf8::repaired_len` meets its contract: n, and the length of what is left at i repaired, are the whole. Assumes nothing.
use Prim.Native.Nat.{◌+◌, ◌≤◌, ◌-◌}
use mathlib.Core.Bool.{true, false}
use mathlib.Core.Path.{◌≡◌, sym, ap, ◌∙◌}
use native.Mathlib.Omega.{arith}
use lib.ListN.{length, drop}
use borrow.Author.Rules.{rules}
use Rattle.utf8.specs.Utf8.{repair}
use Rattle.utf8.specs.Laws.{repair-length}
use Rattle.utf8.proofs.Pieces.{Turn, turn, turn_ascii, repair_end}
use Rattle.utf8.proofs.repaired_len.Statement.{statement}
use Rattle.utf8.proofs.repaired_len.Tie as tie

abbrev invariant-loop : tie.invariant-loop-i
invariant-loop s i₀ n₀ i n = (i ≤ length s) × (n + length (repair (drop i s)) ≡ length (repair s))

abbrev decreases-loop : tie.decreases-loop-i
decreases-loop s i₀ n₀ i n = length s - i

-- the piece in each arm
ascii : (c : tie.Then-s-i-lt128 invariant-loop decreases-loop) →
    let l = c.before.before in
    Turn l.args.s.now l.loop-i.i true 1
ascii c = turn_ascii _ _ c.loop-i-test.true c.if-s-i-lt128.true

whole : (c : tie.In-Whole invariant-loop decreases-loop) →
    let l = c.before.before.before.before in
    Turn l.args.s.now l.loop-i.i true c.in-Whole.len
whole c =
    let l = c.before.before.before.before in
    turn _ _ l.loop-i-test.true true _ (sym c.in-Whole.is ∙ c.piece_at-p.ensures)

part : (c : tie.In-Part invariant-loop decreases-loop) →
    let l = c.before.before.before.before in
    Turn l.args.s.now l.loop-i.i false c.in-Part.len
part c =
    let l = c.before.before.before.before in
    turn _ _ l.loop-i-test.true false _ (sym c.in-Part.is ∙ c.piece_at-p.ensures)

-- the sum fits
add-n : tie.Need-overflow_add-n invariant-loop decreases-loop
add-n c = omega (arith, ascii c, repair-length c.args.s.now)

add-n-2 : tie.Need-overflow_add-n-in-Whole invariant-loop decreases-loop
add-n-2 c = omega (arith, whole c, repair-length c.args.s.now)

add-n-3 : tie.Need-overflow_add-n-in-Part invariant-loop decreases-loop
add-n-3 c = omega (arith, part c, repair-length c.args.s.now)

returns : tie.Need-returns invariant-loop decreases-loop
returns c = omega (arith, ap length (repair_end c.args.s.now c.loop-i.i c.loop-i-test.false))

pub repaired_len_spec : {M : Type 1} → statement M
repaired_len_spec =
    tie.close
    (tie.spec
    invariant-loop
    decreases-loop
    (λ c. omega arith)
    (λ c. search rules)
    (λ c. omega arith)
    add-n
    (λ c. omega arith)
    (λ c. omega (arith, ascii c))
    (λ c κs. search rules)
    (λ c. search rules)
    (λ c. omega (arith, whole c))
    add-n-2
    (λ c. omega (arith, whole c))
    (λ c. omega (arith, whole c))
    (λ c. search rules)
    (λ c. omega (arith, part c))
    add-n-3
    (λ c. omega (arith, part c))
    (λ c. omega (arith, part c))
    returns)
