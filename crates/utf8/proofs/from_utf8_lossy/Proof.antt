-- `utf8::from_utf8_lossy` meets its contract: what is left at i, repaired and stored at n, makes the whole. Assumes nothing.
use Prim.Native.Nat.{◌+◌, ◌≤◌, ◌-◌}
use mathlib.Core.Bool.{true, false}
use mathlib.Core.Path.{◌≡◌, refl, sym, ap, ◌∙◌}
use native.Mathlib.Omega.{arith}
use lib.ListN.{length, drop, length-set}
use lib.Seq.{sets}
use borrow.Author.Rules.{rules}
use Rattle.utf8.specs.Utf8.{repair}
use Rattle.utf8.proofs.Pieces.{Turn, turn, turn_ascii, stored_ascii, repair_end}
use Rattle.utf8.proofs.from_utf8_lossy.Statement.{statement}
use Rattle.utf8.proofs.from_utf8_lossy.Tie as tie

abbrev invariant-loop : tie.invariant-loop-i
invariant-loop s out₀ i₀ n₀ out i n =
    (i ≤ length s)
    × (length out ≡ length out₀)
    × (n + length (repair (drop i s)) ≡ length (repair s))
    × (sets out n (repair (drop i s)) ≡ sets out₀ 0 (repair s))

abbrev decreases-loop : tie.decreases-loop-i
decreases-loop s out₀ i₀ n₀ out i n = length s - i

-- the piece in each arm
ascii : (c : tie.Then-b-lt128 invariant-loop decreases-loop) →
    let l = c.before.before in
    Turn l.args.s.now l.loop-i.i true 1
ascii c = turn_ascii _ _ c.loop-i-test.true c.if-b-lt128.true

whole : (c : tie.In-Whole invariant-loop decreases-loop) →
    let l = c.before.before.before.before in
    Turn l.args.s.now l.loop-i.i true c.in-Whole.len
whole c =
    let l = c.before.before.before.before in
    turn _ _ l.loop-i-test.true true _ (sym c.in-Whole.is ∙ c.piece_at-p.ensures)

part : (c : tie.In-Part invariant-loop decreases-loop) →
    let l = c.before.before.before.before in
    Turn l.args.s.now l.loop-i.i false c.in-Part.len
part c =
    let l = c.before.before.before.before in
    turn _ _ l.loop-i-test.true false _ (sym c.in-Part.is ∙ c.piece_at-p.ensures)

-- what is left after each arm
loop-again : tie.Need-loop-i-preserved-then-b-lt128 invariant-loop decreases-loop
loop-again c =
    let l = c.before.before in
    (omega arith, simp length-set l.loop-i.invariant.1, omega (arith, ascii c), stored_ascii _ _ l.loop-i-test.true c.if-b-lt128.true _ _ ∙ l.loop-i.invariant.3)

loop-again-2 : tie.Need-loop-i-preserved-in-Whole invariant-loop decreases-loop
loop-again-2 c =
    let w = c.before.before.before.before in
    let l = w.before.before.before.before.before in
    let k = c.copy in
    ((whole w).fits, k.auto.out ∙ l.loop-i.invariant.1, omega (arith, whole w), rw k.ensures ((whole w).stored _ _ ∙ l.loop-i.invariant.3))

loop-again-3 : tie.Need-loop-i-preserved invariant-loop decreases-loop
loop-again-3 c =
    let w = c.before.before.before.before in
    let l = w.before.before.before.before.before in
    let k = c.replace in
    ((part w).fits, k.auto.out ∙ l.loop-i.invariant.1, omega (arith, part w), rw k.ensures ((part w).stored _ _ ∙ l.loop-i.invariant.3))

returns : tie.Need-returns invariant-loop decreases-loop
returns c =
    let e = repair_end c.args.s.now c.loop-i.i c.loop-i-test.false in
    (omega (arith, ap length e), rw e at c.loop-i.invariant.3)

pub from_utf8_lossy_spec : {M : Type 1} → statement M
from_utf8_lossy_spec =
    tie.close
    (tie.spec
    invariant-loop
    decreases-loop
    (λ c. (omega arith, refl, omega arith, refl))
    (λ c. omega arith)
    (λ c. omega (arith, ascii c))
    (λ c. omega arith)
    (λ c. omega (arith, ascii c))
    (λ c. omega arith)
    loop-again
    (λ c κs. search rules)
    (λ c. search rules)
    (λ c κs. omega (arith, whole c.before))
    (λ c. omega (arith, whole c.before.before.before.before))
    (λ c. omega (arith, whole c.before.before.before.before))
    (λ c. omega (arith, whole c.before.before.before.before))
    loop-again-2
    (λ c. search rules)
    (λ c κs. omega (arith, part c.before))
    (λ c. omega (arith, part c.before.before.before.before))
    (λ c. omega (arith, part c.before.before.before.before))
    (λ c. omega (arith, part c.before.before.before.before))
    loop-again-3
    (λ c. c.loop-i.invariant.1)
    returns)
