-- `utf8::valid` meets its contract: the text is valid exactly if what is left at i is, from the first bytes that are ASCII on.
-- Assumes nothing.
use Prim.Native.Nat.{◌≤◌, ◌-◌}
use mathlib.Core.Bool.{true, false}
use mathlib.Core.Path.{◌≡◌, sym, ◌∙◌}
use native.Mathlib.Omega.{arith}
use lib.ListN.{length, drop}
use borrow.Author.Rules.{rules}
use Rattle.utf8.specs.Utf8.{valid}
use Rattle.utf8.proofs.Pieces.{Turn, turn, turn_ascii, after-ascii, valid_end}
use Rattle.utf8.proofs.valid.Statement.{statement}
use Rattle.utf8.proofs.valid.Tie as tie

abbrev invariant-loop : tie.invariant-loop-i
invariant-loop s i₀ i = (i ≤ length s) × (valid (drop i s) ≡ valid s)

abbrev decreases-loop : tie.decreases-loop-i
decreases-loop s i₀ i = length s - i

-- the piece in the arm of a well-formed one
whole : (c : tie.In-Whole invariant-loop decreases-loop) →
    let l = c.before.before.before.before in
    Turn l.args.s.now l.loop-i.i true c.in-Whole.len
whole c =
    let l = c.before.before.before.before in
    turn _ _ l.loop-i-test.true true _ (sym c.in-Whole.is ∙ c.piece_at-p.ensures)

loop-again : tie.Need-loop-i-preserved-then-s-i-lt128 invariant-loop decreases-loop
loop-again c =
    let l = c.before.before in
    (omega arith, sym (turn_ascii _ _ l.loop-i-test.true c.if-s-i-lt128.true).judged ∙ l.loop-i.invariant.1)

loop-again-2 : tie.Need-loop-i-preserved invariant-loop decreases-loop
loop-again-2 c =
    let l = c.before.before.before.before in
    ((whole c).fits, sym (whole c).judged ∙ l.loop-i.invariant.1)

returns : tie.Need-returns-in-Part invariant-loop decreases-loop
returns c =
    let l = c.before.before.before.before in
    let e = sym c.in-Part.is ∙ c.piece_at-p.ensures in
    sym (turn _ _ l.loop-i-test.true false _ e).judged ∙ l.loop-i.invariant.1

returns-2 : tie.Need-returns invariant-loop decreases-loop
returns-2 c = valid_end _ _ c.loop-i-test.false ∙ c.loop-i.invariant.1

pub valid_spec : {M : Type 1} → statement M
valid_spec =
    tie.close
    (tie.spec
    invariant-loop
    decreases-loop
    (λ c κs. search rules)
    (λ c. let h = c.ascii_len-i.ensures in (h.0, after-ascii _ _ h.0 h.1))
    (λ c. search rules)
    (λ c. omega arith)
    (λ c. omega arith)
    loop-again
    (λ c κs. search rules)
    (λ c. search rules)
    (λ c. omega (arith, whole c))
    (λ c. omega (arith, whole c))
    loop-again-2
    (λ c. search rules)
    returns
    returns-2)
