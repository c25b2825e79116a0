-- `utf8::ascii_len` meets its contract. The loop's invariant: what is passed is ASCII. Assumes nothing.
use Prim.Native.Nat.{◌-◌, ◌≤◌}
use native.Mathlib.Omega.{arith}
use lib.ListN.{length}
use borrow.Author.Tests.{not-false}
use borrow.Author.Rules.{rules}
use Rattle.utf8.specs.Place.{Ascii}
use Rattle.utf8.proofs.Pieces.{ascii-join}
use Rattle.utf8.proofs.ascii_len.Statement.{statement}
use Rattle.utf8.proofs.ascii_len.Tie as tie

abbrev invariant-loop : tie.invariant-loop-i
invariant-loop s i₀ i = (i ≤ length s) × Ascii s 0 i

abbrev decreases-loop : tie.decreases-loop-i
decreases-loop s i₀ i = length s - i

loop-again : tie.Need-loop-i-preserved invariant-loop decreases-loop
loop-again c =
    let l = c.before.before.before in
    (omega arith, ascii-join l.args.s.now 0 l.loop-i.i l.loop-i.i 8 (omega arith) l.loop-i.invariant.1 (c.is_ascii.ensures (not-false _ c.if-not-is_ascii.false-raw)))

pub ascii_len_spec : {M : Type 1} → statement M
ascii_len_spec =
    tie.close
    (tie.spec
    invariant-loop
    decreases-loop
    (λ c κs. search rules)
    (λ c. c.ascii_far-i.ensures)
    (λ c. search rules)
    (λ c κs. omega arith)
    (λ c. c.loop-i.invariant)
    (λ c. search rules)
    (λ c. omega arith)
    loop-again
    (λ c. c.loop-i.invariant))
