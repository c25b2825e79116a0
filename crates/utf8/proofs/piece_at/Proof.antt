-- `utf8::piece_at` meets its contract: each answer is the piece that its tests leave. Assumes nothing.
use mathlib.Core.Bool.{true}
use mathlib.Core.Path.{◌≡◌, sym, ◌∙◌}
use Prim.Native.Nat.{◌+◌}
use lib.ListN.{get_or, drop}
use native.Mathlib.Omega.{arith}
use borrow.Author.Rules.{rules}
use borrow.Author.Tests.{not-true, not-false}
use Rattle.utf8.specs.Place.{second_of, next_in}
use Rattle.utf8.proofs.Table.{more}
use Rattle.utf8.proofs.Pieces.{one_whole, never_first, above-first, one_part, two_whole, two_part, three-whole, three_part, four-whole}
use Rattle.utf8.proofs.piece_at.Statement.{statement}
use Rattle.utf8.proofs.piece_at.Tie as tie

-- a byte that can be the first of several
abbrev start : tie.Else-b-gt244 → tie.Start
start c = c.before.before.before.before.before

-- has a second
module _ (c : tie.Else-not-has) where
  abbrev lead : tie.Else-b-gt244
  lead = c.before.before.before

  second : let a = (start lead).args in next_in (second_of (get_or a.s.now a.at 0)) (drop (a.at + 1) a.s.now) ≡ true
  second = sym (rw c.second.ensures at c.has.ensures) ∙ not-false _ c.if-not-has.false-raw

-- and a third
module _ (c : tie.Else-not-has-2) where
  abbrev two : tie.Else-not-has
  two = c.before.before.before

  third : let a = (start (lead two)).args in next_in more (drop (a.at + 2) a.s.now) ≡ true
  third = sym c.has-2.ensures ∙ not-false _ c.if-not-has-2.false-raw

returns : tie.Need-returns-then-b-lt128
returns c = one_whole _ _ c.requires c.if-b-lt128.true

returns-2 : tie.Need-returns-then-b-lt194
returns-2 c = never_first _ _ c.requires c.if-b-lt128.false c.if-b-lt194.true

returns-3 : tie.Need-returns-then-b-gt244
returns-3 c =
    let k = c.before.before.before in
    let s = k.before.before in
    let b = k.shared_slice_known-2-1.given s.args.at in
    above-first _ _ s.requires (omega arith) c.if-b-gt244.true

returns-4 : tie.Need-returns-then-not-has
returns-4 c = let l = c.before.before.before in one_part _ _ (start l).requires l.if-b-lt194.false l.if-b-gt244.false (sym (rw c.second.ensures at c.has.ensures) ∙ not-true _ c.if-not-has.true-raw)

returns-5 : tie.Need-returns-then-b-lt224
returns-5 c = let d = c.before in let l = lead d in two_whole _ _ (start l).requires l.if-b-lt194.false l.if-b-gt244.false (second d) c.if-b-lt224.true

returns-6 : tie.Need-returns-then-not-has-2
returns-6 c = let d = c.before.before.before in let l = lead d in two_part _ _ (start l).requires l.if-b-lt194.false l.if-b-gt244.false (second d) c.if-b-lt224.false (sym c.has-2.ensures ∙ not-true _ c.if-not-has-2.true-raw)

returns-7 : tie.Need-returns-then-b-lt240
returns-7 c = let e = c.before in let d = two e in let l = lead d in three-whole _ _ (start l).requires l.if-b-lt194.false l.if-b-gt244.false (second d) e.if-b-lt224.false (third e) c.if-b-lt240.true

returns-8 : tie.Need-returns-then-not-has-3
returns-8 c = let e = c.before.before.before in let d = two e in let l = lead d in three_part _ _ (start l).requires l.if-b-lt194.false l.if-b-gt244.false (second d) e.if-b-lt224.false (third e) c.if-b-lt240.false (sym c.has-3.ensures ∙ not-true _ c.if-not-has-3.true-raw)

returns-9 : tie.Need-returns
returns-9 c = let e = c.before.before.before in let d = two e in let l = lead d in four-whole _ _ (start l).requires l.if-b-lt194.false l.if-b-gt244.false (second d) e.if-b-lt224.false (third e) c.if-b-lt240.false (sym c.has-3.ensures ∙ not-false _ c.if-not-has-3.false-raw)

pub piece_at_spec : {M : Type 1} → statement M
piece_at_spec =
    tie.close
    (tie.spec
    (λ c. search rules)
    returns
    returns-2
    returns-3
    (λ c. search rules)
    (λ c κs. search rules)
    (λ c κs. search rules)
    returns-4
    returns-5
    (λ c. search rules)
    (λ c κs. search rules)
    returns-6
    returns-7
    (λ c. search rules)
    (λ c κs. search rules)
    returns-8
    returns-9)
