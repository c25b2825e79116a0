-- `text::put` meets its contract. Assumes nothing.
use native.Mathlib.Omega.{arith}
use borrow.Author.Rules.{rules}
use lib.ListN.{length-set}
use Rattle.text.proofs.Places.{put_one, put_two, put_three, put_four}
use Rattle.text.proofs.put.Statement.{statement}
use Rattle.text.proofs.put.Tie as tie

slice-write-out : tie.Need-bounds-out-at
slice-write-out c = omega (arith, (put_one c.args.out.now c.args.at c.args.code c.if-code-lt128.true).0, c.requires.1)

returns : tie.Need-returns-then-code-lt128
returns c = put_one _ _ _ c.if-code-lt128.true

slice-write-out-2 : tie.Need-bounds-out-at-then-code-lt2048
slice-write-out-2 c =
    let s = c.before.before in
    omega (arith, (put_two s.args.out.now s.args.at s.args.code c.if-code-lt128.false c.if-code-lt2048.true).0, s.requires.1)

slice-write-out-3 : tie.Need-bounds-out-at-then-code-lt2048-2
slice-write-out-3 c =
    let s = c.before.before in
    simp length-set (omega (arith, (put_two s.args.out.now s.args.at s.args.code c.if-code-lt128.false c.if-code-lt2048.true).0, s.requires.1))

returns-2 : tie.Need-returns-then-code-lt2048
returns-2 c = put_two _ _ _ c.if-code-lt128.false c.if-code-lt2048.true

slice-write-out-4 : tie.Need-bounds-out-at-then-code-lt65536
slice-write-out-4 c =
    let s = c.before.before.before in
    omega (arith, (put_three s.args.out.now s.args.at s.args.code c.if-code-lt2048.false c.if-code-lt65536.true).0, s.requires.1)

slice-write-out-5 : tie.Need-bounds-out-at-then-code-lt65536-2
slice-write-out-5 c =
    let s = c.before.before.before in
    simp length-set (omega (arith, (put_three s.args.out.now s.args.at s.args.code c.if-code-lt2048.false c.if-code-lt65536.true).0, s.requires.1))

slice-write-out-6 : tie.Need-bounds-out-at-then-code-lt65536-3
slice-write-out-6 c =
    let s = c.before.before.before in
    simp length-set (omega (arith, (put_three s.args.out.now s.args.at s.args.code c.if-code-lt2048.false c.if-code-lt65536.true).0, s.requires.1))

returns-3 : tie.Need-returns-then-code-lt65536
returns-3 c = put_three _ _ _ c.if-code-lt2048.false c.if-code-lt65536.true

slice-write-out-7 : tie.Need-bounds-out-at-2
slice-write-out-7 c =
    let s = c.before.before.before in
    omega (arith, (put_four s.args.out.now s.args.at s.args.code c.if-code-lt65536.false).0, s.requires.1)

slice-write-out-8 : tie.Need-bounds-out-at-3
slice-write-out-8 c =
    let s = c.before.before.before in
    simp length-set (omega (arith, (put_four s.args.out.now s.args.at s.args.code c.if-code-lt65536.false).0, s.requires.1))

slice-write-out-9 : tie.Need-bounds-out-at-4
slice-write-out-9 c =
    let s = c.before.before.before in
    simp length-set (omega (arith, (put_four s.args.out.now s.args.at s.args.code c.if-code-lt65536.false).0, s.requires.1))

slice-write-out-10 : tie.Need-bounds-out-at-5
slice-write-out-10 c =
    let s = c.before.before.before in
    simp length-set (omega (arith, (put_four s.args.out.now s.args.at s.args.code c.if-code-lt65536.false).0, s.requires.1))

returns-4 : tie.Need-returns
returns-4 c = put_four _ _ _ c.if-code-lt65536.false

pub put_spec : {M : Type 1} → statement M
put_spec =
    tie.close
    (tie.spec
    (λ c. search rules)
    slice-write-out
    (λ c. search rules)
    (λ c. search rules)
    returns
    (λ c. search rules)
    (λ c. search rules)
    slice-write-out-2
    (λ c. search rules)
    (λ c. search rules)
    (λ c. search rules)
    slice-write-out-3
    (λ c. search rules)
    (λ c. search rules)
    returns-2
    (λ c. search rules)
    (λ c. search rules)
    slice-write-out-4
    (λ c. search rules)
    (λ c. search rules)
    (λ c. search rules)
    slice-write-out-5
    (λ c. search rules)
    (λ c. search rules)
    (λ c. search rules)
    slice-write-out-6
    (λ c. search rules)
    (λ c. search rules)
    returns-3
    (λ c. search rules)
    (λ c. search rules)
    slice-write-out-7
    (λ c. search rules)
    (λ c. search rules)
    (λ c. search rules)
    slice-write-out-8
    (λ c. search rules)
    (λ c. search rules)
    (λ c. search rules)
    slice-write-out-9
    (λ c. search rules)
    (λ c. search rules)
    (λ c. search rules)
    slice-write-out-10
    (λ c. search rules)
    (λ c. search rules)
    returns-4)
