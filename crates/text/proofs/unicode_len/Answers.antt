use Rattle.std.proofs.Common.{◌≡◌, ◌∙◌, refl, sym, drop, arith}
use Rattle.std.specs.Prelude.{None}
use Rattle.utf8.specs.Utf8.{encode}
use Rattle.utf8.specs.Encode.{encode_one}
use Rattle.text.specs.Escapes.{unicode_head}
use Rattle.text.specs.Text.{unescape_unicode, decoded_says}
use Rattle.text.specs.Laws.{texts_end, texts_bad}
use Rattle.text.proofs.Places.{rest}
use Rattle.text.proofs.Loops.{byte_in_unicode, piece_in_unicode, more_none, more_end, more_bad, counted}
use Rattle.text.proofs.unicode_len.Goals as goal

pub loop-i-init : goal.loop-i-init
unfolding unescape_unicode
loop-i-init c = record { left = more_none _; inside = omega arith; few = omega arith }

pub loop-i-preserved-then-b-ne92 : goal.loop-i-preserved-then-b-ne92
loop-i-preserved-then-b-ne92 c =
    let l = c.loop-i in
    let p = byte_in_unicode c.args.line.now l.i (λ j. omega (arith, c.type_inv.line j)) c.loop-i-test.true c.if-b-ne92.true in
    record { left = rw (encode_one _ c.if-b-lt128.true) at (counted encode p l.i _ _ refl refl l.n ∙ l.invariant.left); inside = omega arith; few = omega arith }

pub overflow_add-n-else-b-lt128 : goal.overflow_add-n-else-b-lt128
overflow_add-n-else-b-lt128 c =
    let p = piece_in_unicode c.args.line.now c.loop-i.i (λ j. omega (arith, c.type_inv.line j)) c.loop-i-test.true (sym c.unicode_piece.ensures ∙ c.in-Some.is) in
    omega (arith, p.inside, p.good.1)

pub overflow_add-i-else-b-lt128 : goal.overflow_add-i-else-b-lt128
overflow_add-i-else-b-lt128 c =
    let p = piece_in_unicode c.args.line.now c.loop-i.i (λ j. omega (arith, c.type_inv.line j)) c.loop-i-test.true (sym c.unicode_piece.ensures ∙ c.in-Some.is) in
    omega (arith, p.inside)

pub overflow_add-i-else-b-lt128-2 : goal.overflow_add-i-else-b-lt128-2
overflow_add-i-else-b-lt128-2 c =
    let p = piece_in_unicode c.args.line.now c.loop-i.i (λ j. omega (arith, c.type_inv.line j)) c.loop-i-test.true (sym c.unicode_piece.ensures ∙ c.in-Some.is) in
    omega (arith, p.inside)

pub loop-i-preserved : goal.loop-i-preserved
loop-i-preserved c =
    let l = c.loop-i in
    let p = piece_in_unicode c.args.line.now l.i (λ j. omega (arith, c.type_inv.line j)) c.loop-i-test.true (sym c.unicode_piece.ensures ∙ c.in-Some.is) in
    record { left = rw c.encoded_len-n.ensures (counted encode p l.i _ _ refl refl l.n ∙ l.invariant.left); inside = p.inside; few = omega (arith, p.good.1) }

pub returns-in_default : goal.returns-in_default
unfolding decoded_says
returns-in_default c =
    let e : unicode_head (drop c.loop-i.i c.args.line.now) ≡ None = rw rest at (sym c.unicode_piece.ensures ∙ c.in_default.is) in
    more_bad _ _ (texts_bad unicode_head encode _ _ _ c.loop-i-test.true e) ∙ c.loop-i.invariant.left

pub returns : goal.returns
unfolding decoded_says
returns c = more_end _ _ (texts_end unicode_head encode _ _ _ c.loop-i-test.false) ∙ c.loop-i.invariant.left
