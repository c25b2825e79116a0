use Rattle.std.proofs.Common.{◌≡◌, ◌∙◌, refl, sym, drop, arith}
use Rattle.std.specs.Prelude.{None}
use Rattle.utf8.specs.Utf8.{encode}
use Rattle.utf8.specs.Encode.{encode_one}
use Rattle.text.specs.Escapes.{unicode_head}
use Rattle.text.specs.Text.{unescape_unicode}
use Rattle.text.specs.Laws.{texts_end, texts_bad}
use Rattle.text.proofs.Places.{rest}
use Rattle.text.proofs.Loops.{is_some, byte_in_unicode, piece_in_unicode, write_none, write_end, write_bad, written, roomy}
use Rattle.text.proofs.unescape_unicode.Goals as goal

pub loop-i-init : goal.loop-i-init
unfolding unescape_unicode
loop-i-init c = record { left = write_none _ _ c.requires.is; inside = omega arith }

pub bounds-out-n : goal.bounds-out-n
bounds-out-n c =
    let l = c.loop-i in
    let p = byte_in_unicode c.args.line.now l.i (λ j. omega (arith, c.type_inv.line j)) c.loop-i-test.true c.if-b-ne92.true in
    omega (arith, rw (encode_one _ c.if-b-lt128.true) at (roomy encode p l.i _ _ refl refl l.invariant.left c.requires.fits))

pub loop-i-preserved-then-b-ne92 : goal.loop-i-preserved-then-b-ne92
loop-i-preserved-then-b-ne92 c =
    let l = c.loop-i in
    let p = byte_in_unicode c.args.line.now l.i (λ j. omega (arith, c.type_inv.line j)) c.loop-i-test.true c.if-b-ne92.true in
    record { left = rw (encode_one _ c.if-b-lt128.true) at (written encode p l.i _ _ refl refl l.invariant.left); inside = omega arith }

-- an escape is read
pub unwrap-value-requires : goal.unwrap-value-requires
unwrap-value-requires c =
    is_some _ (λ e.
    let k : unicode_head (drop c.loop-i.i c.args.line.now) ≡ None = rw rest at (sym c.unicode_piece.ensures ∙ e) in
    write_bad _ _ _ _ _ (texts_bad unicode_head encode _ _ _ c.loop-i-test.true k) c.loop-i.invariant.left)

pub put-n-requires : goal.put-n-requires
put-n-requires c =
    let l = c.loop-i in
    let p = piece_in_unicode c.args.line.now l.i (λ j. omega (arith, c.type_inv.line j)) c.loop-i-test.true (sym c.unicode_piece.ensures ∙ c.unwrap-value.ensures) in
    (p.good.0, roomy encode p l.i _ _ refl refl l.invariant.left c.requires.fits)

pub overflow_add-i-else-b-lt128 : goal.overflow_add-i-else-b-lt128
overflow_add-i-else-b-lt128 c =
    let p = piece_in_unicode c.args.line.now c.loop-i.i (λ j. omega (arith, c.type_inv.line j)) c.loop-i-test.true (sym c.unicode_piece.ensures ∙ c.unwrap-value.ensures) in
    omega (arith, p.inside)

pub overflow_add-i-else-b-lt128-2 : goal.overflow_add-i-else-b-lt128-2
overflow_add-i-else-b-lt128-2 c =
    let p = piece_in_unicode c.args.line.now c.loop-i.i (λ j. omega (arith, c.type_inv.line j)) c.loop-i-test.true (sym c.unicode_piece.ensures ∙ c.unwrap-value.ensures) in
    omega (arith, p.inside)

pub loop-i-preserved : goal.loop-i-preserved
loop-i-preserved c =
    let l = c.loop-i in
    let p = piece_in_unicode c.args.line.now l.i (λ j. omega (arith, c.type_inv.line j)) c.loop-i-test.true (sym c.unicode_piece.ensures ∙ c.unwrap-value.ensures) in
    record { left = rw (c.put-n.ensures.1, c.put-n.ensures.0) (written encode p l.i _ _ refl refl l.invariant.left); inside = p.inside }

pub returns : goal.returns
returns c = write_end _ _ _ _ _ (texts_end unicode_head encode _ _ _ c.loop-i-test.false) c.requires.fits c.loop-i.invariant.left
