use Rattle.std.proofs.Common.{◌∙◌, refl, sym, ◌+◌, arith}
use Rattle.text.specs.Escapes.{string_head}
use Rattle.text.specs.Text.{byte_itself}
use Rattle.text.specs.Laws.{texts_end, texts_bad}
use Rattle.text.proofs.Places.{string_slash}
use Rattle.text.proofs.Loops.{is_some, byte_in_string, escape_in_string, write_none, write_end, write_bad, written, roomy}
use Rattle.text.proofs.write_inner.Goals as goal
use Rattle.text.proofs.write_inner.Goals.{then-b-ne92, else-b-ne92}

pub loop-i-init : goal.loop-i-init
loop-i-init c = record { left = write_none _ _ c.requires.is; inside = omega arith }

pub bounds-out-n : goal.bounds-out-n
unfolding byte_itself
bounds-out-n c =
    let l = c.loop-i in
    let p = byte_in_string c.args.text.now l.i (λ j. omega (arith, c.type_inv.text j)) c.loop-i-test.true c.if-b-ne92.true in
    omega (arith, roomy byte_itself p (l.i + 1) _ _ refl refl l.invariant.left c.requires.fits)

-- an escape is read
pub unwrap-value-requires : goal.unwrap-value-requires
unwrap-value-requires c =
    is_some _ (λ e. write_bad _ _ _ _ _
    (texts_bad string_head byte_itself _ _ _ c.loop-i-test.true (string_slash c.args.text.now c.loop-i.i c.loop-i-test.true c.if-b-ne92.false ∙ sym c.string_escape.ensures ∙ e)) c.loop-i.invariant.left)

pub overflow_cast-out : goal.overflow_cast-out
overflow_cast-out c =
    let p = escape_in_string c.args.text.now c.loop-i.i (λ j. omega (arith, c.type_inv.text j)) c.loop-i-test.true c.if-b-ne92.false (sym c.string_escape.ensures ∙ c.unwrap-value.ensures) in
    omega (arith, p.good)

pub bounds-out-n-else-b-ne92 : goal.bounds-out-n-else-b-ne92
unfolding byte_itself
bounds-out-n-else-b-ne92 c =
    let l = c.loop-i in
    let p = escape_in_string c.args.text.now l.i (λ j. omega (arith, c.type_inv.text j)) c.loop-i-test.true c.if-b-ne92.false (sym c.string_escape.ensures ∙ c.unwrap-value.ensures) in
    omega (arith, roomy byte_itself p (l.i + 1) _ _ refl refl l.invariant.left c.requires.fits)

pub overflow_add-i-else-b-ne92 : goal.overflow_add-i-else-b-ne92
overflow_add-i-else-b-ne92 c =
    let p = escape_in_string c.args.text.now c.loop-i.i (λ j. omega (arith, c.type_inv.text j)) c.loop-i-test.true c.if-b-ne92.false (sym c.string_escape.ensures ∙ c.unwrap-value.ensures) in
    omega (arith, p.inside)

pub loop-i-preserved : goal.loop-i-preserved
unfolding byte_itself
loop-i-preserved c =
    let l = c.loop-i in
    elim c.if-b-ne92.branch [
      | then-b-ne92 w ↦
          let p = byte_in_string c.args.text.now l.i (λ j. omega (arith, c.type_inv.text j)) c.loop-i-test.true w.if-b-ne92.true in
          rw (w.out-is, w.i-is) (record { left = written byte_itself p (l.i + 1) _ _ refl refl l.invariant.left; inside = omega arith })
      | else-b-ne92 w ↦
          let p = escape_in_string c.args.text.now l.i (λ j. omega (arith, c.type_inv.text j)) c.loop-i-test.true w.if-b-ne92.false (sym w.string_escape.ensures ∙ w.unwrap-value.ensures) in
          rw (w.out-is, w.i-is) (record { left = written byte_itself p (l.i + 1) _ _ (omega arith) (omega arith) l.invariant.left; inside = omega (arith, p.inside) })
    ]

pub returns : goal.returns
returns c = write_end _ _ _ _ _ (texts_end string_head byte_itself _ _ _ c.loop-i-test.false) c.requires.fits c.loop-i.invariant.left
