use Rattle.std.proofs.Common.{◌∙◌, refl, sym, ◌+◌, arith}
use Rattle.text.specs.Escapes.{string_head}
use Rattle.text.specs.Text.{byte_itself, decoded_says}
use Rattle.text.specs.Laws.{texts_end, texts_bad}
use Rattle.text.proofs.Places.{string_slash}
use Rattle.text.proofs.Loops.{byte_in_string, escape_in_string, more_none, more_end, more_bad, counted}
use Rattle.text.proofs.inner_len.Goals as goal
use Rattle.text.proofs.inner_len.Goals.{then-b-eq92+in-Some, else-b-eq92}

pub loop-i-init : goal.loop-i-init
loop-i-init c = record { left = more_none _; inside = omega arith; few = omega arith }

pub overflow_add-i-then-b-eq92 : goal.overflow_add-i-then-b-eq92
overflow_add-i-then-b-eq92 c =
    let p = escape_in_string c.args.text.now c.loop-i.i (λ j. omega (arith, c.type_inv.text j)) c.loop-i-test.true c.if-b-eq92.true (sym c.string_escape.ensures ∙ c.in-Some.is) in
    omega (arith, p.inside)

pub loop-i-preserved : goal.loop-i-preserved
unfolding byte_itself
loop-i-preserved c =
    let l = c.loop-i in
    elim c.if-b-eq92.branch [
      | then-b-eq92+in-Some w ↦
          let p = escape_in_string c.args.text.now l.i (λ j. omega (arith, c.type_inv.text j)) c.loop-i-test.true w.if-b-eq92.true (sym w.string_escape.ensures ∙ w.in-Some.is) in
          rw w.i-is (record { left = counted byte_itself p (l.i + 1) _ _ (omega arith) (omega arith) l.n ∙ l.invariant.left; inside = omega (arith, p.inside); few = omega arith })
      | else-b-eq92 w ↦
          let p = byte_in_string c.args.text.now l.i (λ j. omega (arith, c.type_inv.text j)) c.loop-i-test.true w.if-b-eq92.false in
          rw w.i-is (record { left = counted byte_itself p (l.i + 1) _ _ refl refl l.n ∙ l.invariant.left; inside = omega arith; few = omega arith })
    ]

pub returns-in_default : goal.returns-in_default
unfolding decoded_says
returns-in_default c =
    let l = c.loop-i in
    let e = string_slash c.args.text.now l.i c.loop-i-test.true c.if-b-eq92.true ∙ sym c.string_escape.ensures ∙ c.in_default.is in
    more_bad _ _ (texts_bad string_head byte_itself _ _ _ c.loop-i-test.true e) ∙ l.invariant.left

pub returns : goal.returns
unfolding decoded_says
returns c = more_end _ _ (texts_end string_head byte_itself _ _ _ c.loop-i-test.false) ∙ c.loop-i.invariant.left
