use Rattle.std.proofs.Common.{◌≡◌, ◌∙◌, ◌-◌, ◌*◌, ℕ, get_or, sym, arith}
use Rattle.value.specs.Stands.{word_at}
use Rattle.table.specs.Sound.{first_word}
use Rattle.table.specs.Length.{text_length, end_here, end_before, end_none}
use Rattle.table.proofs.text_len.Goals as goal

pub loop-i-init : goal.loop-i-init
unfolding text_length
loop-i-init c = rw c.min-records.ensures

pub returns-then-has_text : goal.returns-then-has_text
returns-then-has_text c =
    let w = c.args.words.now in
    let k : ℕ = c.loop-i.i - 1 in
    let e0 : get_or w (4 * k) 0 ≡ word_at w k 0 = first_word w k in
    rw e0 at c.text_end.ensures ∙ end_here w c.loop-i.i c.loop-i-test.true (rw e0 at (sym c.has_text.ensures ∙ c.if-has_text.true)) ∙ c.loop-i.invariant

pub loop-i-preserved : goal.loop-i-preserved
loop-i-preserved c =
    let w = c.args.words.now in
    let k : ℕ = c.loop-i.i - 1 in
    let e0 : get_or w (4 * k) 0 ≡ word_at w k 0 = first_word w k in
    end_before w c.loop-i.i c.loop-i-test.true (rw e0 at (sym c.has_text.ensures ∙ c.if-has_text.false)) ∙ c.loop-i.invariant

pub returns : goal.returns
returns c = end_none c.args.words.now c.loop-i.i (omega arith) ∙ c.loop-i.invariant
