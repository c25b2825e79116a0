use Rattle.std.proofs.Common.{refl, sym, ◌∙◌}
use Rattle.input.proofs.Laws.{newline_end, newline_hit, newline_more}
use Rattle.input.proofs.newline.Goals as goal

pub loop-i-init : goal.loop-i-init
loop-i-init c = refl

pub returns-then-pickle-i : goal.returns-then-pickle-i
returns-then-pickle-i c = sym (newline_end _ _ c.if-pickle-i.true) ∙ c.loop-i.invariant

pub loop-i-preserved : goal.loop-i-preserved
loop-i-preserved c = newline_more _ _ c.if-pickle-i.false c.if-pickle-i-eq10.false ∙ c.loop-i.invariant

pub returns : goal.returns
returns c = sym (newline_hit _ _ c.if-pickle-i.false c.if-pickle-i-eq10.true) ∙ c.loop-i.invariant
