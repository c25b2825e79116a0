use Rattle.std.proofs.Common.{◌∙◌, sym, eq-eqb}
use borrow.Author.Tests.{ne_eqb}
use Rattle.table.specs.Sound.{first_word}
use Rattle.table.specs.Check.{sizes_right}
use Rattle.table.proofs.sized.Goals as goal

pub returns-then-c-word2 : goal.returns-then-c-word2
unfolding sizes_right
returns-then-c-word2 c = rw (← first_word c.args.words.now c.args.i, ne_eqb _ _ (λ e. c.if-c-word2.true (e ∙ sym c.word2.ensures)))

pub returns : goal.returns
unfolding sizes_right
returns c = rw (← first_word c.args.words.now c.args.i, eq-eqb _ _ (c.if-c-word2.false ∙ c.word2.ensures), c.word3.ensures)
