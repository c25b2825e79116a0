-- `texts::raw_text` meets its contract. Assumes nothing.
use Rattle.resolve.proofs.texts.raw_text.Statement.{statement}
use Rattle.resolve.proofs.texts.raw_text.Tie as tie
use Rattle.steps.specs.NodeWords.{within}

returns : tie.Need-returns
unfolding within
returns c = c.cut.ensures

pub raw_text_spec : {M : Type 1} → statement M
raw_text_spec = tie.close (tie.spec (λ c κs. tt) returns)
