-- `resolve::leaf_word` meets its contract.
use borrow.Author.Rules.{rules}
use Rattle.resolve.proofs.leaf_word.Statement.{statement}
use Rattle.resolve.proofs.leaf_word.Tie as tie
use Prim.Native.Nat.{ℕ}
use mathlib.Core.Path.{◌∙◌, ap}
use Rattle.resolve.specs.MeasureWord.{pack_w}

pub leaf_word_spec : {M : Type 1} → statement M
leaf_word_spec = tie.close (tie.spec (λ c κs. search rules) (λ c κs. search rules) (λ c. c.measure_word.ensures ∙ ap (λ (n : ℕ). pack_w 1 1 n) c.node_text_len.ensures))
