-- `resolve::known` meets its contract: a law for each answer.
use borrow.Author.Rules.{rules}
use Rattle.resolve.proofs.known.Statement.{statement}
use Rattle.resolve.proofs.known.Tie as tie
use mathlib.Core.Path.{refl, sym, ◌∙◌}
use Rattle.resolve.specs.Known.{Learns, know_textless, know_empty, know_kept, know_early, know_open, know_leaf}

returns : tie.Need-returns-then-kind-lt-KIND_BYTES
unfolding Learns
returns c = λ starts t s f r n z l. know_textless _ _ starts t s f r _ l _ n z c.if-kind-lt-KIND_BYTES.true

returns-2 : tie.Need-returns-then-m-lt4
unfolding Learns
returns-2 c = λ starts t s f r n z l. know_empty _ _ starts t s f r _ l _ n z c.if-m-ne0.true c.if-m-lt4.true

returns-3 : tie.Need-returns-then-m-lt-AHEAD
unfolding Learns
returns-3 c = λ starts t s f r n z l. know_kept _ _ starts t s f r _ l _ n z c.if-m-lt4.false c.if-m-lt-AHEAD.true

returns-4 : tie.Need-returns-then-m-ne0
unfolding Learns
returns-4 c = λ starts t s f r n z l. know_early _ _ starts t s f r _ l _ n z _ c.if-m-lt-AHEAD.false refl

returns-5 : tie.Need-returns-then-is_container
unfolding Learns
returns-5 c = λ starts t s f r n z l. know_open _ _ starts t s f r _ l _ n z c.if-m-ne0.false (sym c.is_container.ensures ∙ c.if-is_container.true)

returns-6 : tie.Need-returns
unfolding Learns
returns-6 c = λ starts t s f r n z l. know_leaf _ _ starts t s f r _ l _ n z _ (sym c.is_container.ensures ∙ c.if-is_container.false) c.leaf_word-w.ensures

pub known_spec : {M : Type 1} → statement M
known_spec =
    tie.close
    (tie.spec
    (λ c. search rules) (λ c. search rules) (λ c. search rules) returns (λ c. search rules) (λ c. search rules) returns-2 returns-3 (λ c. search rules)
    (λ c. search rules) (λ c. search rules) returns-4 (λ c κs. tt) returns-5 (λ c κs. search rules) (λ c. search rules) (λ c. search rules)
    (λ c. search rules) returns-6)
