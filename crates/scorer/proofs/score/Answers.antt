use Rattle.scorer.specs.Call.{scored_of, scores_good}
use Rattle.scorer.proofs.score.Goals as goal

pub returns-in-None : goal.returns-in-None
unfolding scored_of
returns-in-None c = scores_good c.args.words.now c.args.count c.args.text.now _ (c.well_formed-2.ensures.yes c.if-not-well_formed.false) (λ f. rw (← c.in-None.ensures c.args.count f) c.refused-in-None.ensures)

pub returns-in-Some : goal.returns-in-Some
unfolding scored_of
returns-in-Some c = scores_good c.args.words.now c.args.count c.args.text.now _ (c.well_formed-2.ensures.yes c.if-not-well_formed.false) (λ f. rw (← c.in-Some.ensures c.args.count f))
