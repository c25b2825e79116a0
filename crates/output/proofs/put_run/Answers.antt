-- What is copied into a part of the output is stored from its start on.
use Rattle.output.proofs.Laws.{run_put}
use Rattle.output.proofs.put_run.Goals as goal

pub returns : goal.returns
returns c = run_put _ _ _ _ c.requires c.copy_from_slice.ensures.after
