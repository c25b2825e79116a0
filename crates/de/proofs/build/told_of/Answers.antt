-- By what was built.
use Rattle.de.specs.Given.{told}
use Rattle.de.proofs.build.told_of.Goals as goal

pub returns-in-Err : goal.returns-in-Err
unfolding told
returns-in-Err c = rw c.in-Err.is c.refused.ensures

pub returns-in-Ok : goal.returns-in-Ok
unfolding told
returns-in-Ok c = rw c.in-Ok.is
