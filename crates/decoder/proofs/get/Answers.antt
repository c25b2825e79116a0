-- The node that the memo holds.
use Rattle.std.proofs.Common.{sym, ap, get_or}
use Rattle.store.specs.Effects.{Decides}
use Rattle.decoder.proofs.LawsMemo.{get_missing, get_found}
use Rattle.decoder.proofs.get.Goals as goal

pub returns : goal.returns
unfolding Decides
returns c =
    let m = c.in-Some.ensures in
    λ r s q. get_found r _ s _ _ _ m.0 (rw q.0 m.2) (rw q.0 m.1) (ap (λ l. get_or l c.in-Some.i 0) (sym q.1))

pub returns-in_default : goal.returns-in_default
unfolding Decides
returns-in_default c = λ r s q. get_missing r _ s _ (rw q.0 c.in_default.ensures)
