-- The top, remembered.
use Rattle.std.proofs.Common.{◌-◌, arith, sym, ap, get_or}
use Rattle.store.specs.Effects.{Decides}
use Rattle.decoder.proofs.LawsMemo.{put_none, put_some}
use Rattle.decoder.proofs.put.Goals as goal

pub returns-then-c-eq0 : goal.returns-then-c-eq0
unfolding Decides
returns-then-c-eq0 c = λ r s q. put_none r _ s _ c.if-c-eq0.true

pub returns : goal.returns
unfolding Decides
returns c = λ r s q. put_some r _ s _ _ (omega arith) (ap (λ l. get_or l (c.args.c.stack - 1) 0) (sym q))
