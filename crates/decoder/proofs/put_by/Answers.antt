-- A memo number read, then `put`.
use Rattle.std.proofs.Common.{refl}
use Rattle.std.proofs.lemmas.Result.{err_from_is_err_and}
use Rattle.decoder.specs.ReadsMemo.{put_keyed}
use Rattle.decoder.proofs.LawsMemo.{op_refused, op_lent, op_went}
use Rattle.decoder.proofs.put_by.Goals as goal

pub returns-in_err-at : goal.returns-in_err-at
returns-in_err-at c = let p = err_from_is_err_and c.from_residual.result c.from_residual.ensures.1 in rw (p.1, p.2) (op_refused _ _ _ (put_keyed c.args.form) _ _ _ (λ r q. q.0) _ c.key_by.ensures _ c.in_err-at.was)

pub put-requires : goal.put-requires
put-requires c = op_lent _ _ _ (put_keyed c.args.form) _ _ _ _ (λ r q. q.0) (λ r q. q.1) _ c.key_by.ensures _ _ _ c.in_ok-at.was refl c.requires

pub returns : goal.returns
returns c = op_went _ _ _ (put_keyed c.args.form) _ _ _ _ (λ r q. q.0) (λ r q. q.1) _ c.key_by.ensures _ _ _ _ c.in_ok-at.was refl c.put.ensures
