-- A memo number in a line.
use Rattle.std.proofs.Common.{◌∙◌, sym, ap}
use Rattle.std.proofs.lemmas.Result.{err_from_is_err_and}
use Rattle.number.specs.Number.{parse_u32}
use Rattle.decoder.specs.ReadsMemo.{ReadsKey}
use Rattle.decoder.proofs.LawsMemo.{key_none, key_invalid, key_line_lem}
use Rattle.decoder.proofs.key_line.Goals as goal

pub returns-in_err-line : goal.returns-in_err-line
unfolding ReadsKey
returns-in_err-line c = let n = c.in_err-line.ensures in let p = err_from_is_err_and c.from_residual.result c.from_residual.ensures.1 in rw (p.1, p.2) (λ r s q. rw n.is (key_none r _ _ s q n.none))

pub returns-in_err-parse_u32 : goal.returns-in_err-parse_u32
unfolding ReadsKey
returns-in_err-parse_u32 c = let t = c.in_ok-line.ensures in let p = err_from_is_err_and c.from_residual-in_err-parse_u32.result c.from_residual-in_err-parse_u32.ensures.1 in rw (p.1, p.2) (λ r s q. key_invalid r _ _ s q _ _ t.found (ap parse_u32 (sym t.line) ∙ sym c.in_err-parse_u32.ensures))

pub returns : goal.returns
unfolding ReadsKey
returns c = let t = c.in_ok-line.ensures in λ r s q. rw t.behind (key_line_lem r _ _ s q _ _ t.found (ap parse_u32 (sym t.line) ∙ sym c.in_ok-parse_u32.ensures))
