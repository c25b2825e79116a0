use Rattle.std.proofs.Common.{refl}
use Rattle.std.proofs.lemmas.Result.{err_from_is_err_and}
use Rattle.text.specs.Text.{decoded_says}
use Rattle.text.proofs.Quotes.{no_quotes, is_bad, is_plain, is_escaped}
use Rattle.text.proofs.string_len.Goals as goal

pub returns-in_default : goal.returns-in_default
returns-in_default c = no_quotes _ c.in_default.ensures

pub returns-in_err-len : goal.returns-in_err-len
unfolding decoded_says
returns-in_err-len c =
    let q = c.in-Some.ensures in
    let p = err_from_is_err_and c.from_residual.result c.from_residual.ensures.1 in
    rw (p.1, p.2) (is_bad _ q.0 _ q.1 _ c.in_err-len.ensures _ refl)

pub returns-then-len-text : goal.returns-then-len-text
unfolding decoded_says
returns-then-len-text c = let q = c.in-Some.ensures in is_plain _ q.0 _ q.1 _ c.in_ok-len.ensures _ refl c.if-len-text.true

pub returns-else-len-text : goal.returns-else-len-text
unfolding decoded_says
returns-else-len-text c = let q = c.in-Some.ensures in is_escaped _ q.0 _ q.1 _ c.in_ok-len.ensures _ refl c.if-len-text.false
