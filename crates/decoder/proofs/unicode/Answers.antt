-- UNICODE.
use Rattle.std.proofs.Common.{arith}
use Rattle.std.proofs.lemmas.Result.{err_from_is_err_and}
use Rattle.decoder.specs.ReadsPickle.{line_found, counts_behind, line_ends, line_bad, line-push}
use Rattle.text.specs.Text.{unescape_unicode}
use Rattle.value.specs.Value.{StringL}
use Rattle.steps.specs.Opcodes.{unicode}
use Rattle.decoder.proofs.LawsPickle.{line-size, unicode-some, unicode_bad, makes_line}
use Rattle.decoder.proofs.unicode.Goals as goal

pub returns-in_err-line : goal.returns-in_err-line
unfolding unicode
returns-in_err-line c = let p = err_from_is_err_and c.from_residual.result c.from_residual.ensures.1 in rw (p.1, p.2) (line_ends _ _ unescape_unicode StringL c.in_err-line.ensures)

pub returns-in_err-unicode_len : goal.returns-in_err-unicode_len
unfolding unicode
returns-in_err-unicode_len c = let t = c.in_ok-line.ensures in let e = line_found t c.requires in let p = err_from_is_err_and c.from_residual-in_err-unicode_len.result c.from_residual-in_err-unicode_len.ensures.1 in rw (p.1, p.2) (line_bad _ _ unescape_unicode StringL e t.line (unicode_bad _ _ c.unicode_len.ensures _ c.in_err-unicode_len.was))

pub text_word-requires : goal.text_word-requires
text_word-requires c = let t = c.in_ok-line.ensures in let e = line_found t c.requires in let m = line-size e t.line in omega (arith, e.inside, e.size, e.low)

pub returns : goal.returns
unfolding unicode
returns c = let t = c.in_ok-line.ensures in let e = line_found t c.requires in line-push _ _ unescape_unicode StringL e t.line (unicode-some _ _ c.unicode_len.ensures _ c.in_ok-unicode_len.was) (makes_line e t.line c.text_word.ensures) (counts_behind c.args.c t)
