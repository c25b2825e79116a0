-- STRING.
use Rattle.std.proofs.Common.{◌∙◌, ap, arith}
use Rattle.std.specs.Prelude.{Ok}
use Rattle.std.proofs.lemmas.Result.{err_from_is_err_and}
use Rattle.decoder.specs.ReadsPickle.{line_found, counts_behind, line_ends, line_bad, line-push}
use Rattle.text.specs.Text.{unescape_string}
use Rattle.text.specs.Answers.{quotes_two}
use Rattle.value.specs.Value.{BytesL}
use Rattle.steps.specs.Opcodes.{string}
use Rattle.decoder.proofs.LawsPickle.{line-size, string_plain, string_escaped, string_bad, plain_label, makes_inner, makes_string-line}
use Rattle.decoder.proofs.string.Goals as goal

pub returns-in_err-line : goal.returns-in_err-line
unfolding string
returns-in_err-line c = let p = err_from_is_err_and c.from_residual.result c.from_residual.ensures.1 in rw (p.1, p.2) (line_ends _ _ unescape_string BytesL c.in_err-line.ensures)

pub returns-in_err-string_len : goal.returns-in_err-string_len
unfolding string
returns-in_err-string_len c = let t = c.in_ok-line.ensures in let e = line_found t c.requires in let p = err_from_is_err_and c.from_residual-in_err-string_len.result c.from_residual-in_err-string_len.ensures.1 in rw (p.1, p.2) (line_bad _ _ unescape_string BytesL e t.line (string_bad _ _ c.string_len.ensures _ c.in_err-string_len.was))

pub overflow_sub-line : goal.overflow_sub-line
overflow_sub-line c = let q = quotes_two _ _ (string_plain _ _ c.string_len.ensures (c.in_ok-string_len.was ∙ ap Ok c.in-Plain.is)) in omega (arith, q)

pub text_word-requires : goal.text_word-requires
text_word-requires c = let t = c.in_ok-line.ensures in let e = line_found t c.requires in let m = line-size e t.line in omega (arith, e.inside, e.size, e.low)

pub text_word-requires-in-Escaped : goal.text_word-requires-in-Escaped
text_word-requires-in-Escaped c = let t = c.in_ok-line.ensures in let e = line_found t c.requires in let m = line-size e t.line in omega (arith, e.inside, e.size, e.low)

pub returns-in-Plain : goal.returns-in-Plain
unfolding string
returns-in-Plain c = let t = c.in_ok-line.ensures in let e = line_found t c.requires in let k = string_plain _ _ c.string_len.ensures (c.in_ok-string_len.was ∙ ap Ok c.in-Plain.is) in let q = quotes_two _ _ k in line-push _ _ unescape_string BytesL e t.line (plain_label _ k) (makes_inner e t.line q c.text_word.ensures) (counts_behind c.args.c t)

pub returns-in-Escaped : goal.returns-in-Escaped
unfolding string
returns-in-Escaped c = let t = c.in_ok-line.ensures in let e = line_found t c.requires in line-push _ _ unescape_string BytesL e t.line (string_escaped _ _ c.string_len.ensures _ (c.in_ok-string_len.was ∙ ap Ok c.in-Escaped.is)) (makes_string-line e t.line c.text_word-in-Escaped.ensures) (counts_behind c.args.c t)
