-- GLOBAL.
use Rattle.std.proofs.Common.{refl, arith}
use Rattle.std.proofs.lemmas.Result.{err_from_is_err_and}
use Rattle.decoder.specs.ReadsPickle.{line_found, counts_behind}
use Rattle.decoder.proofs.LawsPickle.{line-size, global_ends, global_cut, global-push}
use Rattle.decoder.proofs.global.Goals as goal

pub returns-in_err-module : goal.returns-in_err-module
returns-in_err-module c = let p = err_from_is_err_and c.from_residual.result c.from_residual.ensures.1 in rw (p.1, p.2) (global_ends _ _ c.in_err-module.ensures)

pub returns-in_err-name : goal.returns-in_err-name
returns-in_err-name c = let t = c.in_ok-module.ensures in let e = line_found t c.requires in let p = err_from_is_err_and c.from_residual-in_err-name.result c.from_residual-in_err-name.ensures.1 in rw (p.1, p.2) (global_cut _ _ e (rw t.behind at c.in_err-name.ensures))

pub overflow_mul-module_word : goal.overflow_mul-module_word
overflow_mul-module_word c = let t = c.in_ok-module.ensures in let e = line_found t c.requires in let m = line-size e t.line in omega arith

pub overflow_add-module_word : goal.overflow_add-module_word
overflow_add-module_word c = let t = c.in_ok-module.ensures in let e = line_found t c.requires in let m = line-size e t.line in omega (arith, e.inside, e.size, e.low)

pub overflow_mul-result : goal.overflow_mul-result
overflow_mul-result c = let t = c.in_ok-module.ensures in let e = line_found t c.requires in let m = line-size e t.line in omega (arith, e.inside, e.size, e.low)

pub overflow_add-result : goal.overflow_add-result
overflow_add-result c = let t = c.in_ok-module.ensures in let e = line_found t c.requires in let m = line-size e t.line in omega (arith, e.inside, e.size, e.low)

pub text_word-requires : goal.text_word-requires
text_word-requires c = let t = c.in_ok-module.ensures in let e = line_found t c.requires in let u = c.in_ok-name.ensures in let f = line_found u c.requires in let n = line-size f u.line in omega (arith, f.inside, f.size, f.low)

pub returns : goal.returns
returns c =
    let t = c.in_ok-module.ensures in
    let e = line_found t c.requires in
    let u = rw t.behind at c.in_ok-name.ensures in
    let f = line_found u c.requires in
    global-push _ _ e f t.line u.line refl (rw t.behind at c.text_word.ensures) (counts_behind c.args.c u)
