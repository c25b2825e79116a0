-- A refusal; or the texts decoded, Sets and Dicts in order, the value written, what was used cleared.
use Rattle.std.proofs.Common.{refl, ◌∙◌, arith}
use Rattle.std.proofs.lemmas.Result.{err_from_is_err_and}
use Rattle.de.specs.Texts.{decodable}
use Rattle.de.specs.Steps.{unsettled, root_ready, most_few, list_fits, list_again, log_long, items_few, log_again, decoded_fits, decoded_again, produces}
use Rattle.de.specs.Laid.{laid_deep, laid_refused, laid_measured, laid_made}
use Rattle.de.proofs.build.build_laid.Goals as goal

pub returns-in_err-word-clause-made : goal.returns-in_err-word-clause-made
returns-in_err-word-clause-made c = let p = err_from_is_err_and c.from_residual.result c.from_residual.ensures.1 in rw (p.1, p.2) (laid_deep _ _ _ _ _ _ _ _ _ _ _ c.in_err-word.ensures _ _ _)

pub returns-in_err-due_of-clause-made : goal.returns-in_err-due_of-clause-made
returns-in_err-due_of-clause-made c = let p = err_from_is_err_and c.from_residual-in_err-due_of.result c.from_residual-in_err-due_of.ensures.1 in rw (p.1, p.2) (laid_refused _ _ _ _ _ _ _ _ _ _ _ c.in_ok-word.ensures _ _ c.in_err-due_of.ensures _ refl _ _)

pub decode_all-used-requires : goal.decode_all-used-requires
decode_all-used-requires c = let m = laid_measured _ _ _ _ _ _ _ _ _ _ _ c.in_ok-word.ensures _ _ c.in_ok-due_of.ensures refl c.requires.begins in let l = c.requires.lent in decodable m.are _ l.decoded_zero

pub settle-settled-requires : goal.settle-settled-requires
settle-settled-requires c = let m = laid_measured _ _ _ _ _ _ _ _ _ _ _ c.in_ok-word.ensures _ _ c.in_ok-due_of.ensures refl c.requires.begins in let l = c.requires.lent in let d = c.decode_all-used.ensures in unsettled m l d

pub write_root-made-requires : goal.write_root-made-requires
write_root-made-requires c = let m = laid_measured _ _ _ _ _ _ _ _ _ _ _ c.in_ok-word.ensures _ _ c.in_ok-due_of.ensures refl c.requires.begins in let l = c.requires.lent in let d = c.decode_all-used.ensures in let s = c.settle-settled.ensures in root_ready m l d s

pub overflow_sub-begin : goal.overflow_sub-begin
overflow_sub-begin c = let m = laid_measured _ _ _ _ _ _ _ _ _ _ _ c.in_ok-word.ensures _ _ c.in_ok-due_of.ensures refl c.requires.begins in let l = c.requires.lent in let d = c.decode_all-used.ensures in let s = c.settle-settled.ensures in most_few m l d s

pub clear-requires : goal.clear-requires
clear-requires c = let m = laid_measured _ _ _ _ _ _ _ _ _ _ _ c.in_ok-word.ensures _ _ c.in_ok-due_of.ensures refl c.requires.begins in let l = c.requires.lent in let d = c.decode_all-used.ensures in let s = c.settle-settled.ensures in list_fits m l d s c.settle-settled.auto.list

pub clear-requires-2 : goal.clear-requires-2
clear-requires-2 c = let m = laid_measured _ _ _ _ _ _ _ _ _ _ _ c.in_ok-word.ensures _ _ c.in_ok-due_of.ensures refl c.requires.begins in let l = c.requires.lent in let d = c.decode_all-used.ensures in let s = c.settle-settled.ensures in omega (arith, items_few m l d s, most_few m l d s, log_long m l d, c.settle-settled.auto.log)

pub clear-requires-3 : goal.clear-requires-3
clear-requires-3 c = let m = laid_measured _ _ _ _ _ _ _ _ _ _ _ c.in_ok-word.ensures _ _ c.in_ok-due_of.ensures refl c.requires.begins in let l = c.requires.lent in let d = c.decode_all-used.ensures in decoded_fits m l d

pub returns-clause-made : goal.returns-clause-made
returns-clause-made c = let m = laid_measured _ _ _ _ _ _ _ _ _ _ _ c.in_ok-word.ensures _ _ c.in_ok-due_of.ensures refl c.requires.begins in let l = c.requires.lent in let d = c.decode_all-used.ensures in let s = c.settle-settled.ensures in laid_made _ _ _ _ _ _ _ _ _ _ _ c.in_ok-word.ensures _ _ c.in_ok-due_of.ensures refl _ _ _ _ _ (produces m l d s c.write_root-made.ensures)

pub returns-clause-restored : goal.returns-clause-restored
returns-clause-restored c = let m = laid_measured _ _ _ _ _ _ _ _ _ _ _ c.in_ok-word.ensures _ _ c.in_ok-due_of.ensures refl c.requires.begins in let l = c.requires.lent in let d = c.decode_all-used.ensures in let s = c.settle-settled.ensures in record {
  decoded_same = c.clear-3.ensures ∙ decoded_again m l d;
  log_same = c.clear-2.ensures ∙ log_again m l d s;
  list_same = list_again m l d s c.settle-settled.auto.list _ c.clear.ensures;
}
