-- The text behind its length.
use Rattle.std.proofs.Common.{refl, arith}
use Rattle.std.proofs.lemmas.Result.{err_from_is_err_and}
use Rattle.decoder.specs.ReadsPickle.{text_found, text_ends, text-push, makes_bytes}
use Rattle.steps.specs.Opcodes.{short_binstring}
use Rattle.value.specs.Value.{BytesL}
use Rattle.decoder.proofs.short_binstring.Goals as goal

pub returns-in_err-at : goal.returns-in_err-at
unfolding short_binstring
returns-in_err-at c = let p = err_from_is_err_and c.from_residual.result c.from_residual.ensures.1 in rw (p.1, p.2) (text_ends _ _ _ c.prefixed.ensures BytesL _ c.in_err-at.was)

pub overflow_add-behind : goal.overflow_add-behind
overflow_add-behind c = let t = text_found _ _ _ c.prefixed.ensures c.requires c.in_ok-at.was in omega arith

pub text_word-requires : goal.text_word-requires
text_word-requires c = let t = text_found _ _ _ c.prefixed.ensures c.requires c.in_ok-at.was in omega arith

pub returns : goal.returns
unfolding short_binstring
returns c = let t = text_found _ _ _ c.prefixed.ensures c.requires c.in_ok-at.was in text-push _ _ _ BytesL (makes_bytes _) t c.text_word.ensures refl
