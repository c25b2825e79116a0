-- BINSTRING.
use Rattle.std.proofs.Common.{refl, arith}
use Rattle.decoder.specs.ReadsPickle.{lent_size}
use Rattle.decoder.proofs.LawsPickle.{binstring_ends, binstring-below, binstring-short, binstring-push}
use Rattle.decoder.proofs.binstring.Goals as goal

pub returns-then-pickle-c-lt4 : goal.returns-then-pickle-c-lt4
returns-then-pickle-c-lt4 c = binstring_ends _ _ c.if-pickle-c-lt4.true

pub returns-then-len-gt9223372036854775807 : goal.returns-then-len-gt9223372036854775807
returns-then-len-gt9223372036854775807 c = binstring-below _ _ (λ i. omega (arith, c.type_inv.pickle i)) (omega arith) _ c.i32_at-len.ensures (omega arith)

pub returns-then-pickle-at : goal.returns-then-pickle-at
returns-then-pickle-at c = binstring-short _ _ (λ i. omega (arith, c.type_inv.pickle i)) (omega arith) _ c.i32_at-len.ensures (omega arith) (omega arith)

pub returns : goal.returns
returns c = let z = lent_size _ _ c.requires in binstring-push _ _ (λ i. omega (arith, c.type_inv.pickle i)) (omega arith) _ c.i32_at-len.ensures (omega arith) _ _ (omega arith) c.text_word.ensures (omega arith) refl
