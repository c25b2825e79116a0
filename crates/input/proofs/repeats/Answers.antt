-- A test of every byte from `from` on.
use Rattle.std.proofs.Common.{eqb, arith, rules, tests, drop, sym, ◌∙◌, length-drop, take_all}
use Rattle.std.proofs.lemmas.Bool.{le-leb}
use Rattle.std.proofs.lemmas.Iterator.{YieldsList-from_slice}
use Rattle.std.proofs.lemmas.Iterator.Search.{all_from_yields_List}
use Rattle.input.proofs.Laws.{all_is, all-none}
use Rattle.input.proofs.repeats.Goals as goal

pub returns-then-bytes-from : goal.returns-then-bytes-from
returns-then-bytes-from c = le-leb _ _ c.if-bytes-from.true ∙ sym (all-none _ _ _ c.if-bytes-from.true)

pub returns-else-bytes-from : goal.returns-else-bytes-from
returns-else-bytes-from c =
    let l = drop c.args.from c.args.bytes.now in
    all_from_yields_List (λ b. eqb b c.args.fill) _ _ _ c.all.ensures.ran (YieldsList-from_slice l (c.iter.ensures.rest ∙ take_all _ l (omega (arith, length-drop c.args.from c.args.bytes.now)))) (λ x b q k. search (rules, tests)) ∙ all_is _ l
