use Rattle.std.proofs.Common.{◌∙◌, sym, arith}
use Rattle.table.specs.Check.{Lent}
use Rattle.table.specs.Verdict.{ends_at, formed_found, found_formed}
use Rattle.table.proofs.well_formed.Goals as goal

pub returns : goal.returns
returns c =
    let a = c.args in
    let lent : Lent a.words.now a.count a.text.now = record { room = (let x = c.if-count-words.false in omega arith); few = c.if-count-gt2048.false; short = c.if-text-gt65536.false } in
    let e = ends_at c.contents.result a.count _ in
    record {
      yes = λ h. found_formed a.words.now a.count a.text.now lent (sym c.contents.ensures ∙ e.yes (sym c.eq.ensures ∙ h));
      always = λ f. c.eq.ensures ∙ e.always (c.contents.ensures ∙ formed_found a.words.now a.count a.text.now f);
    }
