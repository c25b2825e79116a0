use Rattle.value.specs.Told.{told}
use Rattle.table.specs.Compare.{formed_begins, compares_both}
use Rattle.table.proofs.compare.Goals as goal

pub compare_at-requires : goal.compare_at-requires
compare_at-requires c =
    let a = c.args in
    record {
      a_begins = formed_begins a.first.now a.first_count a.first_text.now (c.well_formed-2.ensures.yes c.if-not-well_formed.false);
      b_begins = formed_begins a.second.now a.second_count a.second_text.now (c.well_formed-3.ensures.yes c.if-not-well_formed-2.false);
    }

pub returns : goal.returns
returns c =
    let a = c.args in
    compares_both a.first.now a.first_count a.first_text.now a.second.now a.second_count a.second_text.now _ (told c.compare_at.result) (c.well_formed-2.ensures.yes c.if-not-well_formed.false) (c.well_formed-3.ensures.yes c.if-not-well_formed-2.false) c.ordered.ensures c.compare_at.ensures
