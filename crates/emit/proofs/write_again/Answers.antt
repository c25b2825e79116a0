-- The records are copied, and their text behind what is written.
use Rattle.std.proofs.Common.{◌/◌, ◌%◌, ◌^◌, ◌∙◌, refl, arith}
use Rattle.emit.specs.Stores.{copy_within_sets}
use Rattle.emit.proofs.write_again.Goals as goal

pub returns : goal.returns
returns c =
    let a = c.args in
    record {
      table_is = c.copy_records.ensures;
      text_is = c.copy_within.ensures.after ∙ copy_within_sets a.text.now (a.measure / 2 ^ 24 % 2 ^ 17) _ (a.measure / 2 ^ 41 % 2 ^ 17) a.to.bytes refl (omega (arith, c.requires.apart, c.requires.room)) c.requires.room;
      next = refl;
    }
