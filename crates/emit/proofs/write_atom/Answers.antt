-- Its record, and no text.
use Rattle.std.proofs.Common.{◌*◌, ◌∙◌, ap, refl}
use Rattle.std.proofs.lemmas.List.Edits.{sets}
use Rattle.emit.proofs.write_atom.Goals as goal

pub returns : goal.returns
returns c = record { table_is = c.put_record.ensures ∙ ap (sets c.args.table.now (4 * c.args.to.records)) c.record_of-words.ensures; next = refl }
