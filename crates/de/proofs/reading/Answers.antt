-- 1, or the rooms made zero and the reading.
use Rattle.std.proofs.Common.{sym, ◌∙◌}
use Rattle.rooms.specs.Stated.{room_lengths, output_lengths, stated, long, long_front, ready}
use Rattle.rooms.specs.Lent.{slices_of}
use Rattle.de.specs.Given.{due}
use Rattle.de.specs.Call.{call-short, call-reads}
use Rattle.de.proofs.reading.Goals as goal

pub returns-then-is_short-clause-call : goal.returns-then-is_short-clause-call
returns-then-is_short-clause-call c =
    let a = c.args in
    call-short (due a.edition a.whole a.pickle.now) (slices_of a.lent.now) _ (sym c.is_short.ensures ∙ c.if-is_short.true) c.refused.ensures

pub clear-requires : goal.clear-requires
clear-requires c = long_front room_lengths output_lengths (slices_of c.args.lent.now) (long stated _ (sym c.is_short.ensures ∙ c.if-is_short.false))

pub read-requires : goal.read-requires
read-requires c = ready (slices_of c.args.lent.now) (slices_of c.clear.new.self) (sym c.is_short.ensures ∙ c.if-is_short.false) c.clear.ensures.after

pub returns-clause-call : goal.returns-clause-call
returns-clause-call c =
    let a = c.args in
    call-reads (due a.edition a.whole a.pickle.now) (slices_of a.lent.now) (slices_of c.clear.new.self) (slices_of c.read.new.lent) _
    (sym c.is_short.ensures ∙ c.if-is_short.false) c.clear.ensures.after c.read.ensures.reads.answer c.read.ensures.reads.slices
