use Rattle.std.proofs.Common.{◌∙◌, sym, arith}
use Rattle.output.specs.Put.{put_then, room_first, room_then}
use Rattle.list.proofs.Laws.{listed_slash, listed-printable, listed_escape}
use Rattle.list.proofs.put_listed.Goals as goal

pub put_run-requires : goal.put_run-requires
put_run-requires c = rw (listed_slash c.in-92.is) at c.requires

pub returns-in-92 : goal.returns-in-92
returns-in-92 c = rw (listed_slash c.in-92.is) c.put_run.ensures

pub put_byte-requires : goal.put_byte-requires
put_byte-requires c = rw (listed-printable (λ e. omega arith) (sym c.stands.ensures ∙ c.if-stands.true)) at c.requires

pub returns-in_default : goal.returns-in_default
returns-in_default c = rw (listed-printable (λ e. omega arith) (sym c.stands.ensures ∙ c.if-stands.true)) c.put_byte.ensures

pub put_run-next-requires : goal.put_run-next-requires
put_run-next-requires c = room_first _ (rw (listed_escape (λ e. omega arith) (sym c.stands.ensures ∙ c.if-stands.false)) at c.requires)

pub put_figures-requires-clause-room : goal.put_figures-requires-clause-room
put_figures-requires-clause-room c =
    room_then _ c.put_run-next.ensures (rw (listed_escape (λ e. omega arith) (sym c.stands.ensures ∙ c.if-stands.false)) at c.requires)

pub returns-in_default-2 : goal.returns-in_default-2
returns-in_default-2 c =
    rw (listed_escape (λ e. omega arith) (sym c.stands.ensures ∙ c.if-stands.false)) (put_then c.put_run-next.ensures c.put_figures.ensures)
