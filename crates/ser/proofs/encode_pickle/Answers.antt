-- PROTO 2, the value, STOP, one behind the other.
use Rattle.ser.specs.Parts.{ready_as, ready_front, ready_after, ready_before, ready_end, wrote_as, wrote_after, wrote_before}
use Rattle.ser.proofs.Laws.{framed_parts}
use Rattle.ser.proofs.encode_pickle.Goals as goal

pub put_byte-proto-requires : goal.put_byte-proto-requires
put_byte-proto-requires c = ready_front _ _ (ready_as framed_parts c.requires)

pub put_byte-next-requires : goal.put_byte-next-requires
put_byte-next-requires c = ready_front _ _ (ready_after _ _ (ready_as framed_parts c.requires) c.put_byte-proto.ensures)

pub encode-end-requires : goal.encode-end-requires
encode-end-requires c = ready_before _ _ (ready_after _ _ (ready_after _ _ (ready_as framed_parts c.requires) c.put_byte-proto.ensures) c.put_byte-next.ensures)

pub put_byte-requires : goal.put_byte-requires
put_byte-requires c = ready_end _ _ (ready_after _ _ (ready_after _ _ (ready_as framed_parts c.requires) c.put_byte-proto.ensures) c.put_byte-next.ensures) c.encode-end.ensures

pub returns : goal.returns
returns c = (wrote_as framed_parts (wrote_after _ _ c.put_byte-proto.ensures (wrote_after _ _ c.put_byte-next.ensures (wrote_before _ _ c.encode-end.ensures c.put_byte.ensures)))).puts
