use Rattle.std.proofs.Common.{◌≡◌, ◌+◌, ◌-◌, refl, sym, ◌∙◌, arith, rules}
use Rattle.output.specs.Put.{put_then, room_first, room_then}
use Rattle.ser.specs.Parts.{ready_cut, ready_rest, wrote_cut, ready_as, wrote_as, ready_front, ready_after, wrote_after, ready_before, ready_end, wrote_before, wrote_later, wrote_none, going_again, going-none, value-reads, value_room, value_inside, value_wrote, value_arity, joined-none, joined_cuts, batches_cuts, batches-none, size-some}
use Rattle.ser.proofs.Laws.{batch_entry, batch-entries, batch-items, appends_one, appends-many, tuple_parts, object_cuts, built_one, built-none, bit_one, bit_none}
use Rattle.ser.proofs.Record.{leaf_wrote, object_arity, makes_object, makes_list, makes_tuple, makes_dict, makes_set}
use Rattle.ser.proofs.+encode.Goals as goal
use Rattle.ser.proofs.+encode.Goals.{encode_items-then-holds, encode_items-else-holds}

pub encode-overflow_mul-i : goal.encode-overflow_mul-i
encode-overflow_mul-i t c = let r = value-reads c.requires in search rules

pub encode-offset_bounds-words-i : goal.encode-offset_bounds-words-i
encode-offset_bounds-words-i t c = let r = value-reads c.requires in search rules

pub encode-bounds-words-i : goal.encode-bounds-words-i
encode-bounds-words-i t c = let r = value-reads c.requires in search rules

pub encode-encode_opening-next-requires-clause-reads : goal.encode-encode_opening-next-requires-clause-reads
encode-encode_opening-next-requires-clause-reads t c = value-reads c.requires

pub encode-encode_opening-next-requires-clause-room : goal.encode-encode_opening-next-requires-clause-room
encode-encode_opening-next-requires-clause-room t c = value_room c.requires

pub encode-overflow_add-result : goal.encode-overflow_add-result
encode-overflow_add-result t c = omega (arith, (value-reads c.requires).inside)

pub encode-overflow_add-i : goal.encode-overflow_add-i
encode-overflow_add-i t c = omega (arith, (value-reads c.requires).inside)

pub encode-overflow_add-i-in-6 : goal.encode-overflow_add-i-in-6
encode-overflow_add-i-in-6 t c = omega (arith, (value-reads c.requires).inside)

pub encode-overflow_add-i-in-7 : goal.encode-overflow_add-i-in-7
encode-overflow_add-i-in-7 t c = omega (arith, (value-reads c.requires).inside)

pub encode-overflow_add-i-in-10 : goal.encode-overflow_add-i-in-10
encode-overflow_add-i-in-10 t c = omega (arith, (value-reads c.requires).inside)

pub encode-overflow_add-i-in_default : goal.encode-overflow_add-i-in_default
encode-overflow_add-i-in_default t c = omega (arith, (value-reads c.requires).inside)

pub encode-returns-then-not-holds : goal.encode-returns-then-not-holds
encode-returns-then-not-holds t c = leaf_wrote (value-reads c.requires) c.head_of-head.ensures (sym c.holds.ensures ∙ c.if-not-holds.true) c.encode_opening-next.ensures

pub encode-encode_object-requires : goal.encode-encode_object-requires
encode-encode_object-requires t c = (omega (arith, c.decreases, (value-reads c.requires).inside), ready_as (makes_object (value-reads c.requires) c.head_of-head.ensures c.if-kind-eq-KIND_OBJECT.true) (rw (object_arity (value-reads c.requires) c.head_of-head.ensures c.if-kind-eq-KIND_OBJECT.true) at (value_inside c.requires c.encode_opening-next.ensures)))

pub encode-returns-then-kind-eq-KIND_OBJECT : goal.encode-returns-then-kind-eq-KIND_OBJECT
encode-returns-then-kind-eq-KIND_OBJECT t c = value_wrote c.encode_opening-next.ensures (rw (object_arity (value-reads c.requires) c.head_of-head.ensures c.if-kind-eq-KIND_OBJECT.true) (wrote_as (makes_object (value-reads c.requires) c.head_of-head.ensures c.if-kind-eq-KIND_OBJECT.true) c.encode_object.ensures))

pub encode-arity-count-requires-clause-i_in_bounds : goal.encode-arity-count-requires-clause-i_in_bounds
encode-arity-count-requires-clause-i_in_bounds t c = (value-reads c.requires).inside

pub encode-arity-count-requires-clause-arity_bound : goal.encode-arity-count-requires-clause-arity_bound
encode-arity-count-requires-clause-arity_bound t c = value_arity c.requires

pub encode-encode_appends-requires : goal.encode-encode_appends-requires
encode-encode_appends-requires t c = (omega (arith, c.decreases, (value-reads c.requires).inside), rw c.arity-count.ensures (ready_as (makes_list (value-reads c.requires) c.head_of-head.ensures c.in-6.is) (value_inside c.requires c.encode_opening-next.ensures)))

pub encode-returns-in-6 : goal.encode-returns-in-6
encode-returns-in-6 t c = value_wrote c.encode_opening-next.ensures (wrote_as (makes_list (value-reads c.requires) c.head_of-head.ensures c.in-6.is) (rw c.arity-count.ensures at c.encode_appends.ensures))

pub encode-encode_tuple-requires : goal.encode-encode_tuple-requires
encode-encode_tuple-requires t c = (omega (arith, c.decreases, (value-reads c.requires).inside), rw c.arity-count.ensures (ready_as (makes_tuple (value-reads c.requires) c.head_of-head.ensures c.in-7.is) (value_inside c.requires c.encode_opening-next.ensures)))

pub encode-returns-in-7 : goal.encode-returns-in-7
encode-returns-in-7 t c = value_wrote c.encode_opening-next.ensures (wrote_as (makes_tuple (value-reads c.requires) c.head_of-head.ensures c.in-7.is) (rw c.arity-count.ensures at c.encode_tuple.ensures))

pub encode-encode_batches-requires : goal.encode-encode_batches-requires
encode-encode_batches-requires t c = (omega (arith, c.decreases, (value-reads c.requires).inside), rw c.arity-count.ensures (ready_as (makes_dict (value-reads c.requires) c.head_of-head.ensures c.in-10.is) (value_inside c.requires c.encode_opening-next.ensures)))

pub encode-returns-in-10 : goal.encode-returns-in-10
encode-returns-in-10 t c = value_wrote c.encode_opening-next.ensures (wrote_as (makes_dict (value-reads c.requires) c.head_of-head.ensures c.in-10.is) (rw c.arity-count.ensures at c.encode_batches.ensures))

pub encode-encode_appends-end-requires : goal.encode-encode_appends-end-requires
encode-encode_appends-end-requires t c = (omega (arith, c.decreases, (value-reads c.requires).inside), rw c.arity-count.ensures (ready_before _ _ (ready_as (makes_set (value-reads c.requires) c.head_of-head.ensures (sym c.holds.ensures ∙ c.if-not-holds.false) c.if-kind-eq-KIND_OBJECT.false (λ e. omega arith) (λ e. omega arith) (λ e. omega arith)) (value_inside c.requires c.encode_opening-next.ensures))))

pub encode-put_byte-argument-requires : goal.encode-put_byte-argument-requires
encode-put_byte-argument-requires t c = room_first _ (ready_end _ _ (ready_as (makes_set (value-reads c.requires) c.head_of-head.ensures (sym c.holds.ensures ∙ c.if-not-holds.false) c.if-kind-eq-KIND_OBJECT.false (λ e. omega arith) (λ e. omega arith) (λ e. omega arith)) (value_inside c.requires c.encode_opening-next.ensures)) (rw c.arity-count.ensures at c.encode_appends-end.ensures))

pub encode-put_byte-requires : goal.encode-put_byte-requires
encode-put_byte-requires t c = room_then _ c.put_byte-argument.ensures (ready_end _ _ (ready_as (makes_set (value-reads c.requires) c.head_of-head.ensures (sym c.holds.ensures ∙ c.if-not-holds.false) c.if-kind-eq-KIND_OBJECT.false (λ e. omega arith) (λ e. omega arith) (λ e. omega arith)) (value_inside c.requires c.encode_opening-next.ensures)) (rw c.arity-count.ensures at c.encode_appends-end.ensures))

pub encode-returns-in_default : goal.encode-returns-in_default
encode-returns-in_default t c = value_wrote c.encode_opening-next.ensures (wrote_as (makes_set (value-reads c.requires) c.head_of-head.ensures (sym c.holds.ensures ∙ c.if-not-holds.false) c.if-kind-eq-KIND_OBJECT.false (λ e. omega arith) (λ e. omega arith) (λ e. omega arith)) (wrote_before _ _ (rw c.arity-count.ensures at c.encode_appends-end.ensures) (put_then c.put_byte-argument.ensures c.put_byte.ensures)))

pub encode_appends-encode_items-item-requires : goal.encode_appends-encode_items-item-requires
encode_appends-encode_items-item-requires t c = (omega (arith, c.decreases), ready_before _ _ (ready_as (appends_one c.if-count-eq1.true) c.requires))

pub encode_appends-put_byte-requires : goal.encode_appends-put_byte-requires
encode_appends-put_byte-requires t c = ready_end _ _ (ready_as (appends_one c.if-count-eq1.true) c.requires) c.encode_items-item.ensures

pub encode_appends-returns-then-count-eq1 : goal.encode_appends-returns-then-count-eq1
encode_appends-returns-then-count-eq1 t c = wrote_as (appends_one c.if-count-eq1.true) (wrote_before _ _ c.encode_items-item.ensures c.put_byte.ensures)

pub encode_appends-encode_batches-requires : goal.encode_appends-encode_batches-requires
encode_appends-encode_batches-requires t c = (omega (arith, c.decreases), ready_as (appends-many c.if-count-eq1.false) c.requires)

pub encode_appends-returns : goal.encode_appends-returns
encode_appends-returns t c = wrote_as (appends-many c.if-count-eq1.false) c.encode_batches.ensures

pub encode_batch-encode_items-entry-requires : goal.encode_batch-encode_items-entry-requires
encode_batch-encode_items-entry-requires t c = (omega (arith, c.decreases), ready_before _ _ (ready_as (batch_entry _ c.if-entries.true c.if-count-eq2.true) c.requires))

pub encode_batch-put_byte-requires : goal.encode_batch-put_byte-requires
encode_batch-put_byte-requires t c = ready_end _ _ (ready_as (batch_entry _ c.if-entries.true c.if-count-eq2.true) c.requires) c.encode_items-entry.ensures

pub encode_batch-returns-then-count-eq2 : goal.encode_batch-returns-then-count-eq2
encode_batch-returns-then-count-eq2 t c = wrote_as (batch_entry _ c.if-entries.true c.if-count-eq2.true) (wrote_before _ _ c.encode_items-entry.ensures c.put_byte.ensures)

pub encode_batch-put_byte-next-requires : goal.encode_batch-put_byte-next-requires
encode_batch-put_byte-next-requires t c = ready_front _ _ (ready_as (batch-entries _ c.if-entries.true c.if-count-eq2.false) c.requires)

pub encode_batch-encode_items-end-requires : goal.encode_batch-encode_items-end-requires
encode_batch-encode_items-end-requires t c = (omega (arith, c.decreases), ready_before _ _ (ready_after _ _ (ready_as (batch-entries _ c.if-entries.true c.if-count-eq2.false) c.requires) c.put_byte-next.ensures))

pub encode_batch-put_byte-requires-then-entries : goal.encode_batch-put_byte-requires-then-entries
encode_batch-put_byte-requires-then-entries t c = ready_end _ _ (ready_after _ _ (ready_as (batch-entries _ c.if-entries.true c.if-count-eq2.false) c.requires) c.put_byte-next.ensures) c.encode_items-end.ensures

pub encode_batch-returns-then-entries : goal.encode_batch-returns-then-entries
encode_batch-returns-then-entries t c = wrote_as (batch-entries _ c.if-entries.true c.if-count-eq2.false) (wrote_after _ _ c.put_byte-next.ensures (wrote_before _ _ c.encode_items-end.ensures c.put_byte-then-entries.ensures))

pub encode_batch-put_byte-next-requires-2 : goal.encode_batch-put_byte-next-requires-2
encode_batch-put_byte-next-requires-2 t c = ready_front _ _ (ready_as (batch-items _ c.if-entries.false) c.requires)

pub encode_batch-encode_items-end-requires-2 : goal.encode_batch-encode_items-end-requires-2
encode_batch-encode_items-end-requires-2 t c = (omega (arith, c.decreases), ready_before _ _ (ready_after _ _ (ready_as (batch-items _ c.if-entries.false) c.requires) c.put_byte-next-2.ensures))

pub encode_batch-put_byte-requires-2 : goal.encode_batch-put_byte-requires-2
encode_batch-put_byte-requires-2 t c = ready_end _ _ (ready_after _ _ (ready_as (batch-items _ c.if-entries.false) c.requires) c.put_byte-next-2.ensures) c.encode_items-end-2.ensures

pub encode_batch-returns : goal.encode_batch-returns
encode_batch-returns t c = wrote_as (batch-items _ c.if-entries.false) (wrote_after _ _ c.put_byte-next-2.ensures (wrote_before _ _ c.encode_items-end-2.ensures c.put_byte-2.ensures))

pub encode_batches-encode_batch-end-requires : goal.encode_batches-encode_batch-end-requires
encode_batches-encode_batch-end-requires t c = (omega (arith, c.decreases, c.loop-left.invariant.later), rw c.batch_of-size.ensures (ready_cut (batches_cuts c.args.entries c.loop-left.left c.loop-left-test.true) c.loop-left.invariant.ready))

pub encode_batches-loop-left-smaller : goal.encode_batches-loop-left-smaller
encode_batches-loop-left-smaller t c = omega (arith, c.batch_of-size.ensures, size-some c.args.entries, c.loop-left-test.true)

pub encode_batches-loop-left-preserved : goal.encode_batches-loop-left-preserved
encode_batches-loop-left-preserved t c = rw c.batch_of-size.ensures (going_again (batches_cuts c.args.entries c.loop-left.left c.loop-left-test.true) c.loop-left.invariant (rw c.batch_of-size.ensures at c.encode_batch-end.ensures))

pub encode_batches-returns : goal.encode_batches-returns
encode_batches-returns t c = going-none (batches-none c.args.entries) c.loop-left-test.false c.loop-left.invariant

pub encode_items-overflow_mul-i : goal.encode_items-overflow_mul-i
encode_items-overflow_mul-i t c = let r = value-reads (ready_cut (joined_cuts (c.args.count - c.loop.counter) (omega (arith, c.loop-test.true))) c.loop.invariant.ready) in search rules

pub encode_items-offset_bounds-words-i : goal.encode_items-offset_bounds-words-i
encode_items-offset_bounds-words-i t c = let r = value-reads (ready_cut (joined_cuts (c.args.count - c.loop.counter) (omega (arith, c.loop-test.true))) c.loop.invariant.ready) in search rules

pub encode_items-bounds-words-i : goal.encode_items-bounds-words-i
encode_items-bounds-words-i t c = let r = value-reads (ready_cut (joined_cuts (c.args.count - c.loop.counter) (omega (arith, c.loop-test.true))) c.loop.invariant.ready) in search rules

pub encode_items-encode-end-requires : goal.encode_items-encode-end-requires
encode_items-encode-end-requires t c = (omega (arith, c.decreases, c.loop.invariant.later), ready_cut (joined_cuts (c.args.count - c.loop.counter) (omega (arith, c.loop-test.true))) c.loop.invariant.ready)

pub encode_items-encode_opening-next-requires-clause-reads : goal.encode_items-encode_opening-next-requires-clause-reads
encode_items-encode_opening-next-requires-clause-reads t c = value-reads (ready_cut (joined_cuts (c.args.count - c.loop.counter) (omega (arith, c.loop-test.true))) c.loop.invariant.ready)

pub encode_items-encode_opening-next-requires-clause-room : goal.encode_items-encode_opening-next-requires-clause-room
encode_items-encode_opening-next-requires-clause-room t c = value_room (ready_cut (joined_cuts (c.args.count - c.loop.counter) (omega (arith, c.loop-test.true))) c.loop.invariant.ready)

pub encode_items-overflow_add-i : goal.encode_items-overflow_add-i
encode_items-overflow_add-i t c = omega (arith, (value-reads (ready_cut (joined_cuts (c.args.count - c.loop.counter) (omega (arith, c.loop-test.true))) c.loop.invariant.ready)).inside)

pub encode_items-loop-preserved : goal.encode_items-loop-preserved
encode_items-loop-preserved t c =
    let e : c.args.count - c.loop.counter - 1 ≡ c.args.count - (c.loop.counter + 1) = omega arith in
    elim c.if-holds.branch [
      | encode_items-then-holds w ↦ rw (w.output-is, w.i-is, w.next-is) (rw e at (going_again (joined_cuts (c.args.count - c.loop.counter) (omega (arith, c.loop-test.true))) c.loop.invariant w.encode-end.ensures))
      | encode_items-else-holds w ↦ rw (w.output-is, w.i-is, w.next-is) (rw e at (going_again (joined_cuts (c.args.count - c.loop.counter) (omega (arith, c.loop-test.true))) c.loop.invariant (leaf_wrote (value-reads (ready_cut (joined_cuts (c.args.count - c.loop.counter) (omega (arith, c.loop-test.true))) c.loop.invariant.ready)) c.head_of.ensures (sym c.holds.ensures ∙ w.if-holds.false) w.encode_opening-next.ensures)))
    ]

pub encode_items-returns : goal.encode_items-returns
encode_items-returns t c = going-none joined-none (omega (arith, c.loop-test.false)) c.loop.invariant

pub encode_object-encode-args-requires : goal.encode_object-encode-args-requires
encode_object-encode-args-requires t c = (omega (arith, c.decreases), ready_cut (object_cuts c.args.new _ _ refl) c.requires)

pub encode_object-put_byte-made-requires : goal.encode_object-put_byte-made-requires
encode_object-put_byte-made-requires t c = ready_front _ _ (ready_rest (object_cuts c.args.new _ _ c.object_opcode.ensures) c.encode-args.ensures c.requires)

pub encode_object-encode-end-requires : goal.encode_object-encode-end-requires
encode_object-encode-end-requires t c = (omega (arith, c.decreases, wrote_later (ready_cut (object_cuts c.args.new _ _ refl) c.requires) c.encode-args.ensures), ready_before _ _ (ready_as built_one (rw (bit_one c.args.state c.if-state.true) at (ready_after _ _ (ready_rest (object_cuts c.args.new _ _ c.object_opcode.ensures) c.encode-args.ensures c.requires) c.put_byte-made.ensures))))

pub encode_object-put_byte-requires : goal.encode_object-put_byte-requires
encode_object-put_byte-requires t c = ready_end _ _ (ready_as built_one (rw (bit_one c.args.state c.if-state.true) at (ready_after _ _ (ready_rest (object_cuts c.args.new _ _ c.object_opcode.ensures) c.encode-args.ensures c.requires) c.put_byte-made.ensures))) c.encode-end.ensures

pub encode_object-returns-then-state : goal.encode_object-returns-then-state
encode_object-returns-then-state t c = wrote_cut (object_cuts c.args.new _ _ c.object_opcode.ensures) c.encode-args.ensures (wrote_after _ _ c.put_byte-made.ensures (rw (bit_one c.args.state c.if-state.true) (wrote_as built_one (wrote_before _ _ c.encode-end.ensures c.put_byte.ensures))))

pub encode_object-returns : goal.encode_object-returns
encode_object-returns t c = wrote_cut (object_cuts c.args.new _ _ c.object_opcode.ensures) c.encode-args.ensures (wrote_after _ _ c.put_byte-made.ensures (wrote_none (bit_none c.args.state c.if-state.false) built-none))

pub encode_tuple-tuple_mark-next-requires : goal.encode_tuple-tuple_mark-next-requires
encode_tuple-tuple_mark-next-requires t c = ready_front _ _ (ready_as (tuple_parts c.args.count _ refl) c.requires)

pub encode_tuple-encode_items-end-requires : goal.encode_tuple-encode_items-end-requires
encode_tuple-encode_items-end-requires t c = (omega (arith, c.decreases), ready_before _ _ (ready_after _ _ (ready_as (tuple_parts c.args.count _ refl) c.requires) c.tuple_mark-next.ensures))

pub encode_tuple-put_byte-requires : goal.encode_tuple-put_byte-requires
encode_tuple-put_byte-requires t c = ready_end _ _ (ready_after _ _ (ready_as (tuple_parts c.args.count _ c.tuple_opcode.ensures) c.requires) c.tuple_mark-next.ensures) c.encode_items-end.ensures

pub encode_tuple-returns : goal.encode_tuple-returns
encode_tuple-returns t c = wrote_as (tuple_parts c.args.count _ c.tuple_opcode.ensures) (wrote_after _ _ c.tuple_mark-next.ensures (wrote_before _ _ c.encode_items-end.ensures c.put_byte.ensures))
