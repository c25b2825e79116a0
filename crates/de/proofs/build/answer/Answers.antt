-- The run's refusal, 6, or what building comes to; the parts that are lent fit, and cleared the rooms are as they were.
use Rattle.std.proofs.Common.{◌+◌, ◌∙◌, length-take-le, arith}
use Rattle.de.specs.Rooms.{part_again}
use Rattle.de.specs.Building.{stopped, count_few, children_fit, first_zero, list-long, rooms_lent, parts_fit, laid_begins, laid_comes, clear_fits, rooms_back}
use Rattle.de.specs.Given.{RunEnds, leaves_value, stopped_at, root_known, gives-built, gives_refusal}
use Rattle.de.proofs.build.answer.Goals as goal

pub returns-in-Err-clause-gives : goal.returns-in-Err-clause-gives
unfolding RunEnds
returns-in-Err-clause-gives c = rw c.refused.ensures (gives_refusal _ _ _ _ _ c.requires.ran c.in-Err.ensures)

pub lay-used-requires-clause-stopped : goal.lay-used-requires-clause-stopped
lay-used-requires-clause-stopped c =
    let o = c.args.outcome in
    let v = leaves_value o c.in-Ok.root c.requires.ran c.in-Ok.ensures in
    let a = stopped_at o.counts v.ran in
    let k = root_known o.counts v.ran v.some c.in-Ok.root.0 v.is in
    let w = c.requires.working in
    stopped a k w

pub lay-used-requires-clause-long : goal.lay-used-requires-clause-long
lay-used-requires-clause-long c =
    let o = c.args.outcome in
    let v = leaves_value o c.in-Ok.root c.requires.ran c.in-Ok.ensures in
    let a = stopped_at o.counts v.ran in
    let k = root_known o.counts v.ran v.some c.in-Ok.root.0 v.is in
    let w = c.requires.working in
    children_fit a k w

pub lay-used-requires-clause-zero : goal.lay-used-requires-clause-zero
lay-used-requires-clause-zero c =
    let o = c.args.outcome in
    let v = leaves_value o c.in-Ok.root c.requires.ran c.in-Ok.ensures in
    let a = stopped_at o.counts v.ran in
    let k = root_known o.counts v.ran v.some c.in-Ok.root.0 v.is in
    let w = c.requires.working in
    first_zero a k w

pub slice_bounds-build_laid-end : goal.slice_bounds-build_laid-end
slice_bounds-build_laid-end c =
    let o = c.args.outcome in
    let v = leaves_value o c.in-Ok.root c.requires.ran c.in-Ok.ensures in
    let a = stopped_at o.counts v.ran in
    let k = root_known o.counts v.ran v.some c.in-Ok.root.0 v.is in
    let w = c.requires.working in
    let q = parts_fit a k w c.lay-used.ensures.graph c.lay-used.auto.sorted c.clear-2.ensures in
    omega arith

pub slice_bounds-build_laid-end-2 : goal.slice_bounds-build_laid-end-2
slice_bounds-build_laid-end-2 c =
    let o = c.args.outcome in
    let v = leaves_value o c.in-Ok.root c.requires.ran c.in-Ok.ensures in
    let a = stopped_at o.counts v.ran in
    let k = root_known o.counts v.ran v.some c.in-Ok.root.0 v.is in
    let w = c.requires.working in
    let q = parts_fit a k w c.lay-used.ensures.graph c.lay-used.auto.sorted c.clear-2.ensures in
    omega (arith, length-take-le c.lay-used.result c.lay-used.new.sorted q.0)

pub slice_bounds-build_laid-end-3 : goal.slice_bounds-build_laid-end-3
slice_bounds-build_laid-end-3 c =
    let o = c.args.outcome in
    let v = leaves_value o c.in-Ok.root c.requires.ran c.in-Ok.ensures in
    let a = stopped_at o.counts v.ran in
    let k = root_known o.counts v.ran v.some c.in-Ok.root.0 v.is in
    let w = c.requires.working in
    let q = parts_fit a k w c.lay-used.ensures.graph c.lay-used.auto.sorted c.clear-2.ensures in
    omega arith

pub slice_bounds-build_laid-end-4 : goal.slice_bounds-build_laid-end-4
slice_bounds-build_laid-end-4 c =
    let o = c.args.outcome in
    let v = leaves_value o c.in-Ok.root c.requires.ran c.in-Ok.ensures in
    let a = stopped_at o.counts v.ran in
    let k = root_known o.counts v.ran v.some c.in-Ok.root.0 v.is in
    let w = c.requires.working in
    let q = parts_fit a k w c.lay-used.ensures.graph c.lay-used.auto.sorted c.clear-2.ensures in
    omega (arith, length-take-le o.counts.nodes c.args.measures.now q.1)

pub overflow_add-count : goal.overflow_add-count
overflow_add-count c =
    let o = c.args.outcome in
    let v = leaves_value o c.in-Ok.root c.requires.ran c.in-Ok.ensures in
    let a = stopped_at o.counts v.ran in
    let k = root_known o.counts v.ran v.some c.in-Ok.root.0 v.is in
    let w = c.requires.working in
    omega (arith, count_few a k w)

pub slice_bounds-build_laid-end-5 : goal.slice_bounds-build_laid-end-5
slice_bounds-build_laid-end-5 c =
    let o = c.args.outcome in
    let v = leaves_value o c.in-Ok.root c.requires.ran c.in-Ok.ensures in
    let a = stopped_at o.counts v.ran in
    let k = root_known o.counts v.ran v.some c.in-Ok.root.0 v.is in
    let w = c.requires.working in
    let q = parts_fit a k w c.lay-used.ensures.graph c.lay-used.auto.sorted c.clear-2.ensures in
    omega arith

pub slice_bounds-build_laid-end-6 : goal.slice_bounds-build_laid-end-6
slice_bounds-build_laid-end-6 c =
    let o = c.args.outcome in
    let v = leaves_value o c.in-Ok.root c.requires.ran c.in-Ok.ensures in
    let a = stopped_at o.counts v.ran in
    let k = root_known o.counts v.ran v.some c.in-Ok.root.0 v.is in
    let w = c.requires.working in
    let q = parts_fit a k w c.lay-used.ensures.graph c.lay-used.auto.sorted c.clear-2.ensures in
    omega (arith, length-take-le (o.counts.nodes + 1) c.clear-2.new.room q.2)

pub slice_bounds-build_laid-end-7 : goal.slice_bounds-build_laid-end-7
slice_bounds-build_laid-end-7 c =
    let o = c.args.outcome in
    let v = leaves_value o c.in-Ok.root c.requires.ran c.in-Ok.ensures in
    let a = stopped_at o.counts v.ran in
    let k = root_known o.counts v.ran v.some c.in-Ok.root.0 v.is in
    let w = c.requires.working in
    list-long a k w

pub slice_bounds-build_laid-end-8 : goal.slice_bounds-build_laid-end-8
slice_bounds-build_laid-end-8 c =
    let o = c.args.outcome in
    let v = leaves_value o c.in-Ok.root c.requires.ran c.in-Ok.ensures in
    let a = stopped_at o.counts v.ran in
    let k = root_known o.counts v.ran v.some c.in-Ok.root.0 v.is in
    let w = c.requires.working in
    let q = list-long a k w in
    omega (arith, length-take-le 2048 c.args.list.now q)

pub build_laid-records-requires-clause-begins : goal.build_laid-records-requires-clause-begins
build_laid-records-requires-clause-begins c =
    let o = c.args.outcome in
    let v = leaves_value o c.in-Ok.root c.requires.ran c.in-Ok.ensures in
    let a = stopped_at o.counts v.ran in
    let k = root_known o.counts v.ran v.some c.in-Ok.root.0 v.is in
    let w = c.requires.working in
    laid_begins a k w c.lay-used.ensures.graph c.lay-used.auto.sorted c.clear-2.ensures

pub build_laid-records-requires-clause-lent : goal.build_laid-records-requires-clause-lent
build_laid-records-requires-clause-lent c =
    let o = c.args.outcome in
    let v = leaves_value o c.in-Ok.root c.requires.ran c.in-Ok.ensures in
    let a = stopped_at o.counts v.ran in
    let k = root_known o.counts v.ran v.some c.in-Ok.root.0 v.is in
    let w = c.requires.working in
    rooms_lent a k w c.lay-used.ensures.graph c.lay-used.auto.sorted c.clear-2.ensures _ c.clear-3.ensures

pub overflow_add-count-2 : goal.overflow_add-count-2
overflow_add-count-2 c =
    let o = c.args.outcome in
    let v = leaves_value o c.in-Ok.root c.requires.ran c.in-Ok.ensures in
    let a = stopped_at o.counts v.ran in
    let k = root_known o.counts v.ran v.some c.in-Ok.root.0 v.is in
    let w = c.requires.working in
    omega (arith, count_few a k w)

pub overflow_add-count-3 : goal.overflow_add-count-3
overflow_add-count-3 c =
    let o = c.args.outcome in
    let v = leaves_value o c.in-Ok.root c.requires.ran c.in-Ok.ensures in
    let a = stopped_at o.counts v.ran in
    let k = root_known o.counts v.ran v.some c.in-Ok.root.0 v.is in
    let w = c.requires.working in
    omega (arith, count_few a k w)

pub clear-requires-5 : goal.clear-requires-5
clear-requires-5 c =
    let o = c.args.outcome in
    let v = leaves_value o c.in-Ok.root c.requires.ran c.in-Ok.ensures in
    let a = stopped_at o.counts v.ran in
    let k = root_known o.counts v.ran v.some c.in-Ok.root.0 v.is in
    let w = c.requires.working in
    let d = c.build_laid-records.new in
    let l = c.build_laid-records.auto in
    let f = clear_fits a k w c.lay-used.ensures.graph c.lay-used.auto.sorted c.clear-2.ensures d.sorted d.measures d.dues l.sorted l.measures l.dues c.lay-used.auto.starts in
    f.1

pub clear-requires-6 : goal.clear-requires-6
clear-requires-6 c =
    let o = c.args.outcome in
    let v = leaves_value o c.in-Ok.root c.requires.ran c.in-Ok.ensures in
    let a = stopped_at o.counts v.ran in
    let k = root_known o.counts v.ran v.some c.in-Ok.root.0 v.is in
    let w = c.requires.working in
    let d = c.build_laid-records.new in
    let l = c.build_laid-records.auto in
    let f = clear_fits a k w c.lay-used.ensures.graph c.lay-used.auto.sorted c.clear-2.ensures d.sorted d.measures d.dues l.sorted l.measures l.dues c.lay-used.auto.starts in
    f.2

pub clear-requires-7 : goal.clear-requires-7
clear-requires-7 c =
    let o = c.args.outcome in
    let v = leaves_value o c.in-Ok.root c.requires.ran c.in-Ok.ensures in
    let a = stopped_at o.counts v.ran in
    let k = root_known o.counts v.ran v.some c.in-Ok.root.0 v.is in
    let w = c.requires.working in
    let d = c.build_laid-records.new in
    let l = c.build_laid-records.auto in
    let f = clear_fits a k w c.lay-used.ensures.graph c.lay-used.auto.sorted c.clear-2.ensures d.sorted d.measures d.dues l.sorted l.measures l.dues c.lay-used.auto.starts in
    f.3

pub returns-clause-gives : goal.returns-clause-gives
returns-clause-gives c =
    let o = c.args.outcome in
    let v = leaves_value o c.in-Ok.root c.requires.ran c.in-Ok.ensures in
    let a = stopped_at o.counts v.ran in
    let k = root_known o.counts v.ran v.some c.in-Ok.root.0 v.is in
    let w = c.requires.working in
    rw c.told_of.ensures (gives-built o.counts v.ran v.some c.in-Ok.root.0 v.is _ _ _ _ _ _ (laid_comes a k w c.lay-used.ensures.graph c.lay-used.auto.sorted c.clear-2.ensures _ _ _ _ c.build_laid-records.ensures.made))

pub returns-clause-links : goal.returns-clause-links
returns-clause-links c =
    let o = c.args.outcome in
    let v = leaves_value o c.in-Ok.root c.requires.ran c.in-Ok.ensures in
    let a = stopped_at o.counts v.ran in
    let k = root_known o.counts v.ran v.some c.in-Ok.root.0 v.is in
    let w = c.requires.working in
    let d = c.build_laid-records.new in
    let l = c.build_laid-records.auto in
    let b = rooms_back a k w c.lay-used.ensures.graph c.lay-used.auto.sorted c.clear-2.ensures d.sorted d.measures d.dues l.sorted l.measures l.dues in
    let e = c.build_laid-records.ensures.restored in
    (c.clear-4.ensures ∙ b.0, e.log_same ∙ c.clear-3.ensures)

pub returns-clause-rooms : goal.returns-clause-rooms
returns-clause-rooms c =
    let o = c.args.outcome in
    let v = leaves_value o c.in-Ok.root c.requires.ran c.in-Ok.ensures in
    let a = stopped_at o.counts v.ran in
    let k = root_known o.counts v.ran v.some c.in-Ok.root.0 v.is in
    let w = c.requires.working in
    let d = c.build_laid-records.new in
    let l = c.build_laid-records.auto in
    let b = rooms_back a k w c.lay-used.ensures.graph c.lay-used.auto.sorted c.clear-2.ensures d.sorted d.measures d.dues l.sorted l.measures l.dues in
    let e = c.build_laid-records.ensures.restored in
    (part_again 2048 _ _ e.list_same, e.decoded_same, c.clear-5.ensures ∙ b.1, c.clear-6.ensures ∙ b.2, c.clear-7.ensures ∙ b.3)
