use Rattle.std.proofs.Common.{◌≡◌, ◌∙◌, ◌-◌, ◌+◌, sym, ap, arith}
use Rattle.scorer.specs.Sheet.{is_key}
use Rattle.scorer.specs.Steps.{entry, sought_here, seek_end}
use Rattle.scorer.proofs.seek.Goals as goal

pub after-at-requires : goal.after-at-requires
after-at-requires c =
    let n = entry (c.loop.invariant _ c.requires.lain.lies c.requires.lain.counted) (omega arith) in
    record { i_in_bounds = n.reads.inside; size_in_bounds = n.ends }

pub is_key-requires : goal.is_key-requires
is_key-requires c = (entry (c.loop.invariant _ c.requires.lain.lies c.requires.lain.counted) (omega arith)).reads

pub overflow_mul-at : goal.overflow_mul-at
overflow_mul-at c = omega (arith, c.after-at.ensures, (entry (c.loop.invariant _ c.requires.lain.lies c.requires.lain.counted) (omega arith)).inside)

pub offset_bounds-words-at : goal.offset_bounds-words-at
offset_bounds-words-at c = omega (arith, c.after-at.ensures, (entry (c.loop.invariant _ c.requires.lain.lies c.requires.lain.counted) (omega arith)).inside)

pub bounds-words-at : goal.bounds-words-at
bounds-words-at c = omega (arith, c.after-at.ensures, (entry (c.loop.invariant _ c.requires.lain.lies c.requires.lain.counted) (omega arith)).inside)

pub returns-then-is_key : goal.returns-then-is_key
returns-then-is_key c f h e = rw c.then_some.ensures (sought_here _ _ _ c.head_of.ensures (entry (c.loop.invariant f h e) (omega arith)) c.after-at.ensures (sym c.is_key.ensures ∙ c.if-is_key.true) _)

pub after-i-requires : goal.after-i-requires
after-i-requires c =
    let n = entry (c.loop.invariant _ c.requires.lain.lies c.requires.lain.counted) (omega arith) in
    record { i_in_bounds = rw c.after-at.ensures n.inside; size_in_bounds = rw c.after-at.ensures n.value_ends }

pub loop-preserved : goal.loop-preserved
loop-preserved c f h e =
    let n = entry (c.loop.invariant f h e) (omega arith) in
    let d : c.args.entries - (c.loop.counter + 1) ≡ c.args.entries - c.loop.counter - 1 = omega arith in
    rw (d, c.after-i.ensures, c.after-at.ensures) (n.no (ap (is_key c.args.name.now) (sym n.label) ∙ (sym c.is_key.ensures ∙ c.if-is_key.false)))

pub returns : goal.returns
returns c f h e = seek_end _ (c.loop.invariant f h e) (omega arith) c.requires.kind_nonzero
