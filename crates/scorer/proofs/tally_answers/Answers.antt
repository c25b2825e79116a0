use Rattle.std.proofs.Common.{◌≡◌, ◌∙◌, ◌-◌, ◌+◌, sym, ap, arith}
use Rattle.value.specs.Value.{bit}
use Rattle.value.specs.Stands.{word_at}
use Rattle.scorer.specs.Steps.{answer, next_inside, hit_some, hit_room, answer_most, all-answered, one_left}
use Rattle.scorer.proofs.tally_answers.Goals as goal
use Rattle.scorer.proofs.tally_answers.Goals.{then-not-is_between-via-then-not-is_between, then-not-is_between-via-else-not-is_between+then-not-is_between-2}

pub overflow_add-k : goal.overflow_add-k
overflow_add-k c = omega (arith, (next_inside c.requires.both c.loop.invariant.0 (omega arith)).0)

pub is_between-requires : goal.is_between-requires
is_between-requires c = omega (arith, (next_inside c.requires.both c.loop.invariant.0 (omega arith)).0)

pub is_between-requires-else-not-is_between : goal.is_between-requires-else-not-is_between
is_between-requires-else-not-is_between c = omega (arith, (next_inside c.requires.both c.loop.invariant.0 (omega arith)).0)

pub overflow_mul-i : goal.overflow_mul-i
overflow_mul-i c = omega (arith, (next_inside c.requires.both c.loop.invariant.0 (omega arith)).0)

pub overflow_add-i : goal.overflow_add-i
overflow_add-i c = omega (arith, (next_inside c.requires.both c.loop.invariant.0 (omega arith)).0)

pub offset_bounds-words-i : goal.offset_bounds-words-i
offset_bounds-words-i c = omega (arith, (next_inside c.requires.both c.loop.invariant.0 (omega arith)).0)

pub bounds-words-i : goal.bounds-words-i
bounds-words-i c = omega (arith, (next_inside c.requires.both c.loop.invariant.0 (omega arith)).0)

pub overflow_mul-k : goal.overflow_mul-k
overflow_mul-k c = omega (arith, (next_inside c.requires.both c.loop.invariant.0 (omega arith)).0)

pub overflow_add-k-in-loop : goal.overflow_add-k-in-loop
overflow_add-k-in-loop c = omega (arith, (next_inside c.requires.both c.loop.invariant.0 (omega arith)).0)

pub offset_bounds-words-k : goal.offset_bounds-words-k
offset_bounds-words-k c = omega (arith, (next_inside c.requires.both c.loop.invariant.0 (omega arith)).0)

pub bounds-words-k : goal.bounds-words-k
bounds-words-k c = omega (arith, (next_inside c.requires.both c.loop.invariant.0 (omega arith)).0)

pub overflow_add-i-in-loop : goal.overflow_add-i-in-loop
overflow_add-i-in-loop c = omega (arith, (next_inside c.requires.both c.loop.invariant.0 (omega arith)).0)

pub returns-then-not-is_between : goal.returns-then-not-is_between
returns-then-not-is_between c t f g a b d e =
    let next = answer (c.loop.invariant.0 t f g a b d e) (omega arith) in
    elim c.then-not-is_between.branch [
      | then-not-is_between-via-then-not-is_between w ↦ sym (next.bad_item (sym c.is_between.ensures ∙ w.if-not-is_between.true))
      | then-not-is_between-via-else-not-is_between+then-not-is_between-2 w ↦
          sym (next.bad_answer (sym c.is_between.ensures ∙ w.if-not-is_between.false) (sym w.is_between-else-not-is_between.ensures ∙ w.if-not-is_between-2.true))
    ]

pub hit-reversed-requires : goal.hit-reversed-requires
hit-reversed-requires c = (next_inside c.requires.both c.loop.invariant.0 (omega arith)).1

pub counted-score-requires : goal.counted-score-requires
counted-score-requires c = answer_most _ _ 0 _ (sym c.is_between-else-not-is_between.ensures ∙ c.if-not-is_between-2.false)

pub overflow_sub-rest : goal.overflow_sub-rest
overflow_sub-rest c =
    let r : c.from-rest.result ≡ bit c.hit-reversed.result = c.from-rest.ensures in
    omega (arith, rw (← c.hit-reversed.ensures) at (hit_some c.args.words.now c.loop.j c.loop.rest (word_at c.args.words.now c.loop.i 1)))

pub loop-preserved : goal.loop-preserved
loop-preserved c =
    let j : c.from-j.result ≡ bit c.hit-reversed.result = c.from-j.ensures in
    let r : c.from-rest.result ≡ bit c.hit-reversed.result = c.from-rest.ensures in
    let d : c.args.entries - (c.loop.counter + 1) ≡ c.args.entries - c.loop.counter - 1 = omega arith in (
      (λ t f g a b u e. rw (c.counted-score.ensures.value, j, r, d) ((answer (c.loop.invariant.0 t f g a b u e) (omega arith)).on (sym c.is_between.ensures ∙ c.if-not-is_between.false) (sym c.is_between-else-not-is_between.ensures ∙ c.if-not-is_between-2.false) _ c.hit-reversed.ensures)),
      omega arith,
      hit_room c.args.words.now c.loop.j c.loop.rest (word_at c.args.words.now c.loop.i 1) _ (j ∙ ap bit c.hit-reversed.ensures) (next_inside c.requires.both c.loop.invariant.0 (omega arith)).1 c.loop.invariant.2,
    )

pub returns-then-rest-gt0 : goal.returns-then-rest-gt0
returns-then-rest-gt0 c t f g a b d e = sym (one_left (c.loop.invariant.0 t f g a b d e) (omega arith) (omega arith))

pub returns : goal.returns
returns c t f g a b d e = sym (all-answered (c.loop.invariant.0 t f g a b d e) (omega arith) (omega arith))
