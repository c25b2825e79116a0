-- Each condition that fails makes the value no sheet, and the walk decides the rest.
use Rattle.std.proofs.Common.{◌∙◌, sym, arith}
use Rattle.scorer.specs.Sheet.{answers_key, reverse_key, flipped_key, max_key}
use Rattle.scorer.specs.Steps.{between-says, answer_most}
use Rattle.scorer.specs.Root.{root_inside, root_off, root_dict, entries_lain, under_found, under_missing, off_answers, off_reverse, off_flipped, off_highest, off_range, sought_inside, sought_says, both_lie, few_answers, assessed}
use Rattle.scorer.proofs.assess.Goals as goal

pub bounds-words-0 : goal.bounds-words-0
bounds-words-0 c = omega (arith, root_inside c.requires.formed)

pub returns-then-head_of-ne-KIND_DICT : goal.returns-then-head_of-ne-KIND_DICT
returns-then-head_of-ne-KIND_DICT c n f = root_off f _ c.head_of.ensures c.if-head_of-ne-KIND_DICT.true

pub bounds-words-1 : goal.bounds-words-1
bounds-words-1 c = omega (arith, root_inside c.requires.formed)

pub seek-requires-clause-lain : goal.seek-requires-clause-lain
seek-requires-clause-lain c = entries_lain c.requires.formed (root_dict c.requires.formed _ c.head_of.ensures c.if-head_of-ne-KIND_DICT.false)

pub seek-requires-2-clause-lain : goal.seek-requires-2-clause-lain
seek-requires-2-clause-lain c = entries_lain c.requires.formed (root_dict c.requires.formed _ c.head_of.ensures c.if-head_of-ne-KIND_DICT.false)

pub seek-requires-3-clause-lain : goal.seek-requires-3-clause-lain
seek-requires-3-clause-lain c = entries_lain c.requires.formed (root_dict c.requires.formed _ c.head_of.ensures c.if-head_of-ne-KIND_DICT.false)

pub seek-requires-4-clause-lain : goal.seek-requires-4-clause-lain
seek-requires-4-clause-lain c = entries_lain c.requires.formed (root_dict c.requires.formed _ c.head_of.ensures c.if-head_of-ne-KIND_DICT.false)

pub returns-in_err-answers : goal.returns-in_err-answers
returns-in_err-answers c n f = cc (off_answers f.value (under_missing f (root_dict f _ c.head_of.ensures c.if-head_of-ne-KIND_DICT.false) answers_key 10 c.in_err-answers.ensures))

pub returns-in_err-reverse : goal.returns-in_err-reverse
returns-in_err-reverse c n f = cc (off_reverse f.value (under_missing f (root_dict f _ c.head_of.ensures c.if-head_of-ne-KIND_DICT.false) reverse_key 8 c.in_err-reverse.ensures))

pub returns-in_err-flipped : goal.returns-in_err-flipped
returns-in_err-flipped c n f = cc (off_flipped f.value (under_missing f (root_dict f _ c.head_of.ensures c.if-head_of-ne-KIND_DICT.false) flipped_key 1 c.in_err-flipped.ensures))

pub returns-in_err-highest : goal.returns-in_err-highest
returns-in_err-highest c n f = cc (off_highest f.value (under_missing f (root_dict f _ c.head_of.ensures c.if-head_of-ne-KIND_DICT.false) max_key 2 c.in_err-highest.ensures))

pub is_between-requires : goal.is_between-requires
is_between-requires c = sought_inside (under_found c.requires.formed (root_dict c.requires.formed _ c.head_of.ensures c.if-head_of-ne-KIND_DICT.false) max_key 2 c.in_ok-highest.ensures)

pub returns-then-not-is_between : goal.returns-then-not-is_between
returns-then-not-is_between c n f =
    let o = under_found f (root_dict f _ c.head_of.ensures c.if-head_of-ne-KIND_DICT.false) max_key 2 c.in_ok-highest.ensures in
    off_range f.value (sym (between-says 1 100 (sought_says o)) ∙ sym c.is_between.ensures ∙ c.if-not-is_between.true)

pub overflow_mul-max : goal.overflow_mul-max
overflow_mul-max c = omega (arith, sought_inside (under_found c.requires.formed (root_dict c.requires.formed _ c.head_of.ensures c.if-head_of-ne-KIND_DICT.false) max_key 2 c.in_ok-highest.ensures))

pub overflow_add-max : goal.overflow_add-max
overflow_add-max c = omega (arith, sought_inside (under_found c.requires.formed (root_dict c.requires.formed _ c.head_of.ensures c.if-head_of-ne-KIND_DICT.false) max_key 2 c.in_ok-highest.ensures))

pub offset_bounds-words-highest : goal.offset_bounds-words-highest
offset_bounds-words-highest c = omega (arith, sought_inside (under_found c.requires.formed (root_dict c.requires.formed _ c.head_of.ensures c.if-head_of-ne-KIND_DICT.false) max_key 2 c.in_ok-highest.ensures))

pub bounds-words-highest : goal.bounds-words-highest
bounds-words-highest c = omega (arith, sought_inside (under_found c.requires.formed (root_dict c.requires.formed _ c.head_of.ensures c.if-head_of-ne-KIND_DICT.false) max_key 2 c.in_ok-highest.ensures))

pub overflow_mul-mark : goal.overflow_mul-mark
overflow_mul-mark c = omega (arith, sought_inside (under_found c.requires.formed (root_dict c.requires.formed _ c.head_of.ensures c.if-head_of-ne-KIND_DICT.false) flipped_key 1 c.in_ok-flipped.ensures))

pub overflow_add-mark : goal.overflow_add-mark
overflow_add-mark c = omega (arith, sought_inside (under_found c.requires.formed (root_dict c.requires.formed _ c.head_of.ensures c.if-head_of-ne-KIND_DICT.false) flipped_key 1 c.in_ok-flipped.ensures))

pub offset_bounds-words-flipped : goal.offset_bounds-words-flipped
offset_bounds-words-flipped c = omega (arith, sought_inside (under_found c.requires.formed (root_dict c.requires.formed _ c.head_of.ensures c.if-head_of-ne-KIND_DICT.false) flipped_key 1 c.in_ok-flipped.ensures))

pub bounds-words-flipped : goal.bounds-words-flipped
bounds-words-flipped c = omega (arith, sought_inside (under_found c.requires.formed (root_dict c.requires.formed _ c.head_of.ensures c.if-head_of-ne-KIND_DICT.false) flipped_key 1 c.in_ok-flipped.ensures))

pub overflow_add-answers : goal.overflow_add-answers
overflow_add-answers c = omega (arith, sought_inside (under_found c.requires.formed (root_dict c.requires.formed _ c.head_of.ensures c.if-head_of-ne-KIND_DICT.false) answers_key 10 c.in_ok-answers.ensures))

pub overflow_mul-answers : goal.overflow_mul-answers
overflow_mul-answers c = omega (arith, sought_inside (under_found c.requires.formed (root_dict c.requires.formed _ c.head_of.ensures c.if-head_of-ne-KIND_DICT.false) answers_key 10 c.in_ok-answers.ensures))

pub overflow_add-answers-2 : goal.overflow_add-answers-2
overflow_add-answers-2 c = omega (arith, sought_inside (under_found c.requires.formed (root_dict c.requires.formed _ c.head_of.ensures c.if-head_of-ne-KIND_DICT.false) answers_key 10 c.in_ok-answers.ensures))

pub offset_bounds-words-answers : goal.offset_bounds-words-answers
offset_bounds-words-answers c = omega (arith, sought_inside (under_found c.requires.formed (root_dict c.requires.formed _ c.head_of.ensures c.if-head_of-ne-KIND_DICT.false) answers_key 10 c.in_ok-answers.ensures))

pub bounds-words-answers : goal.bounds-words-answers
bounds-words-answers c = omega (arith, sought_inside (under_found c.requires.formed (root_dict c.requires.formed _ c.head_of.ensures c.if-head_of-ne-KIND_DICT.false) answers_key 10 c.in_ok-answers.ensures))

pub overflow_add-reverse : goal.overflow_add-reverse
overflow_add-reverse c = omega (arith, sought_inside (under_found c.requires.formed (root_dict c.requires.formed _ c.head_of.ensures c.if-head_of-ne-KIND_DICT.false) reverse_key 8 c.in_ok-reverse.ensures))

pub overflow_mul-reverse : goal.overflow_mul-reverse
overflow_mul-reverse c = omega (arith, sought_inside (under_found c.requires.formed (root_dict c.requires.formed _ c.head_of.ensures c.if-head_of-ne-KIND_DICT.false) reverse_key 8 c.in_ok-reverse.ensures))

pub overflow_add-reverse-2 : goal.overflow_add-reverse-2
overflow_add-reverse-2 c = omega (arith, sought_inside (under_found c.requires.formed (root_dict c.requires.formed _ c.head_of.ensures c.if-head_of-ne-KIND_DICT.false) reverse_key 8 c.in_ok-reverse.ensures))

pub offset_bounds-words-reverse : goal.offset_bounds-words-reverse
offset_bounds-words-reverse c = omega (arith, sought_inside (under_found c.requires.formed (root_dict c.requires.formed _ c.head_of.ensures c.if-head_of-ne-KIND_DICT.false) reverse_key 8 c.in_ok-reverse.ensures))

pub bounds-words-reverse : goal.bounds-words-reverse
bounds-words-reverse c = omega (arith, sought_inside (under_found c.requires.formed (root_dict c.requires.formed _ c.head_of.ensures c.if-head_of-ne-KIND_DICT.false) reverse_key 8 c.in_ok-reverse.ensures))

pub tally_answers-requires : goal.tally_answers-requires
tally_answers-requires c =
    let f = c.requires.formed in
    let d = root_dict f _ c.head_of.ensures c.if-head_of-ne-KIND_DICT.false in
    let x = under_found f d answers_key 10 c.in_ok-answers.ensures in
    let y = under_found f d reverse_key 8 c.in_ok-reverse.ensures in
    record { both = both_lie f d x y; max_bound = answer_most _ _ 1 100 (sym c.is_between.ensures ∙ c.if-not-is_between.false); entries_bound = few_answers f d x y }

pub returns : goal.returns
returns c n f =
    let d = root_dict f _ c.head_of.ensures c.if-head_of-ne-KIND_DICT.false in
    assessed f d (under_found f d answers_key 10 c.in_ok-answers.ensures) (under_found f d reverse_key 8 c.in_ok-reverse.ensures) (under_found f d flipped_key 1 c.in_ok-flipped.ensures) (under_found f d max_key 2 c.in_ok-highest.ensures)
    (sym c.is_between.ensures ∙ c.if-not-is_between.false) _ c.tally_answers.ensures
