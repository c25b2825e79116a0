-- Sheets (RULES, Ask 3), scored by hand.
use Rattle.std.specs.Prelude.{true, false, ◌≡◌, refl}
use Rattle.value.specs.Value.{Label, Forest, Value, count, BoolL, I64L, BytesL, StringL, SetL, FrozenSetL, DictL, nil, node}
use Rattle.value.specs.Order.{lex, ◌then◌}
use Rattle.value.specs.WellFormed.{keys}
use Rattle.scorer.specs.Sheet.{between, same_int, holds_int, is_key, under, answers_key, reverse_key, max_key, flipped_key, in_range, all_answered, is_sheet, answers_sum, marked, score_of, items_of}
use Rattle.scorer.specs.Call.{tally_of}
use Rattle.std.specs.declared.option.Option.TheVariants.{None, Some}

-- a leaf and what follows
abbrev leaf_then : Label → Forest → Forest
leaf_then l r = node l nil r

-- the four keys in their order as Bytes, with these answers, mark, highest and reversed items
abbrev sheet : Forest → Label → Label → Label → Forest → Value
sheet answers mark highest kind reversed =
    record { label = DictL; contents = leaf_then (BytesL answers_key) (node DictL answers (leaf_then (BytesL flipped_key) (leaf_then mark (leaf_then (BytesL max_key) (leaf_then highest (leaf_then (BytesL reverse_key) (node kind reversed nil))))))) }

-- the items 1, 2 and 3, answered 4, 0 and 3
abbrev three : Forest
three = leaf_then (I64L 1) (leaf_then (I64L 4) (leaf_then (I64L 2) (leaf_then (I64L 0) (leaf_then (I64L 3) (leaf_then (I64L 3) nil)))))

-- 2 and 3 reversed of at most 4: 4 + 4 + 1
plain : tally_of (sheet three (BoolL false) (I64L 4) SetL (leaf_then (I64L 2) (leaf_then (I64L 3) nil))) ≡ Some (9, 3)
unfolding tally_of is_sheet score_of items_of marked answers_sum under is_key in_range all_answered between same_int holds_int keys count lex ◌then◌
plain = refl

-- the mark says that they were flipped before: 4 + 0 + 3
flipped-before : tally_of (sheet three (BoolL true) (I64L 4) SetL (leaf_then (I64L 2) (leaf_then (I64L 3) nil))) ≡ Some (7, 3)
unfolding tally_of is_sheet score_of items_of marked answers_sum under is_key in_range all_answered between same_int holds_int keys count lex ◌then◌
flipped-before = refl

-- no answers
empty : tally_of (sheet nil (BoolL false) (I64L 4) SetL nil) ≡ Some (0, 0)
unfolding tally_of is_sheet score_of items_of marked answers_sum under is_key in_range all_answered between same_int holds_int keys count lex ◌then◌
empty = refl

-- a reversed item without an answer
unanswered : tally_of (sheet three (BoolL false) (I64L 4) SetL (leaf_then (I64L 4) nil)) ≡ None
unfolding tally_of is_sheet score_of items_of marked answers_sum under is_key in_range all_answered between same_int holds_int keys count lex ◌then◌
unanswered = refl

-- an answer above `max`; `max` above 100; True as `max`; a number as the mark; a FrozenSet
too_high : tally_of (sheet three (BoolL false) (I64L 3) SetL nil) ≡ None
unfolding tally_of is_sheet score_of items_of marked answers_sum under is_key in_range all_answered between same_int holds_int keys count lex ◌then◌
too_high = refl

max_101 : tally_of (sheet three (BoolL false) (I64L 101) SetL nil) ≡ None
unfolding tally_of is_sheet score_of items_of marked answers_sum under is_key in_range all_answered between same_int holds_int keys count lex ◌then◌
max_101 = refl

true_max : tally_of (sheet nil (BoolL false) (BoolL true) SetL nil) ≡ None
unfolding tally_of is_sheet score_of items_of marked answers_sum under is_key in_range all_answered between same_int holds_int keys count lex ◌then◌
true_max = refl

one_mark : tally_of (sheet nil (I64L 1) (I64L 4) SetL nil) ≡ None
unfolding tally_of is_sheet score_of items_of marked answers_sum under is_key in_range all_answered between same_int holds_int keys count lex ◌then◌
one_mark = refl

frozen : tally_of (sheet nil (BoolL false) (I64L 4) FrozenSetL nil) ≡ None
unfolding tally_of is_sheet score_of items_of marked answers_sum under is_key in_range all_answered between same_int holds_int keys count lex ◌then◌
frozen = refl

-- True as an answer, and as an item
true_answer : tally_of (sheet (leaf_then (I64L 1) (leaf_then (BoolL true) nil)) (BoolL false) (I64L 4) SetL nil) ≡ None
unfolding tally_of is_sheet score_of items_of marked answers_sum under is_key in_range all_answered between same_int holds_int keys count lex ◌then◌
true_answer = refl

true_item : tally_of (sheet (leaf_then (BoolL true) (leaf_then (I64L 1) nil)) (BoolL false) (I64L 4) SetL nil) ≡ None
unfolding tally_of is_sheet score_of items_of marked answers_sum under is_key in_range all_answered between same_int holds_int keys count lex ◌then◌
true_item = refl

-- a key that is a String is none of the four
string_key : under max_key (leaf_then (StringL max_key) (leaf_then (I64L 4) nil)) ≡ under max_key nil
unfolding under is_key lex ◌then◌
string_key = refl
