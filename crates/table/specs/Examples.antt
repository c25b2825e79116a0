-- Tables of RULES A2, read by hand.
use Rattle.std.specs.Prelude.{true, [], ◌∷◌, ◌≡◌, refl}
use Rattle.utf8.specs.Utf8.{valid, pieces, pieces_after, piece, longest, initial, some, begins, in_column, every, well_formed, whole_row}
use Rattle.value.specs.Value.{size, NoneL, BoolL, I64L, ListL, TupleL, SetL, ObjectL, nil, node}
use Rattle.value.specs.Shape.{kind_in, fresh_in, state_in, label_of, arity_of}
use Rattle.value.specs.Stands.{◌⊕◌, label_at, arity_at}
use Rattle.value.specs.Order.{◌then◌, lex, labels, forests, order}
use Rattle.value.specs.WellFormed.{ascending}
use Rattle.table.specs.Find.{bad, good, has_record, close, join, find_many, find}
use Rattle.table.specs.Length.{has_text, end_of, last_end, text_length}
use Rattle.table.specs.Record.{span_of}

-- None, and a word 1 that is not 0
none : find (0 ∷ 0 ∷ 0 ∷ 0 ∷ []) 1 [] 64 0 0 ≡ good (node NoneL nil nil) 1 0
unfolding find find_many close join has_record label_at arity_at label_of arity_of kind_in fresh_in state_in size ◌⊕◌
none = refl

none_with : find (0 ∷ 1 ∷ 0 ∷ 0 ∷ []) 1 [] 64 0 0 ≡ bad
unfolding find find_many close join has_record label_at arity_at label_of arity_of kind_in fresh_in state_in size ◌⊕◌
none_with = refl

-- a Bool is 0 or 1
bool_two : find (1 ∷ 2 ∷ 0 ∷ 0 ∷ []) 1 [] 64 0 0 ≡ bad
unfolding find find_many close join has_record label_at arity_at label_of arity_of kind_in fresh_in state_in size ◌⊕◌
bool_two = refl

-- [True, 5]
list : find (6 ∷ 2 ∷ 3 ∷ 0 ∷ 1 ∷ 1 ∷ 0 ∷ 0 ∷ 2 ∷ 5 ∷ 0 ∷ 0 ∷ []) 3 [] 64 0 0 ≡ good (node ListL (node (BoolL true) nil (node (I64L 5) nil nil)) nil) 3 0
unfolding find find_many close join has_record label_at arity_at label_of arity_of kind_in fresh_in state_in size ◌⊕◌
list = refl

-- its size one too many
list-size : find (6 ∷ 2 ∷ 4 ∷ 0 ∷ 1 ∷ 1 ∷ 0 ∷ 0 ∷ 2 ∷ 5 ∷ 0 ∷ 0 ∷ []) 3 [] 64 0 0 ≡ bad
unfolding find find_many close join has_record label_at arity_at label_of arity_of kind_in fresh_in state_in size ◌⊕◌
list-size = refl

-- {1, 2}, and {2, 2}
set : find (8 ∷ 2 ∷ 3 ∷ 0 ∷ 2 ∷ 1 ∷ 0 ∷ 0 ∷ 2 ∷ 2 ∷ 0 ∷ 0 ∷ []) 3 [] 64 0 0 ≡ good (node SetL (node (I64L 1) nil (node (I64L 2) nil nil)) nil) 3 0
unfolding find find_many close join has_record label_at arity_at label_of arity_of kind_in fresh_in state_in size ◌⊕◌ ascending order labels forests lex ◌then◌
set = refl

set_equal : find (8 ∷ 2 ∷ 3 ∷ 0 ∷ 2 ∷ 2 ∷ 0 ∷ 0 ∷ 2 ∷ 2 ∷ 0 ∷ 0 ∷ []) 3 [] 64 0 0 ≡ bad
unfolding find find_many close join has_record label_at arity_at label_of arity_of kind_in fresh_in state_in size ◌⊕◌ ascending order labels forests lex ◌then◌
set_equal = refl

-- a new object of the class m.C with no arguments and the state None
object : find (60 ∷ 0 ∷ 4294967297 ∷ 3 ∷ 7 ∷ 0 ∷ 1 ∷ 0 ∷ 0 ∷ 0 ∷ 0 ∷ 0 ∷ []) 3 (109 ∷ 67 ∷ []) 64 0 0 ≡ good (node (ObjectL (109 ∷ []) (67 ∷ []) true) (node TupleL nil (node NoneL nil nil)) nil) 3 2
unfolding find find_many close join has_record label_at arity_at label_of arity_of kind_in fresh_in state_in size ◌⊕◌ valid pieces pieces_after piece longest initial some begins in_column every well_formed whole_row
object = refl

-- its text one place later
object_gap : find (60 ∷ 1 ∷ 4294967297 ∷ 3 ∷ 7 ∷ 0 ∷ 1 ∷ 0 ∷ 0 ∷ 0 ∷ 0 ∷ 0 ∷ []) 3 (0 ∷ 109 ∷ 67 ∷ []) 64 0 0 ≡ bad
unfolding find find_many close join has_record label_at arity_at label_of arity_of kind_in fresh_in state_in size ◌⊕◌ valid pieces pieces_after piece longest initial some begins in_column every well_formed whole_row
object_gap = refl

-- the length of its text, from record 0
object-text : text_length (60 ∷ 0 ∷ 4294967297 ∷ 3 ∷ 7 ∷ 0 ∷ 1 ∷ 0 ∷ 0 ∷ 0 ∷ 0 ∷ 0 ∷ []) 3 ≡ 2
unfolding text_length last_end has_text end_of span_of kind_in
object-text = refl
