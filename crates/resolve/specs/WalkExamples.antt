-- A graph walked and put in order, computed: a Set of a List with 2 twice, and a Dict with the key 2 twice.
use Rattle.std.specs.Prelude.{List, [], ◌∷◌, ◌≡◌, refl}
use Rattle.value.specs.Value.{I64L, ListL, TupleL, SetL, DictL}
use Rattle.value.specs.Order.{lex, labels, ◌then◌}
use Rattle.steps.specs.State.{Node, kidless}
use Rattle.reading.specs.Build.{blocked, first_taken}
use Rattle.resolve.specs.Resolved.{Kids}
use Rattle.resolve.specs.Walk.{WalkState, walk_start, each_r, finish_r, walk}
use Rattle.resolve.specs.Arrange.{by_n, insert_n, as_set_n, enter_n, as_dict_n, items_n, arrange_n}
use Rattle.resolve.specs.Dues.{dues, settle_n}
use Rattle.resolve.specs.Compare.{forests_n, order_n, compare_n}

-- the numbers 2 and 1, the List [2, 1, 2], its Set, the Dict {2: 1, 1: 1, 2: the Set}, and the Tuple of Set and Dict
abbrev nodes : List Node
nodes =
    kidless (I64L 2)
    ∷ kidless (I64L 1)
    ∷ record { label = ListL; kids = 0 ∷ 1 ∷ 0 ∷ [] }
    ∷ record { label = SetL; kids = 2 ∷ [] }
    ∷ record { label = DictL; kids = 0 ∷ 1 ∷ 1 ∷ 1 ∷ 0 ∷ 3 ∷ [] }
    ∷ record { label = TupleL; kids = 3 ∷ 4 ∷ [] }
    ∷ []

after : WalkState
after = (walk nodes 4096 64 5 (walk_start nodes)).after

finished : (after.done ≡ 5 ∷ 4 ∷ 3 ∷ 2 ∷ 1 ∷ 0 ∷ []) × (dues nodes after.done ≡ 4 ∷ 3 ∷ [])
unfolding after walk each_r finish_r blocked first_taken dues
finished = (refl, refl)

settled : Kids
settled = settle_n nodes (λ h. compare_n nodes h 63) after.kids (4 ∷ 3 ∷ [])

in_order : (settled 3 ≡ 1 ∷ 0 ∷ []) × (settled 4 ≡ 1 ∷ 1 ∷ 0 ∷ 3 ∷ []) × (settled 2 ≡ 0 ∷ 1 ∷ 0 ∷ [])
unfolding after settled walk each_r finish_r blocked first_taken settle_n arrange_n items_n as_set_n insert_n as_dict_n enter_n by_n forests_n order_n compare_n labels lex ◌then◌
in_order = (refl, refl, refl)
