-- The value that stands at a record, read back: its label and its contents are read, its record is written once more, and the two
-- records have to be the same. What is found is the value, the record behind it and the place behind its text.
use Rattle.std.specs.Prelude.{ℕ, suc, zero, ◌+◌, Bool, cond, ◌&&◌, List, length, get_or, eqb, ltb}
use Rattle.value.specs.Value.{Label, Forest, text_of, size, record_of, nil, node}
use Rattle.value.specs.Stands.{◌⊕◌, word_at, label_at, arity_at}
use Rattle.value.specs.WellFormed.{proper}

-- no value, or one or several, the record behind them and the place behind their text
pub data Found : Type 0 where
  bad : Found
  good : Forest → ℕ → ℕ → Found

-- a table has this record at i
unfoldable pub has_record : List ℕ → ℕ → List ℕ → Bool
has_record w i r = (eqb (word_at w i 0) (get_or r 0 0) && eqb (word_at w i 1) (get_or r 1 0)) && (eqb (word_at w i 2) (get_or r 2 0) && eqb (word_at w i 3) (get_or r 3 0))

-- a label of m values at record i, its text at p: its contents are found, its record is right, and they suit it
unfoldable pub close : List ℕ → ℕ → ℕ → Label → ℕ → Found → Found
close w i p l m bad = bad
close w i p l m (good c j e) = cond (has_record w i (record_of l p m (suc (size c))) && proper l c) (good (node l c nil) j e) bad

-- what was found, and then the rest
unfoldable pub join : Forest → Found → Found
unfolding ◌⊕◌
join f bad = bad
join f (good r j e) = good (f ⊕ r) j e

-- m values one after the other
unfoldable pub find_many : (ℕ → ℕ → Found) → ℕ → ℕ → ℕ → Found
find_many g zero i p = good nil i p
find_many g (suc m) i p = elim (g i p) [ bad ↦ bad | good f j e ↦ join f (find_many g m j e) ]

-- the value at record i of n, its text at p, at most so many levels deep
unfoldable pub find : List ℕ → ℕ → List ℕ → ℕ → ℕ → ℕ → Found
find w n t zero i p = bad
find w n t (suc k) i p =
    let l = label_at w t i in
    let m = arity_at w i in
    cond (ltb i n) (close w i p l m (find_many (find w n t k) m (i + 1) (p + length (text_of l)))) bad
