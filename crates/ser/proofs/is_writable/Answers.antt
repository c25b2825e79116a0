-- All records, from the first on.
use Rattle.std.proofs.Common.{ℕ, zero, suc, ◌+◌, ◌∙◌, ◌≡◌, refl, ap, rules, tests, arith, Bool, List}
use mathlib.Core.Bool.{◌&&◌}
use Rattle.std.specs.List.{list_all, range_with_len}
use Rattle.std.proofs.lemmas.Iterator.{YieldsList-from_range}
use Rattle.std.proofs.lemmas.Iterator.Search.{all_from_yields_List}
use Rattle.value.specs.Stands.{label_at}
use Rattle.ser.specs.Writable.{writable_label, writable_from}
use Rattle.ser.proofs.is_writable.Goals as goal

all_records : (w t : List ℕ) (i n : ℕ) → list_all (λ k. writable_label (label_at w t k)) (range_with_len i n) ≡ writable_from w t i n
unfolding writable_from
all_records w t i zero = refl
all_records w t i (suc n) = ap (λ (b : Bool). writable_label (label_at w t i) && b) (all_records w t (i + 1) n)

pub returns : goal.returns
returns c =
    let chain = YieldsList-from_range 0 c.args.count c.args.count refl (omega arith) in
    let e = all_from_yields_List (λ k. writable_label (label_at c.args.words.now c.args.text.now k)) _ _ c.all.result c.all.ensures.ran chain (λ x b q k. search (rules, tests)) in
    e ∙ all_records c.args.words.now c.args.text.now 0 c.args.count
