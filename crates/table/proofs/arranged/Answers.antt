-- Each arm by the kind.
use Rattle.std.proofs.Common.{◌≡◌, ◌∙◌, ◌*◌, ℕ, ap, sym, arith, get_or}
use Rattle.std.proofs.lemmas.Bool.Decides.{nat_tests}
use Rattle.std.proofs.Math.Dec.{eqb}
use Rattle.value.specs.Shape.{kind_in}
use Rattle.value.specs.Stands.{word_at}
use Rattle.table.specs.Sound.{first_word}
use Rattle.table.specs.Items.{arranged_by, first_kind, arranged_items, arranged_keys, arranged_object, held_first}
use Rattle.table.proofs.ByKind.{kind_of}
use Rattle.table.proofs.arranged.Goals as goal

pub overflow_mul-i : goal.overflow_mul-i
overflow_mul-i c = omega (arith, held_first _ _ _ _ c.requires.held (c.requires.object_has_arguments (sym (kind_of c.args.a c.head_of.ensures) ∙ c.in-12.is)))

pub offset_bounds-words-i : goal.offset_bounds-words-i
offset_bounds-words-i c = omega (arith, held_first _ _ _ _ c.requires.held (c.requires.object_has_arguments (sym (kind_of c.args.a c.head_of.ensures) ∙ c.in-12.is)))

pub bounds-words-i : goal.bounds-words-i
bounds-words-i c = omega (arith, held_first _ _ _ _ c.requires.held (c.requires.object_has_arguments (sym (kind_of c.args.a c.head_of.ensures) ∙ c.in-12.is)))

pub returns-in-8 : goal.returns-in-8
returns-in-8 c f s n = c.ascends-in-8.ensures f s n ∙ arranged_items c.args.a _ f (kind_of c.args.a c.head_of.ensures) (omega arith) (omega arith)

pub returns-in-10 : goal.returns-in-10
returns-in-10 c f s n = c.ascends.ensures f s n ∙ arranged_keys c.args.a _ f (kind_of c.args.a c.head_of.ensures) (omega arith) (omega arith)

pub returns-in-12 : goal.returns-in-12
returns-in-12 c f s n =
    let k = kind_of c.args.a c.head_of.ensures in
    let some = c.requires.object_has_arguments (sym k ∙ c.in-12.is) in
    let e : c.head_of-in-12.result.kind ≡ kind_in (word_at c.args.words.now c.args.i 0) = rw (first_word c.args.words.now c.args.i) at (kind_of (get_or c.args.words.now (4 * c.args.i) 0) c.head_of-in-12.ensures) in
    ap (λ (x : ℕ). eqb x 7) e ∙ sym (first_kind c.args.words.now c.args.text.now c.args.i f s (omega arith)) ∙ arranged_object c.args.a _ f k (omega arith)

pub returns-in_default : goal.returns-in_default
unfolding arranged_by
returns-in_default c f s n = rw (← kind_of c.args.a c.head_of.ensures) (grind (arith, nat_tests))

pub returns-in_default-2 : goal.returns-in_default-2
unfolding arranged_by
returns-in_default-2 c f s n = rw (← kind_of c.args.a c.head_of.ensures) (grind (arith, nat_tests))
