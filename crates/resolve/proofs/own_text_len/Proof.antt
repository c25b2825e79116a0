-- `resolve::own_text_len` meets its contract: only an Object has a text of its own, its class's.
use borrow.Author.Rules.{rules}
use Rattle.resolve.proofs.own_text_len.Statement.{statement}
use Rattle.resolve.proofs.own_text_len.Tie as tie
use native.Mathlib.Omega.{arith}
use Rattle.resolve.specs.MeasureWord.{pack_w}
use Rattle.resolve.specs.Class.{own_none, own_kept, own_new}

-- ---- the places: it is an Object, its class's measure is read, its class is to be measured

abbrev start : tie.Else-kind-ne-KIND_OBJECT → tie.Start
start c = c.before.before.before.before

abbrev object : tie.Else-m-ne0 → tie.Else-kind-ne-KIND_OBJECT
object c = c.before.before.before

-- ---- the needs

returns : tie.Need-returns-then-kind-ne-KIND_OBJECT
returns c = own_none _ _ _ _ _ c.requires c.if-kind-ne-KIND_OBJECT.true

returns-2 : tie.Need-returns-then-m-ne0
returns-2 c = let e = c.before.before.before in own_kept _ _ _ _ _ (start e).requires e.if-kind-ne-KIND_OBJECT.false c.if-m-ne0.true

add-measures : tie.Need-overflow_add-measures
unfolding pack_w
add-measures c = omega (arith, c.leaf_word-w.ensures)

returns-3 : tie.Need-returns
returns-3 c =
    let e = object c.before in
    own_new _ _ _ _ _ (start e).requires _ e.if-kind-ne-KIND_OBJECT.false c.if-m-ne0.false c.leaf_word-w.ensures

pub own_text_len_spec : {M : Type 1} → statement M
own_text_len_spec =
    tie.close
    (tie.spec
    returns (λ c. search rules) (λ c. search rules) (λ c. search rules)
    (λ c. omega (arith, (start c.before).requires.class_below c.if-kind-ne-KIND_OBJECT.false))
    (λ c. omega (arith, (start c.before.before).requires.class_below c.if-kind-ne-KIND_OBJECT.false)) returns-2
    (λ c κs. let e = object c in (start e).requires.class_reads e.if-kind-ne-KIND_OBJECT.false) add-measures
    (λ c. let e = object c.before in omega (arith, (start e).requires.class_below e.if-kind-ne-KIND_OBJECT.false))
    (λ c. let e = object c.before in (start e).requires.class_below e.if-kind-ne-KIND_OBJECT.false) (λ c. search rules) returns-3)
