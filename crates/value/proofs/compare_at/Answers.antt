use Rattle.std.proofs.Common.{◌≡◌, ℕ, List, ◌<◌, refl, sym, ◌∙◌, arith, rules}
use Rattle.value.specs.Value.{Value, one, count}
use Rattle.value.specs.Order.{order}
use Rattle.value.specs.Stands.{Stands, Begins}
use Rattle.value.specs.Told.{told, told_equal, told_unequal}
use Rattle.value.specs.Walk.{step-first}
use Prim.Native.Nat.{Ordering}
use Rattle.value.specs.Left.{StillToCompare, NextReadable, left_done, left_reads, left_decided, left_next, same_kind}
use Rattle.value.proofs.compare_at.Goals as goal

-- a value is left, so that both can be read
readable : (a s b t : List ℕ) (i j k l left : ℕ) (o : Ordering) (p : Begins a s i) (q : Begins b t j) → 0 < left
    → ((v w : Value) → Stands a s i (one v) → Stands b t j (one w) → StillToCompare a s b t k l left o (order v w))
    → NextReadable a s b t k l o (order p.value q.value) left
readable a s b t i j k l left o p q m h = left_reads a s b t k l o (order p.value q.value) left (omega arith) (h p.value q.value p.stands q.stands)

pub loop-walk-init : goal.loop-walk-init
unfolding told count
loop-walk-init c v w x y = record { first = one v; second = one w; stands₁ = x; stands₂ = y; count₁ = refl; count₂ = refl; same = step-first v w }

pub returns : goal.returns
returns c v w x y =
    let e : c.loop-walk.walk.left ≡ 0 = omega arith in
    left_done _ _ _ _ _ _ _ _ (rw e at (c.loop-walk.invariant v w x y))

pub compare_labels-order-requires : goal.compare_labels-order-requires
compare_labels-order-requires c =
    let h = readable _ _ _ _ _ _ _ _ _ _ c.requires.a_begins c.requires.b_begins c.loop-walk-test.true c.loop-walk.invariant in
    record { a_reads = h.reads₁; b_reads = h.reads₂ }

pub returns-then-is_ne : goal.returns-then-is_ne
returns-then-is_ne c v w x y = left_decided _ _ _ _ _ _ _ _ _ (omega arith) (c.loop-walk.invariant v w x y) _ (sym c.compare_labels-order.ensures) (told_unequal _ (search rules))

pub step-walk-requires : goal.step-walk-requires
step-walk-requires c =
    let h = readable _ _ _ _ _ _ _ _ _ _ c.requires.a_begins c.requires.b_begins c.loop-walk-test.true c.loop-walk.invariant in
    let e = same_kind _ _ _ _ _ _ h.reads₁ h.reads₂ (sym c.compare_labels-order.ensures ∙ told_equal _ (search rules)) in
    record { some = c.loop-walk-test.true; inside₁ = h.reads₁.inside; inside₂ = h.reads₂.inside; arity₁ = h.arity₁; arity₂ = h.arity₂; room = omega (arith, h.more); kinds = e }

pub overflow_add-k : goal.overflow_add-k
overflow_add-k c = omega (arith, (readable _ _ _ _ _ _ _ _ _ _ c.requires.a_begins c.requires.b_begins c.loop-walk-test.true c.loop-walk.invariant).reads₁.inside)

pub overflow_add-l : goal.overflow_add-l
overflow_add-l c = omega (arith, (readable _ _ _ _ _ _ _ _ _ _ c.requires.a_begins c.requires.b_begins c.loop-walk-test.true c.loop-walk.invariant).reads₂.inside)

pub loop-walk-smaller : goal.loop-walk-smaller
loop-walk-smaller c = omega (arith, (readable _ _ _ _ _ _ _ _ _ _ c.requires.a_begins c.requires.b_begins c.loop-walk-test.true c.loop-walk.invariant).reads₁.inside)

pub loop-walk-preserved : goal.loop-walk-preserved
loop-walk-preserved c v w x y = left_next _ _ _ _ _ _ _ _ _ _ _ (omega arith) (c.loop-walk.invariant v w x y) (sym c.compare_labels-order.ensures ∙ told_equal _ (search rules)) c.step-walk.ensures
