-- Items for the container below them.
use Rattle.std.proofs.Common.{arith}
use Rattle.store.specs.Effects.{says_refused}
use Rattle.decoder.specs.Items.{Adds}
use Rattle.decoder.specs.StackSteps.{words_room, added_underflow, wrong_lent, extends_lent}
use Rattle.decoder.proofs.grown.Goals as goal

pub returns-then-keep-eq0 : goal.returns-then-keep-eq0
unfolding Adds
returns-then-keep-eq0 c = let p = c.requires.within_stack in λ r s a b. says_refused _ r _ _ (added_underflow r _ s _ _ _ _ _ p.2 p.0 p.1 c.if-keep-eq0.true)

pub kind-requires : goal.kind-requires
kind-requires c = let l = c.requires.some_rooms in words_room _ l.rooms l.sound _ _ l.agrees.0 l.agrees.1 _ (omega (arith, c.if-keep-eq0.false, c.requires.within_stack.0))

pub returns-then-kind-container : goal.returns-then-kind-container
unfolding Adds
returns-then-kind-container c = let p = c.requires.within_stack in λ r s a b. wrong_lent _ _ _ r s a b _ _ _ _ p.2 p.0 p.1 c.if-keep-eq0.false (rw c.kind.ensures at c.if-kind-container.true)

pub returns : goal.returns
unfolding Adds
returns c = let p = c.requires.within_stack in λ r s a b. extends_lent _ _ _ r s a b _ _ _ _ p.2 p.0 p.1 c.if-keep-eq0.false (rw c.kind.ensures at c.if-kind-container.false)
