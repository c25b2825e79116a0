-- REDUCE of a class and its arguments.
use Rattle.std.proofs.Common.{◌/◌, refl, sym, ◌∙◌, ap, arith, get_or}
use Rattle.steps.specs.Opcodes.{reduce}
use Rattle.steps.specs.NodeWords.{object_word}
use Rattle.store.specs.Rooms.{kids_of}
use Rattle.store.specs.Effects.{Decides}
use Rattle.decoder.proofs.LawsCalls.{found, item_room, item_there, first-none, reduce-object, reduce-set}
use Rattle.decoder.proofs.reduced.Goals as goal

pub returns-then-made-eq-KIND_OBJECT : goal.returns-then-made-eq-KIND_OBJECT
unfolding Decides reduce object_word
returns-then-made-eq-KIND_OBJECT c = λ r s q. let f = found r _ _ _ _ _ _ _ _ _ s q.0 q.1 q.3 c.first_word.ensures c.second_word.ensures c.second_word-word.ensures c.made_kind-made.ensures in reduce-object r _ s _ _ f.call _ f.kind _ refl c.if-made-eq-KIND_OBJECT.true _ _ (omega arith) refl

pub returns-then-n-eq0 : goal.returns-then-n-eq0
unfolding Decides reduce object_word
returns-then-n-eq0 c = λ r s q. let f = found r _ _ _ _ _ _ _ _ _ s q.0 q.1 q.3 c.first_word.ensures c.second_word.ensures c.second_word-word.ensures c.made_kind-made.ensures in reduce-set r _ s _ _ f.call _ f.kind _ refl c.if-made-eq-KIND_OBJECT.false _ (first-none (kids_of r c.args.c c.args.arguments.0) _ (sym f.count ∙ c.if-n-eq0.true))

pub only_item-item-requires : goal.only_item-item-requires
only_item-item-requires c = let l = c.requires in let r = l.rooms in let s = l.sound in let q = l.agrees in let f = found r _ _ _ _ _ _ _ _ _ s q.0 q.1 q.3 c.first_word.ensures c.second_word.ensures c.second_word-word.ensures c.made_kind-made.ensures in rw l.agrees.2 at (item_room l.rooms _ _ _ _ _ l.sound f c.if-made-eq-KIND_OBJECT.false c.if-n-eq0.false)

pub returns : goal.returns
unfolding Decides reduce object_word
returns c = λ r s q. let f = found r _ _ _ _ _ _ _ _ _ s q.0 q.1 q.3 c.first_word.ensures c.second_word.ensures c.second_word-word.ensures c.made_kind-made.ensures in reduce-set r _ s _ _ f.call _ f.kind _ refl c.if-made-eq-KIND_OBJECT.false _ (c.only_item-item.ensures ∙ ap (λ l. get_or l (c.second_word-word.result / 0x1_0000_0000) 0) (sym q.2) ∙ item_there r _ _ _ _ _ s f c.if-made-eq-KIND_OBJECT.false c.if-n-eq0.false)
