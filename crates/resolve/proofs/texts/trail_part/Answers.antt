use Rattle.std.proofs.Common.{◌∙◌, add-one, arith}
use borrow.Author.Tests.{eqb-false}
use Rattle.value.specs.Shape.{kind_in}
use Rattle.steps.specs.NodeWords.{first, second, class_in}
use Rattle.resolve.specs.Place.{trail_decoded, trail-global, trail-object, trail-leaf}
use Rattle.resolve.proofs.texts.trail_part.Goals as goal

pub returns-then-measure-ge-DECODED : goal.returns-then-measure-ge-DECODED
returns-then-measure-ge-DECODED c = c.cut.ensures ∙ trail_decoded c.args.pickle.now c.args.decoded.now c.args.nodes.now c.args.measures.now c.args.node.0 c.if-measure-ge-DECODED.true

pub bounds-nodes-class : goal.bounds-nodes-class
unfolding kind_in first class_in
bounds-nodes-class c = omega (arith, c.requires.class c.in-12.is)

pub returns-in-11 : goal.returns-in-11
unfolding kind_in first second
returns-in-11 c = c.raw_text.ensures ∙ rw add-one (trail-global c.args.pickle.now c.args.decoded.now c.args.nodes.now c.args.measures.now c.args.node.0 c.if-measure-ge-DECODED.false c.in-11.is)

pub returns-in-12 : goal.returns-in-12
unfolding kind_in first second class_in
returns-in-12 c = c.raw_text-in-12.ensures ∙ rw add-one (trail-object c.args.pickle.now c.args.decoded.now c.args.nodes.now c.args.measures.now c.args.node.0 c.if-measure-ge-DECODED.false c.in-12.is)

pub returns-in_default : goal.returns-in_default
unfolding kind_in first second
returns-in_default c = trail-leaf c.args.pickle.now c.args.decoded.now c.args.nodes.now c.args.measures.now c.args.node.0 c.if-measure-ge-DECODED.false (λ k. omega (arith, eqb-false, k)) (λ k. omega (arith, eqb-false, k))
