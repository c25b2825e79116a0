use Rattle.std.proofs.Common.{◌∙◌, arith, refl}
use Rattle.output.specs.Decimal.{figures-length}
use Rattle.output.proofs.Laws.{figures_turn, figures-done}
use Rattle.output.proofs.put_figures.Goals as goal

pub overflow_add-output : goal.overflow_add-output
overflow_add-output c = omega (arith, c.requires.room.fits, figures-length c.args.base c.args.count c.args.n)

pub bounds-output-at : goal.bounds-output-at
bounds-output-at c = omega (arith, c.requires.room.fits, figures-length c.args.base c.args.count c.args.n)

pub loop-place-preserved : goal.loop-place-preserved
loop-place-preserved c =
    figures_turn c.loop-place.output _ c.args.at c.args.base c.loop-place.place c.loop-place.rest _ c.loop-place-test.true c.digit.ensures refl
    ∙ c.loop-place.invariant

pub overflow_add-result : goal.overflow_add-result
overflow_add-result c = omega (arith, c.requires.room.fits, figures-length c.args.base c.args.count c.args.n)

pub returns : goal.returns
returns c = figures-done c.args.output.now c.loop-place.output c.args.at c.args.base c.loop-place.place c.loop-place.rest c.args.count c.args.n c.loop-place-test.false c.loop-place.invariant
