-- Whatever numbers are compared, they have to be x and y.
use Rattle.std.proofs.Common.{◌∙◌, ap, rules, arith}
use Rattle.std.proofs.lemmas.Int.{to_z-of_z}
use mir.Syntax.{w64}
use mir.Val.{SFits}
use Rattle.value.specs.Told.{told, told_ints}
use Rattle.value.proofs.compare_ints.Goals as goal

pub returns : goal.returns
returns c =
    let fx : SFits w64 c.cast_signed.result = search rules in
    let fy : SFits w64 c.cast_signed-2.result = search rules in
    let e = simp to_z-of_z at c.cmp.ensures in
    ap told (rw (c.cast_signed.ensures, c.cast_signed-2.ensures) at e) ∙ grind (arith, told_ints c.args.x c.args.y c.ranges.x.fits c.ranges.y.fits)
