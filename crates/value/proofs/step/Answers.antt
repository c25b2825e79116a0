-- Records with nothing in them are passed.
use Rattle.std.proofs.Common.{◌≡◌, false, sym, ◌∙◌, add-zero}
use Rattle.value.specs.Shape.{kind_in, holding}
use Rattle.value.specs.Stands.{word_at}
use Rattle.value.specs.Left.{step_past}
use Rattle.value.proofs.step.Goals as goal

pub returns : goal.returns
returns c =
    let e : holding (kind_in (word_at c.args.a.now c.args.k 0)) ≡ false = rw add-zero (rw c.head_of.ensures at (sym c.holds.ensures ∙ c.if-holds.false)) in
    step_past c.args.a.now c.args.b.now c.args.k c.args.l _ _ c.requires e
