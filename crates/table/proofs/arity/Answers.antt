-- Each arm by the kind.
use Rattle.std.proofs.Common.{◌≡◌, ◌+◌, Bool, true, false, suc, min, refl, arith}
use Rattle.std.proofs.lemmas.Bool.Decides.{nat_tests}
use Rattle.value.specs.Value.{bit}
use Rattle.value.specs.Shape.{arity_of}
use Rattle.table.proofs.ByKind.{kind_of, state_of}
use Rattle.table.proofs.arity.Goals as goal

few : (s : Bool) → 1 + bit s ≡ min 4096 (suc (bit s))
few true = refl
few false = refl

pub returns-in-10 : goal.returns-in-10
unfolding arity_of
returns-in-10 c = rw (← kind_of c.args.a c.head_of-head.ensures) (grind (arith, nat_tests))

pub returns-in-6-to-9 : goal.returns-in-6-to-9
unfolding arity_of
returns-in-6-to-9 c = rw (← kind_of c.args.a c.head_of-head.ensures) (grind (arith, nat_tests))

pub returns-in_default : goal.returns-in_default
unfolding arity_of
returns-in_default c = rw (← kind_of c.args.a c.head_of-head.ensures) (grind (arith, nat_tests))

pub returns-in_default-2 : goal.returns-in_default-2
unfolding arity_of
returns-in_default-2 c = rw (← kind_of c.args.a c.head_of-head.ensures) (grind (arith, nat_tests))

pub returns-in-12 : goal.returns-in-12
unfolding arity_of
returns-in-12 c =
    let e : c.from.result ≡ bit c.head_of-head.result.state = c.from.ensures in
    rw (← kind_of c.args.a c.head_of-head.ensures, c.in-12.is, ← state_of c.args.a c.head_of-head.ensures, e) (few c.head_of-head.result.state)
