use Rattle.std.proofs.Common.{◌≡◌, ◌⊎◌, inl, inr, get_or, sym, ◌∙◌, eq-eqb, eqb-true, arith}
use Rattle.std.proofs.lemmas.Bool.{false≢true}
use Rattle.float.proofs.Scans.{exponent_empty, exponent-read, exponent-none}
use Rattle.float.proofs.exponent_of.Goals as goal
use Rattle.float.proofs.exponent_of.Goals.{then-b-eq101, else-b-eq101}

pub returns-in-empty : goal.returns-in-empty
returns-in-empty c = exponent_empty c.args.text.now (omega arith)

pub returns-in-len1-up : goal.returns-in-len1-up
returns-in-len1-up c =
    let s = c.args.text.now in
    let k : (get_or s 0 0 ≡ 0x45) ⊎ (get_or s 0 0 ≡ 0x65) =
    elim c.if-b-eq101.branch [ then-b-eq101 w ↦ inr w.if-b-eq101.true | else-b-eq101 w ↦ inl (eqb-true _ _ (sym w.value-is ∙ c.if-b-eq69.true)) ] in
    c.power_of.ensures ∙ exponent-read s (omega arith) _ _ k c.split_sign-negative.ensures.0 c.split_sign-negative.ensures.1

pub returns-in_default : goal.returns-in_default
returns-in_default c =
    let s = c.args.text.now in
    exponent-none s (omega arith)
    (λ k. elim c.if-b-eq101.branch [ then-b-eq101 w ↦ grind arith | else-b-eq101 w ↦ elim k [ inl e ↦ false≢true (sym c.if-b-eq69.false ∙ w.value-is ∙ eq-eqb _ _ e) | inr e ↦ w.if-b-eq101.false e ] ])
