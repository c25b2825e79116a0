use Rattle.std.proofs.Common.{◌≡◌, ◌⊎◌, inl, inr, get_or, sym, ◌∙◌, eq-eqb, ne_eqb, arith}
use Rattle.float.proofs.Scans.{minus-first, minus-none, sign_empty, sign_off, sign_none}
use Rattle.float.proofs.split_sign.Goals as goal
use Rattle.float.proofs.split_sign.Goals.{in_default-via-then-text-lt1, in_default-via-in-len1-up-2+else-b-eq43}

pub returns-in-len1-up : goal.returns-in-len1-up
returns-in-len1-up c =
    let s = c.args.text.now in
    (sym (eq-eqb _ _ c.if-b-eq45.true) ∙ minus-first s (omega arith), sign_off s (omega arith) (inr c.if-b-eq45.true))

pub returns-in-len1-up-2 : goal.returns-in-len1-up-2
returns-in-len1-up-2 c =
    let s = c.args.text.now in
    (sym (ne_eqb _ _ c.if-b-eq45.false) ∙ minus-first s (omega arith), sign_off s (omega arith) (inl c.if-b-eq43.true))

pub returns-in_default : goal.returns-in_default
returns-in_default c =
    let s = c.args.text.now in
    elim c.in_default.branch [
      | in_default-via-then-text-lt1 w ↦ (minus-none s (grind arith), sign_empty s (grind arith))
      | in_default-via-in-len1-up-2+else-b-eq43 w ↦
          let no : (get_or s 0 0 ≡ 43) ⊎ (get_or s 0 0 ≡ 45) → ⊥ = λ e. elim e [ inl x ↦ w.if-b-eq43.false x | inr x ↦ w.if-b-eq45.false x ] in
          (sym (ne_eqb _ _ w.if-b-eq45.false) ∙ minus-first s (omega arith), sign_none s (omega arith) no)
    ]
