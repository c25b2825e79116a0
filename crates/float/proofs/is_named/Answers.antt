use Rattle.std.proofs.Common.{sym, ◌∙◌}
use Rattle.std.proofs.lemmas.Bool.{false≢true}
use Rattle.float.proofs.Scans.{word_told, word_inf, word-infinity, word_nan}
use Rattle.float.proofs.is_named.Goals as goal
use Rattle.float.proofs.is_named.Goals.{then-eq_ignore_ascii_case, else-eq_ignore_ascii_case}

pub returns-then-eq_ignore_ascii_case-2 : goal.returns-then-eq_ignore_ascii_case-2
returns-then-eq_ignore_ascii_case-2 c =
    let s = c.args.text.now in
    let one = word_told s _ _ c.eq_ignore_ascii_case.ensures.test in
    elim c.if-eq_ignore_ascii_case.branch [
      | then-eq_ignore_ascii_case w ↦ w.value-is ∙ w.if-eq_ignore_ascii_case.true ∙ word_inf s (one ∙ w.if-eq_ignore_ascii_case.true)
      | else-eq_ignore_ascii_case w ↦
          let two = word_told s _ _ w.eq_ignore_ascii_case-else-eq_ignore_ascii_case.ensures.test in
          c.if-eq_ignore_ascii_case-2.true ∙ word-infinity s (one ∙ w.if-eq_ignore_ascii_case.false) (two ∙ sym w.value-is ∙ c.if-eq_ignore_ascii_case-2.true)
    ]

pub returns-else-eq_ignore_ascii_case-2 : goal.returns-else-eq_ignore_ascii_case-2
returns-else-eq_ignore_ascii_case-2 c =
    let s = c.args.text.now in
    let one = word_told s _ _ c.eq_ignore_ascii_case.ensures.test in
    let three = word_told s _ _ c.eq_ignore_ascii_case-else-eq_ignore_ascii_case-2.ensures.test in
    elim c.if-eq_ignore_ascii_case.branch [
      | then-eq_ignore_ascii_case w ↦ absurd (false≢true (sym c.if-eq_ignore_ascii_case-2.false ∙ w.value-is ∙ w.if-eq_ignore_ascii_case.true))
      | else-eq_ignore_ascii_case w ↦
          let two = word_told s _ _ w.eq_ignore_ascii_case-else-eq_ignore_ascii_case.ensures.test in
          word_nan s (one ∙ w.if-eq_ignore_ascii_case.false) (two ∙ sym w.value-is ∙ c.if-eq_ignore_ascii_case-2.false) three
    ]
