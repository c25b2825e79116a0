-- One law for each return.
use Rattle.std.proofs.Common.{◌∙◌, ◌-◌, ◌≤◌, sym, arith, length}
use Rattle.value.specs.Shape.{kind_in}
use Rattle.value.specs.Stands.{word_at, arity_at}
use Rattle.table.specs.Record.{span_of}
use Rattle.table.specs.Sound.{first_word}
use Rattle.table.specs.Check.{HeadSays, wrong_first, wrong_second, wrong_span, wrong_many, wrong_names, header, known}
use Rattle.table.proofs.Words.{word0_right, word0_wrong, word1_right, word1_wrong, span_at, names_at}
use Rattle.table.proofs.head.Goals as goal
use Rattle.table.proofs.head.Goals.{then-a-word0-via-then-a-word0, then-a-word0-via-else-a-word0+then-b-word1, then-inside-count-via-then-inside-count, then-inside-count-via-else-inside-count+then-not-named}

pub returns-then-a-word0 : goal.returns-then-a-word0
unfolding HeadSays
returns-then-a-word0 c =
    elim c.then-a-word0.branch [
      | then-a-word0-via-then-a-word0 w ↦ wrong_first _ _ _ c.requires.lent c.args.i _ c.requires.at_in_bounds (word0_wrong c.args.words.now c.args.i c.word0.ensures w.if-a-word0.true)
      | then-a-word0-via-else-a-word0+then-b-word1 w ↦
          wrong_second _ _ _ c.requires.lent c.args.i _ c.requires.at_in_bounds (word0_right c.args.words.now c.args.i c.word0.ensures w.if-a-word0.false) (word1_wrong c.args.words.now c.args.i c.args.at w.word1.ensures w.if-b-word1.true)
    ]

pub returns-then-long-text : goal.returns-then-long-text
unfolding HeadSays
returns-then-long-text c =
    let s = span_at c.args.words.now c.args.i c.span-long.ensures in
    wrong_span _ _ _ c.requires.lent c.args.i _ c.requires.at_in_bounds (word0_right c.args.words.now c.args.i c.word0.ensures c.if-a-word0.false) (word1_right c.args.words.now c.args.i c.args.at c.word1.ensures c.if-b-word1.false) (omega arith)

pub arity-inside-requires : goal.arity-inside-requires
arity-inside-requires c = rw (first_word c.args.words.now c.args.i) (known _ _ _ c.requires.lent c.args.i _ c.requires.at_in_bounds (word0_right c.args.words.now c.args.i c.word0.ensures c.if-a-word0.false))

pub returns-then-inside-count : goal.returns-then-inside-count
unfolding HeadSays arity_at
returns-then-inside-count c =
    let w = c.args.words.now in
    let s = span_at w c.args.i c.span-long.ensures in
    let first = word0_right w c.args.i c.word0.ensures c.if-a-word0.false in
    let second = word1_right w c.args.i c.args.at c.word1.ensures c.if-b-word1.false in
    let third : span_of (kind_in (word_at w c.args.i 0)) (word_at w c.args.i 2) ≤ length c.args.text.now - c.args.at = omega arith in
    elim c.then-inside-count.branch [
      | then-inside-count-via-then-inside-count x ↦
          let e = rw (first_word w c.args.i) at c.arity-inside.ensures in
          wrong_many _ _ _ c.requires.lent c.args.i _ c.requires.at_in_bounds first second third c.requires.i_lt_count (omega (arith, c.requires.lent.few))
      | then-inside-count-via-else-inside-count+then-not-named x ↦
          wrong_names _ _ _ c.requires.lent c.args.i _ c.requires.at_in_bounds first second third (sym (names_at w c.args.i c.args.at c.args.text.now x.named.ensures) ∙ x.if-not-named.true)
    ]

pub returns : goal.returns
unfolding HeadSays arity_at
returns c =
    let w = c.args.words.now in
    let s = span_at w c.args.i c.span-long.ensures in
    let first = word0_right w c.args.i c.word0.ensures c.if-a-word0.false in
    let second = word1_right w c.args.i c.args.at c.word1.ensures c.if-b-word1.false in
    let third : span_of (kind_in (word_at w c.args.i 0)) (word_at w c.args.i 2) ≤ length c.args.text.now - c.args.at = omega arith in
    let e = rw (first_word w c.args.i) at c.arity-inside.ensures in
    let few = c.requires.lent.few in
    header _ _ _ c.requires.lent c.args.i _ c.requires.at_in_bounds first second third s (omega arith) (omega arith) (sym (names_at w c.args.i c.args.at c.args.text.now c.named.ensures) ∙ c.if-not-named.false)
