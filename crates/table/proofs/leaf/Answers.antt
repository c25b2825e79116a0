-- One law for each return.
use Rattle.std.proofs.Common.{◌≡◌, ◌∙◌, ◌-◌, ◌≤◌, ◌<◌, ℕ, List, true, false, sym, arith, length, drop}
use Rattle.value.specs.Shape.{kind_in, holding, nothing_held}
use Rattle.value.specs.Stands.{word_at, arity_at}
use Rattle.table.specs.Record.{right0, right1, span_of}
use Rattle.table.specs.Names.{names_right}
use Rattle.table.specs.Check.{Lent, Header, is_bad, wrong_first, wrong_second, wrong_span, wrong_names, header, leaf-ended}
use Rattle.table.proofs.Words.{word0_right, word0_wrong, word1_right, word1_wrong, span_at, names_at, sizes_second, sizes_third, sizes_both, leaf_kind}
use Rattle.table.proofs.leaf.Goals as goal
use Rattle.table.proofs.leaf.Goals.{then-a-word0-via-then-a-word0, then-a-word0-via-else-a-word0+then-b-word1, then-long-text-via-then-long-text, then-long-text-via-else-long-text+then-not-named, then-c-word2-via-then-c-word2, then-c-word2-via-else-c-word2+then-words-i-ne0}

none_in : (w : List ℕ) (i : ℕ) → holding (kind_in (word_at w i 0)) ≡ false → arity_at w i ≡ 0
unfolding arity_at
none_in w i h = nothing_held (word_at w i 0) (word_at w i 1) h

-- all but the sizes is right
headed : (w t : List ℕ) (i p s n : ℕ) → Lent w n t → i < n → p ≤ length t → holding (kind_in (word_at w i 0)) ≡ false → word_at w i 0 ≡ right0 (word_at w i 0)
    → word_at w i 1 ≡ right1 (kind_in (word_at w i 0)) (word_at w i 1) p → s ≡ span_of (kind_in (word_at w i 0)) (word_at w i 2) → s ≤ length t - p
    → names_right (kind_in (word_at w i 0)) (word_at w i 2) (drop p t) ≡ true → Header w n t i p s 0
headed w t i p s n lent lt b none first second span third names = header w n t lent i p b first second (omega arith) span (sym (none_in w i none)) (omega arith) names

pub returns-then-a-word0 : goal.returns-then-a-word0
returns-then-a-word0 c n k lent lt some =
    elim c.then-a-word0.branch [
      | then-a-word0-via-then-a-word0 w ↦ is_bad _ (wrong_first _ n _ lent c.args.i _ c.requires.at_in_bounds (word0_wrong c.args.words.now c.args.i c.word0.ensures w.if-a-word0.true) k)
      | then-a-word0-via-else-a-word0+then-b-word1 w ↦
          is_bad _ (wrong_second _ n _ lent c.args.i _ c.requires.at_in_bounds (word0_right c.args.words.now c.args.i c.word0.ensures w.if-a-word0.false) (word1_wrong c.args.words.now c.args.i c.args.at w.word1.ensures w.if-b-word1.true) k)
    ]

pub returns-then-long-text : goal.returns-then-long-text
returns-then-long-text c n k lent lt some =
    let w = c.args.words.now in
    let i = c.args.i in
    let s = span_at w i c.span-long.ensures in
    let first = word0_right w i c.word0.ensures c.if-a-word0.false in
    let second = word1_right w i c.args.at c.word1.ensures c.if-b-word1.false in
    elim c.then-long-text.branch [
      | then-long-text-via-then-long-text x ↦ is_bad _ (wrong_span _ n _ lent i _ c.requires.at_in_bounds first second (omega arith) k)
      | then-long-text-via-else-long-text+then-not-named x ↦
          is_bad _ (wrong_names _ n _ lent i _ c.requires.at_in_bounds first second (omega arith) (sym (names_at w i c.args.at c.args.text.now x.named.ensures) ∙ x.if-not-named.true) k)
    ]

pub returns-then-c-word2 : goal.returns-then-c-word2
returns-then-c-word2 c n k lent lt some =
    let w = c.args.words.now in
    let i = c.args.i in
    let s = span_at w i c.span-long.ensures in
    let first = word0_right w i c.word0.ensures c.if-a-word0.false in
    let second = word1_right w i c.args.at c.word1.ensures c.if-b-word1.false in
    let h = headed w c.args.text.now i c.args.at _ n lent lt c.requires.at_in_bounds c.requires.holds_none first second s (omega arith) (sym (names_at w i c.args.at c.args.text.now c.named.ensures) ∙ c.if-not-named.false) in
    elim c.then-c-word2.branch [
      | then-c-word2-via-then-c-word2 x ↦ leaf-ended _ n _ _ _ _ h c.requires.holds_none k some false (sizes_second w i c.word2.ensures x.if-c-word2.true)
      | then-c-word2-via-else-c-word2+then-words-i-ne0 x ↦ leaf-ended _ n _ _ _ _ h c.requires.holds_none k some false (sizes_third w i c.word2.ensures (leaf_kind _ h.known c.requires.holds_none) x.if-c-word2.false x.if-words-i-ne0.true)
    ]

pub returns : goal.returns
returns c n k lent lt some =
    let w = c.args.words.now in
    let i = c.args.i in
    let s = span_at w i c.span-long.ensures in
    let first = word0_right w i c.word0.ensures c.if-a-word0.false in
    let second = word1_right w i c.args.at c.word1.ensures c.if-b-word1.false in
    let h = headed w c.args.text.now i c.args.at _ n lent lt c.requires.at_in_bounds c.requires.holds_none first second s (omega arith) (sym (names_at w i c.args.at c.args.text.now c.named.ensures) ∙ c.if-not-named.false) in
    leaf-ended _ n _ _ _ _ h c.requires.holds_none k some true (sizes_both w i c.word2.ensures (leaf_kind _ h.known c.requires.holds_none) c.if-c-word2.false c.if-words-i-ne0.false)
