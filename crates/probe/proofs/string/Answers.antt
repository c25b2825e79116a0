-- A line that is measured reads, and has room.
use Rattle.std.proofs.Common.{◌∙◌, sym, ap, arith}
use Rattle.std.specs.Prelude.{Ok}
use Rattle.text.specs.Text.{quoted_says}
use Rattle.text.specs.Answers.{quoted_plain, quoted_escaped, quotes_two}
use Rattle.probe.proofs.string.Goals as goal

pub overflow_sub-line : goal.overflow_sub-line
overflow_sub-line c =
    let q = quotes_two _ _ (quoted_plain _ (ap (quoted_says c.args.line.now) (ap Ok (sym c.in-Plain.is)) ∙ c.in_ok-string_len.ensures)) in
    omega (arith, q)

pub slice_bounds-copy-count : goal.slice_bounds-copy-count
slice_bounds-copy-count c =
    let q = quotes_two _ _ (quoted_plain _ (ap (quoted_says c.args.line.now) (ap Ok (sym c.in-Plain.is)) ∙ c.in_ok-string_len.ensures)) in
    omega (arith, q)

pub slice_bounds-copy-start : goal.slice_bounds-copy-start
slice_bounds-copy-start c =
    let q = quotes_two _ _ (quoted_plain _ (ap (quoted_says c.args.line.now) (ap Ok (sym c.in-Plain.is)) ∙ c.in_ok-string_len.ensures)) in
    omega (arith, q)

pub unescape_string-n-requires : goal.unescape_string-n-requires
unescape_string-n-requires c =
    let h = quoted_escaped _ _ (ap (quoted_says c.args.line.now) (ap Ok (sym c.in-Escaped.is)) ∙ c.in_ok-string_len.ensures) in
    record { is = h.0; fits = omega (arith, h.1) }
