use Rattle.std.proofs.Common.{◌≡◌, arith}
use Rattle.text.specs.Text.{inner}
use Rattle.text.proofs.Quotes.{reads_quotes, value-inner}
use Rattle.text.proofs.unescape_string.Goals as goal

pub unwrap-requires : goal.unwrap-requires
unwrap-requires c = let q = reads_quotes _ c.requires.is in grind (arith, q, c.between_quotes.ensures)

pub write_inner-requires : goal.write_inner-requires
write_inner-requires c =
    let q = reads_quotes _ c.requires.is in
    let e : c.unwrap.result.now ≡ inner c.args.line.now = (rw c.unwrap.ensures at c.between_quotes.ensures).1 in
    rw e (rw (value-inner _ q) at c.requires)

pub returns : goal.returns
returns c =
    let q = reads_quotes _ c.requires.is in
    let e : c.unwrap.result.now ≡ inner c.args.line.now = (rw c.unwrap.ensures at c.between_quotes.ensures).1 in
    rw (value-inner _ q) (rw e at c.write_inner.ensures)
