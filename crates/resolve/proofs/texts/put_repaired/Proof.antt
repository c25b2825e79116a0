-- `texts::put_repaired` meets its contract: what is put at the start of the rest of the room. Assumes nothing.
use borrow.Author.Rules.{rules}
use Rattle.resolve.proofs.texts.put_repaired.Statement.{statement}
use Rattle.resolve.proofs.texts.put_repaired.Tie as tie
use Rattle.utf8.specs.Utf8.{repair}
use Rattle.resolve.specs.Spell.{sets_back}

returns : tie.Need-returns
returns c =
    record {
      count = c.from_utf8_lossy.ensures.0;
      bytes = sets_back (repair c.args.bytes.now) c.args.decoded.now c.from_utf8_lossy.new.out c.args.at c.requires c.from_utf8_lossy.ensures.1;
    }

pub put_repaired_spec : {M : Type 1} → statement M
put_repaired_spec = tie.close (tie.spec (λ c. search rules) (λ c. search rules) (λ c. search rules) (λ c κs. search rules) (λ c. search rules) returns)
