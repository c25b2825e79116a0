-- A line that is refused has no bytes.
use Rattle.std.proofs.Common.{refl, length-take, length-drop, arith}
use Rattle.text.specs.Pieces.{bytes_of}
use Rattle.text.specs.Text.{unescape_string}
use Rattle.text.specs.Answers.{quoted_read, quoted_bad}
use Rattle.resolve.specs.Spell.{put_back}
use Rattle.resolve.proofs.texts.put_string.Goals as goal

pub unescape_string-requires : goal.unescape_string-requires
unescape_string-requires c = record { is = quoted_read _ _ c.in-Ok.ensures; fits = simp (length-take, length-drop) (omega (arith, c.requires)) }

pub returns-in-Ok : goal.returns-in-Ok
returns-in-Ok c =
    record {
      count = c.unescape_string.ensures.count;
      bytes = put_back (bytes_of (unescape_string c.args.line.now)) c.args.decoded.now c.unescape_string.new.out c.args.at c.requires c.unescape_string.ensures.bytes;
    }

pub returns-in-Err : goal.returns-in-Err
unfolding bytes_of
returns-in-Err c = let e = quoted_bad c.args.line.now _ c.in-Err.ensures in rw e (record { count = refl; bytes = refl })
