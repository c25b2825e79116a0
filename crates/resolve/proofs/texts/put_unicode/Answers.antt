-- A line that is refused has no bytes.
use Rattle.std.proofs.Common.{refl, length-take, length-drop, arith}
use Rattle.text.specs.Pieces.{bytes_of}
use Rattle.text.specs.Text.{unescape_unicode}
use Rattle.text.specs.Answers.{decoded_len, decoded_bad}
use Rattle.resolve.specs.Spell.{put_back}
use Rattle.resolve.proofs.texts.put_unicode.Goals as goal

pub unescape_unicode-requires : goal.unescape_unicode-requires
unescape_unicode-requires c = record { is = (decoded_len (unescape_unicode c.args.line.now) _ c.in-Ok.ensures).0; fits = simp (length-take, length-drop) (omega (arith, c.requires)) }

pub returns-in-Ok : goal.returns-in-Ok
returns-in-Ok c =
    record {
      count = c.unescape_unicode.ensures.count;
      bytes = put_back (bytes_of (unescape_unicode c.args.line.now)) c.args.decoded.now c.unescape_unicode.new.out c.args.at c.requires c.unescape_unicode.ensures.bytes;
    }

pub returns-in-Err : goal.returns-in-Err
unfolding bytes_of
returns-in-Err c = let e = decoded_bad (unescape_unicode c.args.line.now) _ c.in-Err.ensures in rw e (record { count = refl; bytes = refl })
