use Rattle.std.proofs.Common.{◌∙◌}
use Rattle.resolve.specs.Length.{unicode_len}
use Rattle.resolve.proofs.unicode_text_len.Goals as goal

pub returns : goal.returns
returns c = c.unwrap_or.ensures ∙ unicode_len _ _ c.unicode_len.ensures
