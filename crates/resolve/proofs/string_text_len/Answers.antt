use Rattle.std.proofs.Common.{arith}
use Rattle.resolve.specs.Length.{plain_two, plain_len, escaped_len, unquoted_len}
use Rattle.resolve.proofs.string_text_len.Goals as goal

pub overflow_sub-result : goal.overflow_sub-result
overflow_sub-result c = omega (arith, plain_two _ _ c.string_len.ensures (rw c.in-Ok-Plain.field-0-is at c.in-Ok-Plain.is))

pub returns-in-Ok-Plain : goal.returns-in-Ok-Plain
returns-in-Ok-Plain c = plain_len _ _ c.string_len.ensures (rw c.in-Ok-Plain.field-0-is at c.in-Ok-Plain.is)

pub returns-in-Ok-Escaped : goal.returns-in-Ok-Escaped
returns-in-Ok-Escaped c = escaped_len _ _ c.string_len.ensures _ (rw c.in-Ok-Escaped.field-0-is at c.in-Ok-Escaped.is)

pub returns-in-Err : goal.returns-in-Err
returns-in-Err c = unquoted_len _ _ c.string_len.ensures _ c.in-Err.is
