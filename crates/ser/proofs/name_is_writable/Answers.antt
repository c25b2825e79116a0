use Rattle.ser.proofs.Laws.{name_writable}
use Rattle.ser.proofs.name_is_writable.Goals as goal

pub returns-then-not-contains : goal.returns-then-not-contains
returns-then-not-contains c = name_writable c.args.name.now c.contains.ensures.value c.ends_with.ensures.value c.if-not-contains.true
