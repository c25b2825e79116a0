use Rattle.std.proofs.Common.{arith}
use Rattle.ser.proofs.Laws.{appends_few}
use Rattle.ser.proofs.contents_len.Goals as goal

pub overflow_add-result : goal.overflow_add-result
overflow_add-result c = omega (arith, c.appends_len-in-8.ensures, appends_few c.args.count c.requires.count_bound)
