use Rattle.float.proofs.Tens.{quotient_number, quotient_bits}
use Rattle.float.proofs.divided.Goals as goal

pub float_to_bits-result : goal.float_to_bits-result
float_to_bits-result c = quotient_number c.args.w c.args.e c.requires.0 c.requires.1 c.requires.2

pub returns : goal.returns
returns c = quotient_bits c.args.w c.args.e c.requires.0 c.requires.1 c.requires.2
