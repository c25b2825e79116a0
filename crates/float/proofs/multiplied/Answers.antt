use Rattle.float.proofs.Tens.{product_number, product_bits}
use Rattle.float.proofs.multiplied.Goals as goal

pub float_to_bits-result : goal.float_to_bits-result
float_to_bits-result c = product_number c.args.w c.args.e c.requires.0 c.requires.1 c.requires.2

pub returns : goal.returns
returns c = product_bits c.args.w c.args.e c.requires.0 c.requires.1 c.requires.2
