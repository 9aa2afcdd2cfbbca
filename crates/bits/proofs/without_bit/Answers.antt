-- `bits::without_bit` meets its contract: or, then exclusive or, with a 1 shifted to the bit's place. Assumes nothing.
use Rattle.bits.proofs.Bit.{clear_bit_code}
use Rattle.bits.proofs.without_bit.Goals as goal

pub returns : goal.returns
returns c = clear_bit_code c.args.m c.args.i c.requires
