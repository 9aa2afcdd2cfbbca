-- `bits::with_bit` meets its contract: or with a 1 shifted to the bit's place. Assumes nothing.
use Rattle.bits.proofs.Bit.{set_bit_code}
use Rattle.bits.proofs.with_bit.Goals as goal

pub returns : goal.returns
returns c = set_bit_code c.args.m c.args.i c.requires
