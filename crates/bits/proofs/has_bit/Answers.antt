-- `bits::has_bit` meets its contract: the code's test is the definition of a bit. Assumes nothing.
use Rattle.choice.proofs.Says.{says_eq}
use Rattle.bits.specs.Bit.{bit}
use Rattle.bits.proofs.has_bit.Goals as goal

pub returns : goal.returns
unfolding bit
returns c = says_eq _ 1
