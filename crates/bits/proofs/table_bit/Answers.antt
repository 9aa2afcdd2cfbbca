-- `bits::table_bit` meets its contract: the code is the definition of a bit, on the entry that it fetched. Assumes nothing.
use Rattle.bits.specs.Bit.{bit}
use Rattle.bits.specs.TableBit.{table_bit}
use Rattle.bits.proofs.table_bit.Goals as goal

pub returns : goal.returns
unfolding bit table_bit
returns c = rw c.fetch.ensures
