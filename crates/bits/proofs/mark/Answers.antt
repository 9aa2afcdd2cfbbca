-- `bits::mark` meets its contract: a list's bit is the table's. Assumes nothing.
use Rattle.bits.specs.Map.{mark_bit}
use Rattle.bits.proofs.mark.Goals as goal

pub returns : goal.returns
unfolding mark_bit
returns c = c.set_table_bit.ensures
