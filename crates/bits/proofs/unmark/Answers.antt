-- `bits::unmark` meets its contract: a list's bit is the table's. Assumes nothing.
use Rattle.bits.specs.Map.{unmark_bit}
use Rattle.bits.proofs.unmark.Goals as goal

pub returns : goal.returns
unfolding unmark_bit
returns c = c.clear_table_bit.ensures
