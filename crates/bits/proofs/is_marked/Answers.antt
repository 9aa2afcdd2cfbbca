-- `bits::is_marked` meets its contract: a list's bit is the table's. Assumes nothing.
use mathlib.Core.Path.{sym, ◌∙◌}
use Rattle.choice.proofs.Says.{says_eq}
use Rattle.bits.proofs.Map.{map_bit_is}
use Rattle.bits.proofs.is_marked.Goals as goal

pub returns : goal.returns
returns c = rw (map_bit_is c.args.t.now c.args.k c.requires.1 ∙ sym c.table_bit.ensures) (says_eq c.table_bit.result 1)
