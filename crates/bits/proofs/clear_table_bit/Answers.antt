-- `bits::clear_table_bit` meets its contract: the entry is fetched, changed, and stored. Assumes nothing.
use mathlib.Core.Path.{◌∙◌}
use Rattle.bits.specs.TableBit.{clear_table_bit}
use Rattle.bits.proofs.clear_table_bit.Goals as goal

pub returns : goal.returns
unfolding clear_table_bit
returns c =
    c.store.ensures ∙ rw (c.without_bit-cleared.ensures, c.fetch.ensures)
