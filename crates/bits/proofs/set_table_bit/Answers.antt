-- `bits::set_table_bit` meets its contract: the entry is fetched, changed, and stored. Assumes nothing.
use mathlib.Core.Path.{◌∙◌}
use Rattle.bits.specs.TableBit.{set_table_bit}
use Rattle.bits.proofs.set_table_bit.Goals as goal

pub returns : goal.returns
unfolding set_table_bit
returns c =
    c.store.ensures ∙ rw (c.with_bit-set.ensures, c.fetch.ensures)
