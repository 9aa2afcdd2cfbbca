-- The bits of a table of numbers of 64 bits each, counted through: bit k is bit k % 64 of entry k / 64. The table may
-- have any length. The three names are shut.
use Rattle.std.specs.Prelude.{ℕ, ◌/◌, ◌%◌, List}
use Rattle.table.specs.Table.{entry, enter}
use Rattle.bits.specs.Bit.{bit, set_bit, clear_bit}

-- bit k of the table
unfoldable pub table_bit : List ℕ → ℕ → ℕ
table_bit t k = bit (entry t (k / 64)) (k % 64)

-- the table with bit k set
unfoldable pub set_table_bit : List ℕ → ℕ → List ℕ
set_table_bit t k = enter t (k / 64) (set_bit (entry t (k / 64)) (k % 64))

-- the table with bit k cleared
unfoldable pub clear_table_bit : List ℕ → ℕ → List ℕ
clear_table_bit t k = enter t (k / 64) (clear_bit (entry t (k / 64)) (k % 64))
