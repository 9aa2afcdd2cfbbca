-- The map of the lists: which lists are not empty. It stands in the first words of the table whose other entries are
-- the list heads. Its users know it by `map_bit`, `mark_bit`, `unmark_bit` and their laws alone. How many words it has, and
-- how they hang together, is said in this file and in the code of this crate, and nowhere else: more lists, or a
-- summary above the words, would change what the shut names stand for and not the laws.
use Rattle.std.specs.Prelude.{ℕ, ◌*◌, List}
use Rattle.choice.specs.Choice.{if_le}
use Rattle.bits.specs.TableBit.{table_bit, set_table_bit, clear_table_bit}

-- the words of the map
abbrev pub map_words : ℕ
map_words = 3

-- the lists that it has a bit for. As a list number it stands for none
abbrev pub lists : ℕ
lists = 64 * map_words

-- 1 where list k is marked, else 0
unfoldable pub map_bit : List ℕ → ℕ → ℕ
map_bit t k = if_le lists k 0 (table_bit t k)

-- the table with list k marked
unfoldable pub mark_bit : List ℕ → ℕ → List ℕ
mark_bit t k = set_table_bit t k

-- the table with list k unmarked
unfoldable pub unmark_bit : List ℕ → ℕ → List ℕ
unmark_bit t k = clear_table_bit t k
