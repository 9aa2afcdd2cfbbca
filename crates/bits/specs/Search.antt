-- How the search for the first marked list goes from word to word of the map: what one word answers is the answer, or
-- the search goes on with the next. Only the proofs of this crate's code use this file.
use Rattle.std.specs.Prelude.{ℕ, ◌-◌, List}
use Rattle.table.specs.Table.{entry}
use Rattle.bits.specs.Bit.{bit}
use Rattle.bits.specs.First.{first_set}
use Rattle.bits.specs.Map.{lists, map_bit}

-- the first bit set of word i from place b on, 64 where there is none
abbrev pub in_word : List ℕ → ℕ → ℕ → ℕ
in_word t i b = first_set (bit (entry t i)) (64 - b) b

-- the first marked list from k on
abbrev pub first_marked : List ℕ → ℕ → ℕ
first_marked t k = first_set (map_bit t) (lists - k) k
