-- On a sound memory, around a used block: its payload leads to it, and what stands beside it is seen as it is. Of these
-- checks return and resize are made. The block and its free neighbours are together not too long for a list.
use Rattle.std.specs.Prelude.{ℕ}
use mathlib.Core.List.{List, [], ◌∷◌}
use Rattle.definition.specs.Blocks.{Block, free, used, last, gap, ◌⟨⟩◌}
use Rattle.definition.specs.Lists.{Lists}
use Rattle.definition.specs.Calls.{Heap}
use Rattle.script.specs.Memory.{Memory, Next, Prev}
use Rattle.sound.specs.Checks.{Beside, nobody, somebody}

-- the block b between l and r
abbrev pub Here : Lists → List Block → Block → List Block → Heap
Here f l b r = record { blocks = l ⟨⟩ b ∷ r; lists = f }

-- what a sound memory shows of the first block of a list, which starts at y
abbrev pub beside : Memory → List Block → ℕ → Beside
beside m [] y = nobody
beside m (free t ∷ r) y = somebody t (record { next = m Next y; prev = m Prev y })
beside m (used t d ∷ r) y = nobody
beside m (last ∷ r) y = nobody
beside m (gap ∷ r) y = nobody
