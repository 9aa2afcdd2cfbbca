-- Which blocks stay where they are when a call changes the list of blocks: a used block, a sentinel and a gap (`Solid`)
-- stays, whatever happens to the free blocks beside it. Every call changes one block in the middle, and swallows or
-- leaves free blocks beside it; `swap` says it once for all of them.
use Rattle.definition.specs.Blocks.{Block, free, used, last, gap}

-- what is not free
abbrev pub Solid : Block → Type 0
Solid (free s) = ⊥
Solid (used s d) = Unit {0}
Solid last = Unit {0}
Solid gap = Unit {0}
