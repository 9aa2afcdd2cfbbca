-- The tag of a grain: what the tag table says of it. A tag has four flags and a count, and is a function of the list of
-- blocks. As a number it is `flags * count` plus its flags.
use Rattle.std.specs.Prelude.{ℕ, suc, ◌+◌, ◌-◌, ◌*◌, ◌/◌, ◌<◌, ◌≡◌, List, [], ◌∷◌}
use Rattle.choice.specs.Choice.{if_eq, if_le}
use Rattle.definition.specs.Blocks.{Block, free, used, last, gap, size, total}

-- the field of a memory that holds the tags; a place is a grain
abbrev pub Tag : ℕ
Tag = 0

-- how many values the four flags have together
abbrev pub flags : ℕ
flags = 16

-- the first grain of a block
abbrev pub START : ℕ
START = 8

-- the first or the last grain of a free block
abbrev pub FREE : ℕ
FREE = 4

-- a payload starts in the middle of this grain
abbrev pub SMALL : ℕ
SMALL = 2

-- a payload starts at the next grain
abbrev pub LARGE : ℕ
LARGE = 1

-- ---- the tags of a block of s grains

-- the first grain of a free block
abbrev pub free_tag : ℕ → ℕ
free_tag s = flags * s + (START + FREE)

-- its last grain, where that is another one
abbrev pub end_tag : ℕ → ℕ
end_tag s = flags * s + FREE

-- the first grain of a used block: its payload starts in the middle of this grain
abbrev pub small_tag : ℕ → ℕ
small_tag s = flags * s + (START + SMALL)

-- the first grain of a used block: its payload starts at the next grain
abbrev pub large_tag : ℕ → ℕ
large_tag s = flags * s + (START + LARGE)

-- the first grain of a used block with more padding, and the sentinel
abbrev pub start_tag : ℕ → ℕ
start_tag s = flags * s + START

-- the last of p grains of padding, where p is 2 or more: the count is p
abbrev pub pad_tag : ℕ → ℕ
pad_tag p = flags * p + LARGE

-- the first grain of a used block, whose payload stands d half grains after the block's start
abbrev pub first_tag : ℕ → ℕ → ℕ
first_tag s d = if_eq d 1 (small_tag s) (if_eq d 2 (large_tag s) (start_tag s))

-- ---- the tag of each grain

-- grain i of a block
abbrev pub tag_in : Block → ℕ → ℕ
tag_in (free s) i = if_eq i 0 (free_tag s) (if_eq (suc i) s (end_tag s) 0)
tag_in (used s d) i = if_eq i 0 (first_tag s d) (if_eq (suc i) (d / 2) (pad_tag (d / 2)) 0)
tag_in last i = start_tag 1
tag_in gap i = 0

-- grain y of a list of blocks
unfoldable pub tag_at : List Block → ℕ → ℕ
unfolding if_le
tag_at [] y = 0
tag_at (b ∷ r) y = if_le (suc y) (size b) (tag_in b y) (tag_at r (y - size b))

-- ---- the tags t are those of some blocks

-- of a block at x
abbrev pub Laid : (ℕ → ℕ) → ℕ → Block → Type 0
Laid t x b = (i : ℕ) → i < size b → t (x + i) ≡ tag_in b i

-- of a list of blocks that begins at x
abbrev pub Tagged : (ℕ → ℕ) → ℕ → List Block → Type 0
Tagged t x [] = Unit {0}
Tagged t x (b ∷ r) = Laid t x b × Tagged t (x + size b) r

-- of the blocks before a place, nearest first
abbrev pub TaggedL : (ℕ → ℕ) → List Block → Type 0
TaggedL t [] = Unit {0}
TaggedL t (b ∷ l) = Laid t (total l) b × TaggedL t l
