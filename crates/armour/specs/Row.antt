-- What the heap's own tables say (`Row`), whatever stands in the arena and in the lists: the tags are those of some blocks, and
-- the table of regions says which grains were given. Then the same with lists and guards (`Sound`): the memory stands for a
-- heap.
use Rattle.std.specs.Prelude.{ℕ, ◌≡◌, List, ◌⊎◌}
use Rattle.definition.specs.Blocks.{Block, free, used, total}
use Rattle.definition.specs.Calls.{Heap}
use Rattle.invariants.specs.Order.{out, Ordered, BlockAt}
use Rattle.invariants.specs.Pieces.{pieces, Listed}
use Rattle.invariants.specs.Moves.{Exact}
use Rattle.script.specs.Memory.{Memory}
use Rattle.sound.specs.Sound.{Given}
use Rattle.tags.specs.Tag.{Tag, Tagged}
use Rattle.chains.specs.Strung.{Strung}
use Rattle.plans.specs.Checked.{GuardStands}

-- an arena of n grains, with c first-level classes
pub record Row (n c : ℕ) (m : Memory) (xs : List Block) : Type 0 where
  pub order : Ordered out xs
  pub short : Listed c (pieces 0 xs)
  pub whole : total xs ≡ n
  pub tags : Tagged (m Tag) 0 xs
  pub given : Given m xs

-- each used block has its guard
abbrev pub Guarded : Memory → List Block → Type 0
Guarded m xs = (x s d : ℕ) → BlockAt x (used s d) 0 xs → GuardStands m x

pub record Sound (n c : ℕ) (m : Memory) (h : Heap) : Type 0 where
  pub row : Row n c m h.blocks
  pub exact : Exact h.blocks h.lists
  pub strung : Strung m h.lists
  pub guarded : Guarded m h.blocks

-- a free block starts at y
abbrev pub Free : List Block → ℕ → Type 0
Free xs y = (s : ℕ) × BlockAt y (free s) 0 xs

-- a used block starts at y
abbrev pub Used : List Block → ℕ → Type 0
Used xs y = (s : ℕ) × (d : ℕ) × BlockAt y (used s d) 0 xs

-- before a call or after it
abbrev pub Either : List Block → List Block → ℕ → Type 0
Either xs ys y = Free xs y ⊎ Free ys y
