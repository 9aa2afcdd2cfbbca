-- T7 in memory, for return: the block and its free neighbours become one free block, and no other payload is there.
use Rattle.std.specs.Prelude.{ℕ, ◌+◌, ◌*◌, ◌≡◌, List, ◌∷◌}
use Rattle.definition.specs.Blocks.{Block, used, total, ◌⟨⟩◌}
use Rattle.definition.specs.Calls.{Heap}

-- ---- around a used block

-- the block whose payload is at q
pub record Owned (h : Heap) (q : ℕ) : Type 0 where
  pub l : List Block
  pub r : List Block
  pub s : ℕ
  pub d : ℕ
  pub whole : h.blocks ≡ l ⟨⟩ used s d ∷ r
  pub payload : q ≡ 2 * total l + d
