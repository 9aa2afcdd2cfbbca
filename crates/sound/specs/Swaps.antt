-- What a call does to the blocks that are not free: one goes, one comes, the rest stays. With it the live bits, the words
-- before payloads and the given grains of a memory follow.
use Rattle.std.specs.Prelude.{ℕ, ◌≡◌, List, ◌⊎◌}
use Rattle.definition.specs.Blocks.{Block}
use Rattle.invariants.specs.Order.{BlockAt}
use Rattle.invariants.specs.Kept.{Solid}

-- from A to B: the block `old` at x goes, and `new` comes at z; one that is free counts for nothing
pub record Swaps (A B : List Block) (x : ℕ) (old : Block) (z : ℕ) (new : Block) : Type 0 where
  pub forth : (y : ℕ) (b : Block) → Solid b → BlockAt y b 0 A → ((y ≡ x) × (old ≡ b)) ⊎ BlockAt y b 0 B
  pub back : (y : ℕ) (b : Block) → Solid b → BlockAt y b 0 B → ((y ≡ z) × (new ≡ b)) ⊎ BlockAt y b 0 A
