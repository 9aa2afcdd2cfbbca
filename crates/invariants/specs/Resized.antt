-- What a resize of a live payload grants: the payload is long enough, stands where it was or at a multiple of its
-- alignment, and its block shares no grain with another. Every other block that is not free stays.
use Rattle.std.specs.Prelude.{ℕ, ◌+◌, ◌*◌, ◌%◌, ◌≤◌, ◌<◌, ◌≡◌, ◌⊎◌}
use Rattle.definition.specs.Blocks.{Block, used}
use Rattle.definition.specs.Calls.{Heap, place}
use Rattle.invariants.specs.Order.{BlockAt}
use Rattle.invariants.specs.Moves.{Ok}
use Rattle.invariants.specs.Kept.{Solid}

-- the live payload of the block of s grains at x, with its place d, resized to p half grains at a multiple of a: in the
-- heap k it is at v
pub record Resized (c : ℕ) (h : Heap) (x s d p a v : ℕ) (k : Heap) : Type 0 where
  -- the block afterwards
  pub start : ℕ
  pub grains : ℕ
  pub place : ℕ
  pub here : BlockAt start (used grains place) 0 k.blocks
  pub payload : v ≡ 2 * start + place
  pub long : place + p ≤ 2 * grains
  pub aligned : (v ≡ 2 * x + d) ⊎ (v % a ≡ 0)
  -- every other block that is not free stays, and there is no new one
  pub kept : (y : ℕ) (b : Block) → Solid b → BlockAt y b 0 h.blocks → (y ≡ x → ⊥) → BlockAt y b 0 k.blocks
  pub only : (y : ℕ) (b : Block) → Solid b → BlockAt y b 0 k.blocks → ((y ≡ start) × (used grains place ≡ b)) ⊎ (BlockAt y b 0 h.blocks × (y ≡ x → ⊥))
  -- and shares no grain with the resized one
  pub apart : (y t e : ℕ) → BlockAt y (used t e) 0 h.blocks → (y ≡ x → ⊥) → (y + t ≤ start) ⊎ (start + grains ≤ y)
  pub ok : Ok c k
