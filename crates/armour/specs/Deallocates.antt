-- T11, deallocate: on any memory whose tags are those of blocks, it is refused, or the payload's block is joined with its free
-- neighbours, just as the definition says.
use Rattle.std.specs.Prelude.{ℕ, ◌+◌, ◌*◌, ◌≡◌, List}
use Rattle.definition.specs.Blocks.{Block, free, used}
use Rattle.definition.specs.Lists.{Lists}
use Rattle.definition.specs.Calls.{Heap, granted, give_back}
use Rattle.invariants.specs.Order.{BlockAt}
use Rattle.script.specs.Memory.{Memory}
use Rattle.sound.specs.Swaps.{Swaps}
use Rattle.plans.specs.Deeds.{Plan}
use Rattle.plans.specs.Checked.{GuardStands}
use Rattle.armour.specs.Turns.{Armoured}

-- ---- the used block of s grains between l and r

-- T11 of deallocate
pub record DeallocateArmoured (n c q : ℕ) (m : Memory) (xs : List Block) (f : Lists) (t : Plan) : Type 0 where
  pub block : ℕ
  pub grains : ℕ
  pub place : ℕ
  pub was_used : BlockAt block (used grains place) 0 xs
  pub payload : q ≡ 2 * block + place
  -- the guard of its block stood
  pub guarded : GuardStands m block
  pub heap : Heap
  -- the payload is no longer live, and every other block in use stays
  pub gone : (x s d : ℕ) → BlockAt x (used s d) 0 heap.blocks → q ≡ 2 * x + d → ⊥
  pub start : ℕ
  pub grown : ℕ
  pub swaps : Swaps xs heap.blocks block (used grains place) start (free grown)
  pub defined : give_back (record { blocks = xs; lists = f }) q ≡ granted t.answer heap
  pub armoured : Armoured n c m xs t heap.blocks
