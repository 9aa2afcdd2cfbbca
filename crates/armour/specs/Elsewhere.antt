-- T11, reallocate elsewhere: another block is taken and the old one returned, in one deed. Neither changes what was seen of the
-- other, since they are no neighbours.
use Rattle.std.specs.Prelude.{ℕ, ◌+◌, ◌*◌, ◌≡◌}
use mathlib.Core.List.{List}
use Rattle.definition.specs.Blocks.{Block, used}
use Rattle.definition.specs.Lists.{Lists, found}
use Rattle.definition.specs.Calls.{Heap, granted, place, keeps, take_at, back_after}
use Rattle.invariants.specs.Order.{BlockAt}
use Rattle.script.specs.Memory.{Memory}
use Rattle.sound.specs.Swaps.{Swaps}
use Rattle.plans.specs.Allocate.{Taken}
use Rattle.plans.specs.Reallocate.{elsewhere_deed}
use Rattle.armour.specs.Turns.{Turns}

-- the blocks, and the definition's answer, where t is taken and the block of s grains at x, with its payload's place d, returned
pub record Away (n c p a : ℕ) (m : Memory) (f : Lists) (xs : List Block) (x s d i j : ℕ) (t : Taken) : Type 0 where
  pub heap : Heap
  pub defined : back_after (take_at (record { blocks = xs; lists = f }) p a (found t.list t.block)) (2 * x + d) ≡ granted (2 * t.block + place a t.block) heap
  pub turns : Turns n c m xs (elsewhere_deed p a x s d i j t) heap.blocks
  pub here : BlockAt t.block (used (keeps (place a t.block) p) (place a t.block)) 0 heap.blocks
  pub swaps : Swaps xs heap.blocks x (used s d) t.block (used (keeps (place a t.block) p) (place a t.block))
  pub gone : (y u v : ℕ) → BlockAt y (used u v) 0 heap.blocks → y ≡ x → ⊥
