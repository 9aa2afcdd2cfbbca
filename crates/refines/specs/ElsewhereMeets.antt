-- T4, reallocate elsewhere: the deed, which lets the neighbours leave first, makes of the lists what the definition makes of them,
-- which takes first.
use Rattle.std.specs.Prelude.{ℕ, ◌+◌, ◌*◌, ◌≡◌, List}
use Rattle.class.specs.Class.{list_of}
use Rattle.definition.specs.Blocks.{Block, total, room}
use Rattle.definition.specs.Lists.{Lists, found}
use Rattle.definition.specs.Calls.{Heap, granted, place, take_at, back_after}
use Rattle.script.specs.Memory.{Memory}
use Rattle.plans.specs.Deeds.{plan_of, after}
use Rattle.plans.specs.Reallocate.{elsewhere_deed}
use Rattle.armour.specs.Row.{Sound}
use Rattle.armour.specs.Allocates.{first_at}
use Rattle.refines.specs.DeallocateMeets.{Here}

-- the memory afterwards, and the definition's heap
pub record Away (n c p a : ℕ) (m : Memory) (f : Lists) (l r : List Block) (s d : ℕ) (y g : ℕ) : Type 0 where
  pub heap : Heap
  pub defined : back_after (take_at (Here f l r s d) p a (found (list_of g) y)) (2 * total l + d) ≡ granted (2 * y + place a y) heap
  pub sound : Sound n c (after m (plan_of m (elsewhere_deed p a (total l) s d (room l) (room r) (first_at y g)))) heap
