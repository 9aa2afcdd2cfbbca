-- T11, insert and append as whole calls.
use Rattle.std.specs.Prelude.{ℕ, ◌+◌, ◌≤◌, ◌<◌, ◌≡◌, List}
use Rattle.definition.specs.Blocks.{Block, used}
use Rattle.definition.specs.Calls.{Heap, Answer, granted}
use Rattle.invariants.specs.Order.{BlockAt}
use Rattle.invariants.specs.Gaps.{Spot}
use Rattle.script.specs.Memory.{Memory, Table}
use Rattle.sound.specs.RegionTable.{Passed}
use Rattle.chains.specs.Closed.{Headed}
use Rattle.plans.specs.Deeds.{Plan, plan_of}
use Rattle.plans.specs.Regions.{region_deed}
use Rattle.armour.specs.Row.{Free}
use Rattle.armour.specs.Turns.{Armoured}
use Rattle.armour.specs.Laid.{Heads}
use Rattle.armour.specs.Inserts.{nothing_seen}

-- what passed
pub record Admitted (most behind n c g len : ℕ) (m : Memory) (xs : List Block) (t : Plan) : Type 0 where
  pub room : m Table 0 < most
  pub two : 2 ≤ len
  pub near : g + len ≤ n
  pub passed : Passed n g len m (m Table 0) 0 nothing_seen
  pub spot : Spot g len xs
  pub meets : behind ≤ passed.looked.meets
  pub heads : Heads c (Headed (Free xs) m) len
  pub plan : plan_of m (region_deed c (m Table 0) g len) ≡ t

-- T11 of insert and append: h is what the definition answers
pub record RegionArmoured (n c : ℕ) (m : Memory) (xs : List Block) (h : Answer) (t : Plan) : Type 0 where
  pub heap : Heap
  -- the blocks in use are those from before
  pub stays : (x s d : ℕ) → BlockAt x (used s d) 0 xs → BlockAt x (used s d) 0 heap.blocks
  pub only : (x s d : ℕ) → BlockAt x (used s d) 0 heap.blocks → BlockAt x (used s d) 0 xs
  pub defined : h ≡ granted t.answer heap
  pub armoured : Armoured n c m xs t heap.blocks
