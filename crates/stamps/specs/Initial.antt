-- The tables after init (`Initial`), and its law (`init_sound`): with any arena they are the memory of a heap to which nothing
-- was given.
use Rattle.std.specs.Prelude.{ℕ, ◌≤◌, ◌≡◌, List, length}
use Rattle.table.specs.Table.{enter, entry_enter}
use Rattle.definition.specs.Calls.{empty}
use Rattle.machine.specs.Machine.{classes}
use Rattle.armour.specs.Row.{Sound}
use Rattle.lent.specs.Slices.{Slices, grains, memory_of}
use Rattle.lent.specs.Empty.{Zeros}
use Rattle.lent.proofs.Empty.{zeros_sound}

-- the tables after init, and before it
pub record Initial (l₀ t₀ r₀ l t r : List ℕ) : Type 0 where
  pub lists : Zeros l₀ l
  pub tags : Zeros t₀ t
  pub regions : r ≡ enter r₀ 0 0

pub init_sound : (S : Slices) (l₀ t₀ r₀ : List ℕ) → 1 ≤ length r₀ → Initial l₀ t₀ r₀ S.lists S.tags S.regions
    → Sound (grains S.arena) classes (memory_of S) (empty (grains S.arena))
init_sound S l₀ t₀ r₀ some i = zeros_sound S i.tags.zero i.lists.zero (rw i.regions (entry_enter r₀ 0 0 some))
