-- On slices whose tables are long enough for a call, damaged or not, every write of a plan that was not refused can be stored: so what is
-- stored is the memory with the plan's writes. Where a payload is moved, that holds of all tables.
use Rattle.std.specs.Prelude.{ℕ, ◌≤◌, ◌≡◌, length}
use Rattle.script.specs.Memory.{Next, Prev}
use Rattle.plans.specs.Calls.{Call, Allocate, Deallocate, Reallocate, Insert, Append}
use Rattle.lent.specs.Slices.{Slices}
use Rattle.promises.specs.Performs.{LongEnough}

-- the tables that a call writes are long enough
abbrev pub LongFor : Slices → Call → Type 0
LongFor S (Allocate p a) = LongEnough S
LongFor S (Deallocate q) = LongEnough S
LongFor S (Reallocate q p a) = LongEnough S
LongFor S (Insert g len) = LongEnough S × (1 ≤ length S.regions)
LongFor S (Append g len) = LongEnough S × (1 ≤ length S.regions)

-- ---- tables

-- a field that stands in a table
abbrev pub InTables : ℕ → Type 0
InTables f = (f ≡ Next → ⊥) × (f ≡ Prev → ⊥)
