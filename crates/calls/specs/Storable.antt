-- On slices whose tables are long enough, damaged or not, every write of a plan that was not refused can be stored: so what
-- is stored is the memory with the plan's writes, and nothing else.
use Rattle.std.specs.Prelude.{◌^◌, ◌≤◌, ◌<◌, length}
use Rattle.slices.specs.Slices.{Slices}
use Rattle.tables.specs.Length.{LongEnough}

-- an arena that a machine of 64 bits has
abbrev pub Sized : Slices → Type 0
Sized S = length S.arena < 2 ^ 64

-- all tables are long enough, and none is longer than the machine has bytes
pub record AllLong (S : Slices) : Type 0 where
  pub tables : LongEnough (length S.arena) (length S.lists) (length S.live)
  pub some : 1 ≤ length S.regions
  pub most : length S.regions < 2 ^ 64
