-- The call that makes the tables those of a heap to which nothing was given.
use Rattle.std.specs.Prelude.{◌≡◌}
use Rattle.sound.specs.Runs.{Reply, yes, not}
use Rattle.slices.specs.Slices.{Slices}
use Rattle.tables.specs.Initial.{Initial}
use Rattle.calls.specs.Storable.{AllLong}

-- the arena is as it was, and the tables are those of the empty heap
pub record Begun (S T : Slices) : Type 0 where
  pub arena : T.arena ≡ S.arena
  pub tables : Initial S.lists S.live S.regions T.lists T.live T.regions

-- refused where a table is too short, and then nothing changes
pub data Begins (S : Slices) : Reply → Slices → Type 0 where
  short : (AllLong S → ⊥) → Begins S (not 6) S
  begun : (T : Slices) → AllLong S → Begun S T → Begins S (yes 0) T
