-- The call that makes the tables those of a heap to which nothing was given.
use Rattle.std.specs.Prelude.{◌≡◌}
use Rattle.table.specs.Table.{enter}
use Rattle.refines.specs.Runs.{Reply, yes, not}
use Rattle.lent.specs.Slices.{Slices}
use Rattle.lent.specs.Empty.{Zeros}
use Rattle.promises.specs.Performs.{AllLong}

-- the arena is as it was; no list is marked, no grain has a tag, and no region is counted
pub record Begun (S T : Slices) : Type 0 where
  pub arena : T.arena ≡ S.arena
  pub lists : Zeros S.lists T.lists
  pub tags : Zeros S.tags T.tags
  pub regions : T.regions ≡ enter S.regions 0 0

-- refused with 6 where a table is too short, and then nothing changes
pub data Begins (S : Slices) : Reply → Slices → Type 0 where
  short : (AllLong S → ⊥) → Begins S (not 6) S
  begun : (T : Slices) → AllLong S → Begun S T → Begins S (yes 0) T
