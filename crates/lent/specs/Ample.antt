-- Lent slices that are long enough (`Ample`): then every write of a plan can be stored, on any memory, damaged or not. So a
-- plan that was not refused stays inside the slices.
use Rattle.std.specs.Prelude.{ℕ, ◌+◌, ◌*◌, ◌≤◌, ◌<◌, length}
use Rattle.machine.specs.Machine.{map_words}
use Rattle.machine.specs.Machine.{lists as list_count}
use Rattle.lent.specs.Slices.{Slices, grains}

-- the lists have a map and heads, every grain and the end a tag, and the regions room for `most` of them
pub record Ample (most : ℕ) (S : Slices) : Type 0 where
  pub lists : map_words + list_count ≤ length S.lists
  pub tags : grains S.arena < length S.tags
  pub regions : 2 * most + 1 ≤ length S.regions
